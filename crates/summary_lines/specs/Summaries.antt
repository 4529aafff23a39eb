-- What a line of a summary is, by the receiver's own answer. Assumes nothing.
use Rattle.std.specs.Prelude.{ℕ, ◌≡◌, List, length, take, Float, Result, Ok}
use Rattle.model.specs.Framing.{Side}
use Rattle.model.specs.Summary.{answer_summary}
use Rattle.receiver_state.specs.declared.Answer.{Answer}
use Rattle.receiver_state.specs.declared.Answer.TheVariants.{Row}
use Rattle.receiver_state.specs.View.{answer_numbered}
use Rattle.playback_parts.specs.Parts.{TextPut}

-- so many of these values are a row's
abbrev pub RowHas : Result Answer ℕ → List Float → ℕ → Type 0
RowHas (Ok (Row n)) values count = count ≡ length (take n values)
RowHas _ values count = Unit {0}

-- the model's line stands at the front, whatever an answer's values are, but for the length of a row
pub record SummaryPut (side : Side) (a : Result Answer ℕ) (count : ℕ) (entry exit : List ℕ) (bytes : ℕ) : Type 0 where
  pub text : List ℕ
  pub put : TextPut text entry exit bytes
  pub line : (values : List Float) → RowHas a values count → answer_summary side (answer_numbered a values) ≡ text
