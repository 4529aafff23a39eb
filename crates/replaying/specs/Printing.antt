-- How a call's line begins, and what is left of it. Assumes nothing.
use Rattle.std.specs.Prelude.{ℕ, ◌≡◌, List, [], ◌∷◌, ◌++◌, map, length, take, Float, Result, Ok}
use Rattle.model.specs.Bytes.{placed}
use Rattle.model.specs.Framing.{Side}
use Rattle.model.specs.Replay.{hex_bits, answer_line}
use Rattle.lines.specs.Lines.{spaced}
use Rattle.receiver_state.specs.declared.Answer.{Answer}
use Rattle.receiver_state.specs.declared.Answer.TheVariants.{Played, Row}
use Rattle.receiver_state.specs.View.{answer_numbered}
use Rattle.replaying.specs.declared.printing.Left.{Left}
use Rattle.replaying.specs.declared.printing.Left.TheVariants.{Nothing, Samples, Values}
use Rattle.replaying.specs.declared.printing.Begun.{Begun}

-- values, and then the end of the line
abbrev pub values_ended : List Float → List ℕ
values_ended values = spaced (map hex_bits values) ++ (10 ∷ [])

-- what is left of a line, of an answer whose values these are
abbrev pub left_of : Left → List Float → List ℕ
left_of Nothing values = []
left_of Samples values = values_ended values
left_of (Values n) values = values_ended (take n values)

-- a play has its samples left, and a row its values, however a refusal is told
abbrev pub left_behind : {Told : Type 0} → Result Answer Told → Left
left_behind (Ok (Played p)) = Samples
left_behind (Ok (Row n)) = Values n
left_behind _ = Nothing

-- a line's beginning stands at the front, and with what is left it is the line of the answer
pub record LineBegun (side : Side) (a : Result Answer ℕ) (entry exit : List ℕ) (b : Begun) : Type 0 where
  pub text : List ℕ
  pub written : b.written ≡ length text
  pub target : exit ≡ placed 0 text entry
  pub left : b.left ≡ left_behind a
  pub line : (values : List Float) → answer_line side (answer_numbered a values) ≡ text ++ left_of b.left values
