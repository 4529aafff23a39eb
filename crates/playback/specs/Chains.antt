-- What a replay's steps write one after the other. Assumes nothing.
use Rattle.std.specs.Prelude.{ℕ, ◌≡◌, List, [], ◌++◌, take, Float}
use Rattle.playback_parts.specs.declared.Form.{Form}
use Rattle.playback_parts.specs.declared.Playback.{Playback}
use Rattle.playback.specs.declared.Wrote.{Wrote}
use Rattle.playback.specs.Steps.{WrittenAs}

-- a replay and what is lent to it between two steps; the text may be other bytes at each step
pub record Moment : Type 0 where
  pub playback : Playback
  pub floats : List Float
  pub words : List ℕ
  pub samples : List Float

-- the promise of a step that wrote, from one moment to another
abbrev pub WroteAs : Form → List ℕ → Moment → List ℕ → Wrote → Moment → List ℕ → Type 0
WroteAs form tape m text v n text' = WrittenAs form tape m.playback m.floats m.words m.samples text v n.floats n.words n.samples text'

-- the bytes that the steps wrote, from one moment to another
pub data StepsAs (form : Form) (tape : List ℕ) : Moment → List ℕ → Moment → Type 0 where
  here : {m : Moment} → StepsAs form tape m [] m
  wrote : {m n last : Moment} {text text' printed : List ℕ} {v : Wrote} → WroteAs form tape m text v n text' → n.playback ≡ v.playback → StepsAs form tape n printed last
      → StepsAs form tape m (take v.bytes text' ++ printed) last

-- with every line whole
abbrev pub WrittenAt : List ℕ → Moment → List ℕ → Wrote → Moment → List ℕ → Type 0
WrittenAt tape m text v n text' = WroteAs Form.Full tape m text v n text'

abbrev pub Steps : List ℕ → Moment → List ℕ → Moment → Type 0
Steps tape m printed last = StepsAs Form.Full tape m printed last
