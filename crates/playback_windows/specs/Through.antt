-- A replay that goes through a tape by windows of it, whichever they are: its steps one after the other, each with what `step_in` promised. Places are
-- counted from the tape's first word. Assumes nothing.
use Rattle.std.specs.Prelude.{ℕ, ◌≡◌, List, [], ◌++◌, take, Option, Some, Ok}
use Rattle.tape_windows.specs.Through.{WindowAt}
use Rattle.playback_parts.specs.declared.Form.{Form}
use Rattle.playback_parts.specs.declared.Playback.{Playback}
use Rattle.playback.specs.declared.Wrote.{Wrote}
use Rattle.playback.specs.Steps.{Step}
use Rattle.playback.specs.Chains.{Moment}
use Rattle.playback_windows.specs.Promises.{wrote_from_start, SteppedIn}

-- a replay whose place in a window is this
abbrev pub placed_at : ℕ → Playback → Playback
placed_at place w = record { receiver = w.receiver; place = place; doing = w.doing }

-- what `step_in` promised of a window that has the moment's place
abbrev pub SteppedBy : (form : Form) (whole : List ℕ) (m : Moment) → WindowAt whole m.playback.place → List ℕ → Option Step → Moment → List ℕ → Type 0
SteppedBy form whole m at text v n text' =
    SteppedIn form at.window at.last (placed_at at.place m.playback) m.floats m.words m.samples text v n.floats n.words n.samples text'

-- a step that wrote, from one moment to another
pub record WroteBy (form : Form) (whole : List ℕ) (m : Moment) (text : List ℕ) (v : Wrote) (n : Moment) (text' : List ℕ) : Type 0 where
  pub at : WindowAt whole m.playback.place
  pub answer : Wrote
  pub answered : SteppedBy form whole m at text (Some (Ok (Some answer))) n text'
  pub is : wrote_from_start at.base answer ≡ v

-- the bytes that steps by windows wrote, from one moment to another
pub data StepsBy (form : Form) (whole : List ℕ) : Moment → List ℕ → Moment → Type 0 where
  start : {m : Moment} → StepsBy form whole m [] m
  on : {m n last : Moment} {text text' printed : List ℕ} {v : Wrote} → WroteBy form whole m text v n text' → n.playback ≡ v.playback → StepsBy form whole n printed last
      → StepsBy form whole m (take v.bytes text' ++ printed) last
