-- What a step through a window promises of every tape that it can be a window of, and how a replay by windows begins. Assumes nothing.
use Rattle.std.specs.Prelude.{ℕ, ◌+◌, ◌-◌, ◌*◌, ◌≤◌, max, ◌≡◌, Bool, true, List, length, Float, Option, Some, None, Ok, Err}
use Rattle.tape.specs.declared.Setup.{Setup}
use Rattle.tape.specs.Answers.{bad_at}
use Rattle.tape_windows.specs.Windows.{WindowOf, longest_call, EndsBefore}
use Rattle.calls.specs.Views.{model_setup}
use Rattle.playback_parts.specs.declared.Form.{Form}
use Rattle.playback_parts.specs.declared.Playback.{Playback}
use Rattle.playback_opening.specs.Beginnings.{Beginning, SetupBegun}
use Rattle.playback.specs.declared.Wrote.{Wrote}
use Rattle.playback.specs.declared.StepError.{StepError}
use Rattle.playback.specs.Steps.{AllUnchanged, Step, DoneAs}
use Rattle.playback_parts.specs.Doings.{makes_call}

-- ---- places counted from the tape's first word, where the window's first word is the tape's word `base`

abbrev pub playback_from_start : ℕ → Playback → Playback
playback_from_start base w = record { receiver = w.receiver; place = base + w.place; doing = w.doing }

abbrev pub wrote_from_start : ℕ → Wrote → Wrote
wrote_from_start base v = record { playback = playback_from_start base v.playback; bytes = v.bytes }

abbrev pub step_from_start : ℕ → Step → Step
step_from_start base (Ok (Some v)) = Ok (Some (wrote_from_start base v))
step_from_start base (Err (StepError.Bad bad)) = Err (StepError.Bad (bad_at (base + bad.place)))
step_from_start base v = v

-- ---- a step

-- a call comes next that the window may not have whole, and nothing is changed
pub record ShortOf (window : List ℕ) (last : Bool) (w : Playback) (fs : List Float) (us : List ℕ) (samples : List Float) (text : List ℕ) (fs' : List Float) (us' : List ℕ) (samples' : List Float) (text' : List ℕ) : Type 0 where
  pub calls : makes_call w.doing ≡ true
  pub ends : EndsBefore window (w.place + longest_call) last
  pub kept : AllUnchanged fs us samples text fs' us' samples' text'

-- a place that is answered does not lie past the window's end, unless the place asked for does
abbrev pub StaysInside : List ℕ → ℕ → Step → Type 0
StaysInside window place (Ok (Some v)) = 4 * v.playback.place ≤ max (4 * place) (length window)
StaysInside window place (Err (StepError.Bad bad)) = 4 * bad.place ≤ length window
StaysInside window place _ = Unit {0}

-- the step through the window is the step through each tape that it can be a window of
pub record StepOf (form : Form) (window : List ℕ) (last : Bool) (w : Playback) (fs : List Float) (us : List ℕ) (samples : List Float) (text : List ℕ) (v : Step) (fs' : List Float) (us' : List ℕ) (samples' : List Float) (text' : List ℕ) : Type 0 where
  pub stands : (whole : List ℕ) (base : ℕ) → WindowOf whole base window last
      → DoneAs form whole (playback_from_start base w) fs us samples text (step_from_start base v) fs' us' samples' text'
  pub inside : StaysInside window w.place v

abbrev pub SteppedIn : Form → List ℕ → Bool → Playback → List Float → List ℕ → List Float → List ℕ → Option Step → List Float → List ℕ → List Float → List ℕ → Type 0
SteppedIn form window last w fs us samples text (Some v) fs' us' samples' text' = StepOf form window last w fs us samples text v fs' us' samples' text'
SteppedIn form window last w fs us samples text None fs' us' samples' text' = ShortOf window last w fs us samples text fs' us' samples' text'

-- the place counted from so many words further on; one that lies before them stays at the front
abbrev pub moved_on : Playback → ℕ → Playback
moved_on w words = record { receiver = w.receiver; place = w.place - words; doing = w.doing }

-- ---- the beginning

-- by the setup at a tape's front
abbrev pub BegunIn : Setup → List Float → List ℕ → List ℕ → Beginning → List ℕ → List ℕ → Type 0
BegunIn x fs us text v us' text' = SetupBegun (model_setup x.sizes x.a x.b) fs us text v us' text'
