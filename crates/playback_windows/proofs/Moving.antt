-- A buffer that is moved on along the tape: a step's place stays inside the window, fewer steps are left of the window with each, and a replay whose place is
-- counted from further on is the same replay of the tape. Assumes nothing.
use Prim.Native.Nat.{ℕ, ◌+◌, ◌-◌, ◌*◌, ◌≤◌, ◌<◌, max}
use mathlib.Core.Path.{◌≡◌, sym}
use mathlib.Core.Bool.{Bool}
use mathlib.Core.List.{List}
use native.Mathlib.Omega.{arith}
use Rattle.std.specs.Prelude.{Some, Ok, Err}
use lib.ListN.{length}
use lib.Seq.{take-length}
use lib.Ieee.{Float}
use Rattle.model.specs.Tape as Tape
use Rattle.model.specs.Tape.{call_at, found_call}
use Rattle.tape_windows.specs.Windows.{WindowOf}
use Rattle.tape_windows.specs.Promises.{PlacesInside}
use Rattle.tape_windows.proofs.CheckLaws.{places_inside}
use Rattle.playback_parts.specs.declared.Form.{Form}
use Rattle.playback_parts.specs.declared.Doing.{Doing}
use Rattle.playback_parts.specs.declared.Playback.{Playback}
use Rattle.playback.specs.declared.Wrote.{Wrote}
use Rattle.playback.specs.declared.StepError.{StepError}
use Rattle.playback.specs.Steps.{place_next, steps_left, Step, DoneAs}
use Rattle.playback_windows.specs.Promises.{playback_from_start, StaysInside, SteppedIn, moved_on}

-- ---- a step's place

next_inside : (window : List ℕ) (place : ℕ) (d : Doing) (f : Tape.Found) → PlacesInside window place f → 4 * place_next d f place ≤ max (4 * place) (length window)
next_inside window place Doing.Call (found_call c next) inside = omega (arith, inside.1)
next_inside window place _ _ inside = omega arith

module _ (form : Form) (window : List ℕ) (w : Playback) (fs : List Float) (us : List ℕ) (samples : List Float) (text : List ℕ) (fs' : List Float) (us' : List ℕ) (samples' : List Float) (text' : List ℕ) where
  pub step_stays_inside : (v : Step) → DoneAs form window w fs us samples text v fs' us' samples' text' → StaysInside window w.place v
  step_stays_inside (Ok (Some v)) done = rw done.next_place (next_inside window w.place w.doing (call_at window w.place) (places_inside window w.place))
  step_stays_inside (Err (StepError.Bad bad)) done = inside_there (places_inside window w.place)
    where
      inside_there : PlacesInside window w.place (call_at window w.place) → 4 * bad.place ≤ length window
      inside_there inside = rw done.1 at inside
  step_stays_inside _ done = tt

  -- ---- fewer steps are left of the window

  -- a window is one of itself
  own_window : (last : Bool) → WindowOf window 0 window last
  own_window last = record { bytes = sym (take-length window); inside = omega arith; to_the_end = λ e. omega arith }

  from_the_front : (v : Playback) → playback_from_start 0 v ≡ v
  from_the_front v = let same : 0 + v.place ≡ v.place = omega arith in rw same

  pub fewer_steps_of_the_window : (last : Bool) (v : Wrote) → SteppedIn form window last w fs us samples text (Some (Ok (Some v))) fs' us' samples' text'
      → steps_left window v.playback fs' samples' < steps_left window w fs samples
  fewer_steps_of_the_window last v done = rw (from_the_front w, from_the_front v.playback) at (done.stands window 0 (own_window last)).less

-- ---- the place counted from further on

pub moved_on_in_the_tape : (base words : ℕ) (w : Playback) → words ≤ w.place → playback_from_start (base + words) (moved_on w words) ≡ playback_from_start base w
moved_on_in_the_tape base words w inside = let same : base + words + (w.place - words) ≡ base + w.place = omega arith in rw same
