-- Steps through a window of which none makes a call that the window may not have whole: each is a step by windows of the tape. Assumes nothing.
use Prim.Native.Nat.{ℕ, ◌+◌, ◌-◌, ◌*◌, ◌≤◌, ◌<◌, max}
use mathlib.Core.Path.{◌≡◌, refl, ap}
use mathlib.Core.Bool.{Bool, true, false}
use mathlib.Core.List.{List}
use native.Mathlib.Omega.{arith}
use Rattle.std.specs.Prelude.{Option, Some, None, Ok}
use lib.ListN.{length}
use borrow.Author.Tests.{ltb-true, ltb-false, le-leb}
use Rattle.tape_windows.specs.Windows.{WindowOf, longest_call, reaches}
use Rattle.playback_parts.specs.declared.Form.{Form}
use Rattle.playback_parts.specs.declared.Playback.{Playback}
use Rattle.playback_parts.specs.Doings.{makes_call}
use Rattle.playback.specs.Chains.{Moment}
use Rattle.playback_pieces.specs.Gathered.{comes_before, StepsBefore, here, wrote}
use Rattle.playback_windows.specs.Promises.{playback_from_start, wrote_from_start}
use Rattle.playback_windows.specs.Through.{WroteBy, StepsBy, start, on}
use Rattle.playback_windows.specs.Pieces.{ReachOf, moment_from_start}
use Rattle.playback_windows.proofs.WindowSteps.{step_of_the_tape}
use Rattle.playback_windows.proofs.Moving.{step_stays_inside}

-- ---- how far a window reaches

pub reach_of_the_last : (window : List ℕ) → ReachOf window true None
unfolding reaches
reach_of_the_last window = record { before = λ place less. refl; behind = λ no place from. cc }

-- by its number of whole words
pub reach_by_words : (window : List ℕ) (words r : ℕ) → 4 * words ≤ length window → length window < 4 * words + 4 → r ≡ words - 16384 → ReachOf window false (Some r)
unfolding reaches
reach_by_words window words r fits rest is =
    record {
      before = λ place less. le-leb (4 * (place + longest_call)) (length window) (omega (arith, fits, is, ltb-true place r less));
      behind = λ more place from. record { more = refl; short = omega (arith, rest, is, ltb-false place r from) };
    }

-- ---- the steps

module _ {window : List ℕ} {last : Bool} {until : Option ℕ} (reach : ReachOf window last until) where
  far : (w : Playback) → comes_before w until ≡ true → makes_call w.doing ≡ true → reaches window (w.place + longest_call) last ≡ true
  far w before calls = reach.before w.place (rw calls at before)

  pub steps_by_windows : {form : Form} {whole : List ℕ} {base : ℕ} → WindowOf whole base window last → {m n : Moment} {printed : List ℕ} → StepsBefore form until window m printed n
      → StepsBy form whole (moment_from_start base m) printed (moment_from_start base n)
  steps_by_windows win here = start
  steps_by_windows {form} {whole} {base} win (wrote {m = m} {n = n} {text = text} {text' = text'} {v = v} before step same steps) =
      on link (ap (λ (w : Playback). playback_from_start base w) same) (steps_by_windows win steps)
    where
      link : WroteBy form whole (moment_from_start base m) text (wrote_from_start base v) (moment_from_start base n) text'
      link =
          record {
            at = record { base = base; window = window; last = last; is_window = win; place = m.playback.place; here = refl };
            answer = v;
            answered =
                record {
                  stands = λ whole base win.
                      step_of_the_tape win m.playback (far m.playback before) form m.floats m.words m.samples text n.floats n.words n.samples text' (Ok (Some v)) step;
                  inside = step_stays_inside form window m.playback m.floats m.words m.samples text n.floats n.words n.samples text' (Ok (Some v)) step;
                };
            is = refl;
          }

-- the place stays inside the window
pub steps_stay_inside : {form : Form} {until : Option ℕ} {window : List ℕ} {m n : Moment} {printed : List ℕ} → StepsBefore form until window m printed n
    → 4 * n.playback.place ≤ max (4 * m.playback.place) (length window)
steps_stay_inside here = omega arith
steps_stay_inside {form} {window = window} (wrote {m = m} {n = n} {text = text} {text' = text'} {v = v} before step same steps) =
    let first : 4 * v.playback.place ≤ max (4 * m.playback.place) (length window) =
    step_stays_inside form window m.playback m.floats m.words m.samples text n.floats n.words n.samples text' (Ok (Some v)) step
    in
    let rest = steps_stay_inside steps in
    let moved : n.playback.place ≡ v.playback.place = ap (λ (w : Playback). w.place) same in
    omega (arith, first, rest, moved)
