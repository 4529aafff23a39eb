-- THE THEOREM ON A REPLAY: what its steps write in either form, one after the other, is what the model prints of the tape. Assumes nothing.
use Prim.Native.Nat.{ℕ, ◌+◌, ◌≤◌, ◌<◌}
use mathlib.Core.Path.{◌≡◌, refl, sym, ◌∙◌, ap}
use mathlib.Core.Bool.{true, true≢false}
use mathlib.Core.List.{List, [], ◌++◌, append_assoc, append-nil}
use native.Mathlib.Omega.{arith}
use lib.ListN.{take}
use lib.Ieee.{Float}
use Rattle.std.specs.Prelude.{Some, None, Ok, Err}
use Rattle.model.specs.Receiver.{Call}
use Rattle.model.specs.Tape.{call_at, found_bad}
use Rattle.model.proofs.TapeWalk.{CallsAt, ended, met}
use Rattle.playback_parts.specs.declared.Form.{Form}
use Rattle.playback_parts.specs.declared.Doing.{Doing}
use Rattle.playback_parts.specs.declared.Playback.{Playback}
use Rattle.playback.specs.declared.Wrote.{Wrote}
use Rattle.playback.specs.declared.StepError.{StepError}
use Rattle.playback_opening.specs.declared.NotBegun.TheVariants as NotBegun
use Rattle.playback_parts.proofs.Texts.{put_front}
use Rattle.playback_opening.specs.Beginnings.{BegunAs}
use Rattle.playback.specs.Steps.{remaining, remaining_of, values_held, room_for, calls_now, place_next, steps_left, Step, DoneAs}
use Rattle.playback.specs.Chains.{Moment, WroteAs, StepsAs, here, wrote}

abbrev still : Form → Moment → List Call → List ℕ
still form m cs = remaining_of form m.playback m.floats m.words m.samples cs

-- of the calls that a tape holds those that are left behind a piece, which with what they print is what was to be printed
record GoesOn (form : Form) (tape : List ℕ) (m : Moment) (piece : List ℕ) (n : Moment) (cs : List Call) : Type 0 where
  left : List Call
  meets : CallsAt tape n.playback.place left
  lines : still form m cs ≡ piece ++ still form n left

goes_on : (form : Form) (tape : List ℕ) (m n : Moment) (text text' : List ℕ) (v : Wrote) (step : WroteAs form tape m text v n text') → n.playback ≡ v.playback
    → (cs : List Call) → CallsAt tape m.playback.place cs → GoesOn form tape m step.piece n cs
goes_on form tape m n text text' v step behind cs calls = by_doing m.playback.doing refl calls
  where
    after : (ds : List Call) → still form m (calls_now m.playback.doing (call_at tape m.playback.place) ds) ≡ step.piece ++ still form n ds
    after ds = rw behind (step.lines ds)

    place_is : n.playback.place ≡ place_next m.playback.doing (call_at tape m.playback.place) m.playback.place
    place_is = rw behind step.next_place

    on : (left : List Call) → calls_now m.playback.doing (call_at tape m.playback.place) left ≡ cs
        → CallsAt tape (place_next m.playback.doing (call_at tape m.playback.place) m.playback.place) left → GoesOn form tape m step.piece n cs
    on left now meets = record { left = left; meets = rw place_is meets; lines = ap (λ (ds : List Call). still form m ds) (sym now) ∙ after left }

    at_call : (ds : List Call) → ds ≡ cs → m.playback.doing ≡ Doing.Call → CallsAt tape m.playback.place ds → GoesOn form tape m step.piece n cs
    at_call ds same doing (ended found) = on [] (rw (doing, found) same) (rw (doing, found) (ended found))
    at_call ds same doing (met {cs = rest} found others) = on rest (rw (doing, found) same) (rw (doing, found) others)

    by_doing : (d : Doing) → m.playback.doing ≡ d → CallsAt tape m.playback.place cs → GoesOn form tape m step.piece n cs
    by_doing Doing.Call doing calls = at_call cs refl doing calls
    by_doing _ doing calls = on cs (rw doing) (rw doing calls)

-- what was to be printed is what the steps wrote and what is still to be printed, by the calls that are left
steps_onward : (form : Form) (tape : List ℕ) (m last : Moment) (printed : List ℕ) (cs : List Call) → StepsAs form tape m printed last → CallsAt tape m.playback.place cs → GoesOn form tape m printed last cs
steps_onward form tape m last printed cs here calls = record { left = cs; meets = calls; lines = refl }
steps_onward form tape m last printed cs (wrote {n = n} {text = text} {text' = text'} {printed = rest} {v = v} step behind steps) calls =
    let on = goes_on form tape m n text text' v step behind cs calls in
    let front : take v.bytes text' ≡ step.piece = put_front step.piece text text' v.bytes step.put in
    let further = steps_onward form tape n last rest on.left steps on.meets in
    let one : still form m cs ≡ take v.bytes text' ++ still form n on.left = rw front on.lines in
    record {
      left = further.left;
      meets = further.meets;
      lines = one ∙ ap (λ (xs : List ℕ). take v.bytes text' ++ xs) further.lines ∙ sym (append_assoc (take v.bytes text') rest (still form last further.left));
    }

nothing_left : (form : Form) (m : Moment) (cs : List Call) → m.playback.doing ≡ Doing.Done → still form m cs ≡ []
unfolding remaining
nothing_left form m cs done = rw done

-- ---- the next step

abbrev pub IsWritten : Step → Type 0
IsWritten (Ok (Some v)) = Unit {0}
IsWritten (Ok None) = ⊥
IsWritten (Err why) = ⊥

-- the values that a step left to be printed lie inside of what is lent
steps_held : (form : Form) (tape : List ℕ) (m last : Moment) (printed : List ℕ) → StepsAs form tape m printed last → values_held m.playback.doing m.floats m.samples ≡ true
    → values_held last.playback.doing last.floats last.samples ≡ true
steps_held form tape m last printed here held = held
steps_held form tape m last printed (wrote {n = n} {printed = rest} step behind steps) held = steps_held form tape n last rest steps (rw behind step.held)

no_bad_call : {tape : List ℕ} {place bad : ℕ} {cs : List Call} {P : Type 0} → CallsAt tape place cs → call_at tape place ≡ found_bad bad → P
no_bad_call (ended found) is = cc
no_bad_call (met found rest) is = cc

step_writes : (form : Form) (tape : List ℕ) (w : Playback) (fs : List Float) (us : List ℕ) (samples : List Float) (text : List ℕ) (v : Step) (fs' : List Float) (us' : List ℕ) (samples' : List Float) (text' : List ℕ) (cs : List Call)
    → CallsAt tape w.place cs → values_held w.doing fs samples ≡ true → room_for tape w samples text ≡ true → (w.doing ≡ Doing.Done → ⊥)
    → DoneAs form tape w fs us samples text v fs' us' samples' text' → IsWritten v
step_writes form tape w fs us samples text (Ok (Some v)) fs' us' samples' text' cs calls held room more done = tt
step_writes form tape w fs us samples text (Err StepError.NoRoom) fs' us' samples' text' cs calls held room more done = absurd (true≢false (sym room ∙ done.0))
step_writes form tape w fs us samples text (Err StepError.NotHeld) fs' us' samples' text' cs calls held room more done = absurd (true≢false (sym held ∙ done.0))
step_writes form tape w fs us samples text (Err (StepError.Bad bad)) fs' us' samples' text' cs calls held room more done = no_bad_call calls done.1
step_writes form tape w fs us samples text (Ok None) fs' us' samples' text' cs calls held room more done = absurd (more done.0)

-- ---- the number of steps

unfoldable pub step_count : {form : Form} {tape : List ℕ} {m last : Moment} {printed : List ℕ} → StepsAs form tape m printed last → ℕ
step_count here = 0
step_count (wrote step behind steps) = 1 + step_count steps

abbrev left_at : List ℕ → Moment → ℕ
left_at tape m = steps_left tape m.playback m.floats m.samples

-- there are only so many, whatever the text's length
pub steps_end : (form : Form) (tape : List ℕ) (m last : Moment) (printed : List ℕ) (steps : StepsAs form tape m printed last) → step_count steps + left_at tape last ≤ left_at tape m
unfolding step_count
steps_end form tape m last printed here = omega arith
steps_end form tape m last printed (wrote {n = n} {printed = rest} step behind steps) =
    let less : left_at tape n < left_at tape m = rw behind step.less in
    omega (arith, less, steps_end form tape n last rest steps)

-- ---- a whole replay

module _ (form : Form) (out tape : List ℕ) (fs : List Float) (us text : List ℕ) (us' text' : List ℕ) where
  -- where the tape or its setup is refused, all is printed at once
  pub refused_replay : (n : ℕ) → BegunAs form out tape fs us text (Err (NotBegun.Refused n)) us' text' → take n text' ≡ out
  refused_replay n begun = put_front out text text' n begun.0

  module _ (w : Playback) (begun : BegunAs form out tape fs us text (Ok w) us' text') (samples : List Float) where
    abbrev first : Moment
    first = record { playback = w; floats = fs; words = us'; samples = samples }

    first_lines : still form first begun.calls ≡ out
    unfolding remaining
    first_lines = rw begun.doing begun.prints

    -- a replay whose steps have come to their end has printed the whole output
    pub whole_replay : (printed : List ℕ) (last : Moment) → StepsAs form tape first printed last → last.playback.doing ≡ Doing.Done → printed ≡ out
    whole_replay printed last steps done =
        let on = steps_onward form tape first last printed begun.calls steps begun.met in
        sym (append-nil printed) ∙ ap (λ (xs : List ℕ). printed ++ xs) (sym (nothing_left form last on.left done)) ∙ sym on.lines ∙ first_lines

    -- no step before the end is refused where there is room
    pub never_stuck : (printed : List ℕ) (last : Moment) → StepsAs form tape first printed last → (more : last.playback.doing ≡ Doing.Done → ⊥)
        → (bytes : List ℕ) (v : Step) (fs' : List Float) (vs : List ℕ) (samples' : List Float) (bytes' : List ℕ) → room_for tape last.playback last.samples bytes ≡ true
        → DoneAs form tape last.playback last.floats last.words last.samples bytes v fs' vs samples' bytes' → IsWritten v
    never_stuck printed last steps more bytes v fs' vs samples' bytes' room done =
        let on = steps_onward form tape first last printed begun.calls steps begun.met in
        step_writes form tape last.playback last.floats last.words last.samples bytes v fs' vs samples' bytes' on.left on.meets
        (steps_held form tape first last printed steps (rw begun.doing)) room more done
