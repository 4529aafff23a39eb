-- THE THEOREM ON A REPLAY BY WINDOWS: whichever windows a tape is gone through by, what the steps write one after the other is what the model prints of the
-- whole tape. Each step is one of the whole tape by what was promised of its window, so the theorem on a replay holds of them. Assumes nothing.
use Prim.Native.Nat.{ℕ, ◌+◌}
use mathlib.Core.Path.{◌≡◌, refl, sym, ◌∙◌}
use mathlib.Core.Bool.{true, false}
use mathlib.Core.List.{List}
use native.Mathlib.Omega.{arith}
use lib.ListN.{take}
use lib.Ieee.{Float}
use Rattle.model.specs.Tape.{read}
use Rattle.model.specs.Replay.{replay_over}
use Rattle.model.specs.Summary.{summary_over}
use Rattle.tape.specs.declared.Setup.{Setup}
use Rattle.std.specs.Prelude.{Option, Some, None, Ok, Err}
use Rattle.tape.specs.Answers.{bad_at, setup_answer}
use Rattle.tape.proofs.CheckLaws.{refused_setup}
use Rattle.tape_windows.specs.Windows.{longest_call, reaches}
use Rattle.tape_windows.specs.Through.{WindowAt, OpenedBy, Checks, first_place}
use Rattle.tape_windows.proofs.WindowLaws.{by_reach}
use Rattle.tape_windows.proofs.WholeTape.{checks_give_the_verdict, checks_give_the_setup, windows_refuse_the_tape}
use Rattle.receiver_state.specs.View.{lent_of}
use Rattle.playback_parts.specs.declared.Form.{Form}
use Rattle.playback_parts.specs.declared.Doing.TheVariants as Doing
use Rattle.playback_parts.specs.declared.Playback.{Playback}
use Rattle.playback_parts.specs.Forms.{printed_over}
use Rattle.playback_opening.specs.declared.NotBegun.TheVariants as NotBegun
use Rattle.playback_opening.specs.Beginnings.{Beginning, RefusedAt, BegunAs}
use Rattle.playback_opening.proofs.Begins.{bad_begun, setup_begun}
use Rattle.playback.specs.declared.Wrote.{Wrote}
use Rattle.playback.specs.declared.StepError.{StepError}
use Rattle.playback.specs.Steps.{room_for, Step, DoneAs}
use Rattle.playback_parts.specs.Doings.{makes_call}
use Rattle.playback.specs.Chains.{Moment, WroteAs, StepsAs, here, wrote}
use Rattle.playback.proofs.Replayed.{IsWritten, refused_replay, whole_replay, never_stuck}
use Rattle.playback_windows.specs.Promises.{step_from_start, BegunIn}
use Rattle.playback_windows.specs.Through.{SteppedBy, WroteBy, StepsBy, start as here-by, on as on-by}

-- ---- each link is a step of the whole tape

module _ (form : Form) (whole : List ℕ) where
  -- what was answered of a window holds of the tape
  step_stands : (m n : Moment) (text text' : List ℕ) (at : WindowAt whole m.playback.place) (v : Step) → SteppedBy form whole m at text (Some v) n text'
      → DoneAs form whole m.playback m.floats m.words m.samples text (step_from_start at.base v) n.floats n.words n.samples text'
  step_stands m n text text' at v answered = rw at.here (answered.stands whole at.base at.is_window)

  pub wrote_stands : {m n : Moment} {text text' : List ℕ} {v : Wrote} → WroteBy form whole m text v n text' → WroteAs form whole m text v n text'
  wrote_stands {m} {n} {text} {text'} w = rw (← w.is) (step_stands m n text text' w.at (Ok (Some w.answer)) w.answered)

  -- a chain of steps by windows is a chain of steps of the tape
  pub steps_of_the_tape : {m last : Moment} {printed : List ℕ} → StepsBy form whole m printed last → StepsAs form whole m printed last
  steps_of_the_tape here-by = here
  steps_of_the_tape (on-by w behind steps) = wrote (wrote_stands w) behind (steps_of_the_tape steps)

abbrev pub IsWrittenIn : Option Step → Type 0
IsWrittenIn (Some v) = IsWritten v
IsWrittenIn None = ⊥

written_from_start : (base : ℕ) (v : Step) → IsWritten (step_from_start base v) → IsWritten v
written_from_start base (Ok (Some v)) is = tt
written_from_start base (Err (StepError.Bad bad)) is = is
written_from_start base _ is = is

-- ---- a tape that is refused

module _ (form : Form) (whole : List ℕ) (n : ℕ) (fs : List Float) (us text text' : List ℕ) (k : ℕ) (line : RefusedAt n text (NotBegun.Refused k) text') where
  refused_line_law : Err (bad_at n) ≡ setup_answer (read whole) → take k text' ≡ printed_over form (lent_of fs us) whole
  refused_line_law front = refused_replay form _ whole fs us text us text' k (bad_begun form whole fs us text n (NotBegun.Refused k) text' front line)

  -- by its opening
  pub windowed_opening_refused : OpenedBy whole (Err (bad_at n)) → take k text' ≡ printed_over form (lent_of fs us) whole
  windowed_opening_refused opening = refused_line_law (windows_refuse_the_tape opening).setup.answers

  -- by its calls
  pub windowed_calls_refused : {s : Setup} → OpenedBy whole (Ok s) → Checks whole first_place (Err (bad_at n)) → take k text' ≡ printed_over form (lent_of fs us) whole
  windowed_calls_refused opening checks = refused_line_law (refused_setup whole (bad_at n) (checks_give_the_verdict opening checks))

-- ---- a tape that is accepted

-- its setup, by the windows
pub setup_found : {whole : List ℕ} {s : Setup} → OpenedBy whole (Ok s) → Checks whole first_place (Ok tt) → Ok s ≡ setup_answer (read whole)
setup_found opening checks = checks_give_the_setup opening checks refl

module _ (form : Form) (whole : List ℕ) (s : Setup) (front : Ok s ≡ setup_answer (read whole)) where
  module _ (fs : List Float) (us text us' text' : List ℕ) where
    abbrev out : List ℕ
    out = printed_over form (lent_of fs us) whole

    -- the beginning by windows is that of the whole tape
    pub windowed_beginning : (v : Beginning) → BegunIn s fs us text v us' text' → BegunAs form out whole fs us text v us' text'
    windowed_beginning v begun = setup_begun form whole fs us text s v us' text' front begun

    -- a setup that is refused
    pub windowed_setup_refused : (n : ℕ) → BegunIn s fs us text (Err (NotBegun.Refused n)) us' text' → take n text' ≡ out
    windowed_setup_refused n begun = refused_replay form out whole fs us text us' text' n (windowed_beginning (Err (NotBegun.Refused n)) begun)

    module _ (w : Playback) (begun : BegunIn s fs us text (Ok w) us' text') (samples : List Float) where
      abbrev first : Moment
      first = record { playback = w; floats = fs; words = us'; samples = samples }

      -- steps by windows that have come to their end have printed the whole output
      pub windowed : (printed : List ℕ) (last : Moment) → StepsBy form whole first printed last → last.playback.doing ≡ Doing.Done → printed ≡ out
      windowed printed last steps done =
          whole_replay form out whole fs us text us' text' w (windowed_beginning (Ok w) begun) samples printed last (steps_of_the_tape form whole steps) done

      -- no step before the end is refused where there is room and the window reaches
      module _ (printed : List ℕ) (last : Moment) (steps : StepsBy form whole first printed last) (more : last.playback.doing ≡ Doing.Done → ⊥)
          (at : WindowAt whole last.playback.place) (far : makes_call last.playback.doing ≡ true → reaches at.window (at.place + longest_call) at.last ≡ true) (bytes : List ℕ)
          (room : room_for whole last.playback last.samples bytes ≡ true) (n : Moment) (bytes' : List ℕ) where
        pub windowed_never_stuck : (v : Option Step) → SteppedBy form whole last at bytes v n bytes' → IsWrittenIn v
        windowed_never_stuck (Some v) done =
            written_from_start at.base v
            (never_stuck form out whole fs us text us' text' w (windowed_beginning (Ok w) begun) samples printed last (steps_of_the_tape form whole steps) more bytes
            (step_from_start at.base v) n.floats n.words n.samples bytes' room (step_stands form whole last n bytes bytes' at v done))
        windowed_never_stuck None done =
            by_reach at.window (at.place + longest_call) at.last (far done.calls)
            (λ end. let never : true ≡ false = sym end ∙ done.ends.more in cc)
            (λ fits. absurd (omega (arith, done.ends.short)))

-- ---- the theorem

module _ {whole : List ℕ} {s : Setup} (opening : OpenedBy whole (Ok s)) (checks : Checks whole first_place (Ok tt))
    (fs : List Float) (us text us' text' : List ℕ) (w : Playback) (begun : BegunIn s fs us text (Ok w) us' text') (samples : List Float)
    (printed : List ℕ) (last : Moment) (done : last.playback.doing ≡ Doing.Done) where
  pub windowed_replay : StepsBy Form.Full whole (record { playback = w; floats = fs; words = us'; samples = samples }) printed last → printed ≡ replay_over (lent_of fs us) whole
  windowed_replay steps = windowed Form.Full whole s (setup_found opening checks) fs us text us' text' w begun samples printed last steps done

  pub windowed_summary : StepsBy Form.Summary whole (record { playback = w; floats = fs; words = us'; samples = samples }) printed last → printed ≡ summary_over (lent_of fs us) whole
  windowed_summary steps = windowed Form.Summary whole s (setup_found opening checks) fs us text us' text' w begun samples printed last steps done
