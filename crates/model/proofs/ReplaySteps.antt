-- What replay prints, call by call: the line of a call's answer, then what follows it, and at the end the closing lines. Assumes nothing.
use Prim.Native.Nat.{ℕ}
use mathlib.Core.Path.{refl}
use mathlib.Core.List.{List, ◌++◌, append_assoc}
use Rattle.model.specs.Receiver.{Lent, Call, State}
use Rattle.model.specs.Step.{run}
use Rattle.model.specs.Replay.{answer_line, event_lines, closing_lines, session_lines, tape_lines, replay_over}
use Rattle.model.proofs.PrintedSteps.{PrintedSteps}

-- what is printed of the calls from a state on
unfoldable pub lines_from : Lent → List Call → State → List ℕ
lines_from lent cs s = event_lines (run lent cs s).events ++ closing_lines (run lent cs s).after

pub replay_steps : PrintedSteps answer_line lines_from replay_over
unfolding lines_from run event_lines replay_over tape_lines session_lines
replay_steps =
    record {
      printed_end = λ lent s. refl;
      printed_step = λ lent c cs s. simp append_assoc;
      printed_of_bad_tape = λ lent bytes place e. rw e;
      printed_of_refused_setup = λ lent bytes t n e refuses. rw (e, refuses);
      printed_of_session = λ lent bytes t s e opens. rw (e, opens);
    }
