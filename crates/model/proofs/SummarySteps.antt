-- What a summary prints, call by call: the summary of a call's answer, then what follows it, and at the end the closing lines. Assumes nothing.
use Prim.Native.Nat.{ℕ}
use mathlib.Core.Path.{refl}
use mathlib.Core.List.{List, ◌++◌, append_assoc}
use Rattle.model.specs.Receiver.{Lent, Call, State}
use Rattle.model.specs.Step.{run}
use Rattle.model.specs.Replay.{closing_lines}
use Rattle.model.specs.Summary.{answer_summary, event_summaries, session_summary, summary_lines, summary_over}
use Rattle.model.proofs.PrintedSteps.{PrintedSteps}

-- what is printed of the calls from a state on
unfoldable pub summary_from : Lent → List Call → State → List ℕ
summary_from lent cs s = event_summaries (run lent cs s).events ++ closing_lines (run lent cs s).after

pub summary_steps : PrintedSteps answer_summary summary_from summary_over
unfolding summary_from run event_summaries summary_over summary_lines session_summary
summary_steps =
    record {
      printed_end = λ lent s. refl;
      printed_step = λ lent c cs s. simp append_assoc;
      printed_of_bad_tape = λ lent bytes place e. rw e;
      printed_of_refused_setup = λ lent bytes t n e refuses. rw (e, refuses);
      printed_of_session = λ lent bytes t s e opens. rw (e, opens);
    }
