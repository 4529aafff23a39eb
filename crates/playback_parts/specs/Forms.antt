-- What is printed in each form: of an answer, of the calls from a state on, and of a tape. Assumes nothing.
use Rattle.std.specs.Prelude.{ℕ, List}
use Rattle.model.specs.Framing.{Side}
use Rattle.model.specs.Receiver.{Lent, Call, Answer, State}
use Rattle.model.specs.Replay.{answer_line, replay_over}
use Rattle.model.specs.Summary.{answer_summary, summary_over}
use Rattle.model.proofs.ReplaySteps.{lines_from}
use Rattle.model.proofs.SummarySteps.{summary_from}
use Rattle.playback_parts.specs.declared.Form.{Form}

abbrev pub answer_as : Form → Side → Answer → List ℕ
answer_as Form.Full side a = answer_line side a
answer_as Form.Summary side a = answer_summary side a

-- the calls' lines, and then the closing ones
abbrev pub printed_from : Form → Lent → List Call → State → List ℕ
printed_from Form.Full lent cs s = lines_from lent cs s
printed_from Form.Summary lent cs s = summary_from lent cs s

-- a tape of any length
abbrev pub printed_over : Form → Lent → List ℕ → List ℕ
printed_over Form.Full lent bytes = replay_over lent bytes
printed_over Form.Summary lent bytes = summary_over lent bytes
