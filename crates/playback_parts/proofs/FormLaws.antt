-- What is printed in either form, call by call, and of a whole tape. Assumes nothing.
use Rattle.model.proofs.PrintedSteps.{PrintedSteps}
use Rattle.model.proofs.ReplaySteps.{replay_steps}
use Rattle.model.proofs.SummarySteps.{summary_steps}
use Rattle.playback_parts.specs.declared.Form.{Form}
use Rattle.playback_parts.specs.Forms.{answer_as, printed_from, printed_over}

pub steps_of : (form : Form) → PrintedSteps (answer_as form) (printed_from form) (printed_over form)
steps_of Form.Full = replay_steps
steps_of Form.Summary = summary_steps
