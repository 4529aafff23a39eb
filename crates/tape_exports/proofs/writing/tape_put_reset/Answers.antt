-- `tape_exports::writing::tape_put_reset` meets its contract: the number is that of the writer's answer, for the channel that the number names. Assumes nothing.
use Rattle.tape_exports.proofs.HandedOver.{call_handed}
use native.Mathlib.Omega.{arith}
use Rattle.tape_exports.proofs.writing.tape_put_reset.Goals as goal

pub returns : goal.returns
returns c = call_handed _ (omega arith) c.answer.ensures _ (rw c.from_number.ensures at c.put_reset.ensures)
