-- `tape_exports::writing::tape_put_depth` meets its contract: the number is that of the writer's answer. Assumes nothing.
use Rattle.tape_exports.proofs.HandedOver.{call_handed}
use native.Mathlib.Omega.{arith}
use Rattle.tape_exports.proofs.writing.tape_put_depth.Goals as goal

pub returns : goal.returns
returns c = call_handed _ (omega arith) c.answer.ensures _ c.put_depth.ensures
