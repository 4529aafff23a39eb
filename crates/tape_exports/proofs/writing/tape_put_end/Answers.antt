-- `tape_exports::writing::tape_put_end` meets its contract: the number is that of the writer's answer. Assumes nothing.
use Rattle.tape_exports.proofs.HandedOver.{end_handed}
use native.Mathlib.Omega.{arith}
use Rattle.tape_exports.proofs.writing.tape_put_end.Goals as goal

pub returns : goal.returns
returns c = end_handed _ (omega arith) c.answer.ensures c.put_end.ensures
