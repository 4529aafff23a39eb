-- `tape_exports::writing::tape_put_setup` meets its contract: the number is that of the writer's answer. Assumes nothing.
use Rattle.tape_exports.proofs.HandedOver.{setup_put_handed}
use native.Mathlib.Omega.{arith}
use Rattle.tape_exports.proofs.writing.tape_put_setup.Goals as goal

pub returns : goal.returns
returns c = setup_put_handed _ (omega arith) c.answer.ensures _ c.put_setup.ensures
