-- `tape_exports::reading::tape_check` meets its contract: each verdict has its number. Assumes nothing.
use Prim.Native.Nat.{ℕ}
use mathlib.Core.List.{List}
use native.Mathlib.Omega.{arith}
use Rattle.model.proofs.BytesLaws.{slice_are_bytes}
use Rattle.tape_exports.proofs.HandedOver.{verdict_handed}
use Rattle.tape_exports.proofs.reading.tape_check.Goals as goal

pub returns-in-Err : goal.returns-in-Err
returns-in-Err c = let bytes : List ℕ = c.args.tape.now in
    verdict_handed {tape = bytes} (slice_are_bytes bytes c.shared_slice_known-1.given) (omega arith) c.in-Err.ensures.answers
