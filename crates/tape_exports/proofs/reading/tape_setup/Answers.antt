-- `tape_exports::reading::tape_setup` meets its contract: a bad tape stores none. Assumes nothing.
use Prim.Native.Nat.{ℕ}
use mathlib.Core.List.{List}
use mathlib.Core.Path.{refl}
use native.Mathlib.Omega.{arith}
use Rattle.tape.proofs.WordLaws.{slice_are_bytes}
use Rattle.tape_exports.proofs.HandedOver.{bad_handed}
use Rattle.tape_exports.proofs.reading.tape_setup.Goals as goal

pub returns-in-Err : goal.returns-in-Err
returns-in-Err c = let bytes : List ℕ = c.args.tape.now in
    bad_handed {tape = bytes} (slice_are_bytes bytes c.shared_slice_known-1.given) (omega arith) {place = c.in-Err.bad.place} c.in-Err.ensures.answers refl
