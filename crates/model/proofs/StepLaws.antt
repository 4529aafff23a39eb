-- A step from old toward new stays between them, so within any bounds that hold both: what is added to old is between 0 and new − old. By the signs of the numbers. Assumes nothing.
use Prim.Native.Nat.{ℕ, suc, ◌/◌, ◌≤◌}
use native.Mathlib.Omega.{arith}
use native.Mathlib.Nat.{div-le_self}
use mathlib.Core.Path.{◌≡◌}
use mathlib.Core.Bool.{true, ◌&&◌, and-eq-true_iff}
use lib.IntN.{ℤ, pos, negsuc, ◌+ℤ◌, ◌-ℤ◌}
use lib.Signed.{le_z, quot_z}
use Rattle.std.proofs.lemmas.Int.{ints}
use Rattle.model.specs.Clock.{step_toward}
use Rattle.model.proofs.BoolLaws.{both_and}

-- ---- a part of d added to old

part_above : (lo old d : ℤ) (n : ℕ) → le_z lo old ≡ true → le_z lo (old +ℤ d) ≡ true → le_z lo (old +ℤ quot_z d (pos n)) ≡ true
part_above lo old (pos a) n h k = let part : a / n ≤ a = div-le_self a n in grind (arith, ints)
part_above lo old (negsuc a) n h k = let part : suc a / n ≤ suc a = div-le_self (suc a) n in grind (arith, ints)

part_below : (hi old d : ℤ) (n : ℕ) → le_z old hi ≡ true → le_z (old +ℤ d) hi ≡ true → le_z (old +ℤ quot_z d (pos n)) hi ≡ true
part_below hi old (pos a) n h k = let part : a / n ≤ a = div-le_self a n in grind (arith, ints)
part_below hi old (negsuc a) n h k = let part : suc a / n ≤ suc a = div-le_self (suc a) n in grind (arith, ints)

-- ---- laws

pub step_above : (lo : ℤ) (n : ℕ) (old new : ℤ) → le_z lo old ≡ true → le_z lo new ≡ true → le_z lo (step_toward n old new) ≡ true
unfolding step_toward
step_above lo n old new h k = part_above lo old (new -ℤ old) n h (grind (arith, ints))

pub step_below : (hi : ℤ) (n : ℕ) (old new : ℤ) → le_z old hi ≡ true → le_z new hi ≡ true → le_z (step_toward n old new) hi ≡ true
unfolding step_toward
step_below hi n old new h k = part_below hi old (new -ℤ old) n h (grind (arith, ints))

pub step_within : (lo hi : ℤ) (n : ℕ) (old new : ℤ) → (le_z lo old && le_z old hi) ≡ true → (le_z lo new && le_z new hi) ≡ true
    → (le_z lo (step_toward n old new) && le_z (step_toward n old new) hi) ≡ true
step_within lo hi n old new h k =
    let was = (and-eq-true_iff (le_z lo old) (le_z old hi)).0 h in
    let is = (and-eq-true_iff (le_z lo new) (le_z new hi)).0 k in
    both_and (step_above lo n old new was.0 is.0) (step_below hi n old new was.1 is.1)
