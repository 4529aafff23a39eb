-- Two powers of two are in order only where their exponents are. Assumes nothing.
use Rattle.std.proofs.Common.{ℕ, suc, ◌^◌, ◌<◌, ◌≤◌, le_refl, lt_of_lt_of_le, le_of_suc-le-suc, lt_of_le_of_lt, lt_irrefl, lt_of_not-le, pow_mono}
use lib.Pow.{pow-lt}

pub exponent_lt : (i p : ℕ) → 2 ^ i < 2 ^ p → i < p
exponent_lt i p h = lt_of_not-le (λ (g : p ≤ i). lt_irrefl (2 ^ i) (lt_of_lt_of_le h (pow_mono g)))

pub exponent_le : (i p : ℕ) → 2 ^ i ≤ 2 ^ p → i ≤ p
exponent_le i p h = le_of_suc-le-suc (exponent_lt i (suc p) (lt_of_le_of_lt h (pow-lt (le_refl (suc p)))))
