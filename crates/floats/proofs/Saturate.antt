-- `as` from a float to an unsigned number of w bits: from 2 ^ w on it is 2 ^ w - 1. The laws are stated over the width. Assumes nothing.
use Rattle.std.proofs.Common.{◌≡◌, ℕ, ◌+◌, ◌-◌, ◌*◌, ◌/◌, ◌^◌, ◌<◌, ◌≤◌, min, true, false, T, ltb, ℤ, pos, sym, refl, subst, lt_of_lt_of_le, mul-le-mul_right, mul-le-mul_left, mul-pos, one-mul, le-div_iff_mul-le, mul-one, not-le_of_lt, le-add_left, arith, lt→ltb, pow_pos, pow_mono, ltb-false, ltb-true}
use lib.Ieee.{Float, nan, inf, fin, up, down, lt, to_unsigned}
use lib.Ieee.Fits.{down_pos}

-- the float -1
abbrev pub minus_one : Float
minus_one = fin true 1 (pos 0)

-- the float 2 ^ w
abbrev pub two_to : ℕ → Float
two_to w = fin false 1 (pos w)

-- a negative number is below a positive one: the test is whether the sum of their sizes is above zero
sum_is_above_zero : (n : ℕ) → 0 < n → ltb 0 n ≡ false → ⊥
sum_is_above_zero n p h = not-le_of_lt p (ltb-false 0 n h)

pub one_down_pos : (e : ℤ) → 0 < 1 * 1 * down e
one_down_pos e = subst (λ (k : ℕ). 0 < k) (sym (one-mul (down e))) (down_pos e)

power_pos : (w : ℕ) (e : ℤ) → 0 < 1 * 2 ^ w * down e
power_pos w e = mul-pos (subst (λ (n : ℕ). 0 < n) (sym (one-mul (2 ^ w))) (pow_pos w)) (down_pos e)

-- a comparison with the float p, of n / d, without its factors 1
pub below_times : (n p d : ℕ) → n * 1 < 1 * p * d → n < p * d
below_times n p d h = subst (λ (k : ℕ). n < k * d) (one-mul p) (subst (λ (k : ℕ). k < 1 * p * d) (mul-one n) h)

pub from_times : (n p d : ℕ) → 1 * p * d ≤ n * 1 → p * d ≤ n
from_times n p d h = subst (λ (k : ℕ). k * d ≤ n) (one-mul p) (subst (λ (k : ℕ). 1 * p * d ≤ k) (mul-one n) h)

cut_at_top : (a c : ℕ) → c ≤ a → c - 1 ≡ min a (c - 1)
cut_at_top a c h = omega arith

pub above_gives_top : (w : ℕ) (x : Float) → lt minus_one x ≡ true → lt x (two_to w) ≡ false → 2 ^ w - 1 ≡ to_unsigned w x
unfolding lt to_unsigned
above_gives_top w nan h k = cc
above_gives_top w (inf true) h k = cc
above_gives_top w (inf false) h k = refl
above_gives_top w (fin true m e) h k =
    absurd (sum_is_above_zero (m * up e * 1 + 1 * 2 ^ w * down e) (lt_of_lt_of_le (power_pos w e) (le-add_left (1 * 2 ^ w * down e) (m * up e * 1))) k)
above_gives_top w (fin false m e) h k =
    cut_at_top (m * up e / down e) (2 ^ w)
    ((le-div_iff_mul-le (down_pos e)).1 (from_times (m * up e) (2 ^ w) (down e) (ltb-false (m * up e * 1) (1 * 2 ^ w * down e) k)))

pub uncut : (a c : ℕ) → a < c → min a (c - 1) ≡ a
uncut a c h = omega arith

-- from below one power of two to below a larger one
pub below_larger : (w v : ℕ) (x : Float) → w ≤ v → lt x (two_to w) ≡ true → T (lt x (two_to v))
unfolding lt
below_larger w v nan l k = cc
below_larger w v (inf true) l k = tt
below_larger w v (inf false) l k = cc
below_larger w v (fin true m e) l k =
    lt→ltb 0 (m * up e * 1 + 1 * 2 ^ v * down e)
    (lt_of_lt_of_le (power_pos v e) (le-add_left (1 * 2 ^ v * down e) (m * up e * 1)))
below_larger w v (fin false m e) l k =
    lt→ltb (m * up e * 1) (1 * 2 ^ v * down e)
    (lt_of_lt_of_le (ltb-true (m * up e * 1) (1 * 2 ^ w * down e) k) (mul-le-mul_right (down e) (mul-le-mul_left 1 (pow_mono l))))
