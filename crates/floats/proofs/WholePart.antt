-- A float that is not negative, by the fraction a / c that it equals: its cast to an unsigned number is a / c cut to a whole number, and its place among -1 and the powers of two is that of a / c.
-- Assumes nothing.
use Rattle.std.proofs.Common.{◌≡◌, ℕ, ◌+◌, ◌*◌, ◌/◌, ◌^◌, ◌<◌, true, false, T, sym, ◌∙◌, subst, true≢false, le_of_eq, lt_of_lt_of_le, le-add_right, lt_of_le_of_lt, div-lt_iff_lt-mul, lt_of_mul-lt-mul_right, mul-lt-mul_of_pos_right, one-mul, mul-one, mul_right_comm, lt→ltb}
use lib.Ieee.{Float, nan, inf, fin, up, down, lt, to_unsigned}
use lib.Ieee.Fits.{down_pos}
use lib.Ieee.Exact.{HasValue}
use lib.Ieee.Nearest.{div_same}
use Rattle.floats.proofs.Saturate.{minus_one, two_to, one_down_pos, uncut}

-- n / d is a / c, so it is below p where a / c is
carried : (n d a c p : ℕ) → 0 < d → n * c ≡ a * d → a < p * c → n < p * d
carried n d a c p D v h = lt_of_mul-lt-mul_right c (lt_of_le_of_lt (le_of_eq v) (lt_of_lt_of_le (mul-lt-mul_of_pos_right h D) (le_of_eq (mul_right_comm p c d))))

pub whole_part : (w : ℕ) (x : Float) (a c : ℕ) → 0 < c → HasValue x false a c → a < 2 ^ w * c → to_unsigned w x ≡ a / c
unfolding to_unsigned
whole_part w nan a c C v h = absurd v
whole_part w (inf s) a c C v h = absurd v
whole_part w (fin true m e) a c C v h = absurd (true≢false v.0)
whole_part w (fin false m e) a c C v h =
    uncut (m * up e / down e) (2 ^ w) ((div-lt_iff_lt-mul (down_pos e)).1 (carried (m * up e) (down e) a c (2 ^ w) (down_pos e) v.1 h))
    ∙ div_same (m * up e) (down e) a c (down_pos e) C v.1

pub above_minus_one : (x : Float) (a c : ℕ) → HasValue x false a c → T (lt minus_one x)
unfolding lt
above_minus_one nan a c v = absurd v
above_minus_one (inf s) a c v = absurd v
above_minus_one (fin true m e) a c v = absurd (true≢false v.0)
above_minus_one (fin false m e) a c v =
    lt→ltb 0 (1 * 1 * down e + m * up e * 1) (lt_of_lt_of_le (one_down_pos e) (le-add_right (1 * 1 * down e) (m * up e * 1)))

pub below_power : (w : ℕ) (x : Float) (a c : ℕ) → HasValue x false a c → a < 2 ^ w * c → T (lt x (two_to w))
unfolding lt
below_power w nan a c v h = absurd v
below_power w (inf s) a c v h = absurd v
below_power w (fin true m e) a c v h = absurd (true≢false v.0)
below_power w (fin false m e) a c v h =
    lt→ltb (m * up e * 1) (1 * 2 ^ w * down e)
    (subst (λ (k : ℕ). k < 1 * 2 ^ w * down e) (sym (mul-one (m * up e)))
    (subst (λ (k : ℕ). m * up e < k * down e) (sym (one-mul (2 ^ w))) (carried (m * up e) (down e) a c (2 ^ w) (down_pos e) v.1 h)))
