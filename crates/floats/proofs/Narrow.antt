-- A float rounded to whole and cast to 8 bits, by the tests of `floats::round_to_u8`: whether it is above 0, and below 2 ^ 23, from where on every
-- float is whole. Assumes nothing.
use Rattle.std.proofs.Common.{◌≡◌, ℕ, zero, suc, ◌+◌, ◌-◌, ◌*◌, ◌/◌, ◌^◌, ◌<◌, ◌≤◌, min, Bool, true, false, cond, T, ltb, ℤ, pos, sym, refl, ap, ◌∙◌, subst, lt_of_lt_of_le, le-add_right, zero-lt-suc, mul-pos, zero-mul, arith, lit≤, le→leb, ltb-false, lt-ltb}
use native.Mathlib.Nat.{div-eq_of_lt}
use lib.Ieee.{Float, nan, inf, fin, Format, binary32, prec, emax, low, up, down, odd, units, round, lt, fits, to_unsigned, in_float}
use lib.Ieee.Fits.{up_pos, down_pos, round_is}
use lib.Ieee.Back.{unsigned_back}
use Rattle.model.specs.Floats.{f0, natf, round_half_away}
use Rattle.model.proofs.BoolLaws.{by_test}
use Rattle.floats.proofs.Saturate.{minus_one, two_to, one_down_pos, above_gives_top, below_larger}
use Rattle.floats.proofs.WholeStays.{zero_stays, large_positive_stays}

-- ---- whole numbers

cut_twice : (a : ℕ) → min a (2 ^ 8 - 1) ≡ min (min a (2 ^ 64 - 1)) 255
cut_twice a = omega arith

narrow : (x : Float) → to_unsigned 8 x ≡ min (to_unsigned 64 x) 255
unfolding to_unsigned
narrow (fin false m e) = cut_twice (m * up e / down e)
narrow (inf true) = refl
narrow _ = refl

pub exact_in_float : (n : ℕ) → n ≤ 2 ^ 24 → T (in_float binary32 (pos n))
unfolding in_float
exact_in_float n h = le→leb n (2 ^ 24) h

pub whole_to_u8 : (n : ℕ) → n ≤ 2 ^ 24 → to_unsigned 8 (natf n) ≡ min n 255
whole_to_u8 n h = narrow (natf n) ∙ ap (λ (k : ℕ). min k 255) (unsigned_back binary32 64 n (exact_in_float n h) (omega arith)).1

-- ---- from 2 ^ 23 on

above_minus_one : (x : Float) → lt f0 x ≡ true → lt minus_one x ≡ true
unfolding lt
above_minus_one nan g = g
above_minus_one (inf s) g = g
above_minus_one (fin true m e) g = cc
above_minus_one (fin false m e) g =
    lt-ltb 0 (1 * 1 * down e + m * up e * 1) (lt_of_lt_of_le (one_down_pos e) (le-add_right (1 * 1 * down e) (m * up e * 1)))

not_below_smaller : (w v : ℕ) (x : Float) → w ≤ v → lt x (two_to v) ≡ false → lt x (two_to w) ≡ false
not_below_smaller w v x l h = by_test (lt x (two_to w)) (λ e. absurd (subst T h (below_larger w v x l e))) (λ e. e)

pub large_gives_255 : (x : Float) → T (fits binary32 x) → lt f0 x ≡ true → lt x (two_to 23) ≡ false → 255 ≡ to_unsigned 8 (round_half_away x)
large_gives_255 x t g h = above_gives_top 8 x (above_minus_one x g) (not_below_smaller 8 23 x (lit≤ tt) h) ∙ ap (to_unsigned 8) (large_positive_stays x t g h)

-- ---- not above 0

odd_negative : (d q k l : ℕ) → to_unsigned 8 (odd d true q k l) ≡ 0
unfolding odd to_unsigned
odd_negative d zero k l = refl
odd_negative d (suc q) k l = refl

units_negative : (f : Format) (q k : ℕ) → to_unsigned 8 (units f true q k) ≡ 0
unfolding units to_unsigned
units_negative f q k = go (ltb (q * 2 ^ k) (2 ^ (low f + suc (emax f))))
  where
    go : (b : Bool) → to_unsigned 8 (cond b (odd (suc (prec f)) true q k (low f)) (inf true)) ≡ 0
    go true = odd_negative (suc (prec f)) q k (low f)
    go false = refl

negative_gives_0 : (f : Format) (num den : ℕ) → 0 ≡ to_unsigned 8 (round f true num den)
negative_gives_0 f num den = sym (ap (to_unsigned 8) (round_is f true num den) ∙ units_negative f _ _)

zero_gives_0 : (e : ℤ) → 0 ≡ to_unsigned 8 (fin false 0 e)
unfolding to_unsigned
zero_gives_0 e = ap (λ (n : ℕ). min n (2 ^ 8 - 1)) (sym (ap (λ (n : ℕ). n / down e) (zero-mul (up e)) ∙ div-eq_of_lt (down_pos e)))

not_above_zero : (n d : ℕ) → 0 < n → n * 1 ≤ 0 * 1 * d → ⊥
not_above_zero n d p h = omega arith

pub not_positive_gives_0 : (x : Float) → T (fits binary32 x) → lt f0 x ≡ false → 0 ≡ to_unsigned 8 (round_half_away x)
unfolding lt
not_positive_gives_0 nan t g = unfold round_half_away to_unsigned in refl
not_positive_gives_0 (inf true) t g = unfold round_half_away to_unsigned in refl
not_positive_gives_0 (inf false) t g = cc
not_positive_gives_0 (fin true m e) t g = unfold round_half_away in negative_gives_0 binary32 ((2 * (m * up e) + down e) / (2 * down e)) 1
not_positive_gives_0 (fin false zero e) t g = zero_gives_0 e ∙ ap (to_unsigned 8) (zero_stays false e t)
not_positive_gives_0 (fin false (suc m) e) t g =
    absurd (not_above_zero (suc m * up e) (down e) (mul-pos (zero-lt-suc m) (up_pos e)) (ltb-false (0 * 1 * down e) (suc m * up e * 1) g))
