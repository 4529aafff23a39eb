-- `floats::nearest_u64_to_f32` meets its contract. The leading zeros say how many digits n has; from 25 digits on `proofs/LeadingDigits.antt` says what the kept digits
-- and the field make. Assumes nothing.
use Rattle.std.proofs.Common.{◌≡◌, ℕ, suc, ◌+◌, ◌-◌, ◌*◌, ◌/◌, ◌%◌, ◌^◌, ◌<◌, ◌≤◌, Bool, false, not, T, pos, sym, refl, ap, ◌∙◌, subst, inl, inr, le_trans, lt_of_lt_of_le, le_of_lt, eq-zero-or-pos, one-mul, arith, lit<, lit≤, le→leb, pow_mono, shl_exact, le-ltb}
use native.Mathlib.Nat.{mod-le}
use lib.Count.{count_leading_zeros, leading_top, leading_length, leading_of_zero}
use lib.Ieee.{binary32, round, in_float, nan_bits, of_int, of_bits}
use lib.Ieee.Bits.{nan_bits_above}
use lib.Ieee.Nearest.{closest}
use Rattle.floats.proofs.LeadingDigits.{quotient_lt, kept_le, nearest_by_pattern}
use Rattle.floats.proofs.nearest_u64_to_f32.Goals as goal

-- ---- 40 leading zeros or more: n is below 2 ^ 24
few_digits : (n : ℕ) → n < 2 ^ 64 → 40 ≤ count_leading_zeros 64 n → T (in_float binary32 (pos n))
unfolding in_float
few_digits n h z =
    let l = leading_length 64 n h in
    le→leb n (2 ^ 24) (le_of_lt (lt_of_lt_of_le l.2 (pow_mono (rest (count_leading_zeros 64 n) l.0 l.1 z))))
  where
    rest : (z m : ℕ) → z + m ≡ 64 → 40 ≤ z → m ≤ 24
    rest z m e h = omega arith

-- ---- fewer: what is dropped, and the source's `unit`
abbrev dropped : ℕ → ℕ
dropped n = 40 - count_leading_zeros 64 n

abbrev unit : ℕ → ℕ
unit n = 1 * 2 ^ dropped n % 2 ^ 64

unit_is : (n : ℕ) → unit n ≡ 2 ^ dropped n
unit_is n = shl_exact 1 (dropped n) 64 (lit< tt) (below (count_leading_zeros 64 n)) ∙ one-mul (2 ^ dropped n)
  where
    below : (z : ℕ) → 1 + (40 - z) ≤ 64
    below z = omega arith

module _ (n : ℕ) (h : n < 2 ^ 64) (z : count_leading_zeros 64 n < 40) where
  not_zero : 0 < n
  not_zero = elim (eq-zero-or-pos n) [ inl e ↦ absurd (all_zeros (count_leading_zeros 64 n) (ap (count_leading_zeros 64) e ∙ leading_of_zero 64) z) | inr p ↦ p ]
    where
      all_zeros : (z : ℕ) → z ≡ 64 → z < 40 → ⊥
      all_zeros z e g = omega arith

  abbrev top : (j : ℕ) × (count_leading_zeros 64 n + suc j ≡ 64) × (2 ^ j ≤ n) × (n < 2 ^ suc j)
  top = leading_top 64 n not_zero h

  digits : suc top.0 ≡ 24 + dropped n
  digits = go (count_leading_zeros 64 n) top.0 top.1 z
    where
      go : (z j : ℕ) → z + suc j ≡ 64 → z < 40 → suc j ≡ 24 + (40 - z)
      go z j e g = omega arith

  quotient_small : n / unit n < 2 ^ 24
  quotient_small = subst (λ (u : ℕ). n / u < 2 ^ 24) (sym (unit_is n)) (quotient_lt binary32 n top.0 (dropped n) top.2 top.3 digits)

  kept_small : closest n (unit n) ≤ 2 ^ 24
  kept_small = subst (λ (u : ℕ). closest n u ≤ 2 ^ 24) (sym (unit_is n)) (kept_le binary32 n top.0 (dropped n) top.2 top.3 digits)

  rounds : of_bits binary32 ((dropped n + 149) * 2 ^ 23 + closest n (unit n)) ≡ round binary32 false n 1
  rounds =
      ap (λ (u : ℕ). of_bits binary32 ((dropped n + 149) * 2 ^ 23 + closest n u)) (unit_is n)
      ∙ nearest_by_pattern binary32 n top.0 (dropped n) top.2 top.3 digits (most (count_leading_zeros 64 n))
    where
      most : (z : ℕ) → 24 + (40 - z) ≤ 127
      most z = omega arith

pattern_lt : (z q : ℕ) → q ≤ 2 ^ 24 → (40 - z + 149) * 8388608 + q < 255 * 8388608
pattern_lt z q h = omega arith

no_nan : (b : ℕ) → b < 255 * 8388608 → T (not (nan_bits binary32 b))
no_nan b h = subst (λ (t : Bool). T (not t)) (sym (nan_bits_above binary32 b ∙ le-ltb (255 * 8388608) (b % 2 ^ 31) (le_trans (mod-le b (2 ^ 31)) (le_of_lt h)))) tt

as_defined : (n : ℕ) → round binary32 false n 1 ≡ of_int binary32 (pos n)
unfolding of_int
as_defined n = refl

pub int_to_float-result : goal.int_to_float-result
int_to_float-result c = few_digits c.args.n c.ranges.n.fits (omega arith)

pub nearer-kept-requires : goal.nearer-kept-requires
nearer-kept-requires c = quotient_small c.args.n c.ranges.n.fits (omega arith)

-- what `nearer` gives is what `round` keeps
small : (n q : ℕ) → n < 2 ^ 64 → count_leading_zeros 64 n < 40 → q ≡ closest n (unit n) → q ≤ 2 ^ 24
small n q h z e = subst (λ (k : ℕ). k ≤ 2 ^ 24) (sym e) (kept_small n h z)

pub overflow_cast-result : goal.overflow_cast-result
overflow_cast-result c = omega (arith, small c.args.n c.nearer-kept.result c.ranges.n.fits (omega arith) c.nearer-kept.ensures)

pub overflow_add-result-2 : goal.overflow_add-result-2
overflow_add-result-2 c = record { fits = lt_of_lt_of_le (pattern_lt (count_leading_zeros 64 c.args.n) c.nearer-kept.result (small c.args.n c.nearer-kept.result c.ranges.n.fits (omega arith) c.nearer-kept.ensures)) (lit≤ tt) }

pub float_from_bits-result : goal.float_from_bits-result
float_from_bits-result c = no_nan _ (pattern_lt (count_leading_zeros 64 c.args.n) c.nearer-kept.result (small c.args.n c.nearer-kept.result c.ranges.n.fits (omega arith) c.nearer-kept.ensures))

pub returns : goal.returns
returns c = let n = c.args.n in
    ap (λ (q : ℕ). of_bits binary32 ((dropped n + 149) * 2 ^ 23 + q)) c.nearer-kept.ensures
    ∙ rounds n c.ranges.n.fits (omega arith)
    ∙ as_defined n
