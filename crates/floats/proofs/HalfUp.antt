-- Half up in whole numbers: one more than the whole part of 2 n / d, halved, is (2 n + d) / (2 d), which is the definition's. Assumes nothing.
use Rattle.std.proofs.Common.{◌≡◌, ℕ, zero, suc, ◌+◌, ◌*◌, ◌/◌, ◌^◌, ◌<◌, ◌≤◌, true, false, T, ℤ, pos, sym, refl, ap, ◌∙◌, subst, lt_of_lt_of_le, lt_irrefl, mul-le-mul_right, mul_assoc, mul_comm, div-lt_iff_lt-mul, zero-mul, mul-one, lit≤, ltb→lt}
use native.Mathlib.Nat.{mul-lt-mul_of_pos_left, add-div_right, div-div-eq-div-mul}
use lib.Ieee.{Float, nan, inf, fin, binary32, up, down, add, lt, fits, of_int, to_unsigned}
use lib.Ieee.Fits.{down_pos}
use lib.Ieee.Exact.{HasValue}
use Rattle.model.specs.Floats.{f0, round_half_away}
use Rattle.floats.proofs.Saturate.{minus_one, two_to, below_times}
use Rattle.floats.proofs.Doubling.{doubling_is_exact}
use Rattle.floats.proofs.WholePart.{whole_part, above_minus_one, below_power}

-- what the body of `half_up` needs of x, and what it comes to
pub record HalfUp (x : Float) : Type 0 where
  pub above : T (lt minus_one (add binary32 x x))
  pub below : T (lt (add binary32 x x) (two_to 64))
  pub small : to_unsigned 64 (add binary32 x x) < 2 ^ 24
  pub rounds : of_int binary32 (pos ((to_unsigned 64 (add binary32 x x) + 1) / 2)) ≡ round_half_away x

halved : (n d : ℕ) → 0 < d → (2 * n / d + 1) / 2 ≡ (2 * n + d) / (2 * d)
halved n d D = ap (λ (z : ℕ). z / 2) (sym (add-div_right (2 * n) D)) ∙ div-div-eq-div-mul (2 * n + d) d 2 ∙ ap (λ (z : ℕ). (2 * n + d) / z) (mul_comm d 2)

doubled_lt : (n p d : ℕ) → n < p * d → 2 * n < 2 * p * d
doubled_lt n p d h = subst (λ (z : ℕ). 2 * n < z) (sym (mul_assoc 2 p d)) (mul-lt-mul_of_pos_left h (lit≤ tt))

wider : (n p q d : ℕ) → p ≤ q → n < p * d → n < q * d
wider n p q d h k = lt_of_lt_of_le k (mul-le-mul_right d h)

as_defined : (m : ℕ) (e : ℤ) → of_int binary32 (pos ((2 * (m * up e) + down e) / (2 * down e))) ≡ round_half_away (fin false m e)
unfolding of_int round_half_away
as_defined m e = refl

half_up_of : (m : ℕ) (e : ℤ) → T (fits binary32 (fin false (suc m) e)) → suc m * up e < 2 ^ 23 * down e → HalfUp (fin false (suc m) e)
half_up_of m e t h =
    let n = suc m * up e in
    let d = down e in
    let x = fin false (suc m) e in
    let b24 : 2 * n < 2 ^ 24 * d = doubled_lt n (2 ^ 23) d h in
    let b64 : 2 * n < 2 ^ 64 * d = wider (2 * n) (2 ^ 24) (2 ^ 64) d (lit≤ tt) b24 in
    let v : HasValue (add binary32 x x) false (2 * n) d = doubling_is_exact binary32 m e t (wider (2 * n) (2 ^ 24) (2 ^ 128) d (lit≤ tt) b24) in
    let u : to_unsigned 64 (add binary32 x x) ≡ 2 * n / d = whole_part 64 (add binary32 x x) (2 * n) d (down_pos e) v b64 in
    record {
      above = above_minus_one (add binary32 x x) (2 * n) d v;
      below = below_power 64 (add binary32 x x) (2 * n) d v b64;
      small = subst (λ (z : ℕ). z < 2 ^ 24) (sym u) ((div-lt_iff_lt-mul (down_pos e)).1 b24);
      rounds = ap (λ (z : ℕ). of_int binary32 (pos ((z + 1) / 2))) u ∙ ap (λ (z : ℕ). of_int binary32 (pos z)) (halved n d (down_pos e)) ∙ as_defined (suc m) e;
    }

no_zero : (d u : ℕ) → 0 * 1 * d < 0 * u * 1 → ⊥
no_zero d u h = lt_irrefl 0 (subst (λ (k : ℕ). k < 0) (zero-mul d) (subst (λ (k : ℕ). 0 * d < k) (mul-one (0 * u) ∙ zero-mul u) h))

pub half_up : (x : Float) → T (fits binary32 x) → T (lt f0 x) → T (lt x (two_to 23)) → HalfUp x
unfolding lt
half_up (inf false) t g h = absurd h
half_up (fin false zero e) t g h = absurd (no_zero (down e) (up e) (ltb→lt (0 * 1 * down e) (0 * up e * 1) g))
half_up (fin false (suc m) e) t g h = half_up_of m e t (below_times (suc m * up e) (2 ^ 23) (down e) (ltb→lt (suc m * up e * 1) (1 * 2 ^ 23 * down e) h))
half_up _ t g h = absurd g
