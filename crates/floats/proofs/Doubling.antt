-- Twice a float is a float, unless it overflows: doubling moves the exponent and keeps the digits, in the subnormal range too. Assumes nothing.
use Rattle.std.proofs.Common.{◌≡◌, ℕ, suc, ◌+◌, ◌-◌, ◌*◌, ◌%◌, ◌^◌, ◌<◌, ◌≤◌, Bool, false, ◌&&◌, T, eqb, ltb, leb, ℤ, pos, negsuc, sym, ap, ◌∙◌, subst, le_of_eq, lt_of_lt_of_le, lt_of_le_of_lt, mul_assoc, mul_comm, lt_of_mul-lt-mul_right, mul-lt-mul_of_pos_right, mul-pos, mul-one, mul_left_comm, two-mul, arith, ltb→lt, leb→le, pow_pos, pow-add}
use native.Mathlib.Nat.{pow-succ'}
use lib.Ieee.{Float, fin, Format, prec, emax, low, up, down, add, sum, fits}
use lib.Ieee.Fits.{and_l, and_r, down_pos}
use lib.Ieee.Exact.{HasValue, round_exact}
use lib.Ieee.Scale.{round_same}
use Rattle.model.proofs.Powers.{exponent_le}

-- what `fits` tells of a value that is not zero
pub in_range : (f : Format) (s : Bool) (m : ℕ) (e : ℤ) → T (fits f (fin s (suc m) e)) → (suc m < 2 ^ prec f) × (down e ≤ 2 ^ low f) × (suc m * up e < 2 ^ suc (emax f) * down e)
unfolding fits
in_range f s m e t =
    let a = eqb (suc m % 2) 1 in
    let b = ltb (suc m) (2 ^ prec f) in
    let c = leb (down e) (2 ^ low f) in
    let d = ltb (suc m * up e) (2 ^ suc (emax f) * down e) in
    let abc = and_l (a && b && c) d t in (
      ltb→lt (suc m) (2 ^ prec f) (and_r a b (and_l (a && b) c abc)),
      leb→le (down e) (2 ^ low f) (and_r (a && b) c abc),
      ltb→lt (suc m * up e) (2 ^ suc (emax f) * down e) (and_r (a && b && c) d t),
    )

rejoined : (k l : ℕ) → suc k ≤ l → l - k + suc k ≡ suc l
rejoined k l h = omega arith

-- twice 2 ^ e is a whole number of the format's smallest values
twice_in_units : (f : Format) (e : ℤ) → down e ≤ 2 ^ low f → (j : ℕ) × (2 * up e * 2 ^ low f ≡ 2 ^ j * down e)
twice_in_units f (pos k) h =
    (suc k + low f, ap (λ (z : ℕ). z * 2 ^ low f) (sym (pow-succ' 2 k)) ∙ sym (pow-add 2 (suc k) (low f)) ∙ sym (mul-one (2 ^ (suc k + low f))))
twice_in_units f (negsuc k) h =
    let l = low f in
    (l - k, sym (pow-succ' 2 l) ∙ ap (λ (z : ℕ). 2 ^ z) (sym (rejoined k l (exponent_le (suc k) l h))) ∙ pow-add 2 (l - k) (suc k))

twice_is : (n d : ℕ) → (n * d + n * d) * d ≡ 2 * n * (d * d)
twice_is n d = ap (λ (z : ℕ). z * d) (sym (two-mul (n * d))) ∙ ap (λ (z : ℕ). z * d) (sym (mul_assoc 2 n d)) ∙ mul_assoc (2 * n) d d

-- x + x has twice the value of x
pub doubling_is_exact : (f : Format) (m : ℕ) (e : ℤ) → T (fits f (fin false (suc m) e)) → 2 * (suc m * up e) < 2 ^ suc (emax f) * down e
    → HasValue (add f (fin false (suc m) e) (fin false (suc m) e)) false (2 * (suc m * up e)) (down e)
unfolding add sum
doubling_is_exact f m e t h =
    let n = suc m * up e in
    let d = down e in
    let l = low f in
    let r = in_range f false m e t in
    let u = twice_in_units f e r.1 in
    let j = u.0 in
    let whole : 2 * n * 2 ^ l ≡ suc m * 2 ^ j * d =
    ap (λ (z : ℕ). z * 2 ^ l) (mul_left_comm 2 (suc m) (up e)) ∙ mul_assoc (suc m) (2 * up e) (2 ^ l) ∙ ap (λ (z : ℕ). suc m * z) u.1 ∙ sym (mul_assoc (suc m) (2 ^ j) d) in
    let over : 2 * n * 2 ^ l < 2 ^ suc (emax f) * d * 2 ^ l = mul-lt-mul_of_pos_right h (pow_pos l) in
    let room : suc m * 2 ^ j < 2 ^ (l + suc (emax f)) =
    lt_of_mul-lt-mul_right d (lt_of_le_of_lt (le_of_eq (sym whole)) (lt_of_lt_of_le over (le_of_eq (moved (2 ^ suc (emax f)) d (2 ^ l) ∙ ap (λ (z : ℕ). z * d) (sym (pow-add 2 l (suc (emax f)))))))) in
    subst (λ (x : Float). HasValue x false (2 * n) d) (sym (round_same f false (n * d + n * d) (d * d) (2 * n) d (mul-pos (down_pos e) (down_pos e)) (down_pos e) (twice_is n d)))
    (round_exact f false (2 * n) d (suc m) j (down_pos e) r.0 room whole)
  where
    moved : (a b c : ℕ) → a * b * c ≡ c * a * b
    moved a b c = mul_comm (a * b) c ∙ sym (mul_assoc c a b)
