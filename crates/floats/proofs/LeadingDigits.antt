-- A whole number of k digits more than the format keeps, as the nearest float: `round` keeps the leading digits and drops k, and the bit pattern of what it gives
-- has the exponent's field above the kept digits. Stated over the format. Assumes nothing.
use Rattle.std.proofs.Common.{◌≡◌, ℕ, suc, ◌+◌, ◌-◌, ◌*◌, ◌/◌, ◌%◌, ◌^◌, ◌<◌, ◌≤◌, true, false, ◌⊎◌, sym, ap, ◌∙◌, subst, inl, inr, true≢false, le_trans, le_of_eq, le_refl, lt_of_le_of_lt, mul-le-mul_right, zero-lt-suc, mul_assoc, suc-mul, mul_comm, le_antisymm, suc-add, eq-or-lt_of_le, mul-pos, one-mul, pow-suc, le-div_iff_mul-le, zero-add, div-one, mul-div_cancel, arith, pow_pos, pow-add, shl_lt, shr_lt}
use Prim.Native.Nat.{compare}
use native.Mathlib.Nat.{pow-succ'}
use lib.Pow.{pow-lt}
use lib.Ieee.{Float, nan, inf, fin, Format, prec, emax, low, up, down, size, units, round, hid, to_bits, of_bits}
use lib.Ieee.Digits.{size-lt, size-le}
use lib.Ieee.Fits.{nearest-le, two, down_pos, round_is, round-fits}
use lib.Ieee.Bits.{of_bits-to_bits}
use lib.Ieee.Exact.{HasValue, units_val}
use lib.Ieee.Nearest.{closest, closest_same, nearest-ge}
use Rattle.model.proofs.Powers.{exponent_lt}

-- ---- a number's size by its leading digit

size_is : (n j : ℕ) → 2 ^ j ≤ n → n < 2 ^ suc j → size n ≡ suc j
size_is n j lo hi = le_antisymm (size-le n (suc j) hi) (exponent_lt j (size n) (lt_of_le_of_lt lo (size-lt n)))

-- so of n shifted by l
size_shifted : (n j l : ℕ) → 2 ^ j ≤ n → n < 2 ^ suc j → size (n * 2 ^ l) ≡ suc (j + l)
size_shifted n j l lo hi =
    size_is (n * 2 ^ l) (j + l) (le_trans (le_of_eq (pow-add 2 j l)) (mul-le-mul_right (2 ^ l) lo))
    (subst (λ (z : ℕ). n * 2 ^ l < 2 ^ z) (suc-add j l) (shl_lt (suc j) l hi))

-- ---- `round`

drops : (j l p k : ℕ) → suc j ≡ p + k → suc (j + l) - p ≡ k + l
drops j l p k e = omega arith

pub keeps_leading_digits : (f : Format) (n j k : ℕ) → 2 ^ j ≤ n → n < 2 ^ suc j → suc j ≡ prec f + k → round f false n 1 ≡ units f false (closest n (2 ^ k)) (k + low f)
keeps_leading_digits f n j k lo hi e =
    let l = low f in
    let dropped : size (n * 2 ^ l / 1) - prec f ≡ k + l =
    ap (λ (z : ℕ). size z - prec f) (div-one (n * 2 ^ l)) ∙ ap (λ (z : ℕ). z - prec f) (size_shifted n j l lo hi) ∙ drops j l (prec f) k e in
    let same : n * 2 ^ l * 2 ^ k ≡ n * (1 * 2 ^ (k + l)) =
    mul_assoc n (2 ^ l) (2 ^ k) ∙ ap (λ (z : ℕ). n * z) (mul_comm (2 ^ l) (2 ^ k) ∙ sym (pow-add 2 k l) ∙ sym (one-mul (2 ^ (k + l)))) in
    round_is f false n 1
    ∙ ap (λ (z : ℕ). units f false (closest (n * 2 ^ l) (1 * 2 ^ z)) z) dropped
    ∙ ap (λ (z : ℕ). units f false z (k + l)) (closest_same (n * 2 ^ l) (1 * 2 ^ (k + l)) n (2 ^ k) (mul-pos (zero-lt-suc 0) (pow_pos (k + l))) (pow_pos k) same)

-- ---- the pattern

one_more : (f : Format) → suc (prec f - 1) ≡ prec f
one_more f = go (prec f) (two f)
  where
    go : (p : ℕ) → 2 ≤ p → suc (p - 1) ≡ p
    go p h = omega arith

-- q * 2 ^ k, with q from 2 ^ p up to 2 ^ (p + 1): the field and the digits add up to k fields and q
fields : (p q k : ℕ) → 2 ^ p ≤ q → q ≤ 2 ^ suc p → (size (q * 2 ^ k) - suc p) * 2 ^ p + q * 2 ^ k / 2 ^ (size (q * 2 ^ k) - suc p) ≡ k * 2 ^ p + q
fields p q k lo hi = go (eq-or-lt_of_le hi)
  where
    drop_some : suc (p + k) - suc p ≡ k
    drop_some = omega arith

    drop_more : suc (suc p + k) - suc p ≡ suc k
    drop_more = omega arith

    carried : (b a c : ℕ) → c ≡ a * 2 → b + a + a ≡ b + c
    carried b a c h = omega arith

    go : (q ≡ 2 ^ suc p) ⊎ (q < 2 ^ suc p) → (size (q * 2 ^ k) - suc p) * 2 ^ p + q * 2 ^ k / 2 ^ (size (q * 2 ^ k) - suc p) ≡ k * 2 ^ p + q
    go (inr h) =
        ap (λ (z : ℕ). (z - suc p) * 2 ^ p + q * 2 ^ k / 2 ^ (z - suc p)) (size_shifted q p k lo h)
        ∙ ap (λ (z : ℕ). z * 2 ^ p + q * 2 ^ k / 2 ^ z) drop_some
        ∙ ap (λ (z : ℕ). k * 2 ^ p + z) (mul-div_cancel q (pow_pos k))
    go (inl e) =
        let a = 2 ^ p in
        let twice : q ≡ a * 2 = e ∙ pow-suc 2 p in
        let split : q * 2 ^ k ≡ a * 2 ^ suc k = ap (λ (z : ℕ). z * 2 ^ k) twice ∙ mul_assoc a 2 (2 ^ k) ∙ ap (λ (z : ℕ). a * z) (sym (pow-succ' 2 k)) in
        ap (λ (z : ℕ). (z - suc p) * a + q * 2 ^ k / 2 ^ (z - suc p)) (size_shifted q (suc p) k (le_of_eq (sym e)) (lt_of_le_of_lt hi (pow-lt (le_refl (suc (suc p))))))
        ∙ ap (λ (z : ℕ). z * a + q * 2 ^ k / 2 ^ z) drop_more
        ∙ ap (λ (z : ℕ). suc k * a + z / 2 ^ suc k) split
        ∙ ap (λ (z : ℕ). suc k * a + z) (mul-div_cancel a (pow_pos (suc k)))
        ∙ ap (λ (z : ℕ). z + a) (suc-mul k a)
        ∙ carried (k * a) a q twice

pub pattern_of_kept : (f : Format) (v : Float) (q k : ℕ) → 2 ^ (prec f - 1) ≤ q → q ≤ 2 ^ prec f → HasValue v false (q * 2 ^ k) (2 ^ low f) → to_bits f v ≡ k * hid f + q
unfolding to_bits
pattern_of_kept f nan q k lo hi v = absurd v
pattern_of_kept f (inf s) q k lo hi v = absurd v
pattern_of_kept f (fin true m e) q k lo hi v = absurd (true≢false v.0)
pattern_of_kept f (fin false m e) q k lo hi v =
    let in-units : m * up e * 2 ^ low f / down e ≡ q * 2 ^ k = ap (λ (z : ℕ). z / down e) v.1 ∙ mul-div_cancel (q * 2 ^ k) (down_pos e) in
    ap (λ (z : ℕ). 0 + (size z - prec f) * hid f + z / 2 ^ (size z - prec f)) in-units
    ∙ ap (λ (z : ℕ). z + q * 2 ^ k / 2 ^ (size (q * 2 ^ k) - prec f)) (zero-add ((size (q * 2 ^ k) - prec f) * hid f))
    ∙ subst (λ (z : ℕ). (size (q * 2 ^ k) - z) * hid f + q * 2 ^ k / 2 ^ (size (q * 2 ^ k) - z) ≡ k * hid f + q) (one_more f)
    (fields (prec f - 1) q k lo (subst (λ (z : ℕ). q ≤ 2 ^ z) (sym (one_more f)) hi))

-- ---- the kept digits of n, and the nearest float from them

module _ (f : Format) (n j k : ℕ) (lo : 2 ^ j ≤ n) (hi : n < 2 ^ suc j) (e : suc j ≡ prec f + k) where
  pub quotient_lt : n / 2 ^ k < 2 ^ prec f
  quotient_lt = shr_lt (prec f) k (subst (λ (z : ℕ). n < 2 ^ z) e hi)

  pub kept_le : closest n (2 ^ k) ≤ 2 ^ prec f
  kept_le = le_trans (nearest-le (n / 2 ^ k) (compare (n % 2 ^ k * 2) (2 ^ k))) quotient_lt

  leading : 2 ^ (prec f - 1) * 2 ^ k ≤ n
  leading = le_trans (le_of_eq (sym (pow-add 2 (prec f - 1) k) ∙ ap (λ (z : ℕ). 2 ^ z) (place j (prec f) k (two f) e))) lo
    where
      place : (i p m : ℕ) → 2 ≤ p → suc i ≡ p + m → p - 1 + m ≡ i
      place i p m h g = omega arith

  kept_ge : 2 ^ (prec f - 1) ≤ closest n (2 ^ k)
  kept_ge = le_trans ((le-div_iff_mul-le (pow_pos k)).1 leading) (nearest-ge (n / 2 ^ k) (compare (n % 2 ^ k * 2) (2 ^ k)))

  pub nearest_by_pattern : prec f + k ≤ emax f → of_bits f ((k + low f) * hid f + closest n (2 ^ k)) ≡ round f false n 1
  nearest_by_pattern h =
      let q = closest n (2 ^ k) in
      let i = k + low f in
      let room : q * 2 ^ i < 2 ^ (low f + suc (emax f)) =
      lt_of_le_of_lt (mul-le-mul_right (2 ^ i) kept_le) (lt_of_le_of_lt (le_of_eq (sym (pow-add 2 (prec f) i))) (pow-lt (below (prec f) k (low f) (emax f) h))) in
      let v : HasValue (round f false n 1) false (q * 2 ^ i) (2 ^ low f) =
      subst (λ (x : Float). HasValue x false (q * 2 ^ i) (2 ^ low f)) (sym (keeps_leading_digits f n j k lo hi e)) (units_val f false q i room) in
      ap (of_bits f) (sym (pattern_of_kept f (round f false n 1) q i kept_ge kept_le v)) ∙ of_bits-to_bits f (round f false n 1) (round-fits f false n 1)
    where
      below : (p m l x : ℕ) → p + m ≤ x → p + (m + l) < l + suc x
      below p m l x g = omega arith
