-- A float from 2 ^ 23 on is whole, and so is a zero: rounding it to whole changes nothing. Assumes nothing.
use Rattle.std.proofs.Common.{◌≡◌, ℕ, zero, suc, ◌+◌, ◌*◌, ◌/◌, ◌^◌, ◌<◌, ◌≤◌, Bool, true, false, T, ℤ, pos, negsuc, sym, refl, ap, ◌∙◌, subst, zero-le, le_of_eq, lt_of_lt_of_le, lt_of_le_of_lt, zero-lt-suc, mul_assoc, mul_comm, mul-lt-mul_of_pos_right, zero-add, zero-mul, mul-one, arith, pow_pos, pow-add, ltb-false}
use native.Mathlib.Nat.{div-eq_of_lt, pow-succ'}
use lib.Ieee.{Float, nan, inf, fin, Format, binary32, emax, low, up, down, round, lt, fits}
use lib.Ieee.Fits.{down_pos, round-fits}
use lib.Ieee.Exact.{round_exact}
use lib.Ieee.Back.{round_whole, whole_unique}
use Rattle.model.specs.Floats.{f0, round_half_away}
use Rattle.floats.proofs.Saturate.{two_to, from_times}
use Rattle.floats.proofs.Doubling.{in_range}

-- what the format holds, rounded, is itself
held_rounds_to_itself : (f : Format) (s : Bool) (m k : ℕ) → T (fits f (fin s (suc m) (pos k))) → round f s (suc m * 2 ^ k) 1 ≡ fin s (suc m) (pos k)
held_rounds_to_itself f s m k t =
    let c = suc m * 2 ^ k in
    let l = low f in
    let r = in_range f s m (pos k) t in
    let spread : c * 2 ^ l ≡ suc m * 2 ^ (k + l) = mul_assoc (suc m) (2 ^ k) (2 ^ l) ∙ ap (λ (z : ℕ). suc m * z) (sym (pow-add 2 k l)) in
    let room : suc m * 2 ^ (k + l) < 2 ^ (l + suc (emax f)) =
    lt_of_le_of_lt (le_of_eq (sym spread)) (lt_of_lt_of_le (mul-lt-mul_of_pos_right r.2 (pow_pos l)) (le_of_eq (moved (2 ^ suc (emax f)) (2 ^ l) ∙ sym (pow-add 2 l (suc (emax f)))))) in
    whole_unique f (round f s c 1) (fin s (suc m) (pos k)) s c (round-fits f s c 1) t
    (round_exact f s c 1 (suc m) (k + l) (zero-lt-suc 0) r.0 room (spread ∙ sym (mul-one (suc m * 2 ^ (k + l)))))
    (refl, refl)
  where
    moved : (a b : ℕ) → a * 1 * b ≡ b * a
    moved a b = ap (λ (z : ℕ). z * b) (mul-one a) ∙ mul_comm a b

half_of_whole : (n : ℕ) → (2 * n + 1) / (2 * 1) ≡ n
half_of_whole n = omega arith

too_many_digits : (k m : ℕ) → 2 ^ 23 * 2 ^ suc k ≤ suc m * 1 → suc m < 2 ^ 24 → ⊥
too_many_digits k m h t = go (2 ^ k) (pow_pos k) (subst (λ (z : ℕ). 2 ^ 23 * z ≤ suc m * 1) (pow-succ' 2 k) h)
  where
    go : (p : ℕ) → 0 < p → 2 ^ 23 * (2 * p) ≤ suc m * 1 → ⊥
    go p q r = omega arith

large_stays : (s : Bool) (m : ℕ) (e : ℤ) → T (fits binary32 (fin s (suc m) e)) → 2 ^ 23 * down e ≤ suc m * up e → fin s (suc m) e ≡ round_half_away (fin s (suc m) e)
unfolding round_half_away
large_stays s m (pos k) t h = sym (ap (λ (z : ℕ). round binary32 s z 1) (half_of_whole (suc m * 2 ^ k)) ∙ held_rounds_to_itself binary32 s m k t)
large_stays s m (negsuc k) t h = absurd (too_many_digits k m h (in_range binary32 s m (negsuc k) t).0)

less_than_twice : (d : ℕ) → 0 < d → d < 2 * d
less_than_twice d h = omega arith

pub zero_stays : (s : Bool) (e : ℤ) → T (fits binary32 (fin s zero e)) → fin s zero e ≡ round_half_away (fin s zero e)
unfolding round_half_away
zero_stays s e t =
    let d = down e in
    let none : (2 * (0 * up e) + d) / (2 * d) ≡ 0 =
    ap (λ (z : ℕ). (2 * z + d) / (2 * d)) (zero-mul (up e)) ∙ ap (λ (z : ℕ). z / (2 * d)) (zero-add d) ∙ div-eq_of_lt (less_than_twice d (down_pos e)) in
    sym (ap (λ (z : ℕ). round binary32 s z 1) none
    ∙ whole_unique binary32 (round binary32 s 0 1) (fin s zero e) s 0 (round-fits binary32 s 0 1) t (round_whole binary32 s 0 zero-le) (refl, mul-one (0 * up e) ∙ zero-mul (up e) ∙ sym (zero-mul (down e))))

-- ---- by the tests of `floats::round_to_u8`, whose numbers are 0 and 2 ^ 23

pub large_positive_stays : (x : Float) → T (fits binary32 x) → lt f0 x ≡ true → lt x (two_to 23) ≡ false → x ≡ round_half_away x
unfolding lt
large_positive_stays nan t g h = cc
large_positive_stays (inf s) t g h = unfold round_half_away in refl
large_positive_stays (fin true m e) t g h = cc
large_positive_stays (fin false zero e) t g h = zero_stays false e t
large_positive_stays (fin false (suc m) e) t g h = large_stays false m e t (from_times (suc m * up e) (2 ^ 23) (down e) (ltb-false (suc m * up e * 1) (1 * 2 ^ 23 * down e) h))
