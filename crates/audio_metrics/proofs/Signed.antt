-- Ranges of signed sums, differences and quotients, by their magnitudes; and a step between two numbers stays in their range. Assumes nothing.
use Rattle.std.proofs.Common.{◌≡◌, ℕ, zero, suc, ◌+◌, ◌-◌, ◌/◌, ◌^◌, ◌<◌, ◌≤◌, true, false, ltb, ℤ, pos, negsuc, ◌+ℤ◌, ◌-ℤ◌, neg_ℤ, nat_abs, refl, ap, ◌∙◌, div-le_self, arith, w64, SFits, to_z, of_z, ltb-true, le-leb, leb-true}
use mathlib.Core.Bool.{false≢true}
use lib.IntN.{sub_ℕ}
use lib.Signed.{mag, le_z, lt_z, quot_z}
use mir.ValLaws.{to_z-of_z}
use Rattle.model.specs.Clock.{step_toward}
use Rattle.model.proofs.BoolLaws.{cond_keeps}
use Rattle.model.proofs.StepLaws.{step_above, step_below}

-- ---- magnitudes

mag_difference : (H a b : ℕ) → a ≤ H → b ≤ suc H → mag (sub_ℕ a b) ≤ H
mag_difference H a b p q =
    cond_keeps (λ (z : ℤ). mag z ≤ H) (ltb a b) (negsuc (b - suc a)) (pos (a - b)) (λ e. omega (arith, ltb-true a b e)) (λ e. omega arith)

pub mag_sub : (a b : ℤ) → mag (a -ℤ b) ≤ mag a + mag b + 1
mag_sub (pos a) (pos (suc b)) = mag_difference (a + suc b + 1) a (suc b) (omega arith) (omega arith)
mag_sub (negsuc a) (pos zero) = mag_difference (a + 0 + 1) 0 (suc a) (omega arith) (omega arith)
mag_sub (negsuc a) (negsuc b) = mag_difference (a + b + 1) (suc b) (suc a) (omega arith) (omega arith)
mag_sub _ _ = omega arith

mag_minus : (n : ℕ) {a : ℕ} → n ≤ suc a → mag (neg_ℤ (pos n)) ≤ a
mag_minus zero h = omega arith
mag_minus (suc n) h = omega arith

pub mag_quot : (a : ℤ) (n : ℕ) → mag (quot_z a (pos n)) ≤ mag a
mag_quot (pos a) n = div-le_self a n
mag_quot (negsuc a) n = mag_minus (suc a / n) (div-le_self (suc a) n)

-- a magnitude of at most H is a number from −(H + 1) to H
pub mag_above : (H : ℕ) (z : ℤ) → mag z ≤ H → le_z (negsuc H) z ≡ true
mag_above H (pos n) h = refl
mag_above H (negsuc n) h = le-leb n H h

pub mag_below : (H : ℕ) (z : ℤ) → mag z ≤ H → le_z z (pos H) ≡ true
mag_below H (pos n) h = le-leb n H h
mag_below H (negsuc n) h = refl

pub mag_within : (H : ℕ) (z : ℤ) → le_z (negsuc H) z ≡ true → le_z z (pos H) ≡ true → mag z ≤ H
mag_within H (pos n) l h = leb-true n H h
mag_within H (negsuc n) l h = leb-true n H l

pub fits_wide_law : {z : ℤ} → mag z < 2 ^ 62 → SFits w64 z
fits_wide_law h = record { sfits = omega arith }

-- ---- a step

-- a divisor above 1 is its magnitude
pub positive : (n : ℤ) → lt_z (pos 1) n ≡ true → n ≡ pos (nat_abs n)
positive (pos n) h = refl
positive (negsuc n) h = absurd (false≢true h)

-- the difference, its quotient and the step fit 64 bits
module _ (n : ℕ) (old new : ℤ) (o : mag old < 2 ^ 62) (w : mag new < 2 ^ 62) where
  pub difference_fits : SFits w64 (new -ℤ old)
  difference_fits = record { sfits = omega (arith, mag_sub new old) }

  pub quotient_fits : SFits w64 (quot_z (new -ℤ old) (pos n))
  quotient_fits = record { sfits = omega (arith, mag_sub new old, mag_quot (new -ℤ old) n) }

  pub step_below_62 : mag (step_toward n old new) < 2 ^ 62
  step_below_62 =
      let H : ℕ = 2 ^ 62 - 1 in
      let p : mag old ≤ H = omega arith in
      let q : mag new ≤ H = omega arith in
      let m =
      mag_within H (step_toward n old new)
      (step_above (negsuc H) n old new (mag_above H old p) (mag_above H new q))
      (step_below (pos H) n old new (mag_below H old p) (mag_below H new q)) in
      omega (arith, m)

  pub step_fits : SFits w64 (old +ℤ quot_z (new -ℤ old) (pos n))
  unfolding step_toward
  step_fits = record { sfits = omega (arith, step_below_62) }

-- ---- the same, as the machine reads it back from its bits

module _ (n old new : ℤ) (fn : SFits w64 n) (fo : SFits w64 old) (fw : SFits w64 new) (p : lt_z (pos 1) n ≡ true) (o : mag old < 2 ^ 62) (w : mag new < 2 ^ 62) where
  pub quotient_read : to_z w64 (of_z w64 (quot_z (to_z w64 (of_z w64 (to_z w64 (of_z w64 new) -ℤ to_z w64 (of_z w64 old)))) (to_z w64 (of_z w64 n))))
      ≡ quot_z (new -ℤ old) (pos (nat_abs n))
  quotient_read =
      rw (to_z-of_z w64 new fw, to_z-of_z w64 old fo, to_z-of_z w64 n fn, to_z-of_z w64 (new -ℤ old) (difference_fits 1 old new o w))
      (ap (λ (m : ℤ). to_z w64 (of_z w64 (quot_z (new -ℤ old) m))) (positive n p) ∙ to_z-of_z w64 (quot_z (new -ℤ old) (pos (nat_abs n))) (quotient_fits (nat_abs n) old new o w))
