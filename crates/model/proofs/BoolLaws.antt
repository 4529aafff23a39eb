-- Tests that hold together, what follows whichever way a test goes, and what a choice keeps. Assumes nothing.
use mathlib.Core.Path.{◌≡◌, refl}
use mathlib.Core.Bool.{Bool, true, false, ◌&&◌, ◌||◌, cond, beq, and-eq-true_iff}

-- a test goes one way or the other, with the equation kept
pub by_test {ℓ} : {P : Type ℓ} (b : Bool) → (b ≡ true → P) → (b ≡ false → P) → P
by_test true yes-case no-case = yes-case refl
by_test false yes-case no-case = no-case refl

pub both_and : {a b : Bool} → a ≡ true → b ≡ true → (a && b) ≡ true
both_and {a} {b} p q = (and-eq-true_iff a b).1 (p, q)

pub first_of_both : (a b : Bool) → a && b ≡ true → a ≡ true
first_of_both a b e = ((and-eq-true_iff a b).0 e).0

pub second_of_both : (a b : Bool) → a && b ≡ true → b ≡ true
second_of_both a b e = ((and-eq-true_iff a b).0 e).1

pub neither_first : (a b : Bool) → (a || b) ≡ false → a ≡ false
neither_first true b p = p
neither_first false b p = refl

-- what holds of both arms, each under its test, holds of the choice
pub cond_keeps {ℓ κ} : {A : Type ℓ} (P : A → Type κ) (b : Bool) (x y : A) → (b ≡ true → P x) → (b ≡ false → P y) → P (cond b x y)
cond_keeps P true x y yes' no' = yes' refl
cond_keeps P false x y yes' no' = no' refl

pub beq_equal : (a b : Bool) → beq a b ≡ true → a ≡ b
beq_equal true true e = refl
beq_equal false false e = refl
beq_equal _ _ e = cc

pub beq_same : {a b : Bool} → a ≡ b → beq a b ≡ true
beq_same {a} {b} p = rw p (beq_self b)
  where
    beq_self : (c : Bool) → beq c c ≡ true
    beq_self true = refl
    beq_self false = refl
