-- The values up to the first that is not finite, as a loop passes them. Assumes nothing.
use mathlib.Core.Path.{◌≡◌, refl, ◌∙◌, ap}
use mathlib.Core.Bool.{true, false}
use mathlib.Core.List.{List, [], ◌∷◌, ◌++◌, append-nil, append_assoc}
use Prim.Native.Nat.{ℕ, zero, suc, ◌+◌, ◌≤◌, ◌<◌}
use native.Mathlib.Omega.{arith}
use native.Mathlib.Numerals.{add-one}
use lib.ListN.{length, take, drop, get_or, set, drop_of_length-le}
use lib.Seq.{take-suc, drop-cons}
use lib.Ieee.{Float}
use Rattle.model.specs.Floats.{finite}
use Rattle.model.specs.Row.{finite_prefix}
use Rattle.model.proofs.BoolLaws.{by_test}

-- the first j values are finite: the prefix goes on behind them
abbrev pub PrefixPast : List Float → ℕ → Type 0
PrefixPast xs j = finite_prefix xs ≡ take j xs ++ finite_prefix (drop j xs)

module _ (xs : List Float) (j : ℕ) (past : PrefixPast xs j) where
  pub prefix_ends : length xs ≤ j → finite_prefix xs ≡ take j xs
  unfolding finite_prefix
  prefix_ends h = past ∙ rw (drop_of_length-le xs {i = j} h) (append-nil _)

  module _ (d : Float) (h : j < length xs) where
    pub prefix_goes_on : finite (get_or xs j d) ≡ true → PrefixPast xs (j + 1)
    unfolding finite_prefix
    prefix_goes_on is_finite = past ∙ rw (drop-cons xs j d h, is_finite, add-one j, take-suc xs j d h, append_assoc)

    pub prefix_stops : finite (get_or xs j d) ≡ false → finite_prefix xs ≡ take j xs
    unfolding finite_prefix
    prefix_stops not-Finite = past ∙ rw (drop-cons xs j d h, not-Finite) (append-nil _)

-- a prefix as long as the whole is the whole
pub whole_prefix : (xs : List Float) → length (finite_prefix xs) ≡ length xs → finite_prefix xs ≡ xs
unfolding finite_prefix
whole_prefix [] e = refl
whole_prefix (x ∷ xs) e =
    by_test (finite x)
    (λ is_finite.
    let long : suc (length (finite_prefix xs)) ≡ suc (length xs) = rw is_finite at e in
    rw is_finite (ap (λ (ys : List Float). x ∷ ys) (whole_prefix xs (omega arith))))
    (λ not-Finite.
    let none : 0 ≡ suc (length xs) = rw not-Finite at e in
    absurd (omega arith))

-- ---- a loop that stores them in front

-- one value more
pub front_more : (j : ℕ) (values entry : List Float) (d : Float) → j < length values → j < length entry
    → set (take j values ++ drop j entry) j (get_or values j d) ≡ take (suc j) values ++ drop (suc j) entry
front_more j [] entry d h fits = absurd (omega arith)
front_more j (v ∷ values) [] d h fits = absurd (omega arith)
front_more zero (v ∷ values) (x ∷ entry) d h fits = refl
front_more (suc j) (v ∷ values) (x ∷ entry) d h fits = ap (λ (zs : List Float). v ∷ zs) (front_more j values entry d (omega arith) (omega arith))
