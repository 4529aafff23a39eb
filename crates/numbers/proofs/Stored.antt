-- Values stored one after the other, as far as a slice goes. Assumes nothing.
use Prim.Native.Nat.{ℕ, suc, ◌+◌, ◌-◌, ◌≤◌, min}
use mathlib.Core.Path.{◌≡◌, refl, sym, ◌∙◌, ap}
use mathlib.Core.Bool.{Bool, true, false}
use mathlib.Core.List.{List, [], ◌∷◌, ◌++◌, append_assoc}
use native.Mathlib.Nat.{add-zero}
use native.Mathlib.Omega.{arith}
use lib.ListN.{length, take, drop, set, length-take, length-drop, take-append-drop}
use lib.Dec.{leb}
use borrow.Author.Tests.{leb-true, leb-false}
use lib.Seq.{sets, length-sets, set_out, take_all, drop-drop}
use borrow.Rule.Slice.PartMut.{put_mid}
use Rattle.std.proofs.lemmas.List.Edits.{sets-eq}

-- the values from a place on
pub rest_is : {A : Type 0} (w : List A) (at : ℕ) → take (length w - at) (drop at w) ≡ drop at w
rest_is w at = take_all (length w - at) (drop at w) (omega (arith, length-drop at w))

sets_append : {A : Type 0} (w : List A) (at : ℕ) (xs ys : List A) → sets (sets w at xs) (at + length xs) ys ≡ sets w at (xs ++ ys)
sets_append w at [] ys = ap (λ (i : ℕ). sets w i ys) (add-zero at)
sets_append w at (x ∷ xs) ys = ap (λ (i : ℕ). sets (sets (set w at x) (suc at) xs) i ys) (omega arith) ∙ sets_append (set w at x) (suc at) xs ys

-- nothing is stored behind the end
pub sets_past : {A : Type 0} (w : List A) (at : ℕ) (xs : List A) → length w ≤ at → sets w at xs ≡ w
sets_past w at [] past = refl
sets_past w at (x ∷ xs) past = rw (set_out w at x past) (sets_past w (suc at) xs (omega arith))

-- values up to the end are all that are stored
sets_to_end : {A : Type 0} (w : List A) (at i : ℕ) (xs : List A) → i ≤ length xs → length w ≤ at + i → sets w at (take i xs) ≡ sets w at xs
sets_to_end w at i xs few past =
    let long : length (take i xs) ≡ i = simp length-take (omega arith) in
    let rest = rw (long, take-append-drop i xs) at (sets_append w at (take i xs) (drop i xs)) in
    sym (sets_past (sets w at (take i xs)) (at + i) (drop i xs) (rw (length-sets w at (take i xs)) past)) ∙ rest

-- as many values as fit are all that are stored
pub sets_fitting : {A : Type 0} (w : List A) (at i : ℕ) (xs : List A) → at ≤ length w → i ≡ min (length xs) (length w - at) → sets w at (take i xs) ≡ sets w at xs
sets_fitting w at i xs inside is = whether (leb (length xs) (length w - at)) refl
  where
    whether : (b : Bool) → leb (length xs) (length w - at) ≡ b → sets w at (take i xs) ≡ sets w at xs
    whether true e = ap (sets w at) (take_all i xs (omega (arith, leb-true (length xs) (length w - at) e)))
    whether false e = let more = leb-false (length xs) (length w - at) e in sets_to_end w at i xs (omega arith) (omega arith)

-- a part that is overwritten by as many values as it has
pub sets_of_part : {A : Type 0} (w xs : List A) (at k : ℕ) → at + k ≤ length w → length xs ≡ k → put_mid at k w xs ≡ sets w at xs
sets_of_part w xs at k inside long = rw (sets-eq xs w at (omega arith), long, drop-drop k at w, append_assoc)

-- values stored right behind the first k
pub then : {A : Type 0} (w xs : List A) {v v' ys zs : List A} (k : ℕ) → length xs ≡ k → v ≡ sets w 0 xs → v' ≡ sets v k zs → zs ≡ ys → v' ≡ sets w 0 (xs ++ ys)
then w xs {ys = ys} k long before stored same =
    let at-end : 0 + length xs ≡ k = omega arith in
    (rw (before, same) at stored) ∙ (rw at-end at (sets_append w 0 xs ys))
