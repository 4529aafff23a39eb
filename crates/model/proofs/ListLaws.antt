-- Laws of any list: a test of every element, a list by its elements, lists that begin alike, and lengths of what is pasted, zipped and counted. Assumes nothing.
use Prim.Native.Nat.{ℕ, zero, suc, ◌+◌, ◌≤◌}
use mathlib.Core.Path.{◌≡◌, refl, sym, ap, ◌∙◌}
use mathlib.Core.Bool.{Bool, true, ◌&&◌}
use mathlib.Core.List.{List, [], ◌∷◌, ◌++◌, zip_with, append_cancel_left}
use native.Mathlib.Omega.{arith}
use lib.ListN.{length, take, drop, get_or, replicate, drop_of_length-le, length-append, length-take, length-drop}
use lib.Seq.{drop-cons, take-take, take-add, take-append-add}
use Rattle.std.specs.List.{list_all}
use Rattle.model.specs.Bytes.{placed, all}
use Rattle.model.specs.Picture.{count_from}
use Rattle.model.proofs.BoolLaws.{both_and, first_of_both, second_of_both}

-- ---- every element

module _ {ℓ} {A : Type ℓ} (f : A → Bool) where
  pub all_cons : (x : A) (xs : List A) → f x ≡ true → all f xs ≡ true → all f (x ∷ xs) ≡ true
  unfolding all
  all_cons x xs p q = both_and p q

  pub all_head : (x : A) (xs : List A) → all f (x ∷ xs) ≡ true → f x ≡ true
  unfolding all
  all_head x xs e = first_of_both (f x) (all f xs) e

  pub all_tail : (x : A) (xs : List A) → all f (x ∷ xs) ≡ true → all f xs ≡ true
  unfolding all
  all_tail x xs e = second_of_both (f x) (all f xs) e

  pub all_append : (xs ys : List A) → all f xs ≡ true → all f ys ≡ true → all f (xs ++ ys) ≡ true
  all_append [] ys p q = q
  all_append (x ∷ xs) ys p q = all_cons x (xs ++ ys) (all_head x xs p) (all_append xs ys (all_tail x xs p) q)

  pub all_take : (n : ℕ) (xs : List A) → all f xs ≡ true → all f (take n xs) ≡ true
  unfolding all
  all_take zero xs e = refl
  all_take (suc n) [] e = refl
  all_take (suc n) (x ∷ xs) e = all_cons x (take n xs) (all_head x xs e) (all_take n xs (all_tail x xs e))

  pub all_drop : (n : ℕ) (xs : List A) → all f xs ≡ true → all f (drop n xs) ≡ true
  all_drop zero xs e = e
  all_drop (suc n) [] e = e
  all_drop (suc n) (x ∷ xs) e = all_drop n xs (all_tail x xs e)

  pub all_replicate : (n : ℕ) (a : A) → f a ≡ true → all f (replicate n a) ≡ true
  unfolding all
  all_replicate zero a e = refl
  all_replicate (suc n) a e = all_cons a (replicate n a) e (all_replicate n a e)

  pub all_get_d : (xs : List A) (i : ℕ) (d : A) → f d ≡ true → all f xs ≡ true → f (get_or xs i d) ≡ true
  all_get_d [] i d p e = p
  all_get_d (x ∷ xs) zero d p e = all_head x xs e
  all_get_d (x ∷ xs) (suc i) d p e = all_get_d xs i d p (all_tail x xs e)

-- the library's test of every element is the model's
pub all_is_list_all : {A : Type 0} (f : A → Bool) (xs : List A) → list_all f xs ≡ all f xs
unfolding all
all_is_list_all f [] = refl
all_is_list_all f (x ∷ xs) = ap (λ (b : Bool). f x && b) (all_is_list_all f xs)

-- ---- a list by its elements

module _ {ℓ} {A : Type ℓ} where
  -- the k elements from i on
  abbrev pub cells_from : A → ℕ → ℕ → List A → List A
  cells_from d i zero xs = []
  cells_from d i (suc k) xs = get_or xs i d ∷ cells_from d (suc i) k xs

  pub cells_from_drop : (d : A) (i k : ℕ) (xs : List A) → i + k ≡ length xs → cells_from d i k xs ≡ drop i xs
  cells_from_drop d i zero xs e = sym (drop_of_length-le xs {i = i} (omega arith))
  cells_from_drop d i (suc k) xs e = rw (drop-cons xs i d (omega arith), cells_from_drop d (suc i) k xs (omega arith))

  pub list_by_cells : (d : A) (k : ℕ) (xs : List A) → length xs ≡ k → xs ≡ cells_from d 0 k xs
  list_by_cells d k xs e = sym (cells_from_drop d 0 k xs (omega arith))

-- ---- lists that begin alike

module _ {ℓ} {A : Type ℓ} where
  pub alike_shorter : (m n : ℕ) (xs ys : List A) → m ≤ n → take n xs ≡ take n ys → take m xs ≡ take m ys
  alike_shorter m n xs ys l e = sym (take-take m n xs l) ∙ ap (λ (zs : List A). take m zs) e ∙ take-take m n ys l

  pub alike_behind : (n m : ℕ) (xs ys : List A) → take (n + m) xs ≡ take (n + m) ys → take m (drop n xs) ≡ take m (drop n ys)
  alike_behind n m xs ys e =
      let front : take n xs ≡ take n ys = alike_shorter n (n + m) xs ys (omega arith) e in
      append_cancel_left (take n xs) (take m (drop n xs)) (take m (drop n ys)) (rw (← take-add n m xs, front, ← take-add n m ys) e)

  pub alike_appended : (xs ys zs : List A) (m : ℕ) → take m ys ≡ take m zs → take (length xs + m) (xs ++ ys) ≡ take (length xs + m) (xs ++ zs)
  alike_appended xs ys zs m e = rw (take-append-add xs ys m, take-append-add xs zs m, e)

  -- a list that begins as w ∷ xs does
  pub alike_cons : (w : A) (xs ys : List A) (n : ℕ) → take (suc n) ys ≡ take (suc n) (w ∷ xs) → (rest : List A) × (ys ≡ w ∷ rest) × (take n rest ≡ take n xs)
  alike_cons w xs [] n e = cc
  alike_cons w xs (y ∷ ys) n e = (ys, cc, cc)

  pub alike_long : (n : ℕ) (xs ys : List A) → n ≤ length xs → take n ys ≡ take n xs → n ≤ length ys
  alike_long n xs ys l e = omega (arith, length-take n ys, length-take n xs, ap length e)

-- ---- lengths

module _ {ℓ} {A : Type ℓ} where
  pub placed_length : (at : ℕ) (ys xs : List A) → at + length ys ≤ length xs → length (placed at ys xs) ≡ length xs
  unfolding placed
  placed_length at ys xs fits = simp (length-append, length-take, length-drop) (omega arith)

pub zip_with_length {ℓ κ μ} : {A : Type ℓ} {B : Type κ} {C : Type μ} (f : A → B → C) (xs : List A) (ys : List B)
    → length xs ≡ length ys → length (zip_with f xs ys) ≡ length ys
unfolding zip_with
zip_with_length f (x ∷ xs) (y ∷ ys) same = ap suc (zip_with_length f xs ys (omega arith))
zip_with_length f [] ys same = same
zip_with_length f (x ∷ xs) [] same = refl

pub count_from_length : (i n : ℕ) → length (count_from i n) ≡ n
unfolding count_from
count_from_length i zero = refl
count_from_length i (suc n) = ap suc (count_from_length (suc i) n)
