-- A list whose first elements are drawn by a rule of their places, one after the other; and the picture of a drawn row over rows that moved down. Assumes nothing.
use mathlib.Core.Path.{◌≡◌, refl, sym, ◌∙◌, ap}
use mathlib.Core.List.{List, [], ◌∷◌, ◌++◌, map, append-nil}
use Prim.Native.Nat.{ℕ, zero, suc, ◌+◌, ◌<◌}
use native.Mathlib.Omega.{arith}
use native.Mathlib.Nat.{zero-add}
use lib.ListN.{length, take, drop, set, length-map, drop_of_length-le}
use native.Mathlib.Numerals.{add-one}
use lib.Seq.{take-suc-set, take_all, drop_at, length-take-le}
use Rattle.std.proofs.lemmas.List.{map-append}
use Rattle.model.specs.Bytes.{part, placed}
use Rattle.model.specs.Picture.{count_from}
use Rattle.model.proofs.ListLaws.{count_from_length}

count_from_snoc : (i n : ℕ) → count_from i (suc n) ≡ count_from i n ++ ((i + n) ∷ [])
unfolding count_from
count_from_snoc i zero = ap (λ (k : ℕ). k ∷ []) (omega arith)
count_from_snoc i (suc n) =
    let same : suc i + n ≡ i + suc n = omega arith in
    ap (λ (rest : List ℕ). i ∷ rest) (count_from_snoc (suc i) n ∙ ap (λ (k : ℕ). count_from (suc i) n ++ (k ∷ [])) same)

-- the first n elements drawn
abbrev pub drawn : (ℕ → ℕ) → ℕ → List ℕ
drawn f n = map f (count_from 0 n)

pub drawn_length : (f : ℕ → ℕ) (n : ℕ) → length (drawn f n) ≡ n
drawn_length f n = length-map (count_from 0 n) f ∙ count_from_length 0 n

drawn_snoc : (f : ℕ → ℕ) (n : ℕ) → drawn f (suc n) ≡ drawn f n ++ (f n ∷ [])
drawn_snoc f n =
    let same : 0 + n ≡ n = omega arith in
    rw (count_from_snoc 0 n, map-append f (count_from 0 n) ((0 + n) ∷ []), same)

-- by two rules that agree on the first n places
pub drawn_same : (f g : ℕ → ℕ) (n : ℕ) → ((x : ℕ) → x < n → f x ≡ g x) → drawn f n ≡ drawn g n
unfolding count_from
drawn_same f g zero same = refl
drawn_same f g (suc n) same =
    let before = drawn_same f g n (λ x h. same x (omega arith)) in
    rw (drawn_snoc f n, drawn_snoc g n, before, same n (omega arith))

pub front : (ys xs : List ℕ) → placed 0 ys xs ≡ ys ++ drop (length ys) xs
unfolding placed
front ys xs = rw (zero-add (length ys))

pub drawn_none : (f : ℕ → ℕ) → [] ≡ drawn f 0
unfolding count_from
drawn_none f = refl

-- one element more
pub drawn_suc : (f : ℕ → ℕ) (n : ℕ) (xs : List ℕ) → n < length xs → take n xs ≡ drawn f n → take (n + 1) (set xs n (f n)) ≡ drawn f (n + 1)
drawn_suc f n xs h e = rw (add-one n, take-suc-set xs n (f n) h, e, drawn_snoc f n)

-- all of them, over the front of a list
pub all_drawn : (f : ℕ → ℕ) (n i : ℕ) (ys xs : List ℕ) → length ys ≡ n → i ≡ n → take i ys ≡ drawn f i → ys ++ drop n xs ≡ placed 0 (drawn f n) xs
all_drawn f n i ys xs as_long all e =
    let whole : ys ≡ drawn f n = sym (take_all n ys (omega arith)) ∙ rw all at e in
    rw (whole, front (drawn f n) xs, drawn_length f n)

-- rows that moved down by one row of w, under a drawn row
pub drawn_over : (top xs : List ℕ) (w n : ℕ) → length top ≡ w → length xs ≡ w + n → placed 0 top (placed w (part 0 n xs) xs) ≡ top ++ take n xs
unfolding placed
drawn_over top xs w n t l =
    let rest = take n xs ++ drop (w + length (take n xs)) xs in
    let first : length (take w xs) ≡ w = length-take-le w xs (omega arith) in
    let some : length (take n xs) ≡ n = length-take-le n xs (omega arith) in
    rw (zero-add (length top), t, drop_at (take w xs) rest w first, some, drop_of_length-le xs {i = w + n} (omega arith), append-nil)
