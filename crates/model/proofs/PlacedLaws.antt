-- A part of a list, and a list written into another at a place: nothing, one list behind or before another, and a part that was lent. Assumes nothing.
use Prim.Native.Nat.{ℕ, ◌+◌, ◌-◌, ◌≤◌}
use mathlib.Core.Path.{◌≡◌, sym, ap, ◌∙◌}
use mathlib.Core.List.{List, [], ◌++◌, append_assoc}
use native.Mathlib.Omega.{arith}
use native.Mathlib.Nat.{add-zero, add_assoc}
use lib.ListN.{length, take, drop, length-append, length-take, length-drop, take-append-drop}
use lib.Seq.{take_at, take-take, take-append-le, drop_at, drop-drop, drop-append-add, length-take-le}
use borrow.Rule.Slice.PartMut.{put_mid}
use Rattle.std.proofs.lemmas.List.{drop-take}
use Rattle.model.specs.Bytes.{part, placed}

module _ {ℓ} {A : Type ℓ} where
  pub part_length : (at n : ℕ) (xs : List A) → at + n ≤ length xs → length (part at n xs) ≡ n
  part_length at n xs fits = simp (length-take, length-drop) (omega arith)

  pub take_part : (at n m : ℕ) (xs : List A) → n ≤ m → take n (part at m xs) ≡ part at n xs
  take_part at n m xs l = take-take n m (drop at xs) l

  pub none_placed : (at : ℕ) (xs : List A) → placed at [] xs ≡ xs
  unfolding placed
  none_placed at xs = rw (add-zero at, take-append-drop)

  -- what is written first and what is written behind it are written together
  pub placed_append : (at : ℕ) (ys zs xs : List A) → at + length ys ≤ length xs → placed (at + length ys) zs (placed at ys xs) ≡ placed at (ys ++ zs) xs
  unfolding placed
  placed_append at ys zs xs fits =
      let front : length (take at xs ++ ys) ≡ at + length ys = simp (length-append, length-take) (omega arith) in
      let behind : drop (at + length ys + length zs) ((take at xs ++ ys) ++ drop (at + length ys) xs) ≡ drop (at + length ys + length zs) xs =
      rw (ap (λ (n : ℕ). n + length zs) (sym front), drop-append-add (take at xs ++ ys) (drop (at + length ys) xs) (length zs), drop-drop (length zs) (at + length ys) xs, front) in
      rw (
        ← append_assoc (take at xs) ys (drop (at + length ys) xs),
        take_at (take at xs ++ ys) (drop (at + length ys) xs) (at + length ys) front,
        behind,
        length-append ys zs,
        append_assoc (take at xs) ys,
        append_assoc ys zs,
        ← add_assoc at (length ys) (length zs),
      )

  -- and so are what is written first and what is written before it
  pub placed_ahead : (at : ℕ) (ys zs xs : List A) → at + length ys ≤ length xs → placed at ys (placed (at + length ys) zs xs) ≡ placed at (ys ++ zs) xs
  unfolding placed
  placed_ahead at ys zs xs fits =
      let l : length (take (at + length ys) xs) ≡ at + length ys = length-take-le (at + length ys) xs fits in
      rw (
        take-append-le at (take (at + length ys) xs) (zs ++ drop (at + length ys + length zs) xs) (omega arith),
        take-take at (at + length ys) xs (omega arith),
        drop_at (take (at + length ys) xs) (zs ++ drop (at + length ys + length zs) xs) (at + length ys) l,
        length-append ys zs,
        append_assoc ys zs,
        ← add_assoc at (length ys) (length zs),
      )

pub drop_part : {A : Type 0} (at n m : ℕ) (xs : List A) → n ≤ m → drop n (part at m xs) ≡ part (at + n) (m - n) xs
drop_part {A} at n m xs l =
    let sum : m ≡ n + (m - n) = omega arith in
    ap (λ (k : ℕ). drop n (take k (drop at xs))) sum ∙ drop-take n (m - n) (drop at xs) ∙ ap (λ (ys : List A). take (m - n) ys) (drop-drop n at xs)

-- n places from `at` on were lent, and as many come back
pub put_back : {A : Type 0} (at n : ℕ) (xs ys : List A) → length ys ≡ n → put_mid at n xs ys ≡ placed at ys xs
unfolding placed
put_back at n xs ys as_long = rw (as_long, drop-drop n at xs)
