-- A part of a list that was lent and comes back in its place: `placed`. Assumes nothing.
use mathlib.Core.Path.{◌≡◌, sym, ◌∙◌}
use mathlib.Core.List.{List, ◌++◌, append_assoc}
use Prim.Native.Nat.{ℕ, ◌+◌, ◌-◌, ◌≤◌}
use native.Mathlib.Nat.{zero-add}
use native.Mathlib.Omega.{arith}
use lib.ListN.{length, take, drop, replicate, length-replicate}
use lib.Seq.{take_all}
use borrow.Rule.Slice.PartMut.{put_mid}
use Rattle.std.specs.List.{copy_within}
use Rattle.model.specs.Bytes.{part, placed}
use Rattle.model.proofs.PlacedLaws.{part_length, put_back}
use Rattle.areas.specs.Parts.{moved}

-- a part was lent, and as many come back
pub part_put_back : {A : Type 0} (at n : ℕ) (xs ys : List A) → at + n ≤ length xs → length ys ≡ length (part at n xs) → put_mid at n xs ys ≡ placed at ys xs
part_put_back at n xs ys inside as_long = put_back at n xs ys (as_long ∙ part_length at n xs inside)

-- the same where they get as many of another list from `from` on
pub part_put : {A : Type 0} (to n from : ℕ) (xs ys zs : List A) → from + n ≤ length ys → zs ≡ part from (from + n - from) ys
    → put_mid to (to + n - to) xs zs ≡ placed to (part from n ys) xs
part_put to n from xs ys zs fits is =
    let read : from + n - from ≡ n = omega arith in
    let written : to + n - to ≡ n = omega arith in
    rw (is, read, written) (put_back to n xs (part from n ys) (part_length from n ys fits))

-- the same at the front
pub front_put : {A : Type 0} (n from : ℕ) (xs ys zs : List A) → from + n ≤ length ys → zs ≡ part from (from + n - from) ys → zs ++ drop n xs ≡ placed 0 (part from n ys) xs
unfolding placed
front_put n from xs ys zs fits is =
    let read : from + n - from ≡ n = omega arith in
    rw (is, read, zero-add (length (part from n ys)), part_length from n ys fits)

-- the same where each of them was written with x
pub all_put : {A : Type 0} (at n i : ℕ) (x : A) (xs ys : List A) → length ys ≡ n → i ≡ n → take i ys ≡ replicate i x
    → put_mid at (at + n - at) xs ys ≡ placed at (replicate n x) xs
all_put at n i x xs ys as_long all written =
    let same : at + n - at ≡ n = omega arith in
    let whole : ys ≡ replicate n x = sym (take_all n ys (omega arith)) ∙ rw all at written in
    rw (whole, same) (put_back at n xs (replicate n x) (length-replicate n x))

-- `copy_within` is a move
pub copied_within : {A : Type 0} (to n from : ℕ) (xs : List A) → from + n ≤ length xs → copy_within xs from (from + n) to ≡ moved from to n xs
unfolding placed
copied_within to n from xs fits =
    let same : from + n - from ≡ n = omega arith in
    let as_long : length (part from n xs) ≡ n = part_length from n xs fits in
    rw (same, as_long, append_assoc (take to xs))
