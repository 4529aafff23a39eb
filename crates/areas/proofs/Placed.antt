-- Laws of `placed`: what stands at a place of it, in a part of it, and after one write more, upwards or downwards. Assumes nothing.
use mathlib.Core.Path.{◌≡◌, sym, ◌∙◌, ap}
use mathlib.Core.List.{List, [], ◌∷◌, ◌++◌, append_assoc}
use Prim.Native.Nat.{ℕ, suc, ◌+◌, ◌-◌, ◌≤◌, ◌<◌}
use native.Mathlib.Numerals.{add-one}
use native.Mathlib.Omega.{arith}
use lib.ListN.{length, take, drop, get_or, set, length-append, length-take, get_or-append}
use lib.Seq.{take-suc, take-add, drop-cons, drop-drop, set_at, get_or-append-add, get_or-drop, get_or-take, length-take-le, ext_get_or}
use Rattle.model.specs.Bytes.{part, placed}
use Rattle.model.proofs.ListLaws.{placed_length}
use Rattle.model.proofs.PlacedLaws.{part_length, placed_append, placed_ahead}
use Rattle.areas.specs.Parts.{moved}

module _ {ℓ} {A : Type ℓ} where
  -- an element of a list that has one: what a law reads past a list's end
  pub some_of : (xs : List A) → 0 < length xs → A
  some_of [] h = absurd (omega arith)
  some_of (x ∷ xs) h = x

  -- ---- parts

  pub get_d_part : (d : A) (at n : ℕ) (xs : List A) (i : ℕ) → i < n → get_or (part at n xs) i d ≡ get_or xs (at + i) d
  get_d_part d at n xs i h = rw (get_or-take, get_or-drop)

  pub part_part : (d : A) (at m i n : ℕ) (xs : List A) → at + m ≤ length xs → i + n ≤ m → part i n (part at m xs) ≡ part (at + i) n xs
  part_part d at m i n xs fits h =
      let l = part_length at m xs fits in
      let a = part_length i n (part at m xs) (omega arith) in
      let b = part_length (at + i) n xs (omega arith) in
      ext_get_or d _ _ (a ∙ sym b) (λ k q.
      let kq : k < n = omega arith in
      let e : at + i + k ≡ at + (i + k) = omega arith in
      rw (get_d_part d i n (part at m xs) k kq, get_d_part d at m xs (i + k) (omega arith), get_d_part d (at + i) n xs k kq, e))

  -- ---- what stands at a place

  pub placed_before : (d : A) (at : ℕ) (ys xs : List A) (k : ℕ) → at ≤ length xs → k < at → get_or (placed at ys xs) k d ≡ get_or xs k d
  unfolding placed
  placed_before d at ys xs k fits h =
      let l : length (take at xs) ≡ at = length-take-le at xs fits in
      get_or-append (take at xs) _ d k (omega arith) ∙ get_or-take at xs k d h

  pub placed_within : (d : A) (at : ℕ) (ys xs : List A) (i : ℕ) → at ≤ length xs → i < length ys → get_or (placed at ys xs) (at + i) d ≡ get_or ys i d
  unfolding placed
  placed_within d at ys xs i fits h =
      let l : length (take at xs) ≡ at = length-take-le at xs fits in
      let e : at + i ≡ length (take at xs) + i = omega arith in
      rw (e, get_or-append-add) (get_or-append ys _ d i h)

  pub placed_behind : (d : A) (at : ℕ) (ys xs : List A) (k : ℕ) → at ≤ length xs → at + length ys ≤ k → get_or (placed at ys xs) k d ≡ get_or xs k d
  unfolding placed
  placed_behind d at ys xs k fits h =
      let l : length (take at xs) ≡ at = length-take-le at xs fits in
      let r = k - (at + length ys) in
      let e : k ≡ length (take at xs) + (length ys + r) = omega arith in
      let f : at + length ys + r ≡ k = omega arith in
      ap (λ (n : ℕ). get_or (take at xs ++ (ys ++ drop (at + length ys) xs)) n d) e
      ∙ get_or-append-add (take at xs) _ (length ys + r) d
      ∙ get_or-append-add ys _ r d
      ∙ get_or-drop (at + length ys) xs r d
      ∙ ap (λ (n : ℕ). get_or xs n d) f

  -- ---- what stands in a part

  pub part_before : (d : A) (at : ℕ) (ys xs : List A) (k n : ℕ) → at + length ys ≤ length xs → k + n ≤ at → part k n (placed at ys xs) ≡ part k n xs
  part_before d at ys xs k n fits h =
      let l = placed_length at ys xs fits in
      let a = part_length k n (placed at ys xs) (omega arith) in
      let b = part_length k n xs (omega arith) in
      ext_get_or d _ _ (a ∙ sym b) (λ i q.
      let iq : i < n = omega arith in
      rw (get_d_part d k n (placed at ys xs) i iq, get_d_part d k n xs i iq) (placed_before d at ys xs (k + i) (omega arith) (omega arith)))

  pub part_behind : (d : A) (at : ℕ) (ys xs : List A) (k n : ℕ) → at + length ys ≤ k → k + n ≤ length xs → part k n (placed at ys xs) ≡ part k n xs
  part_behind d at ys xs k n h fits =
      let l = placed_length at ys xs (omega arith) in
      let a = part_length k n (placed at ys xs) (omega arith) in
      let b = part_length k n xs (omega arith) in
      ext_get_or d _ _ (a ∙ sym b) (λ i q.
      let iq : i < n = omega arith in
      rw (get_d_part d k n (placed at ys xs) i iq, get_d_part d k n xs i iq) (placed_behind d at ys xs (k + i) (omega arith) (omega arith)))

  pub part_within : (d : A) (at : ℕ) (ys xs : List A) (i n : ℕ) → at + length ys ≤ length xs → i + n ≤ length ys → part (at + i) n (placed at ys xs) ≡ part i n ys
  part_within d at ys xs i n fits h =
      let l = placed_length at ys xs fits in
      let a = part_length (at + i) n (placed at ys xs) (omega arith) in
      let b = part_length i n ys h in
      ext_get_or d _ _ (a ∙ sym b) (λ j q.
      let jq : j < n = omega arith in
      let e : at + i + j ≡ at + (i + j) = omega arith in
      rw (get_d_part d (at + i) n (placed at ys xs) j jq, get_d_part d i n ys j jq, e) (placed_within d at ys xs (i + j) (omega arith) (omega arith)))

  -- ---- one write more

  pub placed_more : (at : ℕ) (ys xs : List A) (y : A) → at + length ys < length xs → set (placed at ys xs) (at + length ys) y ≡ placed at (ys ++ (y ∷ [])) xs
  unfolding placed
  placed_more at ys xs y here =
      let head : length (take at xs ++ ys) ≡ at + length ys = simp (length-append, length-take) (omega arith) in
      let seam : at + length (ys ++ (y ∷ [])) ≡ suc (at + length ys) = simp length-append (omega arith) in
      rw (seam, ← append_assoc (take at xs) ys (drop (at + length ys) xs), drop-cons xs (at + length ys) y here, set_at _ _ _ _ _ head)
      (simp append_assoc)

  pub placed_up : (d : A) (at i : ℕ) (ys xs : List A) → i < length ys → at + length ys ≤ length xs
      → set (placed at (take i ys) xs) (at + i) (get_or ys i d) ≡ placed at (take (i + 1) ys) xs
  placed_up d at i ys xs h fits =
      let front : length (take i ys) ≡ i = length-take-le i ys (omega arith) in
      rw (add-one i, take-suc ys i d h) (rw front at (placed_more at (take i ys) xs (get_or ys i d) (omega arith)))

  -- ---- some writes more

  -- a part in two
  part_add : (from i k : ℕ) (xs : List A) → part from (i + k) xs ≡ part from i xs ++ part (from + i) k xs
  part_add from i k xs = rw (take-add i k (drop from xs), drop-drop i from xs)

  -- ---- moves

  pub copy_further : (from to i k : ℕ) (ys xs : List A) → from + (i + k) ≤ length ys → to + (i + k) ≤ length xs
      → placed (to + i) (part (from + i) k ys) (placed to (part from i ys) xs) ≡ placed to (part from (i + k) ys) xs
  copy_further from to i k ys xs fits room =
      let l = part_length from i ys (omega arith) in
      rw (part_add from i k ys) (rw l at (placed_append to (part from i ys) (part (from + i) k ys) xs (omega arith)))

  pub move_down_further : (d : A) (from to i k : ℕ) (xs : List A) → to ≤ from → from + (i + k) ≤ length xs
      → moved (from + i) (to + i) k (moved from to i xs) ≡ moved from to (i + k) xs
  move_down_further d from to i k xs le fits =
      let l = part_length from i xs (omega arith) in
      rw (part_behind d to (part from i xs) xs (from + i) k (omega arith) (omega arith)) (copy_further from to i k xs xs fits (omega arith))

  pub move_up_further : (d : A) (from to k n : ℕ) (xs : List A) → from ≤ to → to + (k + n) ≤ length xs
      → moved from to k (moved (from + k) (to + k) n xs) ≡ moved from to (k + n) xs
  move_up_further d from to k n xs le fits =
      let l = part_length from k xs (omega arith) in
      let m = part_length (from + k) n xs (omega arith) in
      rw (part_before d (to + k) (part (from + k) n xs) xs from k (omega arith) (omega arith), part_add from k n xs)
      (rw l at (placed_ahead to (part from k xs) (part (from + k) n xs) xs (omega arith)))
