-- What a row's chunk leaves, by its tests; and the front of a slice that values were placed in. Assumes nothing.
use Rattle.std.proofs.Common.{Some, None}
use Rattle.std.proofs.lemmas.List.{take_rest}
use mathlib.Core.Path.{◌≡◌, refl, sym, ◌∙◌, ap}
use mathlib.Core.Bool.{false, ◌&&◌}
use mathlib.Core.Option.{Option, none, some}
use mathlib.Core.List.{List, [], ◌++◌, map, append_assoc, append-nil}
use Prim.Native.Nat.{ℕ, ◌+◌, ◌-◌, ◌*◌, ◌≤◌, ◌<◌}
use native.Mathlib.Omega.{arith}
use lib.ListN.{length, length-map, take, drop, replicate, take-append-drop, length-replicate, length-drop, drop_of_length-le}
use lib.Seq.{take_at, take-append-le, drop-append-le, drop-drop, length-take-le}
use lib.Dec.{eqb, ltb}
use lib.Ieee.{Float}
use borrow.Rule.Slice.PartMut.{put_mid}
use borrow.Author.Tests.{eqb-true, eq-eqb, ne_eqb, ltb-true, ltb-false, le-leb, lt-leb}
use Rattle.model.specs.Bytes.{placed}
use Rattle.model.specs.Row as Row
use Rattle.model.specs.Row.{Row, finite_prefix, complete, row_for, open_row, store_all, store_some, store_chunk}
use Rattle.model.proofs.BoolLaws.{by_test, cond_keeps, second_of_both}
use Rattle.model.proofs.ListLaws.{placed_length}
use Rattle.model.proofs.RowLaws.{finite_prefix_length}
use Rattle.reassembler.specs.declared.Chunk.{Chunk}
use Rattle.reassembler.specs.declared.OpenRow.{OpenRow}
use Rattle.reassembler.specs.Requires.{RowKept, Storable}
use Rattle.reassembler.specs.Rows.{value_of, chunk_of, open_of, counted_row, StoredPrefix, PushedAs}
use Rattle.reassembler.proofs.Prefix.{whole_prefix}

module _ {ℓ} {A : Type ℓ} where
  placed_in_front : (at : ℕ) (ys zs ws : List A) → at + length ys ≤ length zs → placed at ys (zs ++ ws) ≡ placed at ys zs ++ ws
  unfolding placed
  placed_in_front at ys zs ws h =
      let front : at ≤ length zs = omega arith in
      rw (take-append-le at zs ws front, drop-append-le (at + length ys) zs ws h) (simp append_assoc)

  -- what is placed inside the front is placed in the front alone
  pub take_placed : (n at : ℕ) (ys xs : List A) → at + length ys ≤ n → n ≤ length xs → take n (placed at ys xs) ≡ placed at ys (take n xs)
  take_placed n at ys xs inside fits =
      let front : length (take n xs) ≡ n = length-take-le n xs fits in
      let long : length (placed at ys (take n xs)) ≡ n = placed_length at ys (take n xs) (omega arith) ∙ front in
      ap (λ (zs : List A). take n (placed at ys zs)) (sym (take-append-drop n xs))
      ∙ ap (λ (zs : List A). take n zs) (placed_in_front at ys (take n xs) (drop n xs) (omega arith))
      ∙ take_at (placed at ys (take n xs)) (drop n xs) n long

  pub take_filled : (n : ℕ) (x : A) (xs : List A) → take n (placed 0 (replicate n x) xs) ≡ replicate n x
  unfolding placed
  take_filled n x xs = take_at (replicate n x) _ n (length-replicate n x)

-- ---- the row that a chunk goes to

pub row_for_total : (c : Row.Chunk) (r : Option Row) → (row_for c r).total ≡ c.total
unfolding row_for open_row
row_for_total c none = refl
row_for_total c (some r) =
    cond_keeps (λ (x : Row). x.total ≡ c.total) (eqb r.number c.number && eqb r.total c.total) r (open_row c)
    (λ same. eqb-true _ _ (second_of_both (eqb r.number c.number) _ same)) (λ other. refl)

pub row_for_filled : (c : Row.Chunk) (r : Option Row) (room : ℕ) → 1 ≤ c.total → RowKept r room → (row_for c r).filled < 2 * (row_for c r).total
unfolding row_for open_row
row_for_filled c none room some_bins kept = omega arith
row_for_filled c (some r) room some_bins kept =
    cond_keeps (λ (x : Row). x.filled < 2 * x.total) (eqb r.number c.number && eqb r.total c.total) r (open_row c)
    (λ same. kept.1) (λ other. omega arith)

-- ---- a part written in front

-- lent to the end, and put back
pub end_written : (at : ℕ) (ys xs : List Float) → length ys + at ≤ length xs → put_mid at (length xs - at) xs (ys ++ drop (length ys) (take (length xs - at) (drop at xs))) ≡ placed at ys xs
unfolding placed
end_written at ys xs fits =
    let none : drop (length xs - at) (drop at xs) ≡ [] = drop_of_length-le (drop at xs) {i = length xs - at} (simp length-drop (omega arith)) in
    rw (take_rest xs at, none, append-nil, drop-drop)

-- ---- values stored in a row that is not done

module _ (r : OpenRow) (entry to : List Float) (c : Chunk) (n : ℕ)
    (h : Storable r.total_bins r.filled (length entry) c.first (length c.values.now))
    (not_done : r.done ≡ false) (s : StoredPrefix (map value_of c.values.now) (take (length entry - c.first) (drop c.first entry)) to n) where
  abbrev values : List Float
  values = map value_of c.values.now

  abbrev exit : List Float
  exit = put_mid c.first (length entry - c.first) entry to

  as_many : length values ≡ length c.values.now
  as_many = length-map c.values.now value_of

  stored : exit ≡ placed c.first (finite_prefix values) entry
  stored = rw s.stored (end_written c.first (finite_prefix values) entry (omega (arith, finite_prefix_length values, as_many, h.inside, h.fits)))

  values_stored : take r.total_bins exit ≡ placed c.first (finite_prefix values) (take r.total_bins entry)
  values_stored =
      ap (λ (xs : List Float). take r.total_bins xs) stored
      ∙ take_placed r.total_bins c.first (finite_prefix values) entry (omega (arith, finite_prefix_length values, as_many, h.inside)) h.fits

  as_long : length exit ≡ length entry
  as_long = ap length stored ∙ placed_length c.first (finite_prefix values) entry (omega (arith, finite_prefix_length values, as_many, h.inside, h.fits))

  pub some_stored : (n ≡ length c.values.now → ⊥) → PushedAs (store_chunk (chunk_of c) (open_of r entry)) (record { state = Some r; completed = None }) exit
  unfolding store_chunk store_some
  some_stored fewer =
      let differ : eqb (length (finite_prefix values)) (length values) ≡ false = ne_eqb _ _ (λ e. fewer (s.count ∙ e ∙ as_many)) in
      rw (not_done, differ) (record { row = rw values_stored; completed = refl; inside = tt })

  pub all_stored : n ≡ length c.values.now → PushedAs (store_chunk (chunk_of c) (open_of r entry)) (counted_row r (length c.values.now)) exit
  unfolding store_chunk store_all complete
  all_stored whole =
      let same : length (finite_prefix values) ≡ length values = sym s.count ∙ whole ∙ sym as_many in
      let here : take r.total_bins exit ≡ placed c.first values (take r.total_bins entry) = rw (whole_prefix values same) at values_stored in
      by_test (ltb (r.filled + length c.values.now) r.total_bins)
      (λ below.
      rw (not_done, eq-eqb _ _ same, below, as_many, lt-leb r.total_bins (r.filled + length c.values.now) (ltb-true _ _ below))
      (record { row = rw here; completed = refl; inside = tt }))
      (λ full.
      rw (not_done, eq-eqb _ _ same, full, as_many, le-leb r.total_bins (r.filled + length c.values.now) (ltb-false _ _ full))
      (record { row = rw here; completed = rw here; inside = (omega (arith, h.filled_below), omega (arith, h.fits, as_long)) }))
