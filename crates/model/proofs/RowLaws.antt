-- A row stays as question 3 wants it: a chunk fits in its row's total, so that the values keep their number and filled bins stay below twice the total. By cases on the tests of a chunk. Assumes nothing.
use Prim.Native.Nat.{ℕ, suc, ◌+◌, ◌*◌, ◌%◌, ◌≤◌, ◌<◌}
use native.Mathlib.Omega.{arith}
use mathlib.Core.Path.{◌≡◌, refl, sym, ◌∙◌, subst}
use mathlib.Core.Bool.{Bool, true, false, ◌&&◌, and-eq-true_iff}
use mathlib.Core.Option.{Option, none, some}
use mathlib.Core.List.{List, [], ◌∷◌}
use lib.ListN.{length, drop, length-replicate}
use lib.Dec.{leb, eqb}
use lib.Ieee.{Float}
use borrow.Author.Tests.{leb-true, leb-false, eqb-true, le-leb, lt-ltb, lt-leb}
use Rattle.model.specs.Bytes.{placed}
use Rattle.model.specs.Floats.{finite, f0}
use Rattle.model.specs.Sizes.{Sizes}
use Rattle.model.specs.Row.{Chunk, Row, RowResult, chunk_total, chunk_fields, well_formed, open_row, row_for, finite_prefix, complete, store_all, store_some, store_chunk, push_chunk}
use Rattle.model.specs.Questions.{row_held, total_allowed}
use Rattle.model.proofs.BoolLaws.{both_and, cond_keeps, beq_same}
use Rattle.model.proofs.ListLaws.{placed_length}

-- ---- what is kept

-- of a row that is there
pub record OpenRowKept (z : Sizes) (r : Row) : Type 0 where
  pub fits : r.total ≤ z.bins
  pub some_bins : 1 ≤ r.total
  pub filled_below : r.filled < 2 * r.total
  pub done_when_full : r.done ≡ leb r.total r.filled
  pub as_long : length r.values ≡ r.total

-- nothing is asked where there is no row
abbrev pub RowKept : Sizes → Option Row → Type 0
RowKept z none = Unit {0}
RowKept z (some r) = OpenRowKept z r

-- a row that a chunk completes has 1 to bins values
abbrev pub CompletedKept : Sizes → Option (List Float) → Type 0
CompletedKept z none = Unit {0}
CompletedKept z (some values) = (1 ≤ length values) × (length values ≤ z.bins)

record ResultKept (z : Sizes) (r : RowResult) : Type 0 where
  row : RowKept z r.row
  completed : CompletedKept z r.completed

-- ---- a chunk that is not ignored

-- what its tests leave to know
record ChunkFits (z : Sizes) (c : Chunk) : Type 0 where
  some_bins : 1 ≤ c.total
  fits : c.total ≤ z.bins
  inside : c.first + length c.values ≤ c.total

chunk_fits : (z : Sizes) (payload : List ℕ) → total_allowed z payload ≡ true
    → well_formed payload ≡ true → ChunkFits z (chunk_fields payload)
unfolding total_allowed well_formed chunk_fields
chunk_fits z payload allowed formed =
    let long = (and-eq-true_iff (leb 6 (length payload)) _).0 formed in
    let total = (and-eq-true_iff (leb 1 (chunk_total payload)) _).0 long.1 in
    let rest = (and-eq-true_iff (eqb (length (drop 6 payload) % 4) 0) _).0 total.1 in
    record {
      some_bins = leb-true _ _ total.0;
      fits = leb-true _ _ (rw long.0 at allowed);
      inside = leb-true _ _ rest.1;
    }

open_row_kept : (z : Sizes) (c : Chunk) → ChunkFits z c → OpenRowKept z (open_row c)
unfolding open_row
open_row_kept z c f =
    record {
      fits = f.fits;
      some_bins = f.some_bins;
      filled_below = omega (arith, f.some_bins);
      done_when_full = sym (lt-leb c.total 0 f.some_bins);
      as_long = length-replicate c.total f0;
    }

-- the row that a chunk goes to, which has the chunk's total
record RowOfChunk (z : Sizes) (c : Chunk) (r : Row) : Type 0 where
  kept : OpenRowKept z r
  total_is : r.total ≡ c.total

row_for_chunk : (z : Sizes) (c : Chunk) (r : Option Row) → ChunkFits z c → RowKept z r → RowOfChunk z c (row_for c r)
unfolding row_for open_row
row_for_chunk z c none f h = record { kept = open_row_kept z c f; total_is = refl }
row_for_chunk z c (some r) f h =
    cond_keeps (RowOfChunk z c) (eqb r.number c.number && eqb r.total c.total) r (open_row c)
    (λ same. record { kept = h; total_is = eqb-true _ _ ((and-eq-true_iff (eqb r.number c.number) _).0 same).1 })
    (λ other. record { kept = open_row_kept z c f; total_is = refl })

pub finite_prefix_length : (xs : List Float) → length (finite_prefix xs) ≤ length xs
unfolding finite_prefix
finite_prefix_length [] = omega arith
finite_prefix_length (x ∷ xs) =
    let shorter = finite_prefix_length xs in
    cond_keeps (λ ys. length ys ≤ suc (length xs)) (finite x) (x ∷ finite_prefix xs) []
    (λ is_finite. omega arith) (λ not-Finite. omega arith)

-- the row with values stored in it: filled bins stay below twice the total
stored_row_kept : (z : Sizes) (c : Chunk) (r : Row) (values : List Float) (filled : ℕ) (done : Bool) → RowOfChunk z c r
    → c.first + length values ≤ c.total → filled < 2 * r.total → done ≡ leb r.total filled
    → OpenRowKept z (record {
      number = r.number;
      total = r.total;
      filled = filled;
      done = done;
      values = placed c.first values r.values;
    })
stored_row_kept z c r values filled done h inside below full =
    record {
      fits = h.kept.fits;
      some_bins = h.kept.some_bins;
      filled_below = below;
      done_when_full = full;
      as_long = placed_length c.first values r.values (omega (arith, h.kept.as_long, h.total_is)) ∙ h.kept.as_long;
    }

store_all_kept : (z : Sizes) (c : Chunk) (r : Row) → ChunkFits z c → RowOfChunk z c r
    → r.done ≡ false → ResultKept z (store_all c r)
unfolding store_all complete
store_all_kept z c r f h not_done =
    let not_full : r.filled < r.total = leb-false _ _ (sym h.kept.done_when_full ∙ not_done) in
    let filled = r.filled + length c.values in
    let below : filled < 2 * r.total = omega (arith, f.inside, h.total_is) in
    let row-after = stored_row_kept z c r c.values filled (leb r.total filled) h f.inside below refl in
    record {
      row = row-after;
      completed = cond_keeps (CompletedKept z) (leb r.total filled) _ none
          (λ full. (omega (arith, row-after.as_long, h.kept.some_bins), omega (arith, row-after.as_long, h.kept.fits)))
          (λ not_yet. tt);
    }

store_some_kept : (z : Sizes) (c : Chunk) (r : Row) → ChunkFits z c → RowOfChunk z c r → ResultKept z (store_some c r)
unfolding store_some
store_some_kept z c r f h =
    record {
      row = stored_row_kept z c r (finite_prefix c.values) r.filled r.done h
          (omega (arith, f.inside, finite_prefix_length c.values))
          h.kept.filled_below h.kept.done_when_full;
      completed = tt;
    }

store_chunk_kept : (z : Sizes) (c : Chunk) (r : Row) → ChunkFits z c → RowOfChunk z c r → ResultKept z (store_chunk c r)
unfolding store_chunk
store_chunk_kept z c r f h =
    cond_keeps (ResultKept z) r.done _ _ (λ done. record { row = h.kept; completed = tt })
    (λ not_done.
    cond_keeps (ResultKept z) (eqb (length (finite_prefix c.values)) (length c.values)) (store_all c r) (store_some c r)
    (λ all_finite. store_all_kept z c r f h not_done) (λ one-not. store_some_kept z c r f h))

push_chunk_result : (z : Sizes) (payload : List ℕ) (r : Option Row) → total_allowed z payload ≡ true
    → RowKept z r → ResultKept z (push_chunk payload r)
unfolding push_chunk
push_chunk_result z payload r allowed h =
    let c = chunk_fields payload in
    cond_keeps (ResultKept z) (well_formed payload) _ _
    (λ formed.
    let f = chunk_fits z payload allowed formed in
    store_chunk_kept z c (row_for c r) f (row_for_chunk z c r f h))
    (λ ignored. record { row = h; completed = tt })

-- ---- laws

pub push_chunk_keeps : (z : Sizes) (payload : List ℕ) (r : Option Row) → total_allowed z payload ≡ true
    → RowKept z r → RowKept z (push_chunk payload r).row
push_chunk_keeps z payload r allowed h = (push_chunk_result z payload r allowed h).row

pub push_chunk_completes : (z : Sizes) (payload : List ℕ) (r : Option Row) → total_allowed z payload ≡ true
    → RowKept z r → CompletedKept z (push_chunk payload r).completed
push_chunk_completes z payload r allowed h = (push_chunk_result z payload r allowed h).completed

pub completed_row_length : (z : Sizes) (payload : List ℕ) (r : Option Row) (values : List Float)
    → total_allowed z payload ≡ true → RowKept z r
    → (push_chunk payload r).completed ≡ some values → (1 ≤ length values) × (length values ≤ z.bins)
completed_row_length z payload r values allowed h is = subst (CompletedKept z) is (push_chunk_completes z payload r allowed h)

pub row_kept_held : (z : Sizes) (r : Option Row) → RowKept z r → row_held z r ≡ true
unfolding row_held
row_kept_held z none h = refl
row_kept_held z (some r) h =
    both_and (le-leb _ _ h.fits) (both_and (lt-ltb _ _ h.filled_below) (beq_same h.done_when_full))
