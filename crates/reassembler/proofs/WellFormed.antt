-- The tests of a chunk, one after the other, and what a chunk does. Assumes nothing.
use mathlib.Core.Path.{◌≡◌, sym, ◌∙◌}
use mathlib.Core.Bool.{true, false}
use mathlib.Core.Option.{Option, none}
use mathlib.Core.List.{List}
use Prim.Native.Nat.{ℕ, ◌+◌, ◌%◌, ◌≤◌, ◌<◌}
use native.Mathlib.Omega.{arith}
use lib.ListN.{length, drop}
use lib.Dec.{leb}
use borrow.Author.Tests.{le-leb, lt-leb, eq-eqb, ne_eqb}
use Rattle.model.specs.Bytes.{big_endian_at}
use Rattle.model.specs.Row.{Chunk, Row, floats_of, chunk_total, chunk_fields, well_formed, row_for, store_chunk, push_chunk}

module _ (payload : List ℕ) where
  pub too_short_law : length payload < 6 → well_formed payload ≡ false
  unfolding well_formed
  too_short_law h = rw (lt-leb 6 (length payload) h)

  module _ (long : 6 ≤ length payload) (total first : ℕ) (total_is : total ≡ big_endian_at 2 2 payload) (first-is : first ≡ big_endian_at 4 2 payload) where
    pub no_bins : total ≡ 0 → well_formed payload ≡ false
    unfolding well_formed chunk_fields chunk_total
    no_bins h = rw (le-leb 6 (length payload) long, ← total_is, lt-leb 1 total (omega arith))

    pub part_of_a_value : 1 ≤ total → (length (drop 6 payload) % 4 ≡ 0 → ⊥) → well_formed payload ≡ false
    unfolding well_formed chunk_fields chunk_total
    part_of_a_value some_bins h = rw (le-leb 6 (length payload) long, ← total_is, le-leb 1 total some_bins, ne_eqb _ _ h)

    module _ (some_bins : 1 ≤ total) (whole : length (drop 6 payload) % 4 ≡ 0) where
      inside_or_not : leb (first + length (floats_of (drop 6 payload))) total ≡ well_formed payload
      unfolding well_formed chunk_fields chunk_total
      inside_or_not = rw (le-leb 6 (length payload) long, ← total_is, le-leb 1 total some_bins, eq-eqb _ _ whole, ← first-is)

      pub outside_law : total < first + length (floats_of (drop 6 payload)) → well_formed payload ≡ false
      outside_law h = sym inside_or_not ∙ lt-leb _ total h

      pub inside_law : first + length (floats_of (drop 6 payload)) ≤ total → well_formed payload ≡ true
      inside_law h = sym inside_or_not ∙ le-leb _ total h

-- ---- what a chunk does

pub chunk_ignored : (payload : List ℕ) (r : Option Row) → well_formed payload ≡ false → push_chunk payload r ≡ record { row = r; completed = none }
unfolding push_chunk
chunk_ignored payload r ignored = rw ignored

pub chunk_stored : (payload : List ℕ) (r : Option Row) (c : Chunk) → well_formed payload ≡ true → c ≡ chunk_fields payload
    → push_chunk payload r ≡ store_chunk c (row_for c r)
unfolding push_chunk
chunk_stored payload r c formed is = rw (formed, is)
