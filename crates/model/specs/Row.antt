-- Row reassembly: a waterfall row comes in chunks, each with the row's number, its total of bins and the first bin. Assumes nothing.
use Rattle.std.specs.Prelude.{ℕ, ◌+◌, ◌%◌, Bool, false, ◌&&◌, cond, List, [], ◌∷◌, length, drop, replicate, leb, eqb, Float}
use Rattle.std.proofs.Math.Option.{Option, none, some}
use Rattle.model.specs.Bytes.{big_endian_at, little_endian, placed}
use Rattle.model.specs.Floats.{finite, from_bits, f0}

-- ---- a chunk

-- row number, total bins, first bin (u16 each), then values
pub record Chunk : Type 0 where
  pub number : ℕ
  pub total : ℕ
  pub first : ℕ
  pub values : List Float

-- a little-endian f32 for each four bytes
unfoldable pub floats_of : List ℕ → List Float
floats_of [] = []
floats_of (a ∷ []) = []
floats_of (a ∷ b ∷ []) = []
floats_of (a ∷ b ∷ c ∷ []) = []
floats_of (a ∷ b ∷ c ∷ d ∷ rest) = from_bits (little_endian (a ∷ b ∷ c ∷ d ∷ [])) ∷ floats_of rest

-- the total that a payload of 6 bytes or more names
unfoldable pub chunk_total : List ℕ → ℕ
chunk_total payload = big_endian_at 2 2 payload

unfoldable pub chunk_fields : List ℕ → Chunk
chunk_fields payload =
    record {
      number = big_endian_at 0 2 payload;
      total = chunk_total payload;
      first = big_endian_at 4 2 payload;
      values = floats_of (drop 6 payload);
    }

-- ignored: under 6 bytes, total 0, data not a multiple of 4, first + n > total
unfoldable pub well_formed : List ℕ → Bool
well_formed payload =
    leb 6 (length payload)
    && (leb 1 (chunk_fields payload).total
    && (eqb (length (drop 6 payload) % 4) 0
    && leb ((chunk_fields payload).first + length (chunk_fields payload).values) (chunk_fields payload).total))

-- ---- a row

pub record Row : Type 0 where
  pub number : ℕ
  pub total : ℕ
  -- filled bins, overlaps counted again
  pub filled : ℕ
  pub done : Bool
  pub values : List Float

-- what a chunk leaves, and the row that it completed, if it did
pub record RowResult : Type 0 where
  pub row : Option Row
  pub completed : Option (List Float)

-- a zeroed row
unfoldable pub open_row : Chunk → Row
open_row c = record { number = c.number; total = c.total; filled = 0; done = false; values = replicate c.total f0 }

-- a new row number or total opens a zeroed row
unfoldable pub row_for : Chunk → Option Row → Row
row_for c none = open_row c
row_for c (some r) = cond (eqb r.number c.number && eqb r.total c.total) r (open_row c)

-- the values up to the first that is not finite
unfoldable pub finite_prefix : List Float → List Float
finite_prefix [] = []
finite_prefix (x ∷ xs) = cond (finite x) (x ∷ finite_prefix xs) []

-- filled bins at total or above: the row is complete
unfoldable pub complete : ℕ → Row → Bool
complete filled r = leb r.total filled

-- all the chunk's values are finite: they are stored and counted
unfoldable pub store_all : Chunk → Row → RowResult
store_all c r =
    let filled = r.filled + length c.values in
    let values = placed c.first c.values r.values in
    let done = complete filled r in
    record {
      row = some (record { number = r.number; total = r.total; filled = filled; done = done; values = values });
      completed = cond done (some values) none;
    }

-- one is not finite: the earlier ones remain and filled bins do not grow
unfoldable pub store_some : Chunk → Row → RowResult
store_some c r =
    record {
      row = some (record {
        number = r.number;
        total = r.total;
        filled = r.filled;
        done = r.done;
        values = placed c.first (finite_prefix c.values) r.values;
      });
      completed = none;
    }

-- a done row ignores the chunk
unfoldable pub store_chunk : Chunk → Row → RowResult
store_chunk c r =
    cond r.done (record { row = some r; completed = none })
    (cond (eqb (length (finite_prefix c.values)) (length c.values)) (store_all c r) (store_some c r))

-- a payload of the row's stream
unfoldable pub push_chunk : List ℕ → Option Row → RowResult
push_chunk payload row =
    cond (well_formed payload)
    (store_chunk (chunk_fields payload) (row_for (chunk_fields payload) row))
    (record { row = row; completed = none })
