-- The model's row, read out of its state and the slice that holds its values, and what the functions of rows promise. Assumes nothing.
use Rattle.std.specs.Prelude.{◌≡◌, true, false, cond, Option, None, Some, List, map, ℕ, ◌+◌, ◌≤◌, ◌++◌, length, take, drop, ltb, Float}
use Rattle.std.specs.Int.{w32, from_le_bytes}
use Rattle.std.proofs.Math.Option as Maybe
use Rattle.std.proofs.Math.Option.{none, some}
use Rattle.model.specs.Floats.{from_bits}
use Rattle.model.specs.Row as Row
use Rattle.model.specs.Row.{Row, RowResult, chunk_fields, well_formed, finite_prefix}
use Rattle.reassembler.specs.declared.Chunk.{Chunk}
use Rattle.reassembler.specs.declared.OpenRow.{OpenRow}
use Rattle.reassembler.specs.declared.Pushed.{Pushed}

-- the little-endian f32 of four bytes
abbrev pub value_of : List ℕ → Float
value_of four = from_bits (from_le_bytes w32 four)

-- the model's chunk
abbrev pub chunk_of : Chunk → Row.Chunk
chunk_of c = record { number = c.row_seq; total = c.total_bins; first = c.first; values = map value_of c.values.now }

-- the chunk of a payload, which is well formed
pub record ChunkRead (payload : List ℕ) (c : Chunk) : Type 0 where
  pub formed : well_formed payload ≡ true
  pub fields : chunk_of c ≡ chunk_fields payload
  pub long : 6 ≤ length payload
  pub some_bins : 1 ≤ c.total_bins
  pub inside : c.first + length c.values.now ≤ c.total_bins

abbrev pub ChunkIn : List ℕ → Option Chunk → Type 0
ChunkIn payload None = well_formed payload ≡ false
ChunkIn payload (Some c) = ChunkRead payload c

-- the open row whose values stand at the front of a slice
abbrev pub open_of : OpenRow → List Float → Row
open_of r buf =
    record {
      number = r.row_seq;
      total = r.total_bins;
      filled = r.filled;
      done = r.done;
      values = take r.total_bins buf;
    }

abbrev pub row_of : Option OpenRow → List Float → Maybe.Option Row
row_of None buf = none
row_of (Some r) buf = some (open_of r buf)

-- the completed row, which stands at the front of the slice
abbrev pub completed_of : Option ℕ → List Float → Maybe.Option (List Float)
completed_of None buf = none
completed_of (Some n) buf = some (take n buf)

-- the row with n bins more: done, and completed, at its total or above
abbrev pub counted_row : OpenRow → ℕ → Pushed (Option OpenRow)
counted_row r n =
    cond (ltb (r.filled + n) r.total_bins)
    (record {
      state = Some (record { row_seq = r.row_seq; total_bins = r.total_bins; filled = r.filled + n; done = false });
      completed = None;
    })
    (record {
      state = Some (record { row_seq = r.row_seq; total_bins = r.total_bins; filled = r.filled + n; done = true });
      completed = Some r.total_bins;
    })

-- the values up to the first that is not finite stand in front, and how many they are; what lies behind them stays
pub record StoredPrefix (values entry exit : List Float) (n : ℕ) : Type 0 where
  pub count : n ≡ length (finite_prefix values)
  pub stored : exit ≡ finite_prefix values ++ drop (length (finite_prefix values)) entry

-- a completed row has at least one bin and lies in a slice of so many places
abbrev pub CompletedInside : Option ℕ → ℕ → Type 0
CompletedInside None room = Unit {0}
CompletedInside (Some n) room = (1 ≤ n) × (n ≤ room)

-- the model's result, read out of the answer and the slice at exit
pub record PushedAs (result : RowResult) (r : Pushed (Option OpenRow)) (exit : List Float) : Type 0 where
  pub row : row_of r.state exit ≡ result.row
  pub completed : completed_of r.completed exit ≡ result.completed
  pub inside : CompletedInside r.completed (length exit)
