-- What the functions of rows take: what a held row and the receiver's questions leave. Assumes nothing.
use Rattle.std.proofs.Math.Option.{Option, none, some}
use Rattle.std.specs.Prelude.{List, ℕ, ◌+◌, ◌*◌, ◌≤◌, ◌<◌, length}
use Rattle.model.specs.Row.{Row, chunk_total}

-- of a row that is there: its values fit, and filled bins stay below twice the total
abbrev pub RowKept : Option Row → ℕ → Type 0
RowKept none room = Unit {0}
RowKept (some r) room = (r.total ≤ room) × (r.filled < 2 * r.total)

-- a held row, and question 8: a payload of 6 bytes or more names a total that fits
pub record PushFits (row : Option Row) (room : ℕ) (payload : List ℕ) : Type 0 where
  pub kept : RowKept row room
  pub allowed : 6 ≤ length payload → chunk_total payload ≤ room

-- a row whose values fit, and so many values that lie inside it
pub record Storable (total filled room first values : ℕ) : Type 0 where
  pub fits : total ≤ room
  pub filled_below : filled < 2 * total
  pub inside : first + values ≤ total
