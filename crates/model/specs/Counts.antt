-- Sequence counts of one stream. The number of incoming datagrams is apart from them, in the receiver. Assumes nothing.
use Rattle.std.specs.Prelude.{ℕ, ◌+◌, ◌-◌, Bool, cond, ltb}
use Rattle.std.proofs.Math.Option.{Option, none, some}
use Rattle.model.specs.Framing.{next_sequence}

pub record StreamCounts : Type 0 where
  pub packets : ℕ
  pub dropped : ℕ
  pub late : ℕ
  -- the last sequence, if there was one
  pub last : Option ℕ

-- fresh: zeros and no last
abbrev pub fresh_counts : StreamCounts
fresh_counts = record { packets = 0; dropped = 0; late = 0; last = none }

-- one sequence is below another: compared plainly
unfoldable pub is_below : ℕ → ℕ → Bool
is_below s t = ltb s t

-- expected is the last sequence + 1 modulo 2^32; a sequence above it: the difference
unfoldable pub dropped_by : Option ℕ → ℕ → ℕ
dropped_by none s = 0
dropped_by (some last) s = cond (is_below (next_sequence last) s) (s - next_sequence last) 0

-- a sequence below the expected one: 1
unfoldable pub late_by : Option ℕ → ℕ → ℕ
late_by none s = 0
late_by (some last) s = cond (is_below s (next_sequence last)) 1 0

-- a datagram of the stream with the sequence s: the last sequence is always replaced
unfoldable pub counted : ℕ → StreamCounts → StreamCounts
counted s c =
    record {
      packets = c.packets + 1;
      dropped = c.dropped + dropped_by c.last s;
      late = c.late + late_by c.last s;
      last = some s;
    }
