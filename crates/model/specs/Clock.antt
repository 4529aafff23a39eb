-- The clock: offset and round trip of a probe, one-way delay, and the two depths. Times are unsigned 64-bit nanoseconds. Assumes nothing.
use Rattle.std.specs.Prelude.{ℕ, zero, suc, ◌+◌, ◌-◌, ◌/◌, ◌%◌, ◌^◌, min, Bool, ◌&&◌, cond, ℤ, pos, negsuc, neg_ℤ, ◌+ℤ◌, ◌-ℤ◌, leb, ltb, Float}
use Rattle.std.proofs.Math.Option.{Option, none, some}
use Rattle.std.specs.Int.Signed.{le_z, quot_z}
use Rattle.model.specs.Floats.{◌+f◌, ◌-f◌, ◌*f◌, ◌/f◌, maxf, nearest, natf, f0, f0·01, f0·99, f0·999}

-- ---- offset and round trip

-- the low 64 bits of a number, as an unsigned number
unfoldable pub bits64 : ℤ → ℕ
bits64 (pos n) = n % 2 ^ 64
bits64 (negsuc n) = 2 ^ 64 - suc (n % 2 ^ 64)

-- the signed number that 64 bits are
unfoldable pub signed64 : ℕ → ℤ
signed64 b = cond (ltb b (2 ^ 63)) (pos b) (negsuc (2 ^ 64 - suc b))

-- the low 64 bits kept
unfoldable pub low64 : ℤ → ℤ
low64 n = signed64 (bits64 n)

-- ((t2 − t1) + (t3 − t4)) / 2 toward zero
unfoldable pub probe_offset : ℕ → ℕ → ℕ → ℕ → ℤ
probe_offset t1 t2 t3 t4 = low64 (quot_z ((pos t2 -ℤ pos t1) +ℤ (pos t3 -ℤ pos t4)) (pos 2))

-- (t4 − t1) − (t3 − t2)
unfoldable pub probe_round_trip : ℕ → ℕ → ℕ → ℕ → ℤ
probe_round_trip t1 t2 t3 t4 = low64 ((pos t4 -ℤ pos t1) -ℤ (pos t3 -ℤ pos t2))

-- ---- state

-- what an accepted probe leaves: offset, the last round trip, and the running least of them
pub record Timing : Type 0 where
  pub offset : ℤ
  pub round_trip : ℕ
  pub least : ℕ

-- the depth of the jitter buffer in ms: a slow average and a decaying peak
pub record Depth : Type 0 where
  pub average : Float
  pub peak : Float

-- the four counts that come with a depth
pub record DepthCounts : Type 0 where
  pub conceals : ℕ
  pub late : ℕ
  pub overflow : ℕ
  pub resyncs : ℕ

pub record Clock : Type 0 where
  pub timing : Option Timing
  pub one_way : Option ℤ
  pub depth : Option Depth
  pub counts : DepthCounts
  pub transmit_peak : Float

abbrev pub fresh_clock : Clock
fresh_clock =
    record {
      timing = none;
      one_way = none;
      depth = none;
      counts = record { conceals = 0; late = 0; overflow = 0; resyncs = 0 };
      transmit_peak = f0;
    }

-- ---- probe

-- from old a fourth, or an eighth, of the way to new, toward zero
unfoldable pub step_toward : ℕ → ℤ → ℤ → ℤ
step_toward n old new = old +ℤ quot_z (new -ℤ old) (pos n)

-- the running least relaxes by a 64th, and then a smaller round trip replaces it
unfoldable pub least_after : ℕ → ℕ → ℕ
least_after round_trip least = min round_trip (least + least / 64)

-- the gate: a round trip within 1.5 times of the least moves the offset
unfoldable pub passes_gate : ℕ → ℕ → Bool
passes_gate round_trip least = leb round_trip (least + least / 2)

-- a probe with a round trip above 0: the first is taken whole
unfoldable pub timing_after : ℤ → ℕ → Option Timing → Timing
timing_after offset round_trip none = record { offset = offset; round_trip = round_trip; least = round_trip }
timing_after offset round_trip (some t) =
    let least = least_after round_trip t.least in
    record {
      offset = cond (passes_gate round_trip least) (step_toward 4 t.offset offset) t.offset;
      round_trip = round_trip;
      least = least;
    }

-- round trip ≤ 0 is ignored
unfoldable pub probed : ℤ → ℤ → Option Timing → Option Timing
probed offset (pos zero) t = t
probed offset (pos (suc n)) t = some (timing_after offset (suc n) t)
probed offset (negsuc n) t = t

unfoldable pub record_probe : ℤ → ℤ → Clock → Clock
record_probe offset round_trip k =
    record {
      timing = probed offset round_trip k.timing;
      one_way = k.one_way;
      depth = k.depth;
      counts = k.counts;
      transmit_peak = k.transmit_peak;
    }

-- ---- one-way

-- −1,000,000,000..5,000,000,000
unfoldable pub one_way_in_range : ℤ → Bool
one_way_in_range n = le_z (neg_ℤ (pos 1000000000)) n && le_z n (pos 5000000000)

-- receive − send + offset, low 64 bits
unfoldable pub one_way_of : ℕ → ℕ → ℤ → ℤ
one_way_of receive send offset = low64 ((pos receive -ℤ pos send) +ℤ offset)

-- the first in range is taken whole, then an eighth step
unfoldable pub one_way_after : ℤ → Option ℤ → Option ℤ
one_way_after new none = some new
one_way_after new (some old) = some (step_toward 8 old new)

-- used after the first offset
unfoldable pub one_way_updated : ℕ → ℕ → Option Timing → Option ℤ → Option ℤ
one_way_updated receive send none old = old
one_way_updated receive send (some t) old =
    let new = one_way_of receive send t.offset in
    cond (one_way_in_range new) (one_way_after new old) old

unfoldable pub record_one_way : ℕ → ℕ → Clock → Clock
record_one_way receive send k =
    record {
      timing = k.timing;
      one_way = one_way_updated receive send k.timing k.one_way;
      depth = k.depth;
      counts = k.counts;
      transmit_peak = k.transmit_peak;
    }

-- ---- depths

-- samples / 48000 × 1000
unfoldable pub samples_ms : ℕ → Float
samples_ms samples = natf samples /f natf 48000 *f natf 1000

-- the first depth is taken whole; then the average goes 0.01 of the way, and the peak decays by 0.999
unfoldable pub depth_after : Float → Option Depth → Depth
depth_after now none = record { average = now; peak = now }
depth_after now (some d) =
    record { average = d.average +f f0·01 *f (now -f d.average); peak = maxf now (d.peak *f f0·999) }

unfoldable pub record_depth : ℕ → DepthCounts → Clock → Clock
record_depth samples counts k =
    record {
      timing = k.timing;
      one_way = k.one_way;
      depth = some (depth_after (samples_ms samples) k.depth);
      counts = counts;
      transmit_peak = k.transmit_peak;
    }

-- the transmit depth's peak decays by 0.99
unfoldable pub record_transmit : ℕ → Clock → Clock
record_transmit samples k =
    record {
      timing = k.timing;
      one_way = k.one_way;
      depth = k.depth;
      counts = k.counts;
      transmit_peak = maxf (samples_ms samples) (k.transmit_peak *f f0·99);
    }

-- ---- readings

-- nanoseconds in ms: the nearest f32 / 1,000,000
unfoldable pub in_ms : ℤ → Float
in_ms n = nearest n /f natf 1000000

-- what is read of a number that may be absent
abbrev pub reading : {A B : Type 0} → (A → B) → Option A → Option B
reading f none = none
reading f (some a) = some (f a)

unfoldable pub offset_ms : Clock → Option Float
offset_ms k = reading (λ t. in_ms t.offset) k.timing

unfoldable pub round_trip_ms : Clock → Option Float
round_trip_ms k = reading (λ t. in_ms (pos t.round_trip)) k.timing

unfoldable pub one_way_ms : Clock → Option Float
one_way_ms k = reading in_ms k.one_way

-- the depth's average and peak are 0 before the first
abbrev pub reading_or_zero : {A : Type 0} → (A → Float) → Option A → Float
reading_or_zero f none = f0
reading_or_zero f (some a) = f a

unfoldable pub depth_ms : Clock → Float
depth_ms k = reading_or_zero (λ d. d.average) k.depth

unfoldable pub depth_peak_ms : Clock → Float
depth_peak_ms k = reading_or_zero (λ d. d.peak) k.depth
