-- The receiver: what its calls carry, its state, its answers, and the state that setup leaves. Assumes nothing.
use Rattle.std.specs.Prelude.{ℕ, ◌*◌, Bool, true, false, List, [], replicate, Float}
use Rattle.std.proofs.Math.Option.{Option, none}
use Rattle.model.specs.Floats.{from_bits, natf, f0, f1, f_35}
use Rattle.model.specs.Sizes.{Sizes}
use Rattle.model.specs.Framing.{Side, A, B}
use Rattle.model.specs.Counts.{StreamCounts, fresh_counts}
use Rattle.model.specs.JitterBuffer.{Buffer, Played, fresh_buffer}
use Rattle.model.specs.Row.{Row}
use Rattle.model.specs.Scaling.{Display}
use Rattle.model.specs.Clock.{DepthCounts, Clock, fresh_clock}

-- ---- calls

-- a channel's estimates at setup, as bit patterns
pub record Estimates : Type 0 where
  pub top : ℕ
  pub floor : ℕ
  pub range : ℕ

pub record Setup : Type 0 where
  pub sizes : Sizes
  pub estimates_a : Estimates
  pub estimates_b : Estimates

-- a channel's settings as a set call gives them: the floats are bit patterns
pub record Settings : Type 0 where
  pub adaptive : Bool
  pub top : ℕ
  pub range : ℕ
  pub zoom : ℕ
  pub smoothing : ℕ

-- the eight calls after setup
pub data Call : Type 0 where
  datagram : List ℕ → Call
  play : Side → ℕ → Call
  reset : Side → Call
  set : Side → Settings → Call
  probe : ℕ → ℕ → ℕ → ℕ → Call
  one_way : ℕ → ℕ → Call
  depth : ℕ → DepthCounts → Call
  transmit_depth : ℕ → Call

-- ---- state

-- a channel: all that its calls may change, but for the counts of streams 1 and 2, which stand beside channel A
pub record Channel : Type 0 where
  pub buffer : Buffer Float
  pub row : Option Row
  pub spectrum : List Float
  pub smoothing : List Float
  pub picture : List ℕ
  pub display : Display

-- the counts of streams 1 and 2, which belong to channel A's line
pub record Counts : Type 0 where
  pub audio : StreamCounts
  pub waterfall : StreamCounts

pub record State : Type 0 where
  pub sizes : Sizes
  -- accepted calls since setup
  pub calls : ℕ
  -- datagrams with a valid header
  pub incoming : ℕ
  pub counts : Counts
  pub channel_a : Channel
  pub channel_b : Channel
  pub clock : Clock

abbrev pub channel_of : Side → State → Channel
channel_of A s = s.channel_a
channel_of B s = s.channel_b

-- the lengths of the two lent areas
pub record Lent : Type 0 where
  pub floats : ℕ
  pub words : ℕ

-- ---- answers

pub data Answer : Type 0 where
  refused : ℕ → Answer
  accepted : Answer
  played : Played Float → Answer
  -- a datagram: the row that it completed, or none
  row : Option (List Float) → Answer

pub record StepResult : Type 0 where
  pub after : State
  pub answer : Answer

unfoldable pub is_accepted : Answer → Bool
is_accepted (refused n) = false
is_accepted accepted = true
is_accepted (played p) = true
is_accepted (row r) = true

-- ---- setup

-- settings start adaptive off, −35, 70, zoom 1, smoothing 0; the estimates come with setup
unfoldable pub fresh_display : Estimates → Display
fresh_display e =
    record {
      adaptive = false;
      top = f_35;
      range = natf 70;
      zoom = f1;
      smoothing = f0;
      top_estimate = from_bits e.top;
      floor_estimate = from_bits e.floor;
      range_estimate = from_bits e.range;
    }

-- setup zeroes the pictures
unfoldable pub fresh_channel : Sizes → Estimates → Channel
fresh_channel z e =
    record {
      buffer = fresh_buffer;
      row = none;
      spectrum = [];
      smoothing = [];
      picture = replicate (z.width * z.height) 0;
      display = fresh_display e;
    }

-- setup zeroes the number of calls
unfoldable pub fresh : Setup → State
fresh setup =
    record {
      sizes = setup.sizes;
      calls = 0;
      incoming = 0;
      counts = record { audio = fresh_counts; waterfall = fresh_counts };
      channel_a = fresh_channel setup.sizes setup.estimates_a;
      channel_b = fresh_channel setup.sizes setup.estimates_b;
      clock = fresh_clock;
    }
