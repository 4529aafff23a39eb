-- The model's clock, read out of the struct. Assumes nothing.
use Rattle.std.proofs.Math.Option as Maybe
use Rattle.std.proofs.Math.Option.{none, some}
use Rattle.std.specs.Prelude.{ℤ, Float, Option, None, Some}
use Rattle.model.specs.Clock as Clock
use Rattle.calls.specs.Views.{model_counts}
use Rattle.audio_metrics.specs.declared.ClockTiming.{ClockTiming}
use Rattle.audio_metrics.specs.declared.JitterDepth.{JitterDepth}
use Rattle.audio_metrics.specs.declared.AudioMetrics.{AudioMetrics}

abbrev pub known_of : ClockTiming → Clock.Timing
known_of t = record { offset = t.offset_ns; round_trip = t.rtt_ns; least = t.min_rtt_ns }

abbrev pub timing_of : Option ClockTiming → Maybe.Option Clock.Timing
timing_of None = none
timing_of (Some t) = some (known_of t)

abbrev pub delay_of : Option ℤ → Maybe.Option ℤ
delay_of None = none
delay_of (Some n) = some n

abbrev pub depth_known : JitterDepth → Clock.Depth
depth_known d = record { average = d.jitter_avg_ms; peak = d.jitter_peak_ms }

abbrev pub depth_of : Option JitterDepth → Maybe.Option Clock.Depth
depth_of None = none
depth_of (Some d) = some (depth_known d)

-- a reading that may be absent
abbrev pub reading_of : Option Float → Maybe.Option Float
reading_of None = none
reading_of (Some x) = some x

abbrev pub clock_of : AudioMetrics → Clock.Clock
clock_of m =
    record {
      timing = timing_of m.timing;
      one_way = delay_of m.one_way;
      depth = depth_of m.jitter;
      counts = model_counts m.counts;
      transmit_peak = m.tx_ring_peak_ms;
    }
