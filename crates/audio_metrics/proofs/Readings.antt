-- A reading by `map`, or by `map_or` with 0, is the model's reading of the same part. Assumes nothing.
use Rattle.std.proofs.Common.{◌≡◌, ap, Float}
use Rattle.std.specs.Prelude.{Option, None, Some, IsSomeAnd, MatchOption}
use Rattle.std.proofs.Math.Option.{some}
use Rattle.model.specs.Clock as Clock
use Rattle.model.specs.Clock.{reading}
use Rattle.audio_metrics.specs.declared.ClockTiming.{ClockTiming}
use Rattle.audio_metrics.specs.Views.{known_of, timing_of, reading_of}

pub timing_reading : (g : Clock.Timing → Float) (t : Option ClockTiming) (r : Option Float)
    → MatchOption t (r ≡ None) (λ x. IsSomeAnd r (λ y. y ≡ g (known_of x)))
    → reading_of r ≡ reading g (timing_of t)
timing_reading g None r e = rw e
timing_reading g (Some t) None h = absurd h
timing_reading g (Some t) (Some y) h = ap some h
