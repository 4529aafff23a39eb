-- What the functions take: ranges that the receiver's questions leave. Assumes nothing.
use Rattle.std.specs.Prelude.{◌≡◌, ℕ, ◌^◌, ◌<◌, true, ℤ, pos, int_lt}
use Rattle.std.proofs.Math.Option.{Option, none, some}
use Rattle.std.specs.Int.Signed.{mag}
use Rattle.model.specs.Clock.{Timing, Clock}
use Rattle.model.specs.Questions.{clock_held, probe_allowed}

-- a step by a divisor above 1 between two numbers whose difference fits
pub record StepFits (n old new : ℤ) : Type 0 where
  pub divisor : int_lt (pos 1) n ≡ true
  pub old_fits : mag old < 2 ^ 62
  pub new_fits : mag new < 2 ^ 62

-- offset and least of a held clock
abbrev pub TimingFits : Option Timing → Type 0
TimingFits none = Unit {0}
TimingFits (some t) = (mag t.offset < 2 ^ 62) × (t.least < 2 ^ 62)

-- a probe in the range of question 9, at a held clock
pub record ProbeFits (t : Option Timing) (offset : ℤ) (round_trip : ℕ) : Type 0 where
  pub offset_fits : mag offset < 2 ^ 62
  pub round_trip_fits : round_trip < 2 ^ 62
  pub timing_fits : TimingFits t

-- what the questions let through to a probe: a held clock, and question 9
pub record Probed (k : Clock) (offset round_trip : ℤ) : Type 0 where
  pub held : clock_held k ≡ true
  pub allowed : probe_allowed offset round_trip ≡ true

-- a delay and the last one, each absent or small enough for a step
abbrev pub DelayFits : Option ℤ → Type 0
DelayFits none = Unit {0}
DelayFits (some n) = mag n < 2 ^ 62

pub record OneWayFits (old : Option ℤ) (new : ℤ) : Type 0 where
  pub old_fits : DelayFits old
  pub new_fits : mag new < 2 ^ 62
