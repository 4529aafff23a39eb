-- The range of a delay that a clock may hold. Assumes nothing.
use Rattle.std.proofs.Common.{◌≡◌, ◌-◌, ◌^◌, ◌<◌, true, leb, ℤ, pos, negsuc, arith, leb-true}
use mathlib.Core.Bool.{false≢true}
use mathlib.Core.Option.{Option, none, some}
use lib.Signed.{mag}
use Rattle.model.specs.Clock.{Timing, Clock, one_way_in_range}
use Rattle.model.specs.Questions.{one_way_held, timing_held, clock_held}
use Rattle.model.proofs.BoolLaws.{first_of_both, second_of_both}
use Rattle.audio_metrics.specs.Requires.{DelayFits}

pub in_range_below : (n : ℤ) → one_way_in_range n ≡ true → mag n < 2 ^ 62
unfolding one_way_in_range
in_range_below (pos n) h = omega (arith, leb-true n 5000000000 h)
in_range_below (negsuc n) h = omega (arith, leb-true n 999999999 (first_of_both (leb n 999999999) true h))

-- a held clock's delay is in its range
delay_held : (t : Option Timing) (n : Option ℤ) → one_way_held t n ≡ true → DelayFits n
unfolding one_way_held
delay_held t none h = tt
delay_held none (some n) h = absurd (false≢true h)
delay_held (some t) (some n) h = in_range_below n h

pub clock_delay_below : (k : Clock) → clock_held k ≡ true → DelayFits k.one_way
unfolding clock_held
clock_delay_below k h = delay_held k.timing k.one_way (second_of_both (timing_held k.timing) _ h)
