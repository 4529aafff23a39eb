-- A clock whose view is known is known. Assumes nothing.
use mathlib.Core.Path.{◌≡◌, refl, sym, ◌∙◌, ap}
use Rattle.model.specs.Clock as Clock
use Rattle.std.specs.Prelude.{Option, None, Some, ℤ}
use Rattle.audio_metrics.specs.declared.ClockTiming.{ClockTiming}
use Rattle.audio_metrics.specs.declared.JitterDepth.{JitterDepth}
use Rattle.audio_metrics.specs.declared.AudioMetrics.{AudioMetrics}
use Rattle.audio_metrics.specs.Views.{timing_of, delay_of, depth_of, clock_of}
use Rattle.receiver_words.specs.State.{timing_back, delay_back, depth_back, clock_back}

timing_back_law : (t : Option ClockTiming) → timing_back (timing_of t) ≡ t
timing_back_law None = refl
timing_back_law (Some t) = refl

delay_back_law : (d : Option ℤ) → delay_back (delay_of d) ≡ d
delay_back_law None = refl
delay_back_law (Some n) = refl

depth_back_law : (d : Option JitterDepth) → depth_back (depth_of d) ≡ d
depth_back_law None = refl
depth_back_law (Some d) = refl

pub clock_back_law : (m : AudioMetrics) → clock_back (clock_of m) ≡ m
unfolding clock_back
clock_back_law m = rw (timing_back_law m.timing, delay_back_law m.one_way, depth_back_law m.jitter)

pub clock_read : (m : AudioMetrics) {k : Clock.Clock} → clock_of m ≡ k → m ≡ clock_back k
clock_read m e = sym (clock_back_law m) ∙ ap clock_back e
