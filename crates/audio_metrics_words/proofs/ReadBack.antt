-- A clock that was written to its words is read back from them, where its numbers are of the widths that the struct has. Assumes nothing.
use Prim.Native.Nat.{suc, ◌-◌, ◌%◌, ◌^◌}
use native.Mathlib.Omega.{arith}
use native.Mathlib.Nat.{mod-eq_of_lt}
use mathlib.Core.Path.{◌≡◌, refl, ap}
use mathlib.Core.Option.{Option, none, some}
use lib.IntN.{ℤ, pos, negsuc}
use lib.ListN.{get_or}
use lib.Dec.{T}
use lib.Ieee.{Float, binary32, fits}
use lib.Ieee.Bits.{of_bits-to_bits, to_bits-lt}
use borrow.Author.Tests.{lt-ltb, le-ltb}
use mir.Syntax.{w64}
use mir.Val.{SFits}
use Rattle.model.specs.Floats.{to_bits}
use Rattle.model.specs.Clock.{Timing, Depth, Clock, bits64, signed64}
use Rattle.audio_metrics_words.specs.Words.{float_in, timing_in, delay_in, depth_in, clock_in, timing_words, delay_words, depth_words, clock_words}

-- the widths of the struct's fields
abbrev pub TimingWide : Option Timing → Type 0
TimingWide none = Unit {0}
TimingWide (some t) = SFits w64 t.offset

abbrev pub DelayWide : Option ℤ → Type 0
DelayWide none = Unit {0}
DelayWide (some n) = SFits w64 n

abbrev pub DepthWide : Option Depth → Type 0
DepthWide none = Unit {0}
DepthWide (some d) = T (fits binary32 d.average) × T (fits binary32 d.peak)

pub record Wide (k : Clock) : Type 0 where
  pub timing : TimingWide k.timing
  pub one_way : DelayWide k.one_way
  pub depth : DepthWide k.depth
  pub transmit_peak : T (fits binary32 k.transmit_peak)

pub signed_read_back : (n : ℤ) → SFits w64 n → signed64 (bits64 n) ≡ n
unfolding signed64 bits64
signed_read_back (pos n) f =
    let small : n % 2 ^ 64 ≡ n = mod-eq_of_lt (omega (arith, f.sfits)) in
    rw (small, lt-ltb n (2 ^ 63) (omega (arith, f.sfits)))
signed_read_back (negsuc n) f =
    let small : n % 2 ^ 64 ≡ n = mod-eq_of_lt (omega (arith, f.sfits)) in
    rw (small, le-ltb (2 ^ 64 - suc n) (2 ^ 63) (omega (arith, f.sfits))) (ap negsuc (omega (arith, f.sfits)))

pub float_read_back : (x : Float) → T (fits binary32 x) → float_in (to_bits x) ≡ x
unfolding float_in
float_read_back x f =
    let small : to_bits x % 2 ^ 32 ≡ to_bits x = mod-eq_of_lt (to_bits-lt binary32 x f) in
    rw small (of_bits-to_bits binary32 x f)

timing_read_back : (t : Option Timing) → TimingWide t
    → timing_in (get_or (timing_words t) 0 0) (get_or (timing_words t) 1 0) (get_or (timing_words t) 2 0) (get_or (timing_words t) 3 0) ≡ t
unfolding timing_in timing_words
timing_read_back none f = refl
timing_read_back (some t) f = rw (signed_read_back t.offset f)

delay_read_back : (n : Option ℤ) → DelayWide n → delay_in (get_or (delay_words n) 0 0) (get_or (delay_words n) 1 0) ≡ n
unfolding delay_in delay_words
delay_read_back none f = refl
delay_read_back (some n) f = rw (signed_read_back n f)

depth_read_back : (d : Option Depth) → DepthWide d
    → depth_in (get_or (depth_words d) 0 0) (get_or (depth_words d) 1 0) (get_or (depth_words d) 2 0) ≡ d
unfolding depth_in depth_words
depth_read_back none f = refl
depth_read_back (some d) f = rw (float_read_back d.average f.0, float_read_back d.peak f.1)

pub words_read_back : (k : Clock) → Wide k → clock_in (clock_words k) ≡ k
unfolding clock_in clock_words
words_read_back k f =
    rw (timing_read_back k.timing f.timing, delay_read_back k.one_way f.one_way, depth_read_back k.depth f.depth, float_read_back k.transmit_peak f.transmit_peak)
