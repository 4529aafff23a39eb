-- An audio payload stops, or is pushed. Assumes nothing.
use mathlib.Core.Path.{◌≡◌}
use mathlib.Core.Bool.{true, false}
use mathlib.Core.Option.{none}
use mathlib.Core.List.{List}
use Prim.Native.Nat.{ℕ}
use lib.Ieee.{Float}
use Rattle.model.specs.Floats.{f0}
use Rattle.model.specs.Sizes.{Sizes}
use Rattle.model.specs.Samples.{holds_samples}
use Rattle.model.specs.JitterBuffer.{Buffer, push}
use Rattle.model.specs.Receiver.{Channel, row}
use Rattle.model.specs.Step.{with_buffer, audio_into}
use Rattle.jitter_buffer.specs.View.{packet_of}

module _ (z : Sizes) (s : ℕ) (payload : List ℕ) (b : Buffer Float) (c : Channel) where
  pub audio_stops : holds_samples payload ≡ false → audio_into z s payload (with_buffer b c) ≡ record { after = with_buffer b c; answer = row none }
  unfolding audio_into
  audio_stops none-held = rw none-held

  pub audio_pushes : (pushed : Buffer Float) → pushed ≡ push f0 z (packet_of s payload) b → holds_samples payload ≡ true
      → audio_into z s payload (with_buffer b c) ≡ record { after = with_buffer pushed c; answer = row none }
  unfolding audio_into with_buffer
  audio_pushes pushed is held = rw (held, is)
