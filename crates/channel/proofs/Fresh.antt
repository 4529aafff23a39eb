-- A fresh buffer and a fresh screen over a picture of zeros are the model's fresh channel. Assumes nothing.
use mathlib.Core.Path.{◌≡◌}
use mathlib.Core.List.{List}
use Prim.Native.Nat.{ℕ, ◌*◌}
use lib.ListN.{replicate}
use lib.Ieee.{Float}
use Rattle.model.specs.Bytes.{part}
use Rattle.model.specs.Floats.{from_bits}
use Rattle.model.specs.Sizes.{most_waiting}
use Rattle.model.specs.JitterBuffer.{fresh_buffer}
use Rattle.model.specs.Receiver.{fresh_channel}
use Rattle.calls.specs.declared.Sizes.{Sizes}
use Rattle.calls.specs.declared.Estimates.{Estimates}
use Rattle.calls.specs.Views.{sizes_of, model_estimates}
use Rattle.jitter_buffer.specs.declared.JitterBuffer.{JitterBuffer}
use Rattle.jitter_buffer.specs.View.{view_of}
use Rattle.udp_packets.specs.declared.Screen.{Screen}
use Rattle.udp_packets.specs.Packets.{FreshScreen}
use Rattle.channel.specs.View.{channel_in}

pub fresh_channel_law : (z : Sizes) (e : Estimates) (j : JitterBuffer) (s : Screen) (top floor range : Float) (fs : List Float) (us : List ℕ)
    → view_of z j fs us ≡ fresh_buffer → FreshScreen top floor range s → top ≡ from_bits e.top → floor ≡ from_bits e.floor → range ≡ from_bits e.range
    → part (most_waiting (sizes_of z)) (z.width * z.height) us ≡ replicate (z.width * z.height) 0
    → channel_in z (record { jitter = j; screen = s }) fs us ≡ fresh_channel (sizes_of z) (model_estimates e)
unfolding fresh_channel
fresh_channel_law z e j s top floor range fs us buffer screen t f r picture =
    rw (buffer, screen.no_row, screen.no_spectrum, screen.no_smoothing, screen.display (model_estimates e) t f r, picture)
