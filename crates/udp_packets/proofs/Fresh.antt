-- The settings that a screen starts with are the model's, each by computing; and with them a channel is a fresh one. Assumes nothing.
use mathlib.Core.Path.{◌≡◌, refl}
use mathlib.Core.Bool.{false}
use mathlib.Core.List.{List}
use Prim.Native.Nat.{◌*◌}
use lib.Count.{count_trailing_zeros}
use lib.Ieee as Ieee
use lib.Ieee.{Float, binary32}
use lib.ListN.{replicate}
use Rattle.model.specs.Floats.{from_bits, natf, f_35}
use Rattle.model.specs.JitterBuffer.{fresh_buffer}
use Rattle.model.specs.Receiver.{Estimates, fresh_display, fresh_channel}
use Rattle.model.proofs.Constants.{f_zero, f_one}
use Rattle.calls.specs.declared.Sizes.{Sizes}
use Rattle.calls.specs.Views.{sizes_of}
use Rattle.udp_packets.specs.declared.Screen.{Screen}
use Rattle.udp.specs.Views.{display_of}
use Rattle.udp_packets.specs.Packets.{FreshScreen, channel_of}

f_minus_35 : Ieee.neg (Ieee.of_bits binary32 0x420c0000) ≡ f_35
unfolding Ieee.neg Ieee.of_bits Ieee.of_fields Ieee.odd count_trailing_zeros Ieee.of_int Ieee.round Ieee.size Ieee.span Ieee.climb Ieee.units
f_minus_35 = refl

f_70 : Ieee.of_bits binary32 0x428c0000 ≡ natf 70
unfolding Ieee.of_bits Ieee.of_fields Ieee.odd count_trailing_zeros Ieee.of_int Ieee.round Ieee.size Ieee.span Ieee.climb Ieee.units
f_70 = refl

pub starts : (e : Estimates) (top floor range : Float) → top ≡ from_bits e.top → floor ≡ from_bits e.floor → range ≡ from_bits e.range
    → display_of (record {
      adaptive = false;
      top = Ieee.neg (Ieee.of_bits binary32 0x420c0000);
      range = Ieee.of_bits binary32 0x428c0000;
      zoom = Ieee.of_bits binary32 0x3f800000;
      smoothing = Ieee.of_bits binary32 0;
      top_estimate = top;
      floor_estimate = floor;
      range_estimate = range;
    })
    ≡ fresh_display e
unfolding fresh_display
starts e top floor range top-is floor-is range-is = rw (f_minus_35, f_70, f_one, f_zero, top-is, floor-is, range-is)

-- beside a fresh buffer and an empty picture, whatever the free places hold
pub fresh_channel_law : (z : Sizes) (s : Screen) (rows : List Float) (e : Estimates) (top floor range : Float) → FreshScreen top floor range s
    → top ≡ from_bits e.top → floor ≡ from_bits e.floor → range ≡ from_bits e.range
    → channel_of z fresh_buffer s rows (replicate (z.width * z.height) 0) ≡ fresh_channel (sizes_of z) e
unfolding fresh_channel
fresh_channel_law z s rows e top floor range fresh top-is floor-is range-is =
    rw (fresh.no_row, fresh.no_spectrum, fresh.no_smoothing, fresh.display e top-is floor-is range-is)
