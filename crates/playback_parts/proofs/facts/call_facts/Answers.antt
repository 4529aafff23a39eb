-- `playback_parts::facts::call_facts` meets its contract. Assumes nothing.
use Prim.Native.Nat.{◌+◌, ◌-◌}
use mathlib.Core.Path.{◌≡◌, refl, ◌∙◌, ap}
use native.Mathlib.Omega.{arith}
use Rattle.model.specs.Replay.{stream_side, side_of}
use Rattle.calls.specs.Views.{sizes_of}
use Rattle.receiver_state.specs.View.{stream_place}
use Rattle.playback_parts.proofs.facts.call_facts.Goals as goal

pub returns-in-Datagram : goal.returns-in-Datagram
unfolding side_of
returns-in-Datagram c = let count : c.in-Datagram.at + c.in-Datagram.len - c.in-Datagram.at ≡ c.in-Datagram.len = omega arith in
    let stream = rw count at c.stream_in-stream.ensures in
    rw (c.in-Datagram.is, c.of_clock-plain.ensures) (record {
      side = c.stream_facts-known.ensures.side ∙ ap stream_side stream;
      next_place = refl;
      samples = refl;
      row = λ ok. c.stream_facts-known.ensures.row ok ∙ ap (stream_place (sizes_of c.args.z)) stream;
    })
