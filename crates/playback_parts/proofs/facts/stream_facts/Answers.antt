-- `playback_parts::facts::stream_facts` meets its contract. Assumes nothing.
use mathlib.Core.Path.{refl}
use Rattle.model.specs.Replay.{stream_side}
use Rattle.calls.specs.Views.{sizes_of}
use Rattle.playback_parts.proofs.Streams.{row_of_side}
use Rattle.playback_parts.proofs.facts.stream_facts.Goals as goal

pub returns-in-Audio : goal.returns-in-Audio
unfolding stream_side
returns-in-Audio c = rw c.in-Audio.is (record { side = refl; row = λ ok. refl })

pub returns-in-Waterfall : goal.returns-in-Waterfall
unfolding stream_side
returns-in-Waterfall c =
    rw c.in-Waterfall.is (record { side = refl; row = λ ok. rw (c.unwrap_or.ensures, c.row_place.ensures, ok) (row_of_side (sizes_of c.args.z) c.in-Waterfall.side) })

pub returns-in-Other : goal.returns-in-Other
unfolding stream_side
returns-in-Other c = rw c.in-Other.is (record { side = refl; row = λ ok. refl })
