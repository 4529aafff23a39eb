-- `receiver_state::sides::audio_on` meets its contract. Assumes nothing.
use Rattle.receiver_state.proofs.Lending.{channel_ready, sound_taken}
use Rattle.receiver_state.proofs.sides.audio_on.Goals as goal

pub audio-channel-requires : goal.audio-channel-requires
audio-channel-requires c = let g = c.args in
    rw (c.starts-begin.ensures.0, c.starts-begin.ensures.1, c.channel_of.ensures) (channel_ready g.r g.fs.now g.us.now c.requires g.side)

pub returns : goal.returns
returns c = let g = c.args in
    let told = rw (c.starts-begin.ensures.0, c.starts-begin.ensures.1, c.channel_of.ensures) at c.audio-channel.ensures in
    rw (c.with_channel.ensures, c.starts-begin.ensures.0, c.starts-begin.ensures.1) (sound_taken g.r g.fs.now g.us.now c.requires g.side _ c.audio-channel.result _ c.audio-channel.new.fs c.audio-channel.new.us told.step told.behind)
