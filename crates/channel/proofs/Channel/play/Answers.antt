-- `channel::Channel::play` meets its contract: the jitter buffer is played, over the front of the channel's sections. Assumes nothing.
use Rattle.jitter_buffer.proofs.HeldKept.{WordsFit}
use Rattle.channel.proofs.Sound.{lent_ready, channel_played}
use Rattle.channel.proofs.Channel.play.Goals as goal

pub pop_samples-popped-requires : goal.pop_samples-popped-requires
pop_samples-popped-requires c = let g = c.args in
    let words : WordsFit g.us.now = λ i. (c.slice_known-2-1.given i).fits in
    (lent_ready c.requires.0 c.section_offsets-offsets.ensures g.z.allowed words, c.requires.1)

pub returns : goal.returns
returns c = let g = c.args in
    let words : WordsFit g.us.now = λ i. (c.slice_known-2-1.given i).fits in
    channel_played c.requires.0 c.section_offsets-offsets.ensures g.z.allowed words g.out.now c.pop_samples-popped.result c.pop_samples-popped.new.fs c.pop_samples-popped.new.us c.pop_samples-popped.new.out c.pop_samples-popped.ensures
