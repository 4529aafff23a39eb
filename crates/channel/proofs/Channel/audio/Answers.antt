-- `channel::Channel::audio` meets its contract: the payload goes to the jitter buffer, over the front of the channel's sections. Assumes nothing.
use Rattle.jitter_buffer.proofs.HeldKept.{WordsFit}
use Rattle.channel.proofs.Sound.{lent_ready, audio_taken}
use Rattle.channel.proofs.Channel.audio.Goals as goal

pub handle_audio_packet-jitter-requires : goal.handle_audio_packet-jitter-requires
handle_audio_packet-jitter-requires c = let g = c.args in
    let words : WordsFit g.us.now = λ i. (c.slice_known-2-1.given i).fits in
    lent_ready c.requires c.section_offsets-offsets.ensures g.z.allowed words

pub returns : goal.returns
returns c = let g = c.args in
    let words : WordsFit g.us.now = λ i. (c.slice_known-2-1.given i).fits in
    audio_taken c.requires c.section_offsets-offsets.ensures g.z.allowed words g.sequence g.payload.now c.handle_audio_packet-jitter.result c.handle_audio_packet-jitter.new.fs c.handle_audio_packet-jitter.new.us c.ranges.sequence.fits c.handle_audio_packet-jitter.ensures
