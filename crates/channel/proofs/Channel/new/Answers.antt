-- `channel::Channel::new` meets its contract. Assumes nothing.
use Rattle.channel.proofs.Fresh.{fresh_channel_law}
use Rattle.channel.proofs.Channel.new.Goals as goal

pub returns : goal.returns
returns c = let g = c.args in
    λ z fs us zeros.
    fresh_channel_law z g.estimates c.new.result c.new-2.result _ _ _ fs us (c.new.ensures z fs us) c.new-2.ensures
    c.from_bits.ensures c.from_bits-2.ensures c.from_bits-3.ensures zeros
