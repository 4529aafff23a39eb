-- `channel::Channel::set` meets its contract: each setting is the float of its pattern. Assumes nothing.
use Rattle.model.specs.Step.{set_channel, set_display}
use Rattle.channel.proofs.Channel.set.Goals as goal

pub returns : goal.returns
unfolding set_channel set_display
returns c = λ z fs us. simp (c.from_bits.ensures, c.from_bits-2.ensures, c.from_bits-3.ensures, c.from_bits-4.ensures)
