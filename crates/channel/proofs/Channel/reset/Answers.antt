-- `channel::Channel::reset` meets its contract: the buffer is reset, and the rest of the channel stays. Assumes nothing.
use Rattle.model.specs.Step.{reset_channel, with_buffer}
use Rattle.channel.proofs.Channel.reset.Goals as goal

pub returns : goal.returns
unfolding reset_channel with_buffer
returns c = λ z fs us. rw (← c.reset.ensures z fs us)
