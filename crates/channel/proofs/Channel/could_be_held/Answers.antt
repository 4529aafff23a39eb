-- `channel::Channel::could_be_held` meets its contract: the two answers are the parts of the model's question. Assumes nothing.
use Rattle.channel.proofs.Asking.{buffer_refused, screen_left}
use Rattle.channel.proofs.Channel.could_be_held.Goals as goal

pub returns-then-could_be_held : goal.returns-then-could_be_held
returns-then-could_be_held c = let g = c.args in
    screen_left g.z.sizes g.self g.us.now g.calls g.z.allowed c.requires (rw (c.most_waiting-most.ensures, c.if-could_be_held.true) at c.could_be_held.ensures)
    c.could_be_held-then-could_be_held.result c.could_be_held-then-could_be_held.ensures

pub returns-else-could_be_held : goal.returns-else-could_be_held
returns-else-could_be_held c = let g = c.args in
    rw c.if-could_be_held.false (buffer_refused g.z.sizes g.self g.us.now g.calls g.z.allowed c.requires (rw (c.most_waiting-most.ensures, c.if-could_be_held.false) at c.could_be_held.ensures))
