-- `jitter_buffer::close_up` meets its contract: both lists move by as many packets. Assumes nothing.
use Rattle.jitter_buffer.proofs.FillView.{closed_view}
use Rattle.jitter_buffer.proofs.close_up.Goals as goal

pub returns : goal.returns
returns c = let g = c.args in
    let p = c.requires in
    rw (c.move_down.ensures, c.move_down-2.ensures)
    (closed_view g.z.sizes g.j g.fs.now g.us.now g.taken p.lent p.waiting p.place p.queue)
