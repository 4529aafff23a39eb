-- `jitter_pop::pop_filled` meets its contract: the fill, then what is handed out of it. Assumes nothing.
use Rattle.jitter_buffer.proofs.AfterFill.{still_lent}
use Rattle.jitter_pop.proofs.Plays.{can_hand_out, plays}
use Rattle.jitter_pop.proofs.pop_filled.Goals as goal

pub hand_out-requires : goal.hand_out-requires
hand_out-requires c = let g = c.args in
    let p = c.requires in
    let b = c.fill_playout-b in
    rw c.apply_drift_correction-dropped.ensures
    (can_hand_out g.z.sizes g.j g.fs.now g.us.now g.z.allowed p.fill b.result b.new.fs b.new.us (still_lent p.fill.lent b.auto.fs b.auto.us) b.ensures _ p.few)

pub returns : goal.returns
returns c = let g = c.args in
    let p = c.requires in
    let b = c.fill_playout-b in
    plays g.z.sizes g.j g.fs.now g.us.now g.z.allowed p.fill b.result b.new.fs b.new.us (still_lent p.fill.lent b.auto.fs b.auto.us) b.ensures g.out.now
    c.hand_out.result c.hand_out.new.fs c.hand_out.new.out (rw c.apply_drift_correction-dropped.ensures at c.hand_out.ensures)
