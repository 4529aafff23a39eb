-- `playback_opening::begin` meets its contract. Assumes nothing.
use Rattle.playback_parts.specs.declared.Form.TheVariants as Form
use Rattle.playback_opening.proofs.Begins.{bad_begun, setup_begun}
use Rattle.playback_opening.proofs.begin.Goals as goal

pub returns-in-Err : goal.returns-in-Err
returns-in-Err c = let g = c.args in
    bad_begun Form.Full g.tape.now g.fs.now g.us.now g.text.now c.in-Err.bad.place _ _ c.in-Err.ensures.answers c.refuse.ensures

pub returns-in-Ok : goal.returns-in-Ok
returns-in-Ok c = let g = c.args in
    setup_begun Form.Full g.tape.now g.fs.now g.us.now g.text.now c.in-Ok.setup c.set_up.result c.set_up.new.us c.set_up.new.text c.in-Ok.ensures.answers c.set_up.ensures
