-- `playback::stepping::made` meets its contract: a call that was not made had no room, as its facts are those of a call. Assumes nothing.
use mathlib.Core.Path.{refl}
use Rattle.model.specs.Tape.{call_at}
use Rattle.tape.proofs.WordLaws.{slice_are_bytes}
use Rattle.playback.proofs.Calls.{made_written}
use Rattle.playback.proofs.stepping.made.Goals as goal

pub returns : goal.returns
returns c = let g = c.args in
    let are = slice_are_bytes g.tape.now c.shared_slice_known-1.given in
    made_written g.tape.now g.w g.facts c.requires.doing g.form (call_at g.tape.now g.w.place) refl c.requires.facts_are are g.fs.now g.us.now g.samples.now g.text.now c.in-Ok.v _ _ _ _ _
    (rw c.requires.found_is.same at c.in-Ok.ensures) c.begun.ensures
