-- `playback::stepping::called` meets its contract. Assumes nothing.
use mathlib.Core.Path.{refl}
use Rattle.playback.proofs.Written.{line_a_written}
use Rattle.playback.proofs.Calls.{end_found}
use Rattle.playback.proofs.stepping.called.Goals as goal

pub made-requires : goal.made-requires
made-requires c = record {
  doing = c.requires.0;
  room = c.requires.1;
  found_is = c.call_at-found.ensures;
  facts_are = rw (c.call_at-found.ensures.same, c.in-Some.is) at c.in_ok-facts.ensures;
}

pub returns-in-None : goal.returns-in-None
returns-in-None c = let g = c.args in
    let known = rw (c.call_at-found.ensures.same, c.in-None.is) at c.in_ok-facts.ensures in
    rw c.on.ensures (line_a_written g.form g.tape.now g.w g.fs.now g.us.now g.samples.now g.text.now _ _ c.requires.0 (end_found _ _ known) (record { put = rw c.report_of.ensures at c.put_sound.ensures; behind = refl }))
