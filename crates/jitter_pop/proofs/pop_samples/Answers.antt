-- `jitter_pop::pop_samples` meets its contract: a held state is one that a play keeps. Assumes nothing.
use Rattle.std.proofs.Common.{rules}
use mathlib.Core.Path.{refl}
use native.Mathlib.Omega.{arith}
use Rattle.jitter_buffer.specs.View.{next_of}
use Rattle.model.proofs.HeldKept.{NextFits}
use Rattle.jitter_buffer.proofs.HeldKept.{WordsFit, ready_fill}
use Rattle.jitter_pop.proofs.Plays.{pop_played, pop_silent}
use Rattle.jitter_pop.proofs.pop_samples.Goals as goal

pub pop_silence-requires : goal.pop_silence-requires
pop_silence-requires c = let g = c.args in
    let p = c.requires.0 in
    let words : WordsFit g.us.now = λ i. (c.type_inv.us i).fits in
    let next : NextFits (next_of g.j.next_sequence) = rw c.in-None.is tt in
    omega (arith, (ready_fill g.z g.j g.fs.now g.us.now p next words).counts.filled, c.requires.1)

pub pop_filled-requires : goal.pop_filled-requires
pop_filled-requires c = let g = c.args in
    let p = c.requires.0 in
    let words : WordsFit g.us.now = λ i. search rules in
    let next : NextFits (next_of g.j.next_sequence) = rw c.in-Some.is (search rules) in
    record { fill = ready_fill g.z g.j g.fs.now g.us.now p next words; few = c.requires.1 }

pub returns-in-None : goal.returns-in-None
returns-in-None c = let g = c.args in
    record {
      played = pop_silent g.z g.j g.fs.now g.us.now c.in-None.is _ c.pop_silence.result c.pop_silence.new.out c.pop_silence.ensures.0 c.pop_silence.ensures.1;
      lent = record { floats = refl; words = refl };
    }

pub returns-in-Some : goal.returns-in-Some
returns-in-Some c = let g = c.args in
    record {
      played = pop_played g.z g.j g.fs.now g.us.now _ c.in-Some.is _ c.pop_filled.result c.pop_filled.new.fs c.pop_filled.new.us c.pop_filled.new.out c.pop_filled.ensures;
      lent = record { floats = c.pop_filled.auto.fs; words = c.pop_filled.auto.us };
    }
