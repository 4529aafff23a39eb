-- `receiver_state::asking::could_be_held` meets its contract: its answers are the parts of the model's question, in their order. Assumes nothing.
use Rattle.receiver_state.proofs.StateQuestions.{section_behind, rest_is, a_refused, b_refused, counts_left}
use Rattle.receiver_state.proofs.asking.could_be_held.Goals.{then-could_be_held, else-could_be_held}
use Rattle.receiver_state.proofs.asking.could_be_held.Goals as goal

pub could_be_held-requires-then-could_be_held : goal.could_be_held-requires-then-could_be_held
could_be_held-requires-then-could_be_held c = let g = c.args in
    rw (c.word_section-start.ensures, rest_is g.r g.us.now c.requires.1) (section_behind g.r g.us.now c.requires.1)

pub returns-then-could_be_held-2 : goal.returns-then-could_be_held-2
returns-then-could_be_held-2 c = let g = c.args in
    elim c.if-could_be_held.branch [
      | then-could_be_held w ↦
          let b = rw (c.word_section-start.ensures, rest_is g.r g.us.now c.requires.1, ← w.value-is, c.if-could_be_held-2.true) at w.could_be_held-then-could_be_held.ensures in
          counts_left g.r g.us.now c.requires.1 (rw w.if-could_be_held.true at c.could_be_held.ensures) b _ c.counts_could_be_held.ensures
      | else-could_be_held w ↦ cc
    ]

pub returns-else-could_be_held-2 : goal.returns-else-could_be_held-2
returns-else-could_be_held-2 c = let g = c.args in
    elim c.if-could_be_held.branch [
      | then-could_be_held w ↦
          let b = rw (c.word_section-start.ensures, rest_is g.r g.us.now c.requires.1, ← w.value-is, c.if-could_be_held-2.false) at w.could_be_held-then-could_be_held.ensures in
          rw c.if-could_be_held-2.false (b_refused g.r g.us.now c.requires.1 (rw w.if-could_be_held.true at c.could_be_held.ensures) b)
      | else-could_be_held w ↦ rw c.if-could_be_held-2.false (a_refused g.r g.us.now c.requires.1 (rw w.if-could_be_held.false at c.could_be_held.ensures))
    ]
