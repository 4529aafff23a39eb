-- `receiver::clock::transmit_depth` meets its contract. Assumes nothing.
use Rattle.std.proofs.Common.{rules, refl}
use Rattle.model.specs.Clock.{record_transmit}
use Rattle.model.specs.Questions.{first_no, own_questions}
use Rattle.model.specs.Receiver.{transmit_depth}
use Rattle.model.specs.Step.{changes}
use Rattle.receiver.proofs.clock.transmit_depth.Goals as goal

pub returns : goal.returns
unfolding own_questions first_no changes
returns c = let g = c.args in
    rw c.answered.ensures (c.clocked.ensures (transmit_depth g.samples) (record_transmit g.samples) tt (rw c.depth_in_range-in_range.ensures) refl (λ k yes p. search rules))
