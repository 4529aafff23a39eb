-- `receiver::clock::depth` meets its contract. Assumes nothing.
use Rattle.std.proofs.Common.{rules, refl}
use Rattle.model.specs.Clock.{record_depth}
use Rattle.model.specs.Questions.{first_no, own_questions}
use Rattle.model.specs.Receiver.{depth}
use Rattle.model.specs.Step.{changes}
use Rattle.calls.specs.Views.{model_counts}
use Rattle.receiver.proofs.clock.depth.Goals as goal

pub returns : goal.returns
unfolding own_questions first_no changes
returns c = let g = c.args in
    rw c.answered.ensures (c.clocked.ensures (depth g.samples (model_counts g.counts)) (record_depth g.samples (model_counts g.counts)) tt (rw c.depth_in_range-in_range.ensures) refl (λ k yes p. search rules))
