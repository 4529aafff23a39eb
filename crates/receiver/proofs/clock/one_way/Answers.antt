-- `receiver::clock::one_way` meets its contract. Assumes nothing.
use Rattle.std.proofs.Common.{rules, refl}
use Rattle.model.specs.Clock.{record_one_way}
use Rattle.model.specs.Questions.{first_no, own_questions}
use Rattle.model.specs.Receiver.{one_way}
use Rattle.model.specs.Step.{changes}
use Rattle.receiver.proofs.clock.one_way.Goals as goal

pub returns : goal.returns
unfolding own_questions first_no changes
returns c = let g = c.args in
    rw c.answered.ensures (c.clocked.ensures (one_way g.times.receive g.times.send) (record_one_way g.times.receive g.times.send) tt refl refl (λ k yes p. search rules))
