-- `audio_metrics::step_toward` meets its contract: the difference of two numbers in the range fits, and so do its quotient and the step. Assumes nothing.
use Rattle.std.proofs.Common.{nat_abs, w64}
use mir.ValLaws.{to_z-of_z}
use Rattle.model.specs.Clock.{step_toward}
use Rattle.audio_metrics.proofs.Signed.{step_fits, quotient_read}
use Rattle.audio_metrics.proofs.step_toward.Goals as goal

pub overflow_add-result : goal.overflow_add-result
overflow_add-result c = let a = c.args in
    rw (quotient_read a.n a.old a.new c.ranges.n c.ranges.old c.ranges.new c.requires.divisor c.requires.old_fits c.requires.new_fits, to_z-of_z w64 a.old c.ranges.old)
    (step_fits (nat_abs a.n) a.old a.new c.requires.old_fits c.requires.new_fits)

pub returns : goal.returns
unfolding step_toward
returns c = let a = c.args in
    rw (quotient_read a.n a.old a.new c.ranges.n c.ranges.old c.ranges.new c.requires.divisor c.requires.old_fits c.requires.new_fits, to_z-of_z w64 a.old c.ranges.old)
    (to_z-of_z w64 _ (step_fits (nat_abs a.n) a.old a.new c.requires.old_fits c.requires.new_fits))
