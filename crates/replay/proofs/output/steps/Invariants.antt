-- `replay::output::steps` meets its contract: what is areas keeps its length, and with each text that is written fewer steps are left. Assumes nothing.
use Rattle.std.proofs.Common.{◌≡◌, length}
use Rattle.playback.specs.Steps.{steps_left}
use Rattle.replay.proofs.output.steps.Given as goal

abbrev pub invariant-loop-playback : goal.invariant-loop-playback
invariant-loop-playback g l = length l.samples ≡ length l.initial.samples

abbrev pub decreases-loop-playback : goal.decreases-loop-playback
decreases-loop-playback g l = steps_left l.tape l.playback l.areas.fs l.samples
