-- `replay_vectors::compare::steps` ends: with each step fewer are left. Assumes nothing.
use Rattle.playback.specs.Steps.{steps_left}
use Rattle.replay_vectors.proofs.compare.steps.Given as goal

abbrev pub decreases-loop-v : goal.decreases-loop-v
decreases-loop-v l = steps_left l.tape l.playback l.areas.fs l.areas.samples
