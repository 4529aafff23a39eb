-- With each call of itself one argument fewer is left. Assumes nothing.
use Rattle.play.proofs.+take.Given as goal

abbrev pub decreases-take : goal.decreases-take
decreases-take l = l.left
