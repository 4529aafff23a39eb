-- It calls itself once, with more samples asked for than the little memory has. Assumes nothing.
use Prim.Native.Nat.{◌-◌}
use Rattle.replay.proofs.output.+play.Given as goal

abbrev pub decreases-play : goal.decreases-play
decreases-play g l = 1025 - l.asked
