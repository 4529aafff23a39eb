-- `areas::fill` meets its contract. The loop's invariant: the first elements of the part are x. Assumes nothing.
use Rattle.std.proofs.Common.{◌≡◌, take, replicate}
use Rattle.areas.proofs.fill.Given as goal

abbrev pub invariant-loop-y : goal.invariant-loop-y
invariant-loop-y g l = take l.y-index l.y-items ≡ replicate l.y-index l.x
