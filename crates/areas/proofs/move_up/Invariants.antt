-- `areas::move_up` meets its contract. The loop's invariant: the elements from the place `left` on are written. Assumes nothing.
use mathlib.Core.Path.{◌≡◌}
use Prim.Native.Nat.{◌+◌, ◌-◌, ◌≤◌}
use lib.ListN.{length}
use Rattle.areas.specs.Parts.{moved}
use Rattle.areas.proofs.move_up.Given as goal

abbrev pub invariant-loop-left : goal.invariant-loop-left
invariant-loop-left g l = (l.left ≤ l.n) × (l.a ≡ moved (l.from + l.left) (l.to + l.left) (l.n - l.left) l.initial.a) × (length l.a ≡ length l.initial.a)

abbrev pub decreases-loop-left : goal.decreases-loop-left
decreases-loop-left g l = l.left
