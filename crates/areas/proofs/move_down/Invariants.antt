-- `areas::move_down` meets its contract. The loop's invariant: the elements before the next step are written. Assumes nothing.
use mathlib.Core.Path.{◌≡◌}
use Prim.Native.Nat.{◌-◌}
use Rattle.std.specs.Prelude.{min}
use Rattle.areas.specs.Parts.{moved}
use Rattle.areas.proofs.move_down.Given as goal

abbrev pub invariant-loop-i : goal.invariant-loop-i
invariant-loop-i g l = l.a ≡ moved l.from l.to (min l.i l.n) l.initial.a

abbrev pub decreases-loop-i : goal.decreases-loop-i
decreases-loop-i g l = l.n - l.i
