use Prim.Native.Nat.{ℕ}
use mathlib.Core.Path.{sym, ◌∙◌}
use lib.ListN.{length-replicate}
use Rattle.play.proofs.+take.Goals as goal

pub slice_bounds-check-end : goal.slice_bounds-check-end
slice_bounds-check-end t c = sym (length-replicate {0} {A = ℕ} 524288 0)

pub slice_bounds-lend-end : goal.slice_bounds-lend-end
slice_bounds-lend-end t c = sym (c.check.auto.window ∙ length-replicate {0} {A = ℕ} 524288 0)
