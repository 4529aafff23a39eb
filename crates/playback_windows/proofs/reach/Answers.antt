-- `playback_windows::reach` meets its contract. Assumes nothing.
use Prim.Native.Nat.{◌/◌}
use native.Mathlib.Omega.{arith}
use lib.ListN.{length}
use Rattle.playback_windows.proofs.Pieces.{reach_of_the_last, reach_by_words}
use Rattle.playback_windows.proofs.reach.Goals as goal

pub returns-then-window : goal.returns-then-window
returns-then-window c = let g = c.args in rw c.if-window.true (reach_of_the_last g.window.bytes.now)

pub returns : goal.returns
returns c = let g = c.args in
    rw c.if-window.false (reach_by_words g.window.bytes.now (length g.window.bytes.now / 4) _ (omega arith) (omega arith) (omega (arith, c.saturating_sub.ensures)))
