-- `waterfall::draw_columns` meets its contract. The loop's invariant: the first columns are drawn, they reach as far as `reach` says, and what shows has its
-- bin's colour. Assumes nothing.
use mathlib.Core.Path.{◌≡◌}
use lib.ListN.{length, take}
use Rattle.waterfall.specs.Shown.{bin_color, column_color}
use Rattle.waterfall.proofs.Drawn.{drawn}
use Rattle.waterfall.proofs.Reached.{Reached}
use Rattle.waterfall.proofs.draw_columns.Given as goal

abbrev pub invariant-loop-pixel : goal.invariant-loop-pixel
invariant-loop-pixel l = Reached l.width (length l.bins) l.pixel-index l.reach.bin l.reach.rest × (l.shown.color ≡ bin_color l.levels.bottom l.levels.range l.bins l.shown.bin)
    × (take l.pixel-index l.pixel-items ≡ drawn (column_color l.width l.levels.bottom l.levels.range l.bins) l.pixel-index)
