use mathlib.Core.Path.{◌≡◌, ◌∙◌}
use Prim.Native.Nat.{◌*◌, ◌/◌, ◌%◌}
use native.Mathlib.Omega.{arith}
use lib.ListN.{length}
use lib.Seq.{length-take-le}
use Rattle.waterfall.specs.Shown.{column_color}
use Rattle.waterfall.proofs.Drawn.{drawn_none, drawn_suc, all_drawn}
use Rattle.waterfall.proofs.Reached.{none_reached, reached_bin, reached_more, one_column}
use Rattle.waterfall.proofs.draw_columns.Goals as goal

pub loop-pixel-init : goal.loop-pixel-init
loop-pixel-init c = let g = c.args in (
  none_reached g.width (length g.bins.now) c.requires.some_columns,
  c.color_at.ensures,
  drawn_none (column_color g.width g.levels.now.bottom g.levels.now.range g.bins.now),
)

pub loop-pixel-preserved : goal.loop-pixel-preserved
loop-pixel-preserved c = let g = c.args in
    let bins = length g.bins.now in
    let f = column_color g.width g.levels.now.bottom g.levels.now.range g.bins.now in
    let bin : c.loop-pixel.pixel-index * bins / g.width ≡ c.loop-pixel.reach.bin = reached_bin g.width bins c.loop-pixel.pixel-index c.loop-pixel.reach.bin c.loop-pixel.reach.rest c.loop-pixel.invariant.0 in
    let pixel : c.shown_at-shown.result.color ≡ f c.loop-pixel.pixel-index = c.shown_at-shown.ensures.1 ∙ rw bin in (
      reached_more g.width bins c.loop-pixel.pixel-index c.loop-pixel.reach.bin c.loop-pixel.reach.rest (bins / g.width) (bins % g.width) c.further-reach.result.bin c.further-reach.result.rest c.loop-pixel.invariant.0 (one_column g.width bins) c.further-reach.ensures.0 c.further-reach.ensures.1,
      c.shown_at-shown.ensures.1 ∙ rw c.shown_at-shown.ensures.0,
      rw pixel (drawn_suc f c.loop-pixel.pixel-index c.loop-pixel.pixel-items (omega arith) c.loop-pixel.invariant.2),
    )

pub returns : goal.returns
returns c = let g = c.args in
    let room = length-take-le g.width g.buffer.now c.requires.fits in
    all_drawn (column_color g.width g.levels.now.bottom g.levels.now.range g.bins.now) g.width c.loop-pixel.pixel-index c.loop-pixel.pixel-items g.buffer.now (omega (arith, room)) (omega (arith, room)) c.loop-pixel.invariant.2
