-- `waterfall::draw_row_db` meets its contract: the rows move down, and the window's columns are drawn over them. Assumes nothing.
use mathlib.Core.Path.{◌∙◌}
use Rattle.waterfall.proofs.Rows.{picture_drawn}
use Rattle.waterfall.proofs.draw_row_db.Goals as goal

pub returns : goal.returns
returns c =
    c.draw_columns.ensures
    ∙ rw (c.move_up.ensures, c.below-levels.ensures.0, c.below-levels.ensures.1)
    (picture_drawn c.args.wf_width c.args.top_db c.args.range_db c.args.zoom c.args.row_db.now _ _ c.zoom_window-window.ensures.window c.zoom_window-window.ensures.inside.0 c.zoom_window-window.ensures.inside.1 c.args.wf_height c.args.buffer.now c.requires.some_rows c.requires.whole)
