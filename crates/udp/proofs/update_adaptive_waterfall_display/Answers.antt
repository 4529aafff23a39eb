-- `udp::update_adaptive_waterfall_display` meets its contract: the answers are the cases of `display_after`. Assumes nothing.
use Rattle.std.proofs.Common.{rules}
use Rattle.udp.specs.Views.{display_of}
use Rattle.udp.proofs.Adaptive.{follows_estimate}
use Rattle.udp.proofs.update_adaptive_waterfall_display.Goals as goal

pub returns : goal.returns
returns c = follows_estimate c.args.row.now (display_of c.args.display) (display_of c.map_or.result) c.estimate_row_floor_and_top_db.result c.if-not-display.false c.estimate_row_floor_and_top_db.ensures (search rules)
