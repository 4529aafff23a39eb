-- `receiver_state::sides::waterfall_on` meets its contract. Assumes nothing.
use Rattle.receiver_state.proofs.RowLending.{work_bins, row_ready, rows_taken}
use Rattle.receiver_state.proofs.sides.waterfall_on.Goals as goal

pub slice_bounds-waterfall-end-4 : goal.slice_bounds-waterfall-end-4
slice_bounds-waterfall-end-4 c = let g = c.args in
    let split = rw c.float_section.ensures at c.split_at_mut-sections.ensures in
    work_bins g.r g.fs.now g.us.now g.payload.now c.requires.0 c.requires.1 _ _ split.front split.back

pub waterfall-shown-requires : goal.waterfall-shown-requires
waterfall-shown-requires c = let g = c.args in
    let split = rw c.float_section.ensures at c.split_at_mut-sections.ensures in
    rw (c.starts-begin.ensures.0, c.starts-begin.ensures.1, c.channel_of.ensures) (row_ready g.r g.fs.now g.us.now g.payload.now c.requires.0 c.requires.1 _ _ split.front split.back g.side)

pub returns : goal.returns
returns c = let g = c.args in
    let split = rw c.float_section.ensures at c.split_at_mut-sections.ensures in
    let told = rw (c.starts-begin.ensures.0, c.starts-begin.ensures.1, c.channel_of.ensures) at c.waterfall-shown.ensures in
    rw (c.with_channel.ensures, c.starts-begin.ensures.0, c.starts-begin.ensures.1) (rows_taken g.r g.fs.now g.us.now g.payload.now c.requires.0 c.requires.1 _ _ split.front split.back g.side c.waterfall-shown.result c.waterfall-shown.new.fs c.waterfall-shown.new.us c.waterfall-shown.new.work told c.waterfall-shown.auto.work)
