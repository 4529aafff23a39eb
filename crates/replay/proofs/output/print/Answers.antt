-- `replay::output::print`: the bytes of a refusal lie inside of the text. Assumes nothing.
use Rattle.std.proofs.Common.{sym, length-take-le}
use Rattle.playback_parts.proofs.Texts.{put_inside}
use Rattle.replay.proofs.output.print.Goals as goal

pub slice_bounds-write_all-end : goal.slice_bounds-write_all-end
slice_bounds-write_all-end g c = let done = rw c.in-Err-Refused.field-0-is at c.in-Err-Refused.ensures in
    sym (length-take-le _ _ (put_inside _ _ _ _ done.0))
