-- `play::printing::replay` meets its contract. Assumes nothing.
use Rattle.playback_parts.proofs.Texts.{put_inside}
use Rattle.play.proofs.printing.replay.Goals as goal

pub refused-requires : goal.refused-requires
refused-requires c = let done = rw c.in-Err-Refused.field-0-is at c.in-Err-Refused.ensures in
    put_inside _ _ _ _ done.0.put
