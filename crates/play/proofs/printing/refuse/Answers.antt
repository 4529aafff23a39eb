-- `play::printing::refuse` meets its contract. Assumes nothing.
use Rattle.playback_parts.proofs.Texts.{put_inside}
use Rattle.play.proofs.printing.refuse.Goals as goal

pub refused-requires : goal.refused-requires
refused-requires c = put_inside _ _ _ _ c.in-Refused.ensures
