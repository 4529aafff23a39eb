-- `receiver_setup::zero_pictures` meets its contract. Assumes nothing.
use Rattle.receiver_setup.proofs.SetupLaws.{both_zeroed}
use Rattle.receiver_setup.proofs.zero_pictures.Goals as goal

pub returns : goal.returns
returns c = let g = c.args in
    both_zeroed g.z.sizes g.us.now c.requires _ _ _ _ c.word_section-start.ensures c.most_waiting-at.ensures c.fill.ensures c.fill-2.ensures
