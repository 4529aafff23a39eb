-- `receiver_state::readings::picture_place` meets its contract. Assumes nothing.
use Rattle.receiver_state.proofs.readings.picture_place.Goals as goal

pub returns : goal.returns
returns c = rw (c.starts.ensures.1, c.most_waiting.ensures, c.in_ok-sizes.ensures.0, c.in_ok-sizes.ensures.1)
