-- `receiver_state::readings::row_place` meets its contract. Assumes nothing.
use Rattle.receiver_state.proofs.readings.row_place.Goals as goal

pub returns : goal.returns
returns c = rw (c.starts-begin.ensures.0, c.section_offsets.ensures, c.in_ok-sizes.ensures.0, c.in_ok-sizes.ensures.1)
