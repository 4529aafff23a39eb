-- `floats::round_to_u8` meets its contract: the laws of `proofs/Narrow.antt`, one for each way. Assumes nothing.
use Rattle.std.proofs.Common.{sym, ap, ◌∙◌}
use Rattle.std.proofs.lemmas.Float.{T_from_true}
use lib.Ieee.{of_bits, to_unsigned}
use Rattle.floats.proofs.Narrow.{whole_to_u8, large_gives_255, not_positive_gives_0}
use Rattle.floats.proofs.round_to_u8.Goals as goal

pub half_up-requires : goal.half_up-requires
unfolding of_bits
half_up-requires c = record { fact_1 = T_from_true _ c.if-x.true; fact_2 = T_from_true _ c.if-x-2.true }

pub returns-then-x-2 : goal.returns-then-x-2
returns-then-x-2 c = c.min.ensures ∙ sym (whole_to_u8 c.half_up.result c.half_up.ensures.1) ∙ ap (to_unsigned 8) c.half_up.ensures.0

pub returns-else-x-2 : goal.returns-else-x-2
unfolding of_bits
returns-else-x-2 c = large_gives_255 c.args.x (T_from_true _ c.well_formed.0.1) c.if-x.true c.if-x-2.false

pub returns-else-x : goal.returns-else-x
unfolding of_bits
returns-else-x c = not_positive_gives_0 c.args.x (T_from_true _ c.well_formed.0.1) c.if-x.false
