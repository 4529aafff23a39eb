-- `jitter_pop::pop_silence` meets its contract. Assumes nothing.
use mathlib.Core.Path.{refl, ◌∙◌}
use lib.Ieee.{of_bits}
use lib.ListN.{length-replicate}
use Rattle.jitter_pop.proofs.PlayView.{placed_whole}
use Rattle.jitter_pop.proofs.pop_silence.Goals as goal

pub returns : goal.returns
unfolding of_bits
returns c = let g = c.args in
    (refl, c.fill.ensures ∙ placed_whole _ _ (length-replicate _ _))
