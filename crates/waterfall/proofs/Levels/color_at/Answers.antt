-- `waterfall::Levels::color_at` meets its contract: the table has the level's colour at its place. Assumes nothing.
use mathlib.Core.Path.{ap, ◌∙◌}
use lib.Ieee.{nan}
use Rattle.std.proofs.lemmas.List.{get_or_default}
use Rattle.model.specs.Floats.{f0}
use Rattle.model.specs.Picture.{color_map}
use Rattle.spectrum_utils.proofs.Counted.{rule_at}
use borrow.Author.Rules.{rules}
use Rattle.std.proofs.lemmas.List.{get_or_default}
use Rattle.waterfall.proofs.Levels.color_at.Goals as goal

pub returns : goal.returns
returns c = rw c.args.self.now.table
    (rule_at color_map 256 c.level_above-level.result 0 (search rules)
    ∙ ap color_map (c.level_above-level.ensures ∙ rw (get_or_default c.args.bins.now c.args.bin nan f0 c.requires)))
