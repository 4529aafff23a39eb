-- `floats::round` meets its contract: std's rounding has the model's cases. Assumes nothing.
use Rattle.std.proofs.Common.{◌≡◌, true, refl, ◌∙◌}
use Rattle.std.specs.Float.{Float, fin, binary32, float_round, round_with}
use Rattle.model.specs.Floats.{round_half_away}
use Rattle.floats.proofs.round.Goals as goal

same : (x : Float) → float_round binary32 x ≡ round_half_away x
unfolding round_half_away round_with
same (fin true m e) = refl
same _ = refl

pub returns : goal.returns
returns c = c.round.ensures ∙ same c.args.x
