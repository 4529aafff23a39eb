-- `receiver_setup::setup_asked` meets its contract: its answers are questions 1, 2 and 5, in their order. Assumes nothing.
use mathlib.Core.Path.{sym, ◌∙◌}
use Rattle.receiver_setup.proofs.SetupLaws.{setup_areas_refused, setup_estimates_refused, setup_all_yes}
use Rattle.receiver_setup.proofs.setup_asked.Goals as goal

pub returns-then-not-long : goal.returns-then-not-long
returns-then-not-long c = let g = c.args in
    setup_areas_refused g.z.sizes g.a g.b g.fs.now g.us.now g.z.allowed (sym c.areas_long-long.ensures ∙ c.if-not-long.true)

pub returns-then-not-finite : goal.returns-then-not-finite
returns-then-not-finite c = let g = c.args in
    setup_estimates_refused g.z.sizes g.a g.b g.fs.now g.us.now g.z.allowed (sym c.areas_long-long.ensures ∙ c.if-not-long.false) (sym c.both_finite-finite.ensures ∙ c.if-not-finite.true)

pub returns : goal.returns
returns c = let g = c.args in
    setup_all_yes g.z.sizes g.a g.b g.fs.now g.us.now g.z.allowed (sym c.areas_long-long.ensures ∙ c.if-not-long.false) (sym c.both_finite-finite.ensures ∙ c.if-not-finite.false)
