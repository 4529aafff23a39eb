-- `playback_parts::parts::put_part` meets its contract. Assumes nothing.
use mathlib.Core.Path.{sym, ◌∙◌}
use native.Mathlib.Omega.{arith}
use borrow.Author.Tests.{eqb-true, eqb-false}
use Rattle.playback_parts.proofs.PartLaws.{line_ended, some_put}
use Rattle.playback_parts.proofs.parts.put_part.Goals as goal

pub returns-then-is_empty : goal.returns-then-is_empty
returns-then-is_empty c = let g = c.args in
    line_ended g.values.now g.text.now (eqb-true _ _ (sym c.is_empty.ensures ∙ c.if-is_empty.true)) (omega (arith, c.requires))

pub returns : goal.returns
returns c = let g = c.args in
    let some = eqb-false _ _ (sym c.is_empty.ensures ∙ c.if-is_empty.false) in
    some_put g.values.now g.text.now _ _ (omega (arith, some)) c.requires c.put_values-n.ensures
