use mathlib.Core.Path.{refl, sym, ◌∙◌}
use native.Mathlib.Omega.{arith}
use borrow.Author.Tests.{not-true, not-false}
use Rattle.playback_pieces.specs.Gathered.{moment}
use Rattle.playback_pieces.proofs.Gathers.{gathers_nothing, gathers_one_more}
use Rattle.playback_pieces.proofs.pieces.Goals as goal

pub loop-text-init : goal.loop-text-init
loop-text-init c = let g = c.args in
    (gathers_nothing g.form g.tape.now g.until (moment g.w g.fs.now g.us.now g.samples.now) g.text.now, refl)

pub returns : goal.returns
returns c = rw c.stopped-2.ensures (record { gathering = c.loop-text.invariant.0; stopped = omega (arith, c.loop-text-test.false, c.loop-text.invariant.0.inside) })

pub returns-then-not-comes_before : goal.returns-then-not-comes_before
returns-then-not-comes_before c = rw c.stopped.ensures (record { gathering = c.loop-text.invariant.0; stopped = sym c.comes_before.ensures ∙ not-true _ c.if-not-comes_before.true-raw })

pub loop-text-smaller : goal.loop-text-smaller
loop-text-smaller c = let w = c.in-Some.ensures in
    rw w.playback_is w.step.less

pub loop-text-preserved : goal.loop-text-preserved
loop-text-preserved c = let g = c.args in
    let as_long = c.text-1.given ∙ c.loop-text.invariant.1 in (
      gathers_one_more g.form g.tape.now g.until (moment g.w g.fs.now g.us.now g.samples.now) g.text.now c.loop-text.p c.loop-text.fs c.loop-text.us c.loop-text.samples c.loop-text.text _ _ _ _ _
          c.loop-text.invariant.0 (sym c.comes_before.ensures ∙ not-false _ c.if-not-comes_before.false-raw) as_long c.in-Some.ensures,
      as_long,
    )

pub returns-in_default : goal.returns-in_default
returns-in_default c = let e = c.in_default.ensures in
    rw (c.stopped-in_default.ensures, e.1, e.2, e.3, e.4) (record { gathering = c.loop-text.invariant.0; stopped = (e.0, omega (arith, c.loop-text-test.true, c.loop-text.invariant.0.inside, c.loop-text.invariant.1)) })
