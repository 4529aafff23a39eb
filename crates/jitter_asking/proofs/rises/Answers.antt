use Rattle.std.proofs.Common.{rules, ◌∙◌, le-ltb, lt-ltb}
use Rattle.jitter_asking.proofs.Asked.{pairs_all, pair_taken}
use Rattle.jitter_asking.proofs.rises.Goals as goal

pub loop-u-init : goal.loop-u-init
loop-u-init c = (search rules, pairs_all _ _ (search rules))

pub loop-u-preserved-then-next-u : goal.loop-u-preserved-then-next-u
loop-u-preserved-then-next-u c =
    let t = c.in-Some.ensures.steps in
    let size = c.loop-u.invariant.0 in
    (t.0 ∙ size, pair_taken _ _ _ _ _ _ c.loop-u.invariant.1 (rw size at t.1.0) (rw size at t.1.1) t.1.2 (rw (le-ltb _ _ c.if-next-u.true)))

pub loop-u-preserved : goal.loop-u-preserved
loop-u-preserved c =
    let t = c.in-Some.ensures.steps in
    let size = c.loop-u.invariant.0 in
    (t.0 ∙ size, pair_taken _ _ _ _ _ _ c.loop-u.invariant.1 (rw size at t.1.0) (rw size at t.1.1) t.1.2 (rw (lt-ltb _ _ c.if-next-u.false)))
