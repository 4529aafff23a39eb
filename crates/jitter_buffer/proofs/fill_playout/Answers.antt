use Rattle.std.proofs.Common.{refl, ◌∙◌}
use Rattle.jitter_buffer.proofs.FillTurns.{begins, goes_on, turns, nearer, can_close, ends}
use Rattle.jitter_buffer.proofs.fill_playout.Goals as goal

pub loop-after-init : goal.loop-after-init
loop-after-init c = (begins _ _ _ _ c.args.z.allowed c.requires, refl)

pub fill_once-requires : goal.fill_once-requires
fill_once-requires c = goes_on c.loop-after.invariant.0

pub loop-after-smaller : goal.loop-after-smaller
loop-after-smaller c = nearer c.loop-after.invariant.0 _ _ _ (rw c.in-Some.is at c.fill_once.ensures) c.fill_once.auto.fs

pub loop-after-preserved : goal.loop-after-preserved
loop-after-preserved c = (turns c.loop-after.invariant.0 _ _ _ (rw c.in-Some.is at c.fill_once.ensures) c.fill_once.auto.fs, c.fill_once.auto.fs ∙ c.loop-after.invariant.1)

pub close_up-requires : goal.close_up-requires
close_up-requires c = let t = rw c.in_default.is at c.fill_once.ensures in rw t.1 (can_close c.loop-after.invariant.0)

pub returns : goal.returns
returns c = let t = rw c.in_default.is at c.fill_once.ensures in
    c.close_up.ensures ∙ rw t.1 (ends c.loop-after.invariant.0 t.0)
