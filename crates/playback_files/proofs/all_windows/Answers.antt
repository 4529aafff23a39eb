use Rattle.std.specs.Prelude.{Ok, Err}
use Rattle.std.proofs.lemmas.Result.{err_from_is_err_and}
use Rattle.playback_files.proofs.Known.{led_nowhere, led_on, led_to_the_end}
use Rattle.playback_files.proofs.all_windows.Goals as goal

pub loop-next-init : goal.loop-next-init
loop-next-init c = (c.requires.0, led_nowhere _)

pub loop-next-preserved : goal.loop-next-preserved
loop-next-preserved c = let on = rw c.in-Some.is at c.in_ok-next.ensures in
    (on.0.1, led_on _ _ c.in-Some.next _ _ _ c.loop-next.invariant.1 (rw c.loop-next.auto.window at on.1))

pub returns-in_err-next : goal.returns-in_err-next
returns-in_err-next c = let p = err_from_is_err_and c.from_residual.result c.from_residual.ensures.1 in
    rw (p.1, p.2) (led_to_the_end _ _ (Err c.in_err-next.field-0.0) _ _ _ c.loop-next.invariant.1 (rw c.loop-next.auto.window at c.in_err-next.ensures.1), c.in_err-next.ensures.2)

pub returns : goal.returns
returns c = let over = rw c.in_default.is at c.in_ok-next.ensures in
    (led_to_the_end _ _ (Ok tt) _ _ _ c.loop-next.invariant.1 (rw c.loop-next.auto.window at over.1), over.2)
