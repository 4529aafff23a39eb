-- `receiver::clock::clocked` meets its contract. Assumes nothing.
use mathlib.Core.Path.{refl}
use mathlib.Core.List.{[]}
use Rattle.receiver_state.proofs.CallLaws.{asked_refused, own_refused}
use Rattle.receiver.proofs.ClockCalls.{clock_held_law, clock_called}
use Rattle.receiver.proofs.clock.clocked.Goals as goal

pub returns-in_err-asked : goal.returns-in_err-asked
returns-in_err-asked g c = λ k f bytes own is post.
    asked_refused c.args.r c.args.fs.now c.args.us.now k bytes [] _ c.from_residual.ensures.1 c.in_err-asked.ensures

pub returns-then-not-in_range : goal.returns-then-not-in_range
returns-then-not-in_range g c = λ k f bytes own is post.
    own_refused c.args.r c.args.fs.now c.args.us.now (c.in_ok-asked.ensures.ready refl) k 9 bytes (rw c.if-not-in_range.true at own)

pub call-requires : goal.call-requires
call-requires g c = c.requires c.if-not-in_range.false (clock_held_law c.args.r c.args.fs.now c.args.us.now (c.in_ok-asked.ensures.ready refl))

pub accepted-requires : goal.accepted-requires
accepted-requires g c = rw c.with_clock.ensures (c.in_ok-asked.ensures.ready refl).calls

pub returns : goal.returns
returns g c = λ k f bytes own is post.
    rw (c.accepted.ensures, c.with_clock.ensures)
    (clock_called c.args.r c.args.fs.now c.args.us.now (c.in_ok-asked.ensures.ready refl) (λ i. (c.type_inv.us i).fits) k f c.call.result bytes
    (rw c.if-not-in_range.false at own) is (post c.call.result c.if-not-in_range.false c.call.ensures))
