-- `receiver::settings::cleared` meets its contract. Assumes nothing.
use mathlib.Core.Path.{refl}
use mathlib.Core.List.{[]}
use Rattle.calls.specs.Views.{model_side}
use Rattle.model.specs.Receiver.{reset}
use Rattle.receiver_state.proofs.CallLaws.{asked_refused}
use Rattle.receiver_state.proofs.SideCalls.{channel_set_calls}
use Rattle.receiver.proofs.SettingCalls.{reset_called}
use Rattle.receiver.proofs.settings.cleared.Goals as goal

pub returns-in_err-asked : goal.returns-in_err-asked
returns-in_err-asked c = let g = c.args in
    asked_refused g.r g.fs.now g.us.now (reset (model_side g.side)) tt [] _ c.from_residual.ensures.1 c.in_err-asked.ensures

pub accepted-requires : goal.accepted-requires
accepted-requires c = let g = c.args in
    rw c.with_channel.ensures (channel_set_calls g.side _ g.r (c.in_ok-asked.ensures.ready refl).calls)

pub returns : goal.returns
returns c = let g = c.args in
    rw (c.accepted.ensures, c.with_channel.ensures) (reset_called g.r g.fs.now g.us.now (c.in_ok-asked.ensures.ready refl) (λ i. (c.type_inv.us i).fits) g.side c.reset-channel.result (rw c.channel_of.ensures at c.reset-channel.ensures))
