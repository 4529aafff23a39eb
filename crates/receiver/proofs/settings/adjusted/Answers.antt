-- `receiver::settings::adjusted` meets its contract. Assumes nothing.
use mathlib.Core.Path.{refl, sym}
use mathlib.Core.List.{[]}
use Rattle.calls.specs.Views.{model_side, model_settings}
use Rattle.model.specs.Receiver.{set}
use Rattle.receiver_state.proofs.CallLaws.{asked_refused}
use Rattle.receiver_state.proofs.SideCalls.{channel_set_calls}
use Rattle.receiver.proofs.SettingCalls.{set_refused, set_called}
use Rattle.receiver.proofs.settings.adjusted.Goals as goal

pub returns-in_err-asked : goal.returns-in_err-asked
returns-in_err-asked c = let g = c.args in
    asked_refused g.r g.fs.now g.us.now (set (model_side g.side) (model_settings g.settings)) tt [] _ c.from_residual.ensures.1 c.in_err-asked.ensures

pub returns-then-not-settings_finite : goal.returns-then-not-settings_finite
returns-then-not-settings_finite c = let g = c.args in
    set_refused g.r g.fs.now g.us.now (c.in_ok-asked.ensures.ready refl) (λ i. (c.type_inv.us i).fits) g.side g.settings (sym c.if-not-settings_finite.ensures)

pub accepted-requires : goal.accepted-requires
accepted-requires c = let g = c.args in
    rw c.with_channel.ensures (channel_set_calls g.side _ g.r (c.in_ok-asked.ensures.ready refl).calls)

pub returns : goal.returns
returns c = let g = c.args in
    rw (c.accepted.ensures, c.with_channel.ensures) (set_called g.r g.fs.now g.us.now (c.in_ok-asked.ensures.ready refl) (λ i. (c.type_inv.us i).fits) g.side g.settings c.set-channel.result (sym c.if-not-settings_finite.ensures) (rw c.channel_of.ensures at c.set-channel.ensures))
