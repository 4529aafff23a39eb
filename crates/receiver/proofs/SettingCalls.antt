-- A reset and a set that questions 1 to 4 let through: the model's call on the channel, over areas that stay. Assumes nothing.
use mathlib.Core.Path.{◌≡◌, refl}
use mathlib.Core.Bool.{true, false}
use mathlib.Core.List.{List}
use Prim.Native.Nat.{ℕ}
use lib.ListN.{drop}
use lib.Ieee.{Float}
use Rattle.model.specs.Receiver.{reset, set, accepted, refused, is_accepted}
use Rattle.model.specs.Questions.{first_no, own_questions, settings_finite}
use Rattle.model.specs.Step.{reset_channel, set_channel, changes}
use Rattle.calls.specs.declared.Side.{Side}
use Rattle.calls.specs.declared.Sizes.{Sizes}
use Rattle.calls.specs.declared.Settings.{Settings}
use Rattle.calls.specs.Views.{model_side, model_settings, sizes_of}
use Rattle.jitter_buffer.proofs.HeldKept.{WordsFit}
use Rattle.channel.specs.declared.Channel.{Channel}
use Rattle.channel.specs.Promises.{ResetDone, SettingsTaken}
use Rattle.receiver_state.specs.declared.Receiver.{Receiver}
use Rattle.receiver_state.specs.View.{float_start, word_start, channel_at}
use Rattle.receiver_state.specs.Fields.{counted, channel_set}
use Rattle.receiver_state.specs.Promises.{Called, Ready}
use Rattle.receiver_state.proofs.CallLaws.{areas_same, own_refused}
use Rattle.receiver_state.proofs.SideCalls.{side_step, side_called}

module _ (r : Receiver) (fs : List Float) (us : List ℕ) (ready : Ready r fs us) (words : WordsFit us) (side : Side) where
  pub reset_called : (c : Channel) → ((z : Sizes) (fs : List Float) (us : List ℕ) → ResetDone z (channel_at side r) fs us c)
      → Called (reset (model_side side)) r fs us accepted (counted (channel_set side c r)) fs us
  unfolding changes own_questions first_no is_accepted
  reset_called c done =
      side_called r fs us ready words (reset (model_side side)) side reset_channel accepted (channel_set side c r) fs us tt refl refl refl
      (side_step side reset_channel r c fs fs us us accepted (done r.sizes (drop (float_start (sizes_of r.sizes) side) fs) (drop (word_start (sizes_of r.sizes) side) us)) refl)
      (areas_same (sizes_of r.sizes) fs us)

  module _ (x : Settings) where
    pub set_refused : settings_finite (model_settings x) ≡ false → Called (set (model_side side) (model_settings x)) r fs us (refused 5) r fs us
    unfolding own_questions first_no
    set_refused five = own_refused r fs us ready (set (model_side side) (model_settings x)) 5 tt (rw five)

    pub set_called : (c : Channel) → settings_finite (model_settings x) ≡ true → ((z : Sizes) (fs : List Float) (us : List ℕ) → SettingsTaken z x (channel_at side r) fs us c)
        → Called (set (model_side side) (model_settings x)) r fs us accepted (counted (channel_set side c r)) fs us
    unfolding changes own_questions first_no is_accepted
    set_called c five done =
        side_called r fs us ready words (set (model_side side) (model_settings x)) side (set_channel (model_settings x)) accepted (channel_set side c r) fs us tt (rw five) refl refl
        (side_step side (set_channel (model_settings x)) r c fs fs us us accepted (done r.sizes (drop (float_start (sizes_of r.sizes) side) fs) (drop (word_start (sizes_of r.sizes) side) us)) refl)
        (areas_same (sizes_of r.sizes) fs us)
