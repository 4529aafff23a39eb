-- A call on one channel: the model's call on that side, and the other channel is read as before. Assumes nothing.
use mathlib.Core.Path.{◌≡◌, refl}
use mathlib.Core.Bool.{true}
use mathlib.Core.Option.{none}
use mathlib.Core.List.{List}
use Prim.Native.Nat.{ℕ, ◌<◌}
use lib.ListN.{drop}
use lib.Ieee.{Float}
use Rattle.model.specs.Receiver as Model
use Rattle.model.specs.Receiver.{Call, is_accepted}
use Rattle.model.specs.Questions.{most_calls, first_no, own_questions}
use Rattle.model.specs.Step.{ChannelResult, on_side, changes, one_call_more, accept}
use Rattle.model.specs.WholeList.{CallBytes}
use Rattle.calls.specs.declared.Side.{Side}
use Rattle.calls.specs.declared.Side.TheVariants.{A, B}
use Rattle.calls.specs.Views.{model_side, sizes_of}
use Rattle.jitter_buffer.proofs.HeldKept.{WordsFit}
use Rattle.channel.specs.declared.Channel.{Channel}
use Rattle.channel.specs.View.{channel_in}
use Rattle.receiver_state.specs.declared.Receiver.{Receiver}
use Rattle.receiver_state.specs.View.{float_start, word_start, channel_at, state_of}
use Rattle.receiver_state.specs.Fields.{counted, channel_set}
use Rattle.receiver_state.specs.Promises.{AreasKept, Called, Ready}
use Rattle.receiver_state.proofs.CallLaws.{accepted_called}

abbrev pub other_side : Side → Side
other_side A = B
other_side B = A

-- a channel's view, over the areas from where its sections begin
abbrev pub channel_on : Side → Receiver → List Float → List ℕ → Model.Channel
channel_on side r fs us = channel_in r.sizes (channel_at side r) (drop (float_start (sizes_of r.sizes) side) fs) (drop (word_start (sizes_of r.sizes) side) us)

-- ---- the model's side

pub side_step : (side : Side) (f : Model.Channel → ChannelResult) (r : Receiver) (c : Channel) (fs fs' : List Float) (us us' : List ℕ) (a : Model.Answer)
    → f (channel_on side r fs us)
    ≡ record { after = channel_in r.sizes c (drop (float_start (sizes_of r.sizes) side) fs') (drop (word_start (sizes_of r.sizes) side) us'); answer = a }
    → channel_on (other_side side) r fs us ≡ channel_on (other_side side) r fs' us'
    → on_side (model_side side) f (state_of r fs us) ≡ record { after = state_of (channel_set side c r) fs' us'; answer = a }
unfolding on_side
side_step A f r c fs fs' us us' a own other = rw (own, other)
side_step B f r c fs fs' us us' a own other = rw (own, other)

module _ (r : Receiver) (fs : List Float) (us : List ℕ) (ready : Ready r fs us) (words : WordsFit us) where
  -- a call on one side that its own questions let through, counted
  pub side_called : (c : Call) (side : Side) (f : Model.Channel → ChannelResult) (a : Model.Answer) (r' : Receiver) (fs' : List Float) (us' : List ℕ)
      → CallBytes c → first_no (own_questions (sizes_of r.sizes) c) ≡ none → is_accepted a ≡ true
      → changes c (state_of r fs us) ≡ on_side (model_side side) f (state_of r fs us)
      → on_side (model_side side) f (state_of r fs us) ≡ record { after = state_of r' fs' us'; answer = a }
      → AreasKept (sizes_of r.sizes) fs us fs' us' → Called c r fs us a (counted r') fs' us'
  unfolding accept one_call_more
  side_called c side f a r' fs' us' bytes own accepts is done areas =
      accepted_called r fs us ready words c a (counted r') fs' us' bytes own accepts (rw (is, done)) areas

pub channel_uncounted : (side : Side) (c : Channel) (r : Receiver) → (channel_set side c r).calls ≡ r.calls
channel_uncounted A c r = refl
channel_uncounted B c r = refl

pub channel_set_calls : (side : Side) (c : Channel) (r : Receiver) → r.calls < most_calls → (channel_set side c r).calls < most_calls
channel_set_calls A c r few = few
channel_set_calls B c r few = few
