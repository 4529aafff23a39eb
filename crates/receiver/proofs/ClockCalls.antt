-- The clock's accepted calls: the model's call on the clock, one call more, and nothing else changes. Assumes nothing.
use mathlib.Core.Path.{◌≡◌, refl}
use mathlib.Core.Bool.{true}
use mathlib.Core.Option.{none}
use mathlib.Core.List.{List}
use Prim.Native.Nat.{ℕ}
use lib.Ieee.{Float}
use Rattle.model.specs.Clock as Model
use Rattle.model.specs.Clock.{probe_offset, probe_round_trip, record_probe, record_one_way, record_depth, record_transmit}
use Rattle.model.specs.Receiver.{Call, accepted, is_accepted}
use Rattle.model.specs.Questions.{first_no, own_questions, clock_held, channel_held, held}
use Rattle.model.specs.Step.{on_clock, changes, one_call_more, accept}
use Rattle.model.specs.WholeList.{CallBytes}
use Rattle.model.proofs.BoolLaws.{first_of_both, second_of_both}
use Rattle.calls.specs.Views.{sizes_of}
use Rattle.jitter_buffer.proofs.HeldKept.{WordsFit}
use Rattle.audio_metrics.specs.declared.AudioMetrics.{AudioMetrics}
use Rattle.audio_metrics.specs.Views.{clock_of}
use Rattle.receiver_state.specs.declared.Receiver.{Receiver}
use Rattle.receiver_state.specs.View.{state_of}
use Rattle.receiver_state.specs.Fields.{counted, clock_set}
use Rattle.receiver_state.specs.Promises.{Called, Ready}
use Rattle.receiver_state.proofs.CallLaws.{areas_same, accepted_called}

module _ (r : Receiver) (fs : List Float) (us : List ℕ) (ready : Ready r fs us) where
  pub clock_held_law : clock_held (clock_of r.clock) ≡ true
  unfolding held
  clock_held_law =
      let b = second_of_both (channel_held (sizes_of r.sizes) _ (state_of r fs us).channel_a) _ ready.holds in
      first_of_both (clock_held (clock_of r.clock)) _ (second_of_both (channel_held (sizes_of r.sizes) _ (state_of r fs us).channel_b) _ b)

  -- a call on the clock that its own questions let through
  pub clock_called : WordsFit us → (c : Call) (f : Model.Clock → Model.Clock) (k : AudioMetrics) → CallBytes c → first_no (own_questions (sizes_of r.sizes) c) ≡ none
      → changes c (state_of r fs us) ≡ on_clock f (state_of r fs us) → clock_of k ≡ f (clock_of r.clock)
      → Called c r fs us accepted (counted (clock_set k r)) fs us
  unfolding accept on_clock one_call_more is_accepted
  clock_called words c f k bytes own is k-is =
      accepted_called r fs us ready words c accepted (counted (clock_set k r)) fs us bytes own refl (rw (is, ← k-is)) (areas_same (sizes_of r.sizes) fs us)
