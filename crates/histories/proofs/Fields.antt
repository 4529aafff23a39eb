-- What is said of a channel's buffer in the view is said of the struct's fields and the area's words. Assumes nothing.
use Rattle.std.proofs.Common.{Some}
use mathlib.Core.Path.{◌≡◌, refl, ◌∙◌, ap}
use mathlib.Core.Bool.{true}
use mathlib.Core.List.{List}
use Prim.Native.Nat.{ℕ, zero, suc, ◌+◌, ◌-◌, ◌≤◌, ◌<◌}
use native.Mathlib.Nat.{add-suc, suc-add, add-zero, zero-add}
use native.Mathlib.Omega.{arith}
use lib.ListN.{length, get_or, drop, length-take, length-drop}
use lib.Seq.{get_or-drop}
use lib.Ieee.{Float}
use borrow.Author.Tests.{leb-true}
use Rattle.model.specs.Sizes as Sizing
use Rattle.model.specs.Sizes.{float_area}
use Rattle.model.specs.Receiver as Model
use Rattle.model.specs.Receiver.{Lent}
use Rattle.model.specs.Questions.{areas_long}
use Rattle.model.specs.Step.{Event}
use Rattle.model.specs.WholeList.{All, ChannelSound}
use Rattle.model.proofs.BoolLaws.{first_of_both}
use Rattle.calls.specs.declared.Side.{Side}
use Rattle.calls.specs.declared.Side.TheVariants.{A, B}
use Rattle.calls.specs.declared.Sizes.{Sizes}
use Rattle.calls.specs.Views.{model_side, sizes_of}
use Rattle.jitter_buffer.specs.declared.JitterBuffer.{JitterBuffer}
use Rattle.jitter_buffer.specs.View.{packets_from, view_of, next_of}
use Rattle.jitter_buffer.proofs.Places.{packets_length}
use Rattle.channel.specs.View.{row_at}
use Rattle.channel.proofs.Sections.{float_section_is}
use Rattle.receiver_state.specs.View.{float_start, word_start}
use Rattle.receiver_state.proofs.StateQuestions.{float_area_is}
use Rattle.histories.specs.Chains.{Moment, state_at, lent_at}
use Rattle.histories.specs.Histories.{jitter_at, sequence_at, ChannelAdds}

-- ---- the waiting sequences are the words from where the channel's part begins

sequences_are_words : (packet next k n : ℕ) (fs : List Float) (us : List ℕ) → All (λ p. next ≤ p.sequence) (packets_from packet k n fs us)
    → (i : ℕ) → i < n → next ≤ get_or us (k + i) 0
unfolding packets_from
sequences_are_words packet next k zero fs us all i h = absurd (omega arith)
sequences_are_words packet next k (suc n) fs us all zero h = rw add-zero all.0
sequences_are_words packet next k (suc n) fs us all (suc i) h =
    rw (add-suc, ← suc-add) (sequences_are_words packet next (suc k) n fs us all.1 i (omega arith))

-- ---- the view of a channel's buffer, wherever its parts begin

-- the areas from where the channel's parts begin
abbrev floats_of : Side → Moment → List Float
floats_of side m = drop (float_start (sizes_of m.receiver.sizes) side) m.floats

abbrev words_of : Side → Moment → List ℕ
words_of side m = drop (word_start (sizes_of m.receiver.sizes) side) m.words

buffer_is : (side : Side) (m : Moment)
    → (Model.channel_of (model_side side) (state_at m)).buffer ≡ view_of m.receiver.sizes (jitter_at side m) (floats_of side m) (words_of side m)
buffer_is A m = refl
buffer_is B m = refl

-- ---- the longest queue lies inside the area

row_inside : (z : Sizing.Sizes) (side : Side) (fs : List Float) → float_area z ≤ length fs → row_at z ≤ length (drop (float_start z side) fs)
row_inside z A fs long = omega (arith, long, float_area_is z, float_section_is z)
row_inside z B fs long = simp length-drop (omega (arith, long, float_area_is z, float_section_is z))

-- a queue that shows as shorter than the longest is as long as it says
queue_length : (z : Sizes) (j : JitterBuffer) (fs : List Float) (us : List ℕ) → row_at (sizes_of z) ≤ length fs
    → length (view_of z j fs us).queue < z.target + z.packet → length (view_of z j fs us).queue ≡ j.playout_len
queue_length z j fs us long short =
    let shown = simp (length-take, length-drop) at short in
    simp (length-take, length-drop) (omega (arith, shown, long))

-- ---- the account in the fields

module _ (side : Side) (events : List Event) (m : Moment) (long : float_area (sizes_of m.receiver.sizes) ≤ length m.floats)
    (sound : ChannelSound (sizes_of m.receiver.sizes) (model_side side) events
    (view_of m.receiver.sizes (jitter_at side m) (floats_of side m) (words_of side m))) where
  queued : length (view_of m.receiver.sizes (jitter_at side m) (floats_of side m) (words_of side m)).queue ≡ (jitter_at side m).playout_len
  queued =
      queue_length m.receiver.sizes (jitter_at side m) (floats_of side m) (words_of side m)
      (row_inside (sizes_of m.receiver.sizes) side m.floats long) sound.queue

  waiting : length (view_of m.receiver.sizes (jitter_at side m) (floats_of side m) (words_of side m)).waiting ≡ (jitter_at side m).pending_len
  waiting = packets_length m.receiver.sizes.packet 0 ((jitter_at side m).pending_len - 0) (floats_of side m) (words_of side m) ∙ omega arith

  in_order : (next : ℕ) → (jitter_at side m).next_sequence ≡ Some next → (i : ℕ) → i < (jitter_at side m).pending_len
      → next ≤ sequence_at m.receiver.sizes side m i
  in_order next started i h =
      let all = sound.order next (ap next_of started) in
      let word =
      sequences_are_words m.receiver.sizes.packet next 0 ((jitter_at side m).pending_len - 0) (floats_of side m) (words_of side m) all i (omega arith) in
      rw (zero-add, get_or-drop) at word

  viewed_adds : ChannelAdds m.receiver.sizes side events m
  viewed_adds =
      record {
        sum = rw (queued, waiting) at sound.sum;
        filled = sound.filled;
        queue = rw queued at sound.queue;
        order = in_order;
      }

-- the six sizes are all that a setup's sizes hold
sizes_from : Sizing.Sizes → Sizes
sizes_from s = record { packet = s.packet; target = s.target; max = s.max; bins = s.bins; width = s.width; height = s.height }

sizes_alike : (y z : Sizes) → sizes_of y ≡ sizes_of z → y ≡ z
unfolding sizes_from
sizes_alike y z e = ap sizes_from e

-- long enough areas, from the second question
floats_long : (lent : Lent) (z : Sizing.Sizes) → areas_long lent z ≡ true → float_area z ≤ lent.floats
unfolding areas_long
floats_long lent z long = leb-true _ _ (first_of_both _ _ long)

-- at the sizes of the setup
pub channel_adds : (z : Sizes) (side : Side) (events : List Event) (m : Moment) → sizes_of m.receiver.sizes ≡ sizes_of z
    → areas_long (lent_at m) (sizes_of z) ≡ true → ChannelSound (sizes_of z) (model_side side) events (Model.channel_of (model_side side) (state_at m)).buffer
    → ChannelAdds z side events m
channel_adds z side events m same long sound =
    let e = sizes_alike m.receiver.sizes z same in
    let here = rw (← e) at sound in
    rw (← e)
    (viewed_adds side events m (floats_long (lent_at m) (sizes_of m.receiver.sizes) (rw (← e) at long)) (rw (buffer_is side m) at here))
