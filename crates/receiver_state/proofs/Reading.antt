-- How far places reach, and the buffered amount as the model's. Assumes nothing.
use mathlib.Core.Path.{◌≡◌}
use mathlib.Core.Bool.{true}
use mathlib.Core.List.{List}
use Prim.Native.Nat.{ℕ, ◌+◌, ◌-◌, ◌≤◌}
use native.Mathlib.Nat.{sub-zero}
use native.Mathlib.Omega.{arith}
use lib.ListN.{length, drop, length-drop}
use lib.Ieee.{Float}
use Rattle.std.specs.Prelude.{Ok}
use borrow.Author.Tests.{le-leb, lt-ltb}
use Rattle.model.specs.Sizes.{sizes_allowed}
use Rattle.model.specs.JitterBuffer.{buffered}
use Rattle.calls.specs.declared.Side.{Side}
use Rattle.calls.specs.declared.Side.TheVariants.{A, B}
use Rattle.calls.specs.declared.Sizes.{Sizes}
use Rattle.calls.specs.Views.{sizes_of}
use Rattle.sizes.specs.View.{queue_at}
use Rattle.sizes.proofs.Bounds.{float_section_bound, word_section_bound}
use Rattle.jitter_buffer.proofs.Places.{packets_length}
use Rattle.jitter_buffer.proofs.FillView.{queue_length}
use Rattle.channel.specs.View.{row_at, channel_in}
use Rattle.channel.proofs.Sections.{float_section_is}
use Rattle.receiver_state.specs.declared.Receiver.{Receiver}
use Rattle.receiver_state.specs.View.{float_start, word_start, channel_at}
use Rattle.receiver_state.specs.Promises.{Ready}
use Rattle.receiver_state.specs.Readings.{buffered_in}
use Rattle.receiver_state.proofs.StateQuestions.{float_area_is, float_start_few}

-- ---- places

module _ (z : Sizes) (one : sizes_allowed (sizes_of z) ≡ true) where
  pub float_start_bound : (side : Side) → float_start (sizes_of z) side ≤ 401408
  float_start_bound A = omega arith
  float_start_bound B = float_section_bound (sizes_of z) one

  pub word_start_bound : (side : Side) → word_start (sizes_of z) side ≤ 16912383
  word_start_bound A = omega arith
  word_start_bound B = word_section_bound (sizes_of z) one

  pub row_at_bound : row_at (sizes_of z) ≤ 401408
  row_at_bound = omega (arith, float_section_bound (sizes_of z) one, float_section_is (sizes_of z))

-- ---- the buffered amount

-- of a receiver that questions 1 to 4 let through it is the model's, of that channel's buffer
module _ (r : Receiver) (fs : List Float) (us : List ℕ) (ready : Ready r fs us) where
  pub buffered_reads : (side : Side)
      → buffered_in r.sizes (channel_at side r).jitter
      ≡ Ok
      (buffered (sizes_of r.sizes)
      (channel_in r.sizes (channel_at side r) (drop (float_start (sizes_of r.sizes) side) fs) (drop (word_start (sizes_of r.sizes) side) us)).buffer)
  unfolding buffered
  buffered_reads side =
      let z = sizes_of r.sizes in
      let j = (channel_at side r).jitter in
      let long : queue_at z + j.playout_len ≤ length (drop (float_start z side) fs) =
      simp length-drop (omega (arith, (ready.inside side).queue, float_start_few (sizes_of r.sizes) side, ready.floats, float_area_is z, float_section_is z)) in
      rw (
        ready.allowed,
        le-leb _ _ (ready.inside side).waiting,
        lt-ltb _ _ (ready.inside side).queue,
        queue_length r.sizes j (drop (float_start z side) fs) (drop (word_start z side) us) 0 long,
        packets_length r.sizes.packet 0 (j.pending_len - 0) (drop (float_start z side) fs) (drop (word_start z side) us),
        sub-zero,
      )
