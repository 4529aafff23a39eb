-- A buffer that question 3 lets pass is one that every call keeps: the packets of a view have their samples, and its sequences 32 bits. So a fill may begin. Assumes nothing.
use Rattle.std.proofs.Common.{◌≡◌, ℕ, zero, suc, ◌+◌, ◌-◌, ◌*◌, ◌^◌, ◌<◌, ◌≤◌, true, List, length, get_or, arith}
use lib.Ieee.{Float}
use Rattle.model.specs.Sizes as Model
use Rattle.model.specs.Sizes.{most_waiting}
use Rattle.model.specs.Questions.{most_calls, buffer_held}
use Rattle.model.specs.WholeList.{All}
use Rattle.model.proofs.FillStep.{PacketKept}
use Rattle.model.proofs.HeldKept.{NextFits, BufferShaped, KeptWithin, buffer_kept}
use Rattle.model.proofs.PlacedLaws.{part_length}
use Rattle.calls.specs.declared.Sizes.{Sizes}
use Rattle.calls.specs.Views.{sizes_of}
use Rattle.sizes.specs.View.{queue_at}
use Rattle.jitter_buffer.specs.declared.JitterBuffer.{JitterBuffer}
use Rattle.jitter_buffer.specs.View.{next_of, packets_from, view_of}
use Rattle.jitter_buffer.specs.Promises.{Ready, CanFill}
use Rattle.jitter_buffer.proofs.Places.{place_ends, packets_length}

-- every sequence of a list has 32 bits
abbrev pub WordsFit : List ℕ → Type 0
WordsFit us = (i : ℕ) → get_or us i 0 < 2 ^ 32

pub packets_kept : (z : Model.Sizes) (k n : ℕ) (fs : List Float) (us : List ℕ) → k + n ≤ most_waiting z → queue_at z ≤ length fs → WordsFit us
    → All (PacketKept z) (packets_from z.packet k n fs us)
unfolding packets_from
packets_kept z k zero fs us most long fit = tt
packets_kept z k (suc n) fs us most long fit = (
  record {
    samples = part_length (k * z.packet) z.packet fs (omega (arith, place_ends z k (omega arith)));
    sequence = fit k;
  },
  packets_kept z (suc k) n fs us (omega arith) long fit,
)

module _ (z : Sizes) (j : JitterBuffer) (fs : List Float) (us : List ℕ) (next : NextFits (next_of j.next_sequence)) (words : WordsFit us)
    (long : queue_at (sizes_of z) ≤ length fs) where
  pub view_shaped : BufferShaped (sizes_of z) (view_of z j fs us)
  view_shaped =
      record {
        next = next;
        packets = λ few.
            packets_kept (sizes_of z) 0 (j.pending_len - 0) fs us (omega (arith, few, packets_length z.packet 0 (j.pending_len - 0) fs us)) long words;
      }

  pub view_kept : (limit : ℕ) → buffer_held (sizes_of z) limit (view_of z j fs us) ≡ true → KeptWithin (sizes_of z) limit (view_of z j fs us)
  view_kept limit h = buffer_kept (sizes_of z) limit (view_of z j fs us) view_shaped h

-- a buffer that a call may be made on may be filled
module _ (z : Sizes) (j : JitterBuffer) (fs : List Float) (us : List ℕ) (p : Ready z j fs us) (next : NextFits (next_of j.next_sequence)) (words : WordsFit us) where
  ready_kept : KeptWithin (sizes_of z) (most_calls * most_calls) (view_of z j fs us)
  ready_kept = view_kept z j fs us next words (omega (arith, p.lent.floats)) (most_calls * most_calls) p.held

  pub ready_fill : CanFill z j fs us
  ready_fill =
      let k = ready_kept in
      record {
        lent = p.lent;
        loose = k.kept.loose;
        waiting = omega (arith, k.kept.waiting, packets_length z.packet 0 (j.pending_len - 0) fs us);
        counts = record {
          concealed = omega (arith, k.counts.concealed);
          filled = omega (arith, k.counts.filled);
          resyncs = omega (arith, k.counts.resyncs);
        };
      }
