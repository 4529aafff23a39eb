-- What a fill leaves: a queue, waiting packets and counters in range. Assumes nothing.
use Rattle.std.proofs.Common.{◌≡◌, ℕ, ◌+◌, ◌-◌, ◌<◌, ◌≤◌, true, List, length, sym, ◌∙◌, arith}
use lib.Ieee.{Float}
use Rattle.model.specs.Floats.{f0}
use Rattle.model.specs.Sizes.{sizes_allowed, most_waiting}
use Rattle.model.specs.JitterBuffer.{fill}
use Rattle.model.proofs.SizeLaws.{allowed}
use Rattle.model.proofs.FillStep.{Loose, Flow}
use Rattle.model.proofs.Fill.{fill_keeps, fill_flows}
use Rattle.calls.specs.declared.Sizes.{Sizes}
use Rattle.calls.specs.Views.{sizes_of}
use Rattle.jitter_buffer.specs.declared.JitterBuffer.{JitterBuffer}
use Rattle.jitter_buffer.specs.View.{view_of}
use Rattle.jitter_buffer.specs.Promises.{Lent, CanFill}
use Rattle.jitter_buffer.proofs.Places.{packets_length}
use Rattle.jitter_buffer.proofs.FillView.{queue_length}
use Rattle.jitter_buffer.proofs.Turns.{queue_below}

-- parts that are as long as they were are lent as they were
pub still_lent : {z : Sizes} {fs fs' : List Float} {us us' : List ℕ} → Lent z fs us → length fs' ≡ length fs → length us' ≡ length us → Lent z fs' us'
still_lent lent floats words = record { floats = lent.floats ∙ sym floats; words = lent.words ∙ sym words }

module _ (z : Sizes) (ok : sizes_allowed (sizes_of z) ≡ true) (j : JitterBuffer) (fs : List Float) (us : List ℕ) (p : CanFill z j fs us)
    (b : JitterBuffer) (fs₁ : List Float) (us₁ : List ℕ) (lent : Lent z fs₁ us₁)
    (view : view_of z b fs₁ us₁ ≡ fill f0 (sizes_of z) (view_of z j fs us)) where
  after_loose : Loose (sizes_of z) (view_of z b fs₁ us₁)
  after_loose = rw view (fill_keeps f0 (sizes_of z) (view_of z j fs us) p.loose)

  after_flow : Flow (sizes_of z) (view_of z j fs us) (view_of z b fs₁ us₁)
  after_flow = rw view (fill_flows f0 (sizes_of z) (view_of z j fs us) (allowed (sizes_of z) ok).packet p.loose)

  pub after_queue : b.playout_len < z.target + z.packet
  after_queue = queue_below z fs₁ us₁ b.playout_len lent after_loose.queue

  pub after_waiting : b.pending_len ≤ most_waiting (sizes_of z)
  after_waiting =
      omega (arith, after_flow.waiting, p.waiting, packets_length z.packet 0 (b.pending_len - 0) fs₁ us₁, packets_length z.packet 0 (j.pending_len - 0) fs us)

  -- with at most the queue more
  pub after_filled : b.filled ≤ j.filled + 70000
  after_filled = omega (arith, allowed (sizes_of z) ok, after_flow.filler, after_loose.queue)

  pub after_length : length (view_of z b fs₁ us₁).queue ≡ b.playout_len
  after_length = queue_length z b fs₁ us₁ 0 (omega (arith, lent.floats, after_queue))
