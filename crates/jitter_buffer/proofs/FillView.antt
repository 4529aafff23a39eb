-- What the code of a fill's steps makes of the view is what the model's steps make of it. Next waits only at the front, so what is taken is a prefix. Assumes nothing.
use Rattle.std.proofs.Common.{◌≡◌, ℕ, suc, ◌+◌, ◌-◌, ◌*◌, ◌<◌, ◌≤◌, true, false, eqb, ltb, Option, None, Some, List, [], ◌∷◌, ◌++◌, length, get_or, replicate, sym, refl, ap, ◌∙◌, mul-le-mul_right, add-mul, zero-add, add-one, arith, ltb-false, ltb-true, eq-eqb, le-leb}
use native.Mathlib.Nat.{sub-zero}
use lib.ListN.{length-replicate}
use lib.Ieee.{Float, nan}
use borrow.Author.Tests.{lt-leb}
use Rattle.model.specs.Bytes.{part, placed}
use Rattle.model.specs.Floats.{f0}
use Rattle.model.specs.Sizes.{most_waiting}
use Rattle.model.specs.JitterBuffer.{Packet, moved, concealed, is_waiting, samples_at, without, earliest, with_next, step_due, after_step, resynced, count_concealed, count_resync}
use Rattle.model.proofs.BoolLaws.{by_test}
use Rattle.model.proofs.Waiting.{RisingFrom, waiting_not_below}
use Rattle.model.proofs.FillStep.{Loose, lowest}
use Rattle.model.proofs.PlacedLaws.{part_length}
use Rattle.areas.proofs.Placed.{part_part, part_before, part_behind, part_within, get_d_part, placed_within}
use Rattle.calls.specs.declared.Sizes.{Sizes}
use Rattle.calls.specs.Views.{sizes_of}
use Rattle.sizes.specs.View.{queue_at}
use Rattle.jitter_buffer.specs.declared.JitterBuffer.{JitterBuffer}
use Rattle.jitter_buffer.specs.View.{next_of, step_of, packets_from, view_from, view_of}
use Rattle.jitter_buffer.specs.Fields.{moved_fields, concealed_fields, resynced_fields, closed_fields, next_step, fill_step_of}
use Rattle.jitter_buffer.specs.Promises.{Lent}
use Rattle.jitter_buffer.proofs.Places.{place_ends, places_end, same_packets, part_grown}

-- ---- what a step does

-- in rising order from s on, s waits only at the front
front_only : {X : Type 0} (s : ℕ) (p : Packet X) (ps : List (Packet X)) → RisingFrom s (p ∷ ps) → is_waiting s (p ∷ ps) ≡ eqb p.sequence s
unfolding is_waiting
front_only s p ps r =
    by_test (eqb p.sequence s)
    (λ e. rw e)
    (λ e. rw e (by_test (is_waiting s ps)
    (λ w. absurd (omega (arith, waiting_not_below (suc p.sequence) s ps r.1 w)))
    (λ w. w)))

front_step : {X : Type 0} (next : Option ℕ) (p : Packet X) (ps : List (Packet X)) → RisingFrom (lowest (next_of next)) (p ∷ ps)
    → step_of (next_step next true p.sequence) ≡ with_next (next_of next) (p ∷ ps)
unfolding next_step with_next
front_step None p ps r = refl
front_step (Some s) p ps r =
    rw (front_only s p ps r) (by_test (eqb p.sequence s) (λ e. rw e) (λ e. rw e))

none_step : (X : Type 0) (next : Option ℕ) (front : ℕ) → step_of (next_step next false front) ≡ with_next {X = X} (next_of next) []
unfolding next_step with_next
none_step X None front = refl
none_step X (Some s) front = refl

module _ (z : Sizes) (j : JitterBuffer) (fs : List Float) (us : List ℕ) (taken : ℕ) where
  waiting_step : RisingFrom (lowest (next_of j.next_sequence)) (packets_from z.packet taken (j.pending_len - taken) fs us)
      → step_of (next_step j.next_sequence (ltb taken j.pending_len) (get_or us taken 0))
      ≡ with_next (next_of j.next_sequence) (packets_from z.packet taken (j.pending_len - taken) fs us)
  unfolding packets_from
  waiting_step r =
      by_test (ltb taken j.pending_len)
      (λ t. let one : j.pending_len - taken ≡ suc (j.pending_len - taken - 1) = omega (arith, ltb-true taken j.pending_len t) in
      rw (t, one) (front_step j.next_sequence _ _ (rw one at r)))
      (λ t. let none_left : j.pending_len - taken ≡ 0 = omega (arith, ltb-false taken j.pending_len t) in
      rw (t, none_left) (none_step Float j.next_sequence (get_or us taken 0)))

  pub queue_length : queue_at (sizes_of z) + j.playout_len ≤ length fs → length (view_from taken z j fs us).queue ≡ j.playout_len
  queue_length fits = part_length (queue_at (sizes_of z)) j.playout_len fs fits

  pub step_does : queue_at (sizes_of z) + j.playout_len ≤ length fs → Loose (sizes_of z) (view_from taken z j fs us)
      → step_of (fill_step_of z.target j us taken) ≡ step_due (sizes_of z) (view_from taken z j fs us)
  unfolding fill_step_of step_due
  step_does fits l =
      rw (queue_length fits)
      (by_test (ltb j.playout_len z.target)
      (λ t. rw t (waiting_step l.rising))
      (λ t. rw t))

  -- ---- what a step leaves

  -- a write past the places of the waiting packets leaves them
  pub waiting_stays : (at k n : ℕ) (ys : List Float) → k + n ≤ most_waiting (sizes_of z) → queue_at (sizes_of z) ≤ at → at + length ys ≤ length fs
      → packets_from z.packet k n (placed at ys fs) us ≡ packets_from z.packet k n fs us
  waiting_stays at k n ys most past fits =
      same_packets z.packet n (placed at ys fs) us k fs us k
      (λ i h. record {
        sequence = refl;
        samples = part_before nan at ys fs ((k + i) * z.packet) z.packet fits (omega (arith, place_ends (sizes_of z) (k + i) (omega arith)));
      })

  module _ (lent : Lent z fs us) (most : j.pending_len ≤ most_waiting (sizes_of z)) (below : j.playout_len < z.target) where
    -- the packet at the front is taken
    pub moved_view : (s : ℕ) → taken < j.pending_len → get_or us taken 0 ≡ s
        → view_from (taken + 1) z (moved_fields z.packet s j) (placed (queue_at (sizes_of z) + j.playout_len) (part (taken * z.packet) z.packet fs) fs) us
        ≡ after_step f0 (sizes_of z) (moved s) (view_from taken z j fs us)
    unfolding after_step packets_from without samples_at
    moved_view s waits front =
        let at = queue_at (sizes_of z) + j.playout_len in
        let ys = part (taken * z.packet) z.packet fs in
        let size : length ys ≡ z.packet = part_length (taken * z.packet) z.packet fs (omega (arith, place_ends (sizes_of z) taken (omega arith), lent.floats)) in
        let one : j.pending_len - taken ≡ suc (j.pending_len - (taken + 1)) = omega arith in
        let rest = waiting_stays at (taken + 1) (j.pending_len - (taken + 1)) ys (omega arith) (omega arith) (omega (arith, lent.floats)) in
        let queue = part_grown nan (queue_at (sizes_of z)) j.playout_len ys fs (omega (arith, lent.floats)) in
        let queue' : part (queue_at (sizes_of z)) (j.playout_len + z.packet) (placed at ys fs) ≡ part (queue_at (sizes_of z)) j.playout_len fs ++ ys = rw size at queue in
        rw (one, eq-eqb (get_or us taken 0) s front, ← add-one taken, rest, queue')

    -- a filler packet is queued
    filler_waiting : taken ≤ j.pending_len
        → packets_from z.packet taken (j.pending_len - taken) (placed (queue_at (sizes_of z) + j.playout_len) (replicate z.packet f0) fs) us
        ≡ packets_from z.packet taken (j.pending_len - taken) fs us
    filler_waiting place =
        waiting_stays (queue_at (sizes_of z) + j.playout_len) taken (j.pending_len - taken) (replicate z.packet f0) (omega arith) (omega arith)
        (omega (arith, lent.floats, length-replicate z.packet f0))

    filler_queue : part (queue_at (sizes_of z)) (j.playout_len + z.packet) (placed (queue_at (sizes_of z) + j.playout_len) (replicate z.packet f0) fs)
        ≡ part (queue_at (sizes_of z)) j.playout_len fs ++ replicate z.packet f0
    filler_queue =
        let size = length-replicate z.packet f0 in
        let queue = part_grown nan (queue_at (sizes_of z)) j.playout_len (replicate z.packet f0) fs (omega (arith, lent.floats)) in
        rw size at queue

    pub concealed_view : (s : ℕ) → taken ≤ j.pending_len → j.consecutive_conceals + 1 < 3
        → view_from taken z (concealed_fields z.packet s j) (placed (queue_at (sizes_of z) + j.playout_len) (replicate z.packet f0) fs) us
        ≡ after_step f0 (sizes_of z) (concealed s) (view_from taken z j fs us)
    unfolding after_step resynced count_concealed
    concealed_view s place few =
        rw (lt-leb 3 (j.consecutive_conceals + 1) few, filler_waiting place, filler_queue)

    -- the third in a row: next is the sequence at the front
    pub resynced_view : (s : ℕ) → taken < j.pending_len → 3 ≤ j.consecutive_conceals + 1
        → view_from taken z (resynced_fields (get_or us taken 0) (concealed_fields z.packet s j)) (placed (queue_at (sizes_of z) + j.playout_len) (replicate z.packet f0) fs) us
        ≡ after_step f0 (sizes_of z) (concealed s) (view_from taken z j fs us)
    unfolding after_step resynced count_concealed count_resync packets_from earliest
    resynced_view s place many =
        let one : j.pending_len - taken ≡ suc (j.pending_len - taken - 1) = omega arith in
        rw (le-leb 3 (j.consecutive_conceals + 1) many, filler_waiting (omega arith), filler_queue, one)

  -- ---- the packets that are left come to the front

  pub closed_view : Lent z fs us → j.pending_len ≤ most_waiting (sizes_of z) → taken ≤ j.pending_len → j.playout_len < z.target + z.packet
      → view_of z (closed_fields taken j)
      (placed 0 (part (taken * z.packet) ((j.pending_len - taken) * z.packet) fs) fs)
      (placed 0 (part taken (j.pending_len - taken) us) us)
      ≡ view_from taken z j fs us
  closed_view lent most place fits =
      let rest = j.pending_len - taken in
      let samples = part (taken * z.packet) (rest * z.packet) fs in
      let sequences = part taken rest us in
      let end = places_end (sizes_of z) j.pending_len most in
      let sum : taken * z.packet + rest * z.packet ≡ j.pending_len * z.packet =
      sym (add-mul taken rest z.packet) ∙ ap (λ (n : ℕ). n * z.packet) (omega arith) in
      let size : length samples ≡ rest * z.packet = part_length (taken * z.packet) (rest * z.packet) fs (omega (arith, lent.floats)) in
      let count : length sequences ≡ rest = part_length taken rest us (omega (arith, lent.words)) in
      let waiting : packets_from z.packet 0 rest (placed 0 samples fs) (placed 0 sequences us) ≡ packets_from z.packet taken rest fs us =
      same_packets z.packet rest (placed 0 samples fs) (placed 0 sequences us) 0 fs us taken
      (λ i h.
      let here : i * z.packet + z.packet ≤ rest * z.packet = omega (arith, mul-le-mul_right {m = suc i} {n = rest} z.packet h) in
      record {
        sequence = placed_within 0 0 sequences us i (omega arith) (omega arith) ∙ get_d_part 0 taken rest us i h;
        samples = rw (zero-add i, add-mul taken i z.packet)
            ((rw zero-add at (part_within nan 0 samples fs (i * z.packet) z.packet (omega (arith, lent.floats)) (omega arith)))
            ∙ part_part nan (taken * z.packet) (rest * z.packet) (i * z.packet) z.packet fs (omega (arith, lent.floats)) here);
      }) in
      let queue : part (queue_at (sizes_of z)) j.playout_len (placed 0 samples fs) ≡ part (queue_at (sizes_of z)) j.playout_len fs =
      part_behind nan 0 samples fs (queue_at (sizes_of z)) j.playout_len (omega arith) (omega (arith, lent.floats)) in
      rw (sub-zero, waiting, queue)
