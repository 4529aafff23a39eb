-- What a play's parts leave together: the fill, then what is handed out of it. Assumes nothing.
use Rattle.std.proofs.Common.{None, Some}
use mathlib.Core.Path.{◌≡◌, refl}
use mathlib.Core.Bool.{Bool, true, false, cond, ◌&&◌}
use mathlib.Core.List.{List}
use Prim.Native.Nat.{ℕ, ◌-◌, ◌/◌, ◌≤◌, ◌<◌, min}
use native.Mathlib.Omega.{arith}
use lib.ListN.{length, replicate}
use lib.Dec.{leb}
use lib.Ieee.{Float}
use borrow.Author.Tests.{le-leb, lt-leb}
use Rattle.model.specs.Floats.{f0}
use Rattle.model.specs.Sizes.{sizes_allowed}
use Rattle.model.specs.JitterBuffer.{Buffer, is_started, fill, too_long, drop_count, hand_out, play_filled, play_fillers, play, counting, count_short}
use Rattle.model.proofs.Play.{drop_in_queue}
use Rattle.calls.specs.declared.Sizes.{Sizes}
use Rattle.calls.specs.Views.{sizes_of}
use Rattle.jitter_buffer.specs.declared.JitterBuffer.{JitterBuffer}
use Rattle.jitter_pop.specs.declared.Popped.{Popped}
use Rattle.jitter_buffer.specs.View.{view_of}
use Rattle.jitter_pop.specs.Fields.{silence_popped}
use Rattle.jitter_buffer.specs.Promises.{Lent, CanFill}
use Rattle.jitter_pop.specs.Promises.{CanHandOut, HandedOut, PlayedAs}
use Rattle.jitter_buffer.proofs.AfterFill.{after_queue, after_waiting, after_filled, after_length}
use Rattle.jitter_pop.proofs.PlayView.{handed_view, handed_samples, handed_taken, handed_short}

-- ---- what is dropped

pub drop_none_short : (z : Sizes) (q : ℕ) → q ≤ z.target → 0 ≡ drop_count (sizes_of z) q
unfolding drop_count too_long
drop_none_short z q h = let none : leb 1 (q - z.target) ≡ false = lt-leb 1 (q - z.target) (omega arith) in rw none

pub drop_none_little : (z : Sizes) (q : ℕ) → q - z.target < z.packet / 4 → 0 ≡ drop_count (sizes_of z) q
unfolding drop_count too_long
drop_none_little z q h = rw (lt-leb (z.packet / 4) (q - z.target) h) (no_second (leb 1 (q - z.target)))
  where
    no_second : (b : Bool) → 0 ≡ cond (b && false) (min 16 q) 0
    no_second true = refl
    no_second false = refl

pub drop_some : (z : Sizes) (q : ℕ) → z.target < q → z.packet / 4 ≤ q - z.target → min q 16 ≡ drop_count (sizes_of z) q
unfolding drop_count too_long
drop_some z q more h = let same : min q 16 ≡ min 16 q = omega arith in rw (same, le-leb 1 (q - z.target) (omega arith), le-leb (z.packet / 4) (q - z.target) h)

dropped_is : (n d : ℕ) (b : Buffer Float) → d ≡ (hand_out f0 n d b).answer.dropped
unfolding hand_out
dropped_is n d b = refl

-- ---- after the fill

module _ (z : Sizes) (j : JitterBuffer) (fs : List Float) (us : List ℕ) (ok : sizes_allowed (sizes_of z) ≡ true) (p : CanFill z j fs us)
    (b : JitterBuffer) (fs₁ : List Float) (us₁ : List ℕ) (lent : Lent z fs₁ us₁)
    (view : view_of z b fs₁ us₁ ≡ fill f0 (sizes_of z) (view_of z j fs us)) where
  pub can_hand_out : (n : ℕ) → n ≤ 65535 → CanHandOut z b (length fs₁) n (drop_count (sizes_of z) b.playout_len)
  can_hand_out n few =
      record {
        fits = omega (arith, lent.floats);
        queue = after_queue z ok j fs us p b fs₁ us₁ lent view;
        in_queue = drop_in_queue (sizes_of z) b.playout_len;
        filled = omega (arith, after_filled z ok j fs us p b fs₁ us₁ lent view, p.counts.filled);
      }

  pub plays : (out : List Float) (r : Popped) (fs₂ out₂ : List Float) → HandedOut z b fs₁ out (drop_count (sizes_of z) b.playout_len) r fs₂ out₂
      → PlayedAs z (play_filled f0 (sizes_of z) (length out) (fill f0 (sizes_of z) (view_of z j fs us))) r fs₂ us₁ out₂
  unfolding play_filled
  plays out r fs₂ out₂ h =
      let d = drop_count (sizes_of z) b.playout_len in
      let in_queue = drop_in_queue (sizes_of z) b.playout_len in
      let waiting = after_waiting z ok j fs us p b fs₁ us₁ lent view in
      let queue = after_queue z ok j fs us p b fs₁ us₁ lent view in
      rw (← view, after_length z ok j fs us p b fs₁ us₁ lent view) (record {
        view = rw (h.buffer, h.floats, h.lacks, h.took) (handed_view z b fs₁ us₁ lent waiting queue (length out) d in_queue);
        samples = rw (h.samples, h.lacks, h.took) (handed_samples z b fs₁ us₁ lent waiting queue (length out) d in_queue out refl);
        took = rw h.took (handed_taken z b fs₁ us₁ lent waiting queue (length out) d in_queue);
        drops = rw h.drops (dropped_is (length out) d (view_of z b fs₁ us₁));
        lacks = rw (h.lacks, h.took) (handed_short z b fs₁ us₁ lent waiting queue (length out) d in_queue);
      })

-- ---- the whole play

module _ (z : Sizes) (j : JitterBuffer) (fs : List Float) (us : List ℕ) where
  pub pop_played : (s : ℕ) → j.next_sequence ≡ Some s → (n : ℕ) (r : Popped) (fs' : List Float) (us' : List ℕ) (out' : List Float)
      → PlayedAs z (play_filled f0 (sizes_of z) n (fill f0 (sizes_of z) (view_of z j fs us))) r fs' us' out'
      → PlayedAs z (play f0 (sizes_of z) n (view_of z j fs us)) r fs' us' out'
  unfolding play is_started
  pop_played s e n r fs' us' out' h =
      let same : play f0 (sizes_of z) n (view_of z j fs us) ≡ play_filled f0 (sizes_of z) n (fill f0 (sizes_of z) (view_of z j fs us)) = rw e in
      rw same h

  pub pop_silent : j.next_sequence ≡ None → (n : ℕ) (r : Popped) (out' : List Float)
      → r ≡ silence_popped n j → out' ≡ replicate n f0 → PlayedAs z (play f0 (sizes_of z) n (view_of z j fs us)) r fs us out'
  unfolding play is_started play_fillers counting count_short
  pop_silent e n r out' h o =
      let same : play f0 (sizes_of z) n (view_of z j fs us) ≡ play_fillers f0 n (view_of z j fs us) = rw e in
      let view : view_of z r.buffer fs us ≡ (play_fillers f0 n (view_of z j fs us)).after = rw h in
      rw same (record { view = view; samples = o; took = rw h; drops = rw h; lacks = rw h })
