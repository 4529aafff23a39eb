-- A play keeps a buffer, and lets out of it what it says was taken and dropped. Assumes nothing.
use mathlib.Core.Path.{◌≡◌}
use mathlib.Core.Option.{Option, none, some}
use mathlib.Core.List.{List}
use Prim.Native.Nat.{ℕ, ◌+◌, ◌≤◌, min}
use native.Mathlib.Omega.{arith}
use lib.ListN.{length, drop, length-drop, length-append, length-take, length-replicate}
use Rattle.model.specs.Sizes.{Sizes}
use Rattle.model.specs.JitterBuffer.{Buffer, Played, PlayResult, is_started, buffered, counting, count_short, too_long, drop_count, hand_out, play_fillers, play_filled, play, fill}
use Rattle.model.proofs.BoolLaws.{cond_keeps}
use Rattle.model.proofs.FillStep.{NextKept}
use Rattle.model.proofs.Fill.{fill_keeps, fill_flows}
use Rattle.model.proofs.SizeLaws.{Allowed}
use Rattle.model.proofs.BufferKept.{Kept, Moves, moves_then, flow_moves, counting_keeps}
use Rattle.model.proofs.Push.{fill_idle}

-- no more is dropped than is queued
pub drop_in_queue : (z : Sizes) (q : ℕ) → drop_count z q ≤ q
unfolding drop_count
drop_in_queue z q =
    cond_keeps (λ (d : ℕ). d ≤ q) (too_long z q) (min 16 q) 0
    (λ e. omega arith)
    (λ e. omega arith)

module _ {X : Type 0} (filler : X) (z : Sizes) where
  -- an empty queue stays empty
  next_kept : (next : Option ℕ) (queue shorter : List X) → length shorter ≤ length queue → NextKept next queue → NextKept next shorter
  next_kept none queue shorter h k = omega arith
  next_kept (some n) queue shorter h k = k

  hand_out_keeps : (n d : ℕ) (b : Buffer X) → Kept z b → Kept z (hand_out filler n d b).after
  unfolding hand_out
  hand_out_keeps n d b k =
      let shorter : length (drop n (drop d b.queue)) ≤ length b.queue = simp length-drop (omega arith) in
      record {
        loose = record {
          rising = k.loose.rising;
          packets = k.loose.packets;
          queue = omega arith;
          run = k.loose.run;
          next = next_kept b.next b.queue _ shorter k.loose.next;
        };
        idle = k.idle;
        waiting = k.waiting;
        largest = k.largest;
      }

  hand_out_moves : (n d : ℕ) (b : Buffer X) → d ≤ length b.queue
      → Moves z n b (hand_out filler n d b).after
      ((hand_out filler n d b).answer.taken + (hand_out filler n d b).answer.dropped)
      (hand_out filler n d b).answer.short
  unfolding hand_out count_short buffered
  hand_out_moves n d b h =
      omega (arith, length-drop d b.queue, length-drop n (drop d b.queue))

  fillers_moves : (n : ℕ) (b : Buffer X)
      → Moves z n b (play_fillers filler n b).after
      ((play_fillers filler n b).answer.taken + (play_fillers filler n b).answer.dropped)
      (play_fillers filler n b).answer.short
  unfolding play_fillers counting count_short buffered
  fillers_moves n b = omega arith

  -- what a play leaves and answers, as what it moves
  abbrev PlayMoves : ℕ → Buffer X → PlayResult X → Type 0
  PlayMoves most b r = Moves z most b r.after (r.answer.taken + r.answer.dropped) r.answer.short

  -- after the fill
  filled_keeps : (b : Buffer X) → Allowed z → Kept z b → Kept z (fill filler z b)
  filled_keeps b a k =
      let flow = fill_flows filler z b a.packet k.loose in
      record {
        loose = fill_keeps filler z b k.loose;
        idle = fill_idle filler z b k.idle;
        waiting = omega (arith, flow.waiting, k.waiting);
        largest = omega (arith, flow.largest, k.largest);
      }

  -- a play keeps a buffer
  pub play_keeps : (n : ℕ) (b : Buffer X) → Allowed z → Kept z b → Kept z (play filler z n b).after
  unfolding play play_filled play_fillers
  play_keeps n b a k =
      cond_keeps (λ (r : PlayResult X). Kept z r.after) (is_started b) _ _
      (λ e. hand_out_keeps n _ (fill filler z b) (filled_keeps b a k))
      (λ e. counting_keeps z (count_short n) b k)

  -- what leaves the buffer is what the play says was taken and dropped
  pub play_moves : (n : ℕ) (b : Buffer X) → Allowed z → Kept z b → PlayMoves (70000 + n) b (play filler z n b)
  unfolding play play_filled
  play_moves n b a k =
      cond_keeps (PlayMoves (70000 + n) b) (is_started b) (play_filled filler z n (fill filler z b)) (play_fillers filler n b)
      (λ e.
      let c = fill filler z b in
      let d = drop_count z (length c.queue) in
      let flow = flow_moves z b c (fill_flows filler z b a.packet k.loose) (fill_keeps filler z b k.loose).queue in
      let out = hand_out_moves n d c (drop_in_queue z (length c.queue)) in
      let both = moves_then z (z.target + z.packet) n b c (hand_out filler n d c).after 0 _ 0 _ flow out in
      omega arith)
      (λ e. let m = fillers_moves n b in omega arith)

  -- ---- the answer

  -- a play answers as many samples as were asked, and each of them was taken or is short
  pub record Answered (n : ℕ) (p : Played X) : Type 0 where
    pub samples : length p.samples ≡ n
    pub split : p.taken + p.short ≡ n

  hand_out_answers : (n d : ℕ) (b : Buffer X) → Answered n (hand_out filler n d b).answer
  unfolding hand_out
  hand_out_answers n d b =
      record { samples = simp (length-append, length-take, length-replicate) (omega arith); split = omega arith }

  fillers_answer : (n : ℕ) (b : Buffer X) → Answered n (play_fillers filler n b).answer
  unfolding play_fillers
  fillers_answer n b = record { samples = length-replicate n filler; split = omega arith }

  pub play_answers : (n : ℕ) (b : Buffer X) → Answered n (play filler z n b).answer
  unfolding play play_filled
  play_answers n b =
      cond_keeps (λ (r : PlayResult X). Answered n r.answer) (is_started b) (play_filled filler z n (fill filler z b)) (play_fillers filler n b)
      (λ e. hand_out_answers n _ (fill filler z b))
      (λ e. fillers_answer n b)
