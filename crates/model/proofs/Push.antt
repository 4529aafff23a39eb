-- A push keeps a buffer, and moves in it what it counts. Assumes nothing.
use mathlib.Core.Path.{◌≡◌, refl, ap}
use mathlib.Core.Bool.{Bool, true, false}
use mathlib.Core.Option.{Option, none, some}
use mathlib.Core.List.{List, [], ◌∷◌}
use Prim.Native.Nat.{ℕ, zero, suc, ◌+◌, ◌*◌, ◌^◌, ◌≤◌, ◌<◌}
use native.Mathlib.Omega.{arith}
use native.Mathlib.Nat.{mul-le-mul_left}
use lib.ListN.{length}
use lib.Dec.{leb, eqb}
use borrow.Author.Tests.{ltb-true, ltb-false, leb-true, leb-false, eqb-true}
use Rattle.model.specs.Sizes.{Sizes}
use Rattle.model.specs.JitterBuffer.{Packet, Buffer, Step, moved, concealed, stopped, buffered, counting, is_waiting, earliest, step_due, after_step, resynced, fill_steps, fill, is_late, has_room, stored, start_at, start, note_largest, stored_and_filled, stored_or_counted, push, count_received, count_inserted, count_late, count_overflow, count_invalid_size}
use Rattle.model.proofs.BoolLaws.{by_test, cond_keeps}
use Rattle.model.specs.WholeList.{All}
use Rattle.model.proofs.Waiting.{RisingFrom, rising_insert, length_insert_new, length_insert_duplicate, all_insert}
use Rattle.model.proofs.FillStep.{PacketKept, NextKept, Loose, lowest, earliest_keeps, due_concealed}
use Rattle.model.proofs.Fill.{unless_stopped_keeps, fill_keeps, fill_flows}
use Rattle.model.proofs.SizeLaws.{Allowed, room_for_one}
use Rattle.model.proofs.BufferKept.{Idle, Kept, Moves, moves_then, flow_moves, counting_keeps}

module _ {X : Type 0} (filler : X) (z : Sizes) where
  -- ---- a fill leaves an idle buffer idle

  earliest_idle : (ps : List (Packet X)) → 0 < length ps → Idle z (earliest ps) ps
  unfolding earliest
  earliest_idle [] h = absurd (omega arith)
  earliest_idle (p ∷ ps) h = tt

  concealed_idle : (b : Buffer X) (s : ℕ) → step_due z b ≡ concealed s
      → Idle z (after_step filler z (concealed s) b).next (after_step filler z (concealed s) b).waiting
  unfolding after_step resynced
  concealed_idle b s e =
      by_test (leb 3 (b.run + 1))
      (λ t. rw t (earliest_idle b.waiting (due_concealed z b s e).3))
      (λ t. rw t tt)

  step_idle : (b : Buffer X) → Idle z b.next b.waiting → Idle z (after_step filler z (step_due z b) b).next (after_step filler z (step_due z b) b).waiting
  unfolding after_step
  step_idle b i = go (step_due z b) refl
    where
      go : (d : Step) → step_due z b ≡ d → Idle z (after_step filler z d b).next (after_step filler z d b).waiting
      go (moved s) e = tt
      go (concealed s) e = concealed_idle b s e
      go stopped e = i

  steps_idle : (n : ℕ) (b : Buffer X) → Idle z b.next b.waiting → Idle z (fill_steps filler z n b).next (fill_steps filler z n b).waiting
  unfolding fill_steps
  steps_idle zero b i = i
  steps_idle (suc n) b i =
      unless_stopped_keeps filler z (λ c. Idle z c.next c.waiting) (step_due z b) b _ i (steps_idle n (after_step filler z (step_due z b) b) (step_idle b i))

  pub fill_idle : (b : Buffer X) → Idle z b.next b.waiting → Idle z (fill filler z b).next (fill filler z b).waiting
  unfolding fill
  fill_idle b i = steps_idle z.target b i

  -- ---- stored

  not_late : (s : ℕ) (next : Option ℕ) → is_late s next ≡ false → lowest next ≤ s
  unfolding is_late
  not_late s none h = omega arith
  not_late s (some n) h = ltb-false s n h

  pub stored_keeps : (new : Packet X) (b : Buffer X) → PacketKept z new → is_late new.sequence b.next ≡ false → Loose z b → Loose z (stored new b)
  unfolding stored
  stored_keeps new b p late l =
      record {
        rising = rising_insert (lowest b.next) new b.waiting (not_late new.sequence b.next late) l.rising;
        packets = all_insert (PacketKept z) new b.waiting p l.packets;
        queue = l.queue;
        run = l.run;
        next = l.next;
      }

  -- one packet more, inserted, or a duplicate
  stored_moves : (new : Packet X) (b : Buffer X) → Loose z b → Moves z 1 b (stored new b) 0 0
  unfolding stored count_inserted buffered
  stored_moves new b l =
      by_test (is_waiting new.sequence b.waiting)
      (λ t. let n = length_insert_duplicate (lowest b.next) new b.waiting l.rising t in
      rw t (omega (arith, ap (λ (k : ℕ). z.packet * k) n)))
      (λ t. let n = length_insert_new new b.waiting t in rw t (omega (arith, ap (λ (k : ℕ). z.packet * k) n)))

  pub stored_length : (new : Packet X) (b : Buffer X) → Loose z b → length (stored new b).waiting ≤ length b.waiting + 1
  unfolding stored
  stored_length new b l =
      by_test (is_waiting new.sequence b.waiting)
      (λ t. omega (arith, length_insert_duplicate (lowest b.next) new b.waiting l.rising t))
      (λ t. omega (arith, length_insert_new new b.waiting t))

  -- ---- start

  some_wait : (ps : List (Packet X)) → 1 ≤ z.packet * length ps → 0 < length ps
  some_wait [] h = absurd (omega arith)
  some_wait (p ∷ ps) h = omega arith

  -- the next sequence after a start: the earliest waiting, or none while too few wait
  record Started (next : Option ℕ) (ps : List (Packet X)) (queue : List X) : Type 0 where
    rising : RisingFrom (lowest next) ps
    kept : NextKept next queue
    idle : Idle z next ps

  starts : (next : Option ℕ) (ps : List (Packet X)) (queue : List X) → 1 ≤ z.target → RisingFrom (lowest next) ps → All (PacketKept z) ps
      → NextKept next queue → Started (start_at z next ps) ps queue
  unfolding start_at
  starts (some n) ps queue h r a k = record { rising = r; kept = k; idle = tt }
  starts none ps queue h r a k =
      by_test (leb z.target (z.packet * length ps))
      (λ t. let wait : 0 < length ps = some_wait ps (omega (arith, leb-true z.target (z.packet * length ps) t)) in
      let e = earliest_keeps z 0 ps queue wait r a in
      rw t (record { rising = e.0; kept = e.1; idle = earliest_idle ps wait }))
      (λ t. rw t (record { rising = r; kept = k; idle = leb-false z.target (z.packet * length ps) t }))

  pub start_keeps : (b : Buffer X) → 1 ≤ z.target → Loose z b → Loose z (start z b) × Idle z (start z b).next (start z b).waiting
  unfolding start
  start_keeps b h l =
      let s = starts b.next b.waiting b.queue h l.rising l.packets l.next in
      (record { rising = s.rising; packets = l.packets; queue = l.queue; run = l.run; next = s.kept }, s.idle)

  -- ---- a packet that is stored

  -- all that a stored packet leaves: the start, the fill, the largest amount
  settle_keeps : (new : Packet X) (b : Buffer X) → Allowed z → PacketKept z new → is_late new.sequence b.next ≡ false
      → buffered z b < z.max → Kept z b → Kept z (stored_and_filled filler z new b)
  unfolding stored_and_filled note_largest buffered start stored
  settle_keeps new b z-allowed p late room k =
      let st = stored_keeps new b p late k.loose in
      let more = stored_length new b k.loose in
      let first : 1 ≤ z.target = omega arith in
      let h = start_keeps (stored new b) first st in
      let c = fill filler z (start z (stored new b)) in
      let full = fill_keeps filler z (start z (stored new b)) h.0 in
      let flow = fill_flows filler z (start z (stored new b)) z-allowed.packet h.0 in
      let one_more : length c.waiting ≤ length b.waiting + 1 = omega (arith, flow.waiting) in
      let below = mul-le-mul_left z.packet one_more in
      let below-max : z.packet * length b.waiting < z.max = omega (arith, room) in
      record {
        loose = record { rising = full.rising; packets = full.packets; queue = full.queue; run = full.run; next = full.next };
        idle = fill_idle (start z (stored new b)) h.1;
        waiting = omega (arith, one_more, room_for_one z (length b.waiting) z-allowed.packet below-max);
        largest = omega (arith, below, below-max, full.queue, flow.largest, k.largest);
      }

  start_moves : (b : Buffer X) → Moves z 0 b (start z b) 0 0
  unfolding start buffered
  start_moves b = omega arith

  largest_moves : (b : Buffer X) → Moves z 0 b (note_largest z b) 0 0
  unfolding note_largest buffered
  largest_moves b = omega arith

  -- a stored packet is inserted or replaces one, and a fill follows
  settle_moves : (new : Packet X) (b : Buffer X) → Allowed z → PacketKept z new → is_late new.sequence b.next ≡ false
      → Kept z b → Moves z 70000 b (stored_and_filled filler z new b) 0 0
  unfolding stored_and_filled
  settle_moves new b z-allowed p late k =
      let first : 1 ≤ z.target = omega arith in
      let s = stored new b in
      let c = start z s in
      let h = (start_keeps s first (stored_keeps new b p late k.loose)).0 in
      let d = fill filler z c in
      let full = fill_keeps filler z c h in
      let filled = flow_moves z c d (fill_flows filler z c z-allowed.packet h) full.queue in
      let before = moves_then z 1 0 b s c 0 0 0 0 (stored_moves new b k.loose) (start_moves s) in
      let all = moves_then z _ _ b c d 0 0 0 0 before filled in
      let all' = moves_then z _ _ b d (note_largest z d) 0 0 0 0 all (largest_moves d) in
      omega arith

  -- ---- push

  received_moves : (b : Buffer X) → Moves z 1 b (counting count_received b) 0 0
  unfolding counting count_received buffered
  received_moves b = omega arith

  late_moves : (b : Buffer X) → Moves z 70000 b (counting count_late b) 0 0
  unfolding counting count_late buffered
  late_moves b = omega arith

  overflow_moves : (b : Buffer X) → Moves z 70000 b (counting count_overflow b) 0 0
  unfolding counting count_overflow buffered
  overflow_moves b = omega arith

  invalid_moves : (b : Buffer X) → Moves z 70000 b (counting count_invalid_size b) 0 0
  unfolding counting count_invalid_size buffered
  invalid_moves b = omega arith

  judged_keeps : (room : Bool) (new : Packet X) (b : Buffer X) → Allowed z → new.sequence < 2 ^ 32 → (room ≡ true → buffered z b < z.max)
      → Kept z b → Kept z (stored_or_counted room filler z new b)
  unfolding stored_or_counted
  judged_keeps room new b a fits has k =
      cond_keeps (Kept z) (eqb (length new.samples) z.packet) _ _
      (λ e. cond_keeps (Kept z) (is_late new.sequence b.next) _ _
      (λ l. counting_keeps z count_late b k)
      (λ l. cond_keeps (Kept z) room _ _
      (λ r. settle_keeps new b a (record { samples = eqb-true _ _ e; sequence = fits }) l (has r) k)
      (λ r. counting_keeps z count_overflow b k)))
      (λ e. counting_keeps z count_invalid_size b k)

  judged_moves : (room : Bool) (new : Packet X) (b : Buffer X) → Allowed z → new.sequence < 2 ^ 32
      → Kept z b → Moves z 70000 b (stored_or_counted room filler z new b) 0 0
  unfolding stored_or_counted
  judged_moves room new b a fits k =
      let P : Buffer X → Type 0 = λ c. Moves z 70000 b c 0 0 in
      cond_keeps P (eqb (length new.samples) z.packet) _ _
      (λ e. cond_keeps P (is_late new.sequence b.next) _ _
      (λ l. late_moves b)
      (λ l. cond_keeps P room _ _
      (λ r. settle_moves new b a (record { samples = eqb-true _ _ e; sequence = fits }) l k)
      (λ r. overflow_moves b)))
      (λ e. invalid_moves b)

  has_room_law : (b : Buffer X) → has_room z b ≡ true → buffered z (counting count_received b) < z.max
  unfolding has_room buffered counting
  has_room_law b h = ltb-true _ _ h

  -- a push keeps a buffer
  pub push_keeps : (new : Packet X) (b : Buffer X) → Allowed z → new.sequence < 2 ^ 32 → Kept z b → Kept z (push filler z new b)
  unfolding push
  push_keeps new b a fits k =
      judged_keeps (has_room z b) new (counting count_received b) a fits (has_room_law b) (counting_keeps z count_received b k)

  -- and lets no sample out
  pub push_moves : (new : Packet X) (b : Buffer X) → Allowed z → new.sequence < 2 ^ 32 → Kept z b → Moves z 70001 b (push filler z new b) 0 0
  unfolding push
  push_moves new b a fits k =
      let one = received_moves b in
      let rest = judged_moves (has_room z b) new (counting count_received b) a fits (counting_keeps z count_received b k) in
      moves_then z 1 70000 b (counting count_received b) _ 0 0 0 0 one rest
