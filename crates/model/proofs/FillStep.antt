-- One step of a fill: what it keeps, and what it moves. A step takes from the waiting packets what it queues, or counts a filler. Assumes nothing.
use mathlib.Core.Path.{◌≡◌, refl, ap}
use mathlib.Core.Bool.{true, false}
use mathlib.Core.Option.{Option, none, some}
use mathlib.Core.List.{List, [], ◌∷◌, ◌++◌}
use Prim.Native.Nat.{ℕ, suc, ◌+◌, ◌*◌, ◌^◌, ◌≤◌, ◌<◌}
use native.Mathlib.Omega.{arith}
use native.Mathlib.Nat.{mod-le}
use lib.ListN.{length, length-append, length-replicate, replicate}
use lib.Dec.{ltb, leb}
use borrow.Author.Tests.{ltb-true, leb-false}
use Rattle.model.specs.Sizes.{Sizes}
use Rattle.model.specs.Framing.{next_sequence}
use Rattle.model.specs.JitterBuffer.{Packet, Buffer, Step, moved, concealed, stopped, buffered, is_waiting, samples_at, without, earliest, with_next, step_due, resynced, after_step, count_concealed, count_resync}
use Rattle.model.proofs.BoolLaws.{by_test}
use Rattle.model.specs.WholeList.{All}
use Rattle.model.proofs.Waiting.{RisingFrom, rising_weaken, rising_without, rising_past, length_without, all_without, length_samples}

-- the sequence below which none waits
abbrev pub lowest : Option ℕ → ℕ
lowest none = 0
lowest (some n) = n

-- the next sequence is at most one above, also where it wraps, and has 32 bits
pub next_not_above : (s : ℕ) → next_sequence s ≤ suc s
unfolding next_sequence
next_not_above s = omega (arith, mod-le (s + 1) (2 ^ 32))

pub next_fits : (s : ℕ) → next_sequence s < 2 ^ 32
unfolding next_sequence
next_fits s = omega arith

module _ {X : Type 0} where
  -- a waiting packet has packet samples, and a sequence of 32 bits
  pub record PacketKept (z : Sizes) (p : Packet X) : Type 0 where
    pub samples : length p.samples ≡ z.packet
    pub sequence : p.sequence < 2 ^ 32

  -- before the start the queue is empty; after it next has 32 bits
  abbrev pub NextKept : Option ℕ → List X → Type 0
  NextKept none queue = length queue ≡ 0
  NextKept (some n) queue = n < 2 ^ 32

  -- what every step of a push, a fill and a play keeps
  pub record Loose (z : Sizes) (b : Buffer X) : Type 0 where
    pub rising : RisingFrom (lowest b.next) b.waiting
    pub packets : All (PacketKept z) b.waiting
    pub queue : length b.queue < z.target + z.packet
    pub run : b.run ≤ 2
    pub next : NextKept b.next b.queue

  -- what a fill moves from a buffer b to a buffer c
  pub record Flow (z : Sizes) (b c : Buffer X) : Type 0 where
    -- the channel sum's two sides change alike
    pub balance : z.packet * (b.counters.inserted + b.counters.concealed) + buffered z c
        ≡ z.packet * (c.counters.inserted + c.counters.concealed) + buffered z b
    -- filled grows by packet for each concealed packet
    pub filled : b.counters.filled + z.packet * c.counters.concealed ≡ c.counters.filled + z.packet * b.counters.concealed
    -- concealed packets, resyncs and filled samples are at most the samples queued
    pub concealed : c.counters.concealed + length b.queue ≤ b.counters.concealed + length c.queue
    pub resyncs : c.counters.resyncs + length b.queue ≤ b.counters.resyncs + length c.queue
    pub filler : c.counters.filled + length b.queue ≤ b.counters.filled + length c.queue
    pub waiting : length c.waiting ≤ length b.waiting
    -- the rest stays
    pub inserted : c.counters.inserted ≡ b.counters.inserted
    pub received : c.counters.received ≡ b.counters.received
    pub late : c.counters.late ≡ b.counters.late
    pub overflow : c.counters.overflow ≡ b.counters.overflow
    pub invalid_size : c.counters.invalid_size ≡ b.counters.invalid_size
    pub largest : c.largest ≡ b.largest

  pub flow_none : (z : Sizes) (b : Buffer X) → Flow z b b
  flow_none z b = omega arith

  pub flow_then : (z : Sizes) (a b c : Buffer X) → Flow z a b → Flow z b c → Flow z a c
  flow_then z a b c f g = omega arith

  -- ---- what a step's name says of the buffer

  next_moved : (n : Option ℕ) (ps : List (Packet X)) (s : ℕ) → with_next n ps ≡ moved s → (n ≡ some s) × (is_waiting s ps ≡ true)
  unfolding with_next
  next_moved none ps s e = cc
  next_moved (some n) [] s e = cc
  next_moved (some n) (p ∷ ps) s e =
      by_test (is_waiting n (p ∷ ps))
      (λ w. let m : moved n ≡ moved s = rw w at e in let same : n ≡ s = cc in (ap some same, rw same at w))
      (λ w. let m : concealed n ≡ moved s = rw w at e in cc)

  next_concealed : (n : Option ℕ) (ps : List (Packet X)) (s : ℕ) → with_next n ps ≡ concealed s
      → (n ≡ some s) × (is_waiting s ps ≡ false) × (0 < length ps)
  unfolding with_next
  next_concealed none ps s e = cc
  next_concealed (some n) [] s e = cc
  next_concealed (some n) (p ∷ ps) s e =
      by_test (is_waiting n (p ∷ ps))
      (λ w. let m : moved n ≡ concealed s = rw w at e in cc)
      (λ w. let m : concealed n ≡ concealed s = rw w at e in let same : n ≡ s = cc in (ap some same, rw same at w, omega arith))

  -- a step that does not stop finds the queue below target
  due_moved : (z : Sizes) (b : Buffer X) (s : ℕ) → step_due z b ≡ moved s
      → (length b.queue < z.target) × (b.next ≡ some s) × (is_waiting s b.waiting ≡ true)
  unfolding step_due
  due_moved z b s e =
      by_test (ltb (length b.queue) z.target)
      (λ t. let m : with_next b.next b.waiting ≡ moved s = rw t at e in
      let n = next_moved b.next b.waiting s m in
      (ltb-true _ _ t, n.0, n.1))
      (λ t. let m : stopped ≡ moved s = rw t at e in cc)

  pub due_concealed : (z : Sizes) (b : Buffer X) (s : ℕ) → step_due z b ≡ concealed s
      → (length b.queue < z.target) × (b.next ≡ some s) × (is_waiting s b.waiting ≡ false) × (0 < length b.waiting)
  unfolding step_due
  due_concealed z b s e =
      by_test (ltb (length b.queue) z.target)
      (λ t. let m : with_next b.next b.waiting ≡ concealed s = rw t at e in
      let n = next_concealed b.next b.waiting s m in
      (ltb-true _ _ t, n.0, n.1, n.2))
      (λ t. let m : stopped ≡ concealed s = rw t at e in cc)

  -- ---- what a step keeps

  all_sized : (z : Sizes) (ps : List (Packet X)) → All (PacketKept z) ps → All (λ p. length p.samples ≡ z.packet) ps
  all_sized z [] a = tt
  all_sized z (p ∷ ps) a = (a.0.samples, all_sized z ps a.1)

  moved_keeps : (filler : X) (z : Sizes) (b : Buffer X) (s : ℕ) → step_due z b ≡ moved s → Loose z b → Loose z (after_step filler z (moved s) b)
  unfolding after_step
  moved_keeps filler z b s e l =
      let h = due_moved z b s e in
      let r : RisingFrom s b.waiting = rw h.1 at l.rising in
      record {
        rising = rising_weaken (without s b.waiting) (next_not_above s) (rising_without s b.waiting r h.2);
        packets = all_without (PacketKept z) s b.waiting l.packets;
        queue = simp length-append (omega (arith, length_samples z.packet s b.waiting (all_sized z b.waiting l.packets) h.2));
        run = omega arith;
        next = next_fits s;
      }

  -- next = earliest waiting, of a list that is not empty
  pub earliest_keeps : (z : Sizes) (n : ℕ) (ps : List (Packet X)) (q : List X) → 0 < length ps → RisingFrom n ps → All (PacketKept z) ps
      → RisingFrom (lowest (earliest ps)) ps × NextKept (earliest ps) q
  unfolding earliest
  earliest_keeps z n [] q h r a = absurd (omega arith)
  earliest_keeps z n (p ∷ ps) q h r a = ((omega arith, r.1), a.0.sequence)

  concealed_keeps : (filler : X) (z : Sizes) (b : Buffer X) (s : ℕ) → step_due z b ≡ concealed s → Loose z b → Loose z (after_step filler z (concealed s) b)
  unfolding after_step resynced
  concealed_keeps filler z b s e l =
      let h = due_concealed z b s e in
      let r : RisingFrom s b.waiting = rw h.1 at l.rising in
      let past = rising_past s b.waiting r h.2 in
      let fits : length (b.queue ++ replicate z.packet filler) < z.target + z.packet =
      simp (length-append, length-replicate) (omega arith) in
      by_test (leb 3 (b.run + 1))
      (λ t. rw t (let n = earliest_keeps z (suc s) b.waiting (b.queue ++ replicate z.packet filler) h.3 past l.packets in
      record { rising = n.0; packets = l.packets; queue = fits; run = omega arith; next = n.1 }))
      (λ t. rw t (record {
        rising = rising_weaken b.waiting (next_not_above s) past;
        packets = l.packets;
        queue = fits;
        run = omega (arith, leb-false 3 (b.run + 1) t);
        next = next_fits s;
      }))

  -- ---- what a step moves

  moved_flows : (filler : X) (z : Sizes) (b : Buffer X) (s : ℕ) → step_due z b ≡ moved s → Loose z b → Flow z b (after_step filler z (moved s) b)
  unfolding after_step buffered
  moved_flows filler z b s e l =
      let h = due_moved z b s e in
      let q = length_samples z.packet s b.waiting (all_sized z b.waiting l.packets) h.2 in
      let w = length_without s b.waiting h.2 in
      omega (arith, length-append b.queue (samples_at s b.waiting), ap (λ (n : ℕ). z.packet * n) w)

  concealed_flows : (filler : X) (z : Sizes) (b : Buffer X) (s : ℕ) → 1 ≤ z.packet → step_due z b ≡ concealed s → Flow z b (after_step filler z (concealed s) b)
  unfolding after_step resynced buffered count_concealed count_resync
  concealed_flows filler z b s p e =
      let q : length (b.queue ++ replicate z.packet filler) ≡ length b.queue + z.packet =
      simp (length-append, length-replicate) in
      by_test (leb 3 (b.run + 1)) (λ t. rw t (omega arith)) (λ t. rw t (omega arith))

  -- ---- the step, whatever it does

  pub step_keeps : (filler : X) (z : Sizes) (b : Buffer X) → Loose z b → Loose z (after_step filler z (step_due z b) b)
  unfolding after_step
  step_keeps filler z b l = go (step_due z b) refl
    where
      go : (d : Step) → step_due z b ≡ d → Loose z (after_step filler z d b)
      go (moved s) e = moved_keeps filler z b s e l
      go (concealed s) e = concealed_keeps filler z b s e l
      go stopped e = l

  pub step_flows : (filler : X) (z : Sizes) (b : Buffer X) → 1 ≤ z.packet → Loose z b → Flow z b (after_step filler z (step_due z b) b)
  unfolding after_step
  step_flows filler z b p l = go (step_due z b) refl
    where
      go : (d : Step) → step_due z b ≡ d → Flow z b (after_step filler z d b)
      go (moved s) e = moved_flows filler z b s e l
      go (concealed s) e = concealed_flows filler z b s p e
      go stopped e = flow_none z b

  -- a step that does not stop queues a packet, and leaves a buffer that has started
  pub record Queued (z : Sizes) (b c : Buffer X) : Type 0 where
    pub below : length b.queue < z.target
    pub queue : length c.queue ≡ length b.queue + z.packet

  pub moved_queues : (filler : X) (z : Sizes) (b : Buffer X) (s : ℕ) → step_due z b ≡ moved s → Loose z b → Queued z b (after_step filler z (moved s) b)
  unfolding after_step
  moved_queues filler z b s e l =
      let h = due_moved z b s e in
      record {
        below = h.0;
        queue = simp length-append (omega (arith, length_samples z.packet s b.waiting (all_sized z b.waiting l.packets) h.2));
      }

  pub concealed_queues : (filler : X) (z : Sizes) (b : Buffer X) (s : ℕ) → step_due z b ≡ concealed s → Queued z b (after_step filler z (concealed s) b)
  unfolding after_step resynced
  concealed_queues filler z b s e =
      let h = due_concealed z b s e in
      let q : length (b.queue ++ replicate z.packet filler) ≡ length b.queue + z.packet =
      simp (length-append, length-replicate) in
      by_test (leb 3 (b.run + 1)) (λ t. rw t (record { below = h.0; queue = q })) (λ t. rw t (record { below = h.0; queue = q }))
