-- The jitter buffer, over any type X of samples with a filler: the receiver's samples are floats and its filler is 0. Assumes nothing.
use Rattle.std.specs.Prelude.{ℕ, zero, suc, ◌+◌, ◌-◌, ◌*◌, ◌/◌, min, max, Bool, true, false, ◌&&◌, cond, List, [], ◌∷◌, ◌++◌, length, take, drop, replicate, leb, ltb, eqb}
use Rattle.std.proofs.Math.Option.{Option, none, some}
use Rattle.model.specs.Sizes.{Sizes}
use Rattle.model.specs.Framing.{next_sequence}

-- ---- counters

pub record Counters : Type 0 where
  pub received : ℕ
  pub inserted : ℕ
  pub concealed : ℕ
  pub late : ℕ
  pub overflow : ℕ
  pub invalid_size : ℕ
  pub resyncs : ℕ
  -- samples that the player made up since the last reset: short total + packet × concealed
  pub filled : ℕ

abbrev pub fresh_counters : Counters
fresh_counters =
    record { received = 0; inserted = 0; concealed = 0; late = 0; overflow = 0; invalid_size = 0; resyncs = 0; filled = 0 }

-- a packet was pushed
unfoldable pub count_received : Counters → Counters
count_received k =
    record { received = k.received + 1; inserted = k.inserted; concealed = k.concealed; late = k.late; overflow = k.overflow; invalid_size = k.invalid_size; resyncs = k.resyncs; filled = k.filled }

-- a packet was stored that is no duplicate
unfoldable pub count_inserted : Counters → Counters
count_inserted k =
    record { received = k.received; inserted = k.inserted + 1; concealed = k.concealed; late = k.late; overflow = k.overflow; invalid_size = k.invalid_size; resyncs = k.resyncs; filled = k.filled }

-- a filler packet of so many samples was queued
unfoldable pub count_concealed : ℕ → Counters → Counters
count_concealed packet k =
    record { received = k.received; inserted = k.inserted; concealed = k.concealed + 1; late = k.late; overflow = k.overflow; invalid_size = k.invalid_size; resyncs = k.resyncs; filled = k.filled + packet }

-- a packet came below next
unfoldable pub count_late : Counters → Counters
count_late k =
    record { received = k.received; inserted = k.inserted; concealed = k.concealed; late = k.late + 1; overflow = k.overflow; invalid_size = k.invalid_size; resyncs = k.resyncs; filled = k.filled }

-- a packet found no room
unfoldable pub count_overflow : Counters → Counters
count_overflow k =
    record { received = k.received; inserted = k.inserted; concealed = k.concealed; late = k.late; overflow = k.overflow + 1; invalid_size = k.invalid_size; resyncs = k.resyncs; filled = k.filled }

-- a packet had the wrong number of samples
unfoldable pub count_invalid_size : Counters → Counters
count_invalid_size k =
    record { received = k.received; inserted = k.inserted; concealed = k.concealed; late = k.late; overflow = k.overflow; invalid_size = k.invalid_size + 1; resyncs = k.resyncs; filled = k.filled }

-- next went to the earliest waiting packet
unfoldable pub count_resync : Counters → Counters
count_resync k =
    record { received = k.received; inserted = k.inserted; concealed = k.concealed; late = k.late; overflow = k.overflow; invalid_size = k.invalid_size; resyncs = k.resyncs + 1; filled = k.filled }

-- a play gave so many fillers past the queue, or before the start
unfoldable pub count_short : ℕ → Counters → Counters
count_short short k =
    record { received = k.received; inserted = k.inserted; concealed = k.concealed; late = k.late; overflow = k.overflow; invalid_size = k.invalid_size; resyncs = k.resyncs; filled = k.filled + short }

-- ---- the buffer

-- a packet that waits
pub record Packet (X : Type 0) : Type 0 where
  pub sequence : ℕ
  pub samples : List X

pub record Buffer (X : Type 0) : Type 0 where
  -- the next sequence to play: none before the start
  pub next : Option ℕ
  -- the waiting packets, in rising order of their sequences
  pub waiting : List (Packet X)
  -- the samples queued for play, oldest first
  pub queue : List X
  -- fillers queued in a row since the last packet
  pub run : ℕ
  -- the largest buffered amount after a stored push
  pub largest : ℕ
  pub counters : Counters

-- what a play answers
pub record Played (X : Type 0) : Type 0 where
  pub samples : List X
  pub taken : ℕ
  pub dropped : ℕ
  -- fillers past the queue; all of them before the start
  pub short : ℕ

pub record PlayResult (X : Type 0) : Type 0 where
  pub after : Buffer X
  pub answer : Played X

-- what one step of a fill did, and with which sequence
pub data Step : Type 0 where
  moved : ℕ → Step
  concealed : ℕ → Step
  stopped : Step

-- next known and sequence < next, compared plainly
unfoldable pub is_late : ℕ → Option ℕ → Bool
is_late s none = false
is_late s (some next) = ltb s next

-- a queue of q samples is too long: q − target ≥ 1 and ≥ packet / 4
unfoldable pub too_long : Sizes → ℕ → Bool
too_long z q = leb 1 (q - z.target) && leb (z.packet / 4) (q - z.target)

-- then a play drops its 16 oldest samples at most, else none
unfoldable pub drop_count : Sizes → ℕ → ℕ
drop_count z q = cond (too_long z q) (min 16 q) 0

module _ {X : Type 0} where
  abbrev pub fresh_buffer : Buffer X
  fresh_buffer = record { next = none; waiting = []; queue = []; run = 0; largest = 0; counters = fresh_counters }

  -- Reset clears all but the largest buffered amount.
  unfoldable pub reset : Buffer X → Buffer X
  reset b = record { next = none; waiting = []; queue = []; run = 0; largest = b.largest; counters = fresh_counters }

  unfoldable pub is_started : Buffer X → Bool
  is_started b = has_next b.next
    where
      has_next : Option ℕ → Bool
      has_next none = false
      has_next (some n) = true

  -- the buffered amount: queued + packet × waiting
  unfoldable pub buffered : Sizes → Buffer X → ℕ
  buffered z b = length b.queue + z.packet * length b.waiting

  unfoldable pub counting : (Counters → Counters) → Buffer X → Buffer X
  counting f b =
      record {
        next = b.next;
        waiting = b.waiting;
        queue = b.queue;
        run = b.run;
        largest = b.largest;
        counters = f b.counters;
      }

  -- ---- waiting packets

  -- the sequence of the earliest waiting packet, if one waits
  unfoldable pub earliest : List (Packet X) → Option ℕ
  earliest [] = none
  earliest (p ∷ ps) = some p.sequence

  unfoldable pub is_waiting : ℕ → List (Packet X) → Bool
  is_waiting s [] = false
  is_waiting s (p ∷ ps) = cond (eqb p.sequence s) true (is_waiting s ps)

  -- the samples of the waiting packet s
  unfoldable pub samples_at : ℕ → List (Packet X) → List X
  samples_at s [] = []
  samples_at s (p ∷ ps) = cond (eqb p.sequence s) p.samples (samples_at s ps)

  unfoldable pub without : ℕ → List (Packet X) → List (Packet X)
  without s [] = []
  without s (p ∷ ps) = cond (eqb p.sequence s) ps (p ∷ without s ps)

  -- in rising order; a duplicate replaces
  unfoldable pub insert : Packet X → List (Packet X) → List (Packet X)
  insert new [] = new ∷ []
  insert new (p ∷ ps) =
      cond (ltb new.sequence p.sequence) (new ∷ p ∷ ps)
      (cond (eqb new.sequence p.sequence) (new ∷ ps) (p ∷ insert new ps))

  -- ---- fill

  -- next is waiting: move it. None waiting, or not started: stop. Else a filler packet.
  unfoldable pub with_next : Option ℕ → List (Packet X) → Step
  with_next none ps = stopped
  with_next (some s) [] = stopped
  with_next (some s) (p ∷ ps) = cond (is_waiting s (p ∷ ps)) (moved s) (concealed s)

  -- what a step of a fill does: it goes on while queue < target
  unfoldable pub step_due : Sizes → Buffer X → Step
  step_due z b = cond (ltb (length b.queue) z.target) (with_next b.next b.waiting) stopped

  -- on a run of 3, next = earliest waiting, run 0, resyncs + 1
  unfoldable pub resynced : Buffer X → Buffer X
  resynced b =
      cond (leb 3 b.run)
      (record {
        next = earliest b.waiting;
        waiting = b.waiting;
        queue = b.queue;
        run = 0;
        largest = b.largest;
        counters = count_resync b.counters;
      })
      b

  -- one step of a fill, of which `does` says what it does
  unfoldable pub after_step : X → Sizes → Step → Buffer X → Buffer X
  after_step filler z (moved s) b =
      record {
        next = some (next_sequence s);
        waiting = without s b.waiting;
        queue = b.queue ++ samples_at s b.waiting;
        run = 0;
        largest = b.largest;
        counters = b.counters;
      }
  after_step filler z (concealed s) b =
      resynced
      (record {
        next = some (next_sequence s);
        waiting = b.waiting;
        queue = b.queue ++ replicate z.packet filler;
        run = b.run + 1;
        largest = b.largest;
        counters = count_concealed z.packet b.counters;
      })
  after_step filler z stopped b = b

  -- the buffer as it is where a step stopped, and else what the rest of the loop makes of it
  abbrev pub unless_stopped : Step → Buffer X → Buffer X → Buffer X
  unless_stopped (moved s) b rest = rest
  unless_stopped (concealed s) b rest = rest
  unless_stopped stopped b rest = b

  -- at most so many steps of a fill, until one stops
  unfoldable pub fill_steps : X → Sizes → ℕ → Buffer X → Buffer X
  fill_steps filler z zero b = b
  fill_steps filler z (suc n) b =
      let rest = fill_steps filler z n (after_step filler z (step_due z b) b) in
      unless_stopped (step_due z b) b rest

  -- fill: each step that does not stop queues a packet, so no more than target of them are needed
  unfoldable pub fill : X → Sizes → Buffer X → Buffer X
  fill filler z b = fill_steps filler z z.target b

  -- ---- push

  -- the overflow test, the one place where room is judged: queued + packet × waiting ≥ max has none
  unfoldable pub has_room : Sizes → Buffer X → Bool
  has_room z b = ltb (buffered z b) z.max

  -- stored; a duplicate replaces without counting as inserted
  unfoldable pub stored : Packet X → Buffer X → Buffer X
  stored new b =
      record {
        next = b.next;
        waiting = insert new b.waiting;
        queue = b.queue;
        run = b.run;
        largest = b.largest;
        counters = cond (is_waiting new.sequence b.waiting) b.counters (count_inserted b.counters);
      }

  -- not started and packet × waiting ≥ target: next = smallest waiting
  unfoldable pub start_at : Sizes → Option ℕ → List (Packet X) → Option ℕ
  start_at z (some next) ps = some next
  start_at z none ps = cond (leb z.target (z.packet * length ps)) (earliest ps) none

  unfoldable pub start : Sizes → Buffer X → Buffer X
  start z b =
      record {
        next = start_at z b.next b.waiting;
        waiting = b.waiting;
        queue = b.queue;
        run = b.run;
        largest = b.largest;
        counters = b.counters;
      }

  unfoldable pub note_largest : Sizes → Buffer X → Buffer X
  note_largest z b =
      record {
        next = b.next;
        waiting = b.waiting;
        queue = b.queue;
        run = b.run;
        largest = max b.largest (buffered z b);
        counters = b.counters;
      }

  -- a push that is stored: then the start, the fill, and at the end the largest amount
  unfoldable pub stored_and_filled : X → Sizes → Packet X → Buffer X → Buffer X
  stored_and_filled filler z new b = note_largest z (fill filler z (start z (stored new b)))

  -- a received packet, in the order of the tests: wrong count, late, no room, stored
  unfoldable pub stored_or_counted : Bool → X → Sizes → Packet X → Buffer X → Buffer X
  stored_or_counted room filler z new b =
      cond (eqb (length new.samples) z.packet)
      (cond (is_late new.sequence b.next) (counting count_late b)
      (cond room (stored_and_filled filler z new b) (counting count_overflow b)))
      (counting count_invalid_size b)

  -- push: received + 1, then the tests
  unfoldable pub push : X → Sizes → Packet X → Buffer X → Buffer X
  push filler z new b = stored_or_counted (has_room z b) filler z new (counting count_received b)

  -- ---- play

  -- n samples from a queue whose first d are dropped: zeros for the rest
  unfoldable pub hand_out : X → ℕ → ℕ → Buffer X → PlayResult X
  hand_out filler n d b =
      let q = drop d b.queue in
      let short = n - length q in
      record {
        after = record {
          next = b.next;
          waiting = b.waiting;
          queue = drop n q;
          run = b.run;
          largest = b.largest;
          counters = count_short short b.counters;
        };
        answer = record {
          samples = take n q ++ replicate short filler;
          taken = min n (length q);
          dropped = d;
          short = short;
        };
      }

  -- a play before the start gives fillers only: its queue is left alone
  unfoldable pub play_fillers : X → ℕ → Buffer X → PlayResult X
  play_fillers filler n b =
      record {
        after = counting (count_short n) b;
        answer = record { samples = replicate n filler; taken = 0; dropped = 0; short = n };
      }

  -- a play after the start: fill, drop, take
  unfoldable pub play_filled : X → Sizes → ℕ → Buffer X → PlayResult X
  play_filled filler z n b = hand_out filler n (drop_count z (length b.queue)) b

  unfoldable pub play : X → Sizes → ℕ → Buffer X → PlayResult X
  play filler z n b = cond (is_started b) (play_filled filler z n (fill filler z b)) (play_fillers filler n b)
