-- What every call keeps of a receiver's state, and that a kept state answers question 3 with yes. Assumes nothing.
use mathlib.Core.Path.{◌≡◌, refl}
use mathlib.Core.Bool.{true}
use mathlib.Core.Option.{Option, none, some}
use mathlib.Core.List.{List, [], ◌∷◌}
use Prim.Native.Nat.{ℕ, suc, ◌*◌, ◌≤◌}
use native.Mathlib.Omega.{arith}
use lib.ListN.{length}
use lib.Dec.{leb}
use lib.Ieee.{Float}
use borrow.Author.Tests.{le-leb, lt-ltb, eq-eqb}
use Rattle.model.specs.Sizes.{Sizes, sizes_allowed}
use Rattle.model.specs.Counts.{StreamCounts}
use Rattle.model.specs.JitterBuffer.{Counters, Packet, Buffer}
use Rattle.model.specs.Bytes.{all}
use Rattle.model.specs.Receiver.{State, Channel}
use Rattle.model.specs.Questions.{most_added, sequences, strictly_rising, start_held, counters_held, buffer_held, channel_held, clock_held, stream_held, held}
use Rattle.model.proofs.BoolLaws.{both_and}
use Rattle.model.proofs.Waiting.{RisingFrom}
use Rattle.model.proofs.FillStep.{NextKept, lowest}
use Rattle.model.proofs.BufferKept.{Idle, Kept}
use Rattle.model.proofs.RowLaws.{row_kept_held}
use Rattle.model.proofs.ChannelKept.{ChannelKept}

-- each counter is at most the limit
pub record Within (limit : ℕ) (k : Counters) : Type 0 where
  pub received : k.received ≤ limit
  pub inserted : k.inserted ≤ limit
  pub concealed : k.concealed ≤ limit
  pub late : k.late ≤ limit
  pub overflow : k.overflow ≤ limit
  pub invalid_size : k.invalid_size ≤ limit
  pub resyncs : k.resyncs ≤ limit
  pub filled : k.filled ≤ limit

-- a stream's counts are at most the limit
pub record StreamWithin (limit : ℕ) (c : StreamCounts) : Type 0 where
  pub packets : c.packets ≤ limit
  pub dropped : c.dropped ≤ limit
  pub late : c.late ≤ limit

-- what holds of a state between calls
pub record StateKept (s : State) : Type 0 where
  pub allowed : sizes_allowed s.sizes ≡ true
  pub channel_a : ChannelKept s.sizes s.channel_a
  pub channel_b : ChannelKept s.sizes s.channel_b
  pub counters_a : Within (s.calls * most_added) s.channel_a.buffer.counters
  pub counters_b : Within (s.calls * most_added) s.channel_b.buffer.counters
  pub clock : clock_held s.clock ≡ true
  pub incoming : s.incoming ≤ s.calls * most_added
  pub audio : StreamWithin (s.calls * most_added) s.counts.audio
  pub waterfall : StreamWithin (s.calls * most_added) s.counts.waterfall

-- ---- each part of question 3

rising_held : (n : ℕ) (ps : List (Packet Float)) → RisingFrom n ps → strictly_rising (sequences ps) ≡ true
unfolding strictly_rising sequences
rising_held n [] r = refl
rising_held n (p ∷ []) r = refl
rising_held n (p ∷ q ∷ ps) r = both_and (lt-ltb p.sequence q.sequence r.1.0) (rising_held (suc p.sequence) (q ∷ ps) r.1)

none_below : (n m : ℕ) (ps : List (Packet Float)) → n ≤ m → RisingFrom m ps → all (leb n) (sequences ps) ≡ true
unfolding all sequences
none_below n m [] h r = refl
none_below n m (p ∷ ps) h r = both_and (le-leb n p.sequence (omega arith)) (none_below n (suc p.sequence) ps (omega arith) r.1)

start_held_law : (z : Sizes) (next : Option ℕ) (b : Buffer Float) → RisingFrom (lowest next) b.waiting → NextKept next b.queue
    → Idle z next b.waiting → start_held z next b ≡ true
unfolding start_held
start_held_law z none b r n i = both_and (eq-eqb (length b.queue) 0 n) (lt-ltb (z.packet * length b.waiting) z.target i)
start_held_law z (some next) b r n i = none_below next next b.waiting (omega arith) r

counters_held_law : (limit : ℕ) (k : Counters) → Within limit k → counters_held limit k ≡ true
unfolding counters_held all
counters_held_law limit k w =
    both_and (le-leb _ _ w.received)
    (both_and (le-leb _ _ w.inserted)
    (both_and (le-leb _ _ w.concealed)
    (both_and (le-leb _ _ w.late)
    (both_and (le-leb _ _ w.overflow)
    (both_and (le-leb _ _ w.invalid_size)
    (both_and (le-leb _ _ w.resyncs)
    (both_and (le-leb _ _ w.filled) refl)))))))

pub buffer_held_law : (z : Sizes) (limit : ℕ) (b : Buffer Float) → Kept z b → Within limit b.counters → buffer_held z limit b ≡ true
unfolding buffer_held
buffer_held_law z limit b k w =
    both_and (le-leb _ _ k.waiting)
    (both_and (rising_held (lowest b.next) b.waiting k.loose.rising)
    (both_and (lt-ltb _ _ k.loose.queue)
    (both_and (le-leb _ _ k.loose.run)
    (both_and (start_held_law z b.next b k.loose.rising k.loose.next k.idle)
    (both_and (counters_held_law limit b.counters w) (lt-ltb _ _ k.largest))))))

channel_held_law : (z : Sizes) (limit : ℕ) (c : Channel) → ChannelKept z c → Within limit c.buffer.counters → channel_held z limit c ≡ true
unfolding channel_held
channel_held_law z limit c k w =
    both_and (buffer_held_law z limit c.buffer k.buffer w)
    (both_and (row_kept_held z c.row k.screen.row)
    (both_and (le-leb _ _ k.screen.spectrum) (le-leb _ _ k.screen.smoothing)))

stream_held_law : (limit : ℕ) (c : StreamCounts) → StreamWithin limit c → stream_held limit c ≡ true
unfolding stream_held all
stream_held_law limit c w =
    both_and (le-leb _ _ w.packets) (both_and (le-leb _ _ w.dropped) (both_and (le-leb _ _ w.late) refl))

-- a kept state can be held
pub kept_held : (s : State) → StateKept s → held s ≡ true
unfolding held
kept_held s k =
    both_and (channel_held_law s.sizes (s.calls * most_added) s.channel_a k.channel_a k.counters_a)
    (both_and (channel_held_law s.sizes (s.calls * most_added) s.channel_b k.channel_b k.counters_b)
    (both_and k.clock
    (both_and (le-leb _ _ k.incoming)
    (both_and (stream_held_law (s.calls * most_added) s.counts.audio k.audio) (stream_held_law (s.calls * most_added) s.counts.waterfall k.waterfall)))))
