-- A state that question 3 lets pass is one that every call keeps, where its lists have the lengths and its sequences the 32 bits that memory gives
-- them; and what is held at a limit is held at a larger one. So of a state that was handed in, too, an accepted call leaves a held one. Assumes nothing.
use mathlib.Core.Path.{◌≡◌, refl}
use mathlib.Core.Bool.{true, and-eq-true_iff}
use mathlib.Core.Option.{Option, none, some}
use mathlib.Core.List.{List, [], ◌∷◌}
use Prim.Native.Nat.{ℕ, suc, ◌+◌, ◌*◌, ◌^◌, ◌≤◌, ◌<◌}
use native.Mathlib.Omega.{arith}
use lib.ListN.{length}
use lib.Dec.{leb, ltb, eqb}
use lib.Ieee.{Float}
use borrow.Author.Tests.{ltb-true, leb-true, eqb-true, le-leb}
use Rattle.model.specs.Bytes.{all}
use Rattle.model.specs.Sizes.{Sizes, sizes_allowed, most_waiting}
use Rattle.model.specs.Counts.{StreamCounts}
use Rattle.model.specs.JitterBuffer.{Packet, Buffer, Counters}
use Rattle.model.specs.Row.{Row}
use Rattle.model.specs.Receiver.{Call, Channel, State}
use Rattle.model.specs.Questions.{most_added, first_no, own_questions, sequences, strictly_rising, start_held, counters_held, buffer_held, row_held, channel_held, clock_held, stream_held, held}
use Rattle.model.specs.Step.{accept}
use Rattle.model.specs.WholeList.{All, CallBytes}
use Rattle.model.proofs.BoolLaws.{both_and, beq_equal}
use Rattle.model.proofs.Waiting.{RisingFrom}
use Rattle.model.proofs.FillStep.{PacketKept, NextKept, lowest}
use Rattle.model.proofs.BufferKept.{Idle, Kept}
use Rattle.model.proofs.RowLaws.{RowKept}
use Rattle.model.proofs.ChannelKept.{ChannelKept}
use Rattle.model.proofs.Held.{Within, StreamWithin, StateKept, kept_held}
use Rattle.model.proofs.Accepted.{accept_keeps}

-- ---- what memory gives a state

-- a next sequence has 32 bits
abbrev pub NextFits : Option ℕ → Type 0
NextFits none = Unit {0}
NextFits (some n) = n < 2 ^ 32

-- packets that fit their section are whole, and their sequences have 32 bits
pub record BufferShaped (z : Sizes) (b : Buffer Float) : Type 0 where
  pub next : NextFits b.next
  pub packets : length b.waiting ≤ most_waiting z → All (PacketKept z) b.waiting

-- a row that fits its section has as many values as its total
abbrev pub RowShaped : Sizes → Option Row → Type 0
RowShaped z none = Unit {0}
RowShaped z (some r) = r.total ≤ z.bins → length r.values ≡ r.total

pub record ChannelShaped (z : Sizes) (c : Channel) : Type 0 where
  pub buffer : BufferShaped z c.buffer
  pub row : RowShaped z c.row
  pub picture : length c.picture ≡ z.width * z.height

pub record StateShaped (s : State) : Type 0 where
  pub channel_a : ChannelShaped s.sizes s.channel_a
  pub channel_b : ChannelShaped s.sizes s.channel_b

-- ---- the order of the waiting packets

rises : (p : Packet Float) (ps : List (Packet Float)) → strictly_rising (sequences (p ∷ ps)) ≡ true → RisingFrom (suc p.sequence) ps
unfolding strictly_rising sequences
rises p [] e = tt
rises p (q ∷ ps) e =
    let t = (and-eq-true_iff (ltb p.sequence q.sequence) _).0 e in
    (ltb-true p.sequence q.sequence t.0, rises q ps t.1)

rises_from : (n : ℕ) (ps : List (Packet Float)) → strictly_rising (sequences ps) ≡ true → all (leb n) (sequences ps) ≡ true → RisingFrom n ps
unfolding sequences all
rises_from n [] e a = tt
rises_from n (p ∷ ps) e a = (leb-true n p.sequence ((and-eq-true_iff (leb n p.sequence) _).0 a).0, rises p ps e)

rises_from_zero : (ps : List (Packet Float)) → strictly_rising (sequences ps) ≡ true → RisingFrom 0 ps
rises_from_zero [] e = tt
rises_from_zero (p ∷ ps) e = (omega arith, rises p ps e)

-- ---- a buffer

record StartKept (z : Sizes) (next : Option ℕ) (b : Buffer Float) : Type 0 where
  rising : RisingFrom (lowest next) b.waiting
  kept : NextKept next b.queue
  idle : Idle z next b.waiting

start_kept : (z : Sizes) (next : Option ℕ) (b : Buffer Float) → NextFits next → strictly_rising (sequences b.waiting) ≡ true
    → start_held z next b ≡ true → StartKept z next b
unfolding start_held
start_kept z none b f r s =
    let t = (and-eq-true_iff (eqb (length b.queue) 0) _).0 s in
    record { rising = rises_from_zero b.waiting r; kept = eqb-true _ _ t.0; idle = ltb-true _ _ t.1 }
start_kept z (some n) b f r s = record { rising = rises_from n b.waiting r s; kept = f; idle = tt }

counters_within : (limit : ℕ) (k : Counters) → counters_held limit k ≡ true → Within limit k
unfolding counters_held all
counters_within limit k h =
    let a = (and-eq-true_iff (leb k.received limit) _).0 h in
    let b = (and-eq-true_iff (leb k.inserted limit) _).0 a.1 in
    let c = (and-eq-true_iff (leb k.concealed limit) _).0 b.1 in
    let d = (and-eq-true_iff (leb k.late limit) _).0 c.1 in
    let e = (and-eq-true_iff (leb k.overflow limit) _).0 d.1 in
    let f = (and-eq-true_iff (leb k.invalid_size limit) _).0 e.1 in
    let g = (and-eq-true_iff (leb k.resyncs limit) _).0 f.1 in
    let i = (and-eq-true_iff (leb k.filled limit) _).0 g.1 in
    record {
      received = leb-true _ _ a.0;
      inserted = leb-true _ _ b.0;
      concealed = leb-true _ _ c.0;
      late = leb-true _ _ d.0;
      overflow = leb-true _ _ e.0;
      invalid_size = leb-true _ _ f.0;
      resyncs = leb-true _ _ g.0;
      filled = leb-true _ _ i.0;
    }

pub record KeptWithin (z : Sizes) (limit : ℕ) (b : Buffer Float) : Type 0 where
  pub kept : Kept z b
  pub counts : Within limit b.counters

pub buffer_kept : (z : Sizes) (limit : ℕ) (b : Buffer Float) → BufferShaped z b → buffer_held z limit b ≡ true → KeptWithin z limit b
unfolding buffer_held
buffer_kept z limit b shaped h =
    let w = (and-eq-true_iff (leb (length b.waiting) (most_waiting z)) _).0 h in
    let r = (and-eq-true_iff (strictly_rising (sequences b.waiting)) _).0 w.1 in
    let q = (and-eq-true_iff (ltb (length b.queue) (z.target + z.packet)) _).0 r.1 in
    let n = (and-eq-true_iff (leb b.run 2) _).0 q.1 in
    let s = (and-eq-true_iff (start_held z b.next b) _).0 n.1 in
    let c = (and-eq-true_iff (counters_held limit b.counters) _).0 s.1 in
    let few = leb-true (length b.waiting) (most_waiting z) w.0 in
    let k = start_kept z b.next b shaped.next r.0 s.0 in
    record {
      kept = record {
        loose = record {
          rising = k.rising;
          packets = shaped.packets few;
          queue = ltb-true _ _ q.0;
          run = leb-true _ _ n.0;
          next = k.kept;
        };
        idle = k.idle;
        waiting = few;
        largest = ltb-true _ _ c.1;
      };
      counts = counters_within limit b.counters c.0;
    }

-- ---- a channel

pub row_kept : (z : Sizes) (r : Option Row) → RowShaped z r → row_held z r ≡ true → RowKept z r
unfolding row_held
row_kept z none shaped h = tt
row_kept z (some r) shaped h =
    let total = (and-eq-true_iff (leb r.total z.bins) _).0 h in
    let filled = (and-eq-true_iff (ltb r.filled (2 * r.total)) _).0 total.1 in
    let fits = leb-true r.total z.bins total.0 in
    let below = ltb-true r.filled (2 * r.total) filled.0 in
    record {
      fits = fits;
      some_bins = omega arith;
      filled_below = below;
      done_when_full = beq_equal r.done (leb r.total r.filled) filled.1;
      as_long = shaped fits;
    }

pub record ChannelKeptWithin (z : Sizes) (limit : ℕ) (c : Channel) : Type 0 where
  pub kept : ChannelKept z c
  pub counts : Within limit c.buffer.counters

pub channel_kept : (z : Sizes) (limit : ℕ) (c : Channel) → ChannelShaped z c → channel_held z limit c ≡ true → ChannelKeptWithin z limit c
unfolding channel_held
channel_kept z limit c shaped h =
    let b = (and-eq-true_iff (buffer_held z limit c.buffer) _).0 h in
    let r = (and-eq-true_iff (row_held z c.row) _).0 b.1 in
    let l = (and-eq-true_iff (leb (length c.spectrum) z.bins) _).0 r.1 in
    let k = buffer_kept z limit c.buffer shaped.buffer b.0 in
    record {
      kept = record {
        buffer = k.kept;
        screen = record {
          row = row_kept z c.row shaped.row r.0;
          spectrum = leb-true _ _ l.0;
          smoothing = leb-true _ _ l.1;
          picture = shaped.picture;
        };
      };
      counts = k.counts;
    }

pub stream_within : (limit : ℕ) (c : StreamCounts) → stream_held limit c ≡ true → StreamWithin limit c
unfolding stream_held all
stream_within limit c h =
    let a = (and-eq-true_iff (leb c.packets limit) _).0 h in
    let b = (and-eq-true_iff (leb c.dropped limit) _).0 a.1 in
    let d = (and-eq-true_iff (leb c.late limit) _).0 b.1 in
    record { packets = leb-true _ _ a.0; dropped = leb-true _ _ b.0; late = leb-true _ _ d.0 }

-- ---- a state

pub held_kept : (s : State) → sizes_allowed s.sizes ≡ true → StateShaped s → held s ≡ true → StateKept s
unfolding held
held_kept s allowed shaped h =
    let limit = s.calls * most_added in
    let a = (and-eq-true_iff (channel_held s.sizes limit s.channel_a) _).0 h in
    let b = (and-eq-true_iff (channel_held s.sizes limit s.channel_b) _).0 a.1 in
    let k = (and-eq-true_iff (clock_held s.clock) _).0 b.1 in
    let i = (and-eq-true_iff (leb s.incoming limit) _).0 k.1 in
    let c = (and-eq-true_iff (stream_held limit s.counts.audio) _).0 i.1 in
    let ca = channel_kept s.sizes limit s.channel_a shaped.channel_a a.0 in
    let cb = channel_kept s.sizes limit s.channel_b shaped.channel_b b.0 in
    record {
      allowed = allowed;
      channel_a = ca.kept;
      channel_b = cb.kept;
      counters_a = ca.counts;
      counters_b = cb.counts;
      clock = k.0;
      incoming = leb-true _ _ i.0;
      audio = stream_within limit s.counts.audio c.0;
      waterfall = stream_within limit s.counts.waterfall c.1;
    }

-- an accepted call leaves a held state
pub accept_stays_held : (c : Call) (s : State) → CallBytes c → sizes_allowed s.sizes ≡ true → StateShaped s → held s ≡ true
    → first_no (own_questions s.sizes c) ≡ none → held (accept c s).after ≡ true
accept_stays_held c s bytes allowed shaped h asked =
    kept_held (accept c s).after (accept_keeps c s bytes asked (held_kept s allowed shaped h))

-- ---- a larger limit

all_more : (limit more : ℕ) (xs : List ℕ) → limit ≤ more → all (λ (n : ℕ). leb n limit) xs ≡ true → all (λ (n : ℕ). leb n more) xs ≡ true
unfolding all
all_more limit more [] le h = refl
all_more limit more (x ∷ xs) le h =
    let t = (and-eq-true_iff (leb x limit) _).0 h in
    both_and (le-leb x more (omega (arith, leb-true x limit t.0))) (all_more limit more xs le t.1)

pub stream_held_more : (limit more : ℕ) (c : StreamCounts) → limit ≤ more → stream_held limit c ≡ true → stream_held more c ≡ true
unfolding stream_held
stream_held_more limit more c le h = all_more limit more _ le h

pub buffer_held_more : (z : Sizes) (limit more : ℕ) (b : Buffer Float) → limit ≤ more → buffer_held z limit b ≡ true → buffer_held z more b ≡ true
unfolding buffer_held counters_held
buffer_held_more z limit more b le h =
    let w = (and-eq-true_iff (leb (length b.waiting) (most_waiting z)) _).0 h in
    let r = (and-eq-true_iff (strictly_rising (sequences b.waiting)) _).0 w.1 in
    let q = (and-eq-true_iff (ltb (length b.queue) (z.target + z.packet)) _).0 r.1 in
    let n = (and-eq-true_iff (leb b.run 2) _).0 q.1 in
    let s = (and-eq-true_iff (start_held z b.next b) _).0 n.1 in
    let c = (and-eq-true_iff (counters_held limit b.counters) _).0 s.1 in
    both_and w.0 (both_and r.0 (both_and q.0 (both_and n.0 (both_and s.0 (both_and (all_more limit more _ le c.0) c.1)))))

pub channel_held_more : (z : Sizes) (limit more : ℕ) (c : Channel) → limit ≤ more → channel_held z limit c ≡ true → channel_held z more c ≡ true
unfolding channel_held
channel_held_more z limit more c le h =
    let b = (and-eq-true_iff (buffer_held z limit c.buffer) _).0 h in
    both_and (buffer_held_more z limit more c.buffer le b.0) b.1
