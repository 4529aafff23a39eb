-- Question 3 on the fields and the sequences is the model's question on the view. Assumes nothing.
use Rattle.std.proofs.Common.{Option, None, Some, add-one}
use mathlib.Core.Path.{◌≡◌, refl, sym, ◌∙◌, ap}
use mathlib.Core.Bool.{Bool, true, false, ◌&&◌, cond, and-eq-true_iff, and_assoc, and-true}
use mathlib.Core.List.{List, [], ◌∷◌}
use Prim.Native.Nat.{ℕ, zero, suc, ◌+◌, ◌-◌, ◌*◌, ◌≤◌, ◌<◌, max}
use native.Mathlib.Nat.{sub-zero, add-zero}
use native.Mathlib.Omega.{arith}
use lib.ListN.{length, take, drop, get_or, length-take, length-drop}
use lib.Seq.{get_or-take, get_or-drop, take-take, take_all, length-take-le, drop-cons}
use lib.Dec.{leb, ltb, eqb}
use lib.Ieee.{Float}
use borrow.Author.Tests.{ltb-true, ltb-false, leb-true, leb-false, eqb-true, lt-ltb, le-ltb, le-leb, lt-leb, eq-eqb, ne_eqb}
use Rattle.model.specs.Sizes.{sizes_allowed, most_waiting}
use Rattle.model.specs.JitterBuffer.{Counters}
use Rattle.model.specs.Bytes.{all}
use Rattle.model.specs.Questions.{most_calls, sequences, strictly_rising, start_held, counters_held, buffer_held}
use Rattle.model.proofs.BoolLaws.{by_test}
use Rattle.model.proofs.HeldKept.{NextFits}
use Rattle.calls.specs.declared.Sizes.{Sizes}
use Rattle.calls.specs.Views.{sizes_of}
use Rattle.sizes.specs.View.{queue_at}
use Rattle.jitter_buffer.specs.declared.JitterBuffer.{JitterBuffer}
use Rattle.jitter_buffer.specs.View.{next_of, packets_from, counters_of, view_of}
use Rattle.jitter_asking.specs.Fields.{largest_counter, next_asked, start_asked}
use Rattle.jitter_asking.specs.Promises.{HeldTold}
use Rattle.jitter_buffer.proofs.Places.{packets_length}

-- ---- counters

leb_max : (a b l : ℕ) → leb (max a b) l ≡ leb a l && leb b l
leb_max a b l =
    by_test (leb a l)
    (λ p. by_test (leb b l)
    (λ q. rw (p, q) (le-leb (max a b) l (omega (arith, leb-true a l p, leb-true b l q))))
    (λ q. rw (p, q) (lt-leb (max a b) l (omega (arith, leb-false b l q)))))
    (λ p. rw p (lt-leb (max a b) l (omega (arith, leb-false a l p))))

pub counters_asked : (limit : ℕ) (k : Counters) → counters_held limit k ≡ leb (largest_counter k) limit
unfolding counters_held all
counters_asked limit k = simp (leb_max, and_assoc, and-true)

-- ---- the order

pub sequences_front : (packet k n : ℕ) (fs : List Float) (us : List ℕ) → k + n ≤ length us → sequences (packets_from packet k n fs us) ≡ take n (drop k us)
unfolding sequences packets_from
sequences_front packet k zero fs us h = refl
sequences_front packet k (suc n) fs us h = rw (drop-cons us k 0 (omega arith), sequences_front packet (suc k) n fs us (omega arith))

-- ---- next

-- in rising order none is below a number that is not above the first
none_below : (n x : ℕ) (xs : List ℕ) → strictly_rising (x ∷ xs) ≡ true → n ≤ x → all (leb n) (x ∷ xs) ≡ true
unfolding all strictly_rising
none_below n x [] r h = rw (le-leb n x h)
none_below n x (y ∷ ys) r h =
    let t = (and-eq-true_iff (ltb x y) _).0 r in
    rw (le-leb n x h) (none_below n y ys t.1 (omega (arith, ltb-true x y t.0)))

all_first : (n x : ℕ) (xs : List ℕ) → strictly_rising (x ∷ xs) ≡ true → all (leb n) (x ∷ xs) ≡ leb n x
unfolding all
all_first n x xs r =
    by_test (leb n x)
    (λ t. none_below n x xs r (leb-true n x t) ∙ sym t)
    (λ t. rw t)

all_front : (n m : ℕ) (us : List ℕ) → m ≤ length us → strictly_rising (take m us) ≡ true → all (leb n) (take m us) ≡ cond (eqb m 0) true (leb n (get_or us 0 0))
unfolding all
all_front n zero us h r = rw (eq-eqb 0 0 refl)
all_front n (suc m) [] h r = absurd (omega arith)
all_front n (suc m) (u ∷ us) h r = rw (ne_eqb (suc m) 0 (λ e. absurd (omega arith))) (all_first n u (take m us) r)

-- question 3 on the fields, where so many may wait
abbrev pub fields_held : Sizes → JitterBuffer → List ℕ → ℕ → Bool
fields_held z j us limit =
    strictly_rising (take j.pending_len us)
    && (ltb j.playout_len (z.target + z.packet)
    && (leb j.consecutive_conceals 2
    && (start_asked z j us
    && (leb (largest_counter (counters_of j)) limit
    && ltb j.max_observed_buffered_samples (z.max + z.target + 2 * z.packet)))))

pending : (z : Sizes) (j : JitterBuffer) (fs : List Float) (us : List ℕ) → length (view_of z j fs us).waiting ≡ j.pending_len
pending z j fs us = packets_length z.packet 0 (j.pending_len - 0) fs us ∙ sub-zero j.pending_len

module _ (z : Sizes) (j : JitterBuffer) (fs : List Float) (us : List ℕ) (long : queue_at (sizes_of z) + (z.target + z.packet) ≤ length fs)
    (fits : j.pending_len ≤ length us) where
  words : sequences (view_of z j fs us).waiting ≡ take j.pending_len us
  words = sequences_front z.packet 0 (j.pending_len - 0) fs us (omega arith) ∙ rw sub-zero

  queue_asked : ltb (length (view_of z j fs us).queue) (z.target + z.packet) ≡ ltb j.playout_len (z.target + z.packet)
  queue_asked =
      let q = length-take j.playout_len (drop (queue_at (sizes_of z)) fs) in
      let d = length-drop (queue_at (sizes_of z)) fs in
      by_test (ltb j.playout_len (z.target + z.packet))
      (λ t. rw t (lt-ltb (length (view_of z j fs us).queue) (z.target + z.packet) (omega (arith, q, d, ltb-true j.playout_len (z.target + z.packet) t))))
      (λ t. rw t (le-ltb (length (view_of z j fs us).queue) (z.target + z.packet) (omega (arith, q, d, ltb-false j.playout_len (z.target + z.packet) t))))

  queue_is : j.playout_len < z.target + z.packet → length (view_of z j fs us).queue ≡ j.playout_len
  queue_is h = omega (arith, length-take j.playout_len (drop (queue_at (sizes_of z)) fs), length-drop (queue_at (sizes_of z)) fs)

  start_asked_law : (next : Option ℕ) → strictly_rising (take j.pending_len us) ≡ true → j.playout_len < z.target + z.packet
      → start_held (sizes_of z) (next_of next) (view_of z j fs us) ≡ next_asked z j us next
  unfolding start_held next_asked
  start_asked_law None r h = rw (queue_is h, pending z j fs us) (both (eqb j.playout_len 0) (ltb (z.packet * j.pending_len) z.target))
    where
      both : (a b : Bool) → a && b ≡ cond a b false
      both true b = refl
      both false b = refl
  start_asked_law (Some s) r h = rw words (all_front s j.pending_len us fits r)

  held_asked : (limit : ℕ) → buffer_held (sizes_of z) limit (view_of z j fs us) ≡ leb j.pending_len (most_waiting (sizes_of z)) && fields_held z j us limit
  unfolding buffer_held
  held_asked limit =
      rw (pending z j fs us, words, queue_asked, counters_asked limit (counters_of j))
      (by_test (strictly_rising (take j.pending_len us))
      (λ r. rw r (by_test (ltb j.playout_len (z.target + z.packet))
      (λ q. rw (q, start_asked_law j.next_sequence r (ltb-true _ _ q)))
      (λ q. rw q)))
      (λ r. rw r))

-- ---- the answer

module _ {z : Sizes} {j : JitterBuffer} {us : List ℕ} {calls : ℕ} (allowed : sizes_allowed (sizes_of z) ≡ true) where
  pub no_part : (most_waiting (sizes_of z) ≡ length us → length us < j.pending_len) → HeldTold z j us calls false
  unfolding buffer_held
  no_part wrong =
      record {
        asked = λ fs long. rw allowed
            (by_test (eqb (most_waiting (sizes_of z)) (length us))
            (λ y. let same : most_waiting (sizes_of z) ≡ length us = eqb-true _ _ y in let more : most_waiting (sizes_of z) < j.pending_len = omega (arith, wrong same) in rw y (too_many fs more))
            (λ n. rw n));
        next = λ e. cc;
      }
    where
      too_many : (fs : List Float) → most_waiting (sizes_of z) < j.pending_len → false ≡ buffer_held (sizes_of z) (calls * most_calls) (view_of z j fs us)
      too_many fs h = rw (pending z j fs us, lt-leb j.pending_len (most_waiting (sizes_of z)) h)

  pub told : most_waiting (sizes_of z) ≡ length us → j.pending_len ≤ length us → NextFits (next_of j.next_sequence) → (r : Bool)
      → r ≡ fields_held z j us (calls * most_calls) → HeldTold z j us calls r
  told same fits next r e =
      record {
        asked = λ fs long. rw (e, allowed, same, eq-eqb (length us) (length us) refl, held_asked z j fs us long fits (calls * most_calls), same, le-leb j.pending_len (length us) fits);
        next = λ e. next;
      }

-- ---- the loop from the last pair on

-- the pairs that are left are those of a front of the sequences, and b is whether those from its last one on rise
pub record PairsLeft (us left : List ℕ) (b : Bool) : Type 0 where
  pub front : left ≡ take (length left) us
  pub fits : length left ≤ length us
  pub rising : b ≡ strictly_rising (drop (length left - 1) us)

-- the last sequence alone, or none, rises
pub rising_last : (us : List ℕ) (i : ℕ) → length us ≤ i + 1 → true ≡ strictly_rising (drop i us)
unfolding strictly_rising
rising_last [] zero h = refl
rising_last [] (suc i) h = refl
rising_last (u ∷ []) zero h = refl
rising_last (u ∷ next ∷ us) zero h = absurd (omega arith)
rising_last (u ∷ us) (suc i) h = rising_last us i (omega arith)

pub pairs_all : (us left : List ℕ) → left ≡ us → PairsLeft us left true
pairs_all us left e = rw e (record {
  front = sym (take_all (length us) us (omega arith));
  fits = omega arith;
  rising = rising_last us (length us - 1) (omega arith);
})

-- one pair more
pair_here : (us : List ℕ) (i : ℕ) → i + 1 < length us
    → strictly_rising (drop i us) ≡ ltb (get_or us i 0) (get_or us (i + 1) 0) && strictly_rising (drop (i + 1) us)
unfolding strictly_rising
pair_here us i h = rw (drop-cons us i 0 (omega arith), add-one i, drop-cons us (suc i) 0 (omega arith))

pub pair_taken : (us left : List ℕ) (b : Bool) (pair left' : List ℕ) (b' : Bool) → PairsLeft us left b → 2 ≤ length left → pair ≡ drop (length left - 2) left
    → left' ≡ take (length left - 1) left → b' ≡ ltb (get_or pair 0 0) (get_or pair 1 0) && b → PairsLeft us left' b'
pair_taken us left b pair left' b' p some e cut h =
    let n = length left - 2 in
    let last : n + 1 ≡ length left - 1 = omega arith in
    let size : length left' ≡ length left - 1 = ap length cut ∙ length-take-le (length left - 1) left (omega arith) in
    let at : (i : ℕ) → i < 2 → get_or pair i 0 ≡ get_or us (n + i) 0 =
    λ i few. ap (λ (l : List ℕ). get_or l i 0) e ∙ get_or-drop n left i 0 ∙ ap (λ (l : List ℕ). get_or l (n + i) 0) p.front ∙ get_or-take (length left) us (n + i) 0 (omega arith) in
    let front : take (length left - 1) left ≡ take (length left - 1) us =
    ap (λ (l : List ℕ). take (length left - 1) l) p.front ∙ take-take (length left - 1) (length left) us (omega arith) in
    let next : length left' - 1 ≡ n = omega arith in
    record {
      front = cut ∙ front ∙ rw size;
      fits = omega (arith, size, p.fits);
      rising = rw (next, pair_here us n (omega (arith, p.fits)), last, ← p.rising, h, at 0 (omega arith), at 1 (omega arith), add-zero n, last);
    }
