-- Waiting packets in their places: what a list of them depends on, and what a queue is after a packet more. Assumes nothing.
use Rattle.std.proofs.Common.{◌≡◌, ℕ, zero, suc, ◌+◌, ◌-◌, ◌*◌, ◌<◌, ◌≤◌, true, List, ◌++◌, length, get_or, drop, sym, refl, ap, ◌∙◌, add-zero, add-suc, mul-le-mul_right, add-mul, suc-add, zero-add, arith, take_all, drop-drop, take-add}
use Rattle.model.specs.Bytes.{part, placed}
use Rattle.model.specs.Sizes.{Sizes, sizes_allowed, most_waiting}
use Rattle.areas.proofs.Placed.{part_before, part_within}
use Rattle.calls.specs.declared.Sizes as Code
use Rattle.calls.specs.Views.{sizes_of}
use Rattle.sizes.specs.View.{queue_at}
use Rattle.sizes.proofs.Bounds.{waiting_samples_bound}
use Rattle.jitter_buffer.specs.View.{packets_from}

-- the samples of a packet that may wait end before the queue
pub place_ends : (z : Sizes) (i : ℕ) → i < most_waiting z → i * z.packet + z.packet ≤ queue_at z
unfolding queue_at
place_ends z i h = omega (arith, mul-le-mul_right {m = suc i} {n = most_waiting z} z.packet h)

pub places_end : (z : Sizes) (n : ℕ) → n ≤ most_waiting z → n * z.packet ≤ queue_at z
unfolding queue_at
places_end z n h = mul-le-mul_right z.packet h

module _ {X : Type 0} (packet : ℕ) where
  pub packets_length : (k n : ℕ) (fs : List X) (us : List ℕ) → length (packets_from packet k n fs us) ≡ n
  unfolding packets_from
  packets_length k zero fs us = refl
  packets_length k (suc n) fs us = ap suc (packets_length (suc k) n fs us)

  -- the same packet at a place of one pair of lists and at a place of another
  pub record SamePacket (fs : List X) (us : List ℕ) (k : ℕ) (fs' : List X) (us' : List ℕ) (k' : ℕ) : Type 0 where
    pub sequence : get_or us k 0 ≡ get_or us' k' 0
    pub samples : part (k * packet) packet fs ≡ part (k' * packet) packet fs'

  pub same_packets : (n : ℕ) (fs : List X) (us : List ℕ) (k : ℕ) (fs' : List X) (us' : List ℕ) (k' : ℕ)
      → ((i : ℕ) → i < n → SamePacket fs us (k + i) fs' us' (k' + i)) → packets_from packet k n fs us ≡ packets_from packet k' n fs' us'
  unfolding packets_from
  same_packets zero fs us k fs' us' k' same = refl
  same_packets (suc n) fs us k fs' us' k' same =
      let first : SamePacket fs us k fs' us' k' = simp add-zero at (same 0 (omega arith)) in
      let rest = same_packets n fs us (suc k) fs' us' (suc k')
      (λ i h. rw (suc-add, suc-add, ← add-suc k i, ← add-suc k' i) (same (suc i) (omega arith))) in
      rw (first.sequence, first.samples, rest)

  -- the packets before a place and those from it on
  pub packets_split : (m n k : ℕ) (fs : List X) (us : List ℕ)
      → packets_from packet k (m + n) fs us ≡ packets_from packet k m fs us ++ packets_from packet (k + m) n fs us
  unfolding packets_from
  packets_split zero n k fs us = rw (add-zero, zero-add)
  packets_split (suc m) n k fs us = rw (suc-add, packets_split m n (suc k) fs us, suc-add, add-suc)

-- what is placed behind a part is behind it
pub part_grown {ℓ} : {A : Type ℓ} (d : A) (at n : ℕ) (ys xs : List A) → at + n + length ys ≤ length xs
    → part at (n + length ys) (placed (at + n) ys xs) ≡ part at n xs ++ ys
part_grown {A = A} d at n ys xs fits =
    let behind = part_within d (at + n) ys xs 0 (length ys) fits (omega arith) in
    let all : part 0 (length ys) ys ≡ ys = take_all (length ys) ys (omega arith) in
    rw (take-add n (length ys) (drop at (placed (at + n) ys xs)), drop-drop n at (placed (at + n) ys xs), part_before d (at + n) ys xs at n fits (omega arith))
    (ap (λ (l : List A). part at n xs ++ l) ((rw add-zero at behind) ∙ all))

-- the queue starts low
pub queue_low : (z : Sizes) → sizes_allowed z ≡ true → queue_at z ≤ 135167
unfolding queue_at
queue_low z ok = waiting_samples_bound z ok

-- the packets before a place and those from it on
pub rest_sum : (packet taken n : ℕ) → taken ≤ n → taken * packet + (n - taken) * packet ≡ n * packet
rest_sum packet taken n place = sym (add-mul taken (n - taken) packet) ∙ ap (λ (k : ℕ). k * packet) (omega arith)

-- ---- of the products as the code has them

pub place_inside : (z : Code.Sizes) {i : ℕ} → i < most_waiting (sizes_of z) → i * z.packet + z.packet ≤ queue_at (sizes_of z)
place_inside z h = place_ends (sizes_of z) _ h

pub rest_ends : (z : Code.Sizes) {taken n : ℕ} → taken ≤ n → n ≤ most_waiting (sizes_of z) → taken * z.packet + (n - taken) * z.packet ≤ queue_at (sizes_of z)
rest_ends z {taken} {n} place most = omega (arith, rest_sum z.packet taken n place, places_end (sizes_of z) n most)
