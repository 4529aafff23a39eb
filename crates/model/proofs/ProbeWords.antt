-- Offset and round trip in words of 64 bits: what sums with a carry, differences with a borrow and differences that wrap come to. Assumes nothing.
use Prim.Native.Nat.{ℕ, zero, suc, ◌+◌, ◌-◌, ◌*◌, ◌/◌, ◌%◌, ◌^◌, ◌≤◌, ◌<◌}
use native.Mathlib.Omega.{arith}
use native.Mathlib.Nat.{zero-add, add_assoc, mod-eq_of_lt, mod-add-mod, add-mod-mod, add-mul-mod_self_right}
use mathlib.Core.Path.{◌≡◌, sym, ap, ◌∙◌}
use lib.IntN.{ℤ, pos, negsuc, neg_ℤ, ◌+ℤ◌, ◌-ℤ◌, +ℤ_assoc, +ℤ_comm, neg_ℤ-+ℤ, neg_ℤ-neg_ℤ}
use lib.Signed.{quot_z}
use lib.Dec.{ltb}
use borrow.Author.Tests.{lt-ltb, le-ltb, ltb-true, ltb-false}
use Rattle.model.proofs.BoolLaws.{by_test}
use Rattle.model.specs.Clock.{bits64, signed64, low64, probe_offset, probe_round_trip}

-- ---- integers

-- the difference of two naturals, by which is larger
difference_up : (a b : ℕ) → b ≤ a → pos a -ℤ pos b ≡ pos (a - b)
difference_up a zero h = ap pos (omega arith)
difference_up a (suc b) h = rw (le-ltb a (suc b) h)

difference_down : (a b : ℕ) → a < b → pos a -ℤ pos b ≡ negsuc (b - suc a)
difference_down a zero h = absurd (omega arith)
difference_down a (suc b) h = rw (lt-ltb a (suc b) h)

swap_middle : (a b c d : ℤ) → (a +ℤ b) +ℤ (c +ℤ d) ≡ (a +ℤ c) +ℤ (b +ℤ d)
swap_middle a b c d = rw (+ℤ_assoc a b (c +ℤ d), ← +ℤ_assoc b c d, +ℤ_comm b c, +ℤ_assoc c b d, ← +ℤ_assoc a c (b +ℤ d))

difference_of_sums : (a b c d : ℤ) → (a -ℤ b) +ℤ (c -ℤ d) ≡ (a +ℤ c) -ℤ (b +ℤ d)
difference_of_sums a b c d = swap_middle a (neg_ℤ b) c (neg_ℤ d) ∙ ap (λ (x : ℤ). (a +ℤ c) +ℤ x) (sym (neg_ℤ-+ℤ b d))

difference_turned : (c d : ℤ) → neg_ℤ (c -ℤ d) ≡ d -ℤ c
difference_turned c d = rw (neg_ℤ-+ℤ c (neg_ℤ d), neg_ℤ-neg_ℤ d, +ℤ_comm (neg_ℤ c) d)

-- ---- the low 64 bits of a difference, from a word that wraps

word_after_cancel : (x y b : ℕ) → (x + b) % 2 ^ 64 ≡ (y + b) % 2 ^ 64 → x % 2 ^ 64 ≡ y % 2 ^ 64
word_after_cancel x y b e = sym (back x) ∙ ap (λ (n : ℕ). (n + b * 18446744073709551615) % 2 ^ 64) e ∙ back y
  where
    whole : (z : ℕ) → z + b + b * 18446744073709551615 ≡ z + b * 2 ^ 64
    whole z = omega arith

    back : (z : ℕ) → ((z + b) % 2 ^ 64 + b * 18446744073709551615) % 2 ^ 64 ≡ z % 2 ^ 64
    back z = rw (mod-add-mod, whole z, add-mul-mod_self_right)

-- a number above 0 and below 2 · 2^64 whose low word is 0
one_word : (x : ℕ) → 0 < x → x < 2 ^ 65 → x % 2 ^ 64 ≡ 0 → x ≡ 2 ^ 64
one_word x h k e = omega arith

pub bits_of_difference : (a b r : ℕ) → r < 2 ^ 64 → (r + b) % 2 ^ 64 ≡ a % 2 ^ 64 → bits64 (pos a -ℤ pos b) ≡ r
unfolding bits64
bits_of_difference a b r h e = by_test (ltb a b) (λ t. down (ltb-true a b t)) (λ t. up (ltb-false a b t))
  where
    up : b ≤ a → bits64 (pos a -ℤ pos b) ≡ r
    up k =
        let whole : a - b + b ≡ a = omega arith in
        rw (difference_up a b k) (word_after_cancel (a - b) r b (rw whole (sym e)) ∙ mod-eq_of_lt h)

    down : a < b → bits64 (pos a -ℤ pos b) ≡ r
    down k =
        let m = b - suc a in
        let whole : suc r + m + a ≡ r + b = omega arith in
        let none : (suc r + m) % 2 ^ 64 ≡ 0 = word_after_cancel (suc r + m) 0 a (rw (whole, zero-add) e) in
        let one : suc r + m % 2 ^ 64 ≡ 2 ^ 64 =
        one_word (suc r + m % 2 ^ 64) (omega arith) (omega arith) (add-mod-mod (suc r) m (2 ^ 64) ∙ none)
        in
        rw (difference_down a b k) (omega arith)

wrapped_round_trip : (W t1 t2 t3 t4 out served r : ℕ) → (out + t1) % W ≡ t4 → (served + t2) % W ≡ t3 → (r + served) % W ≡ out
    → (r + (t1 + t3)) % W ≡ (t4 + t2) % W
wrapped_round_trip W t1 t2 t3 t4 out served r e1 e2 e3 =
    let whole : r + (t1 + (served + t2)) ≡ r + served + (t1 + t2) = omega arith in
    rw (← e2, ← e1, ← e3, mod-add-mod, add_assoc, mod-add-mod, ← add_assoc r t1 ((served + t2) % W), add-mod-mod, add_assoc r t1, whole)

-- ---- the half of a difference, from its words. W = 2 H, and taken · W is what the borrow and the carry below take away

module _ (H : ℕ) where
  pub half_up : (A B carry taken low : ℕ) → carry ≤ 1 → taken ≤ carry → A + taken * (2 * H) ≡ B + (carry * (2 * H) + low)
      → (A - B) / 2 ≡ (carry + 2 - taken) % 2 * H + low / 2
  half_up A B zero zero low h k e = omega arith
  half_up A B zero (suc taken) low h k e = absurd (omega arith)
  half_up A B (suc zero) zero low h k e = omega arith
  half_up A B (suc zero) (suc zero) low h k e = omega arith
  half_up A B (suc zero) (suc (suc taken)) low h k e = absurd (omega arith)
  half_up A B (suc (suc carry)) taken low h k e = absurd (omega arith)

  pub half_down : (A B carry taken low : ℕ) → carry < taken → taken ≤ 2 → low < 2 * H → A + taken * (2 * H) ≡ B + (carry * (2 * H) + low)
      → ((carry + 2 - taken) % 2 * H + low / 2) + low % 2 + (B - A) / 2 ≡ 2 * H
  half_down A B carry zero low h k l e = absurd (omega arith)
  half_down A B zero (suc zero) low h k l e = omega arith
  half_down A B zero (suc (suc zero)) low h k l e = omega arith
  half_down A B (suc zero) (suc (suc zero)) low h k l e = omega arith
  half_down A B (suc carry) (suc zero) low h k l e = absurd (omega arith)
  half_down A B (suc (suc carry)) (suc (suc zero)) low h k l e = absurd (omega arith)
  half_down A B carry (suc (suc (suc taken))) low h k l e = absurd (omega arith)

-- ---- the low 64 bits of half a difference

half_bits_up : (a b : ℕ) → b ≤ a → a < 2 ^ 65 → bits64 (quot_z (pos a -ℤ pos b) (pos 2)) ≡ (a - b) / 2
unfolding bits64
half_bits_up a b h k = rw (difference_up a b h) (mod-eq_of_lt (omega arith))

-- the low 64 bits of −h, where s and h are 2^64 together
bits_of_negative : (h s : ℕ) → s + h ≡ 2 ^ 64 → bits64 (neg_ℤ (pos h)) ≡ s % 2 ^ 64
unfolding bits64
bits_of_negative zero s e = omega arith
bits_of_negative (suc h) s e = omega arith

half_bits_down : (a b s : ℕ) → a < b → s + (b - a) / 2 ≡ 2 ^ 64 → bits64 (quot_z (pos a -ℤ pos b) (pos 2)) ≡ s % 2 ^ 64
half_bits_down a b s h e =
    let whole : suc (b - suc a) ≡ b - a = omega arith in
    rw (difference_down a b h, whole) (bits_of_negative ((b - a) / 2) s e)

-- half the difference of two sums, from the words of their difference
module _ (ac al bc bl borrow low : ℕ) (ha : ac ≤ 1) (words : al + borrow * 2 ^ 64 ≡ bl + low) where
  a : ℕ
  a = ac * 2 ^ 64 + al

  b : ℕ
  b = bc * 2 ^ 64 + bl

  whole : a + (bc + borrow) * 2 ^ 64 ≡ b + (ac * 2 ^ 64 + low)
  unfolding a b
  whole = omega arith

  not_below : bc + borrow ≤ ac → b ≤ a
  not_below more = omega (arith, whole)

  below : low < 2 ^ 64 → ac < bc + borrow → a < b
  below word less = omega (arith, whole)

  small : al < 2 ^ 64 → a < 2 ^ 65
  unfolding a
  small word = omega arith

  pub half_of_words_up : al < 2 ^ 64 → bc + borrow ≤ ac
      → (ac + 2 - (bc + borrow)) % 2 * 2 ^ 63 + low / 2
      ≡ bits64 (quot_z (pos (ac * 2 ^ 64 + al) -ℤ pos (bc * 2 ^ 64 + bl)) (pos 2))
  unfolding a b
  half_of_words_up word more =
      sym (half_bits_up a b (not_below more) (small word) ∙ half_up (2 ^ 63) a b ac (bc + borrow) low ha more whole)

  pub half_of_words_down : low < 2 ^ 64 → bc + borrow ≤ 2 → ac < bc + borrow
      → ((ac + 2 - (bc + borrow)) % 2 * 2 ^ 63 + low / 2 + low % 2) % 2 ^ 64
      ≡ bits64 (quot_z (pos (ac * 2 ^ 64 + al) -ℤ pos (bc * 2 ^ 64 + bl)) (pos 2))
  unfolding a b
  half_of_words_down word two less =
      sym (half_bits_down a b _ (below word less) (half_down (2 ^ 63) a b ac (bc + borrow) low less two word whole))

-- ---- laws

pub offset_of_words : (t1 t2 t3 t4 : ℕ) {bits : ℕ} → bits ≡ bits64 (quot_z (pos (t2 + t3) -ℤ pos (t1 + t4)) (pos 2))
    → signed64 bits ≡ probe_offset t1 t2 t3 t4
unfolding probe_offset low64
offset_of_words t1 t2 t3 t4 e = rw (e, difference_of_sums (pos t2) (pos t1) (pos t3) (pos t4))

pub round_trip_of_words : (t1 t2 t3 t4 out served r : ℕ) → r < 2 ^ 64
    → (out + t1) % 2 ^ 64 ≡ t4 → (served + t2) % 2 ^ 64 ≡ t3 → (r + served) % 2 ^ 64 ≡ out
    → signed64 r ≡ probe_round_trip t1 t2 t3 t4
unfolding probe_round_trip low64
round_trip_of_words t1 t2 t3 t4 out served r h e1 e2 e3 =
    rw (difference_turned (pos t3) (pos t2), difference_of_sums (pos t4) (pos t1) (pos t2) (pos t3))
    (ap signed64 (sym (bits_of_difference (t4 + t2) (t1 + t3) r h (wrapped_round_trip (2 ^ 64) t1 t2 t3 t4 out served r e1 e2 e3))))
