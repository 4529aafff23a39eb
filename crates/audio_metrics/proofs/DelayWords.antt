-- The one-way delay in words of 64 bits: a difference that wraps and a sum that wraps keep the low 64 bits. Assumes nothing.
use Rattle.std.proofs.Common.{◌≡◌, ℕ, suc, ◌+◌, ◌-◌, ◌*◌, ◌%◌, ◌^◌, ◌<◌, ◌≤◌, ℤ, pos, negsuc, ◌+ℤ◌, ◌-ℤ◌, neg_ℤ, refl, sym, ap, mod-lt, mod-eq_of_lt, arith, w64, SFits}
use native.Mathlib.Nat.{mod-add-mod, add-mul-mod_self_right}
use lib.IntN.{+ℤ_assoc, +ℤ_comm, neg_ℤ-+ℤ}
use Rattle.model.specs.Clock.{bits64, signed64, low64, one_way_of}
use Rattle.model.proofs.ProbeWords.{bits_of_difference}

-- ---- sums and differences

sum_inside : (r s n : ℕ) → (pos r -ℤ pos s) +ℤ pos n ≡ pos (r + n) -ℤ pos s
sum_inside r s n = rw (+ℤ_assoc (pos r) (neg_ℤ (pos s)) (pos n), +ℤ_comm (neg_ℤ (pos s)) (pos n), ← +ℤ_assoc (pos r) (pos n) (neg_ℤ (pos s)))

difference_inside : (r s m : ℕ) → (pos r -ℤ pos s) +ℤ negsuc m ≡ pos r -ℤ pos (s + suc m)
difference_inside r s m = rw (+ℤ_assoc (pos r) (neg_ℤ (pos s)) (negsuc m)) (ap (λ (x : ℤ). pos r +ℤ x) (sym (neg_ℤ-+ℤ (pos s) (pos (suc m)))))

-- receive < 2^64, and delay + send wraps to it
module _ (receive send delay : ℕ) (fits : receive < 2 ^ 64) (wraps : (delay + send) % 2 ^ 64 ≡ receive) where
  with_sum : (n : ℕ) → ((delay + n) % 2 ^ 64 + send) % 2 ^ 64 ≡ (receive + n) % 2 ^ 64
  with_sum n =
      let order : delay + n + send ≡ delay + send + n = omega arith in
      rw (mod-add-mod, order, ← wraps, mod-add-mod)

  with_difference : (m : ℕ) → suc m ≤ 2 ^ 64 → ((delay + (2 ^ 64 - suc m)) % 2 ^ 64 + (send + suc m)) % 2 ^ 64 ≡ receive % 2 ^ 64
  with_difference m h =
      let order : delay + (2 ^ 64 - suc m) + (send + suc m) ≡ delay + send + 1 * 2 ^ 64 = omega arith in
      rw (mod-add-mod, order, add-mul-mod_self_right, wraps, mod-eq_of_lt fits)

  pub one_way_of_words : (offset : ℤ) → SFits w64 offset → signed64 ((delay + bits64 offset) % 2 ^ 64) ≡ one_way_of receive send offset
  unfolding one_way_of low64 bits64
  one_way_of_words (pos n) f =
      let small : n % 2 ^ 64 ≡ n = mod-eq_of_lt (omega (arith, f.sfits)) in
      rw (sum_inside receive send n, small)
      (ap signed64 (sym (bits_of_difference (receive + n) send ((delay + n) % 2 ^ 64) (mod-lt _ (omega arith)) (with_sum n))))
  one_way_of_words (negsuc m) f =
      let small : m % 2 ^ 64 ≡ m = mod-eq_of_lt (omega (arith, f.sfits)) in
      rw (difference_inside receive send m, small)
      (ap signed64 (sym (bits_of_difference receive (send + suc m) ((delay + (2 ^ 64 - suc m)) % 2 ^ 64) (mod-lt _ (omega arith)) (with_difference m (omega (arith, f.sfits))))))
