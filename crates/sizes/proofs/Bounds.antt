-- How large the numbers that follow from allowed sizes get, and how many packets wait. Assumes nothing.
use mathlib.Core.Path.{◌≡◌}
use mathlib.Core.Bool.{true}
use Prim.Native.Nat.{ℕ, suc, ◌+◌, ◌-◌, ◌*◌, ◌/◌, ◌<◌, ◌≤◌}
use native.Mathlib.Omega.{arith}
use native.Mathlib.Nat.{div-mul-le_self, mul-le-mul, div-le_self, mul_comm, mul-le-mul_right, suc-mul, div-lt_iff_lt-mul, le-div_iff_mul-le}
use Rattle.std.specs.Int.{div_ceil}
use Rattle.std.proofs.lemmas.Grind.{div_ceil_times}
use Rattle.model.specs.Sizes.{Sizes, sizes_allowed, most_waiting, float_section, word_section}
use Rattle.model.proofs.SizeLaws.{allowed}
use Rattle.calls.specs.declared.Sizes as Code
use Rattle.calls.specs.Views.{sizes_of}

-- a quotient rounded up, in two ways
pub rounded_up : (m p d : ℕ) → 0 < p → d ≡ div_ceil m p → d ≡ (m + p - 1) / p
rounded_up m p d one e =
    let t : (m ≤ d * p) × (d * p < m + p) = rw e (div_ceil_times m p one) in
    let above : (m + p - 1) / p < suc d = (div-lt_iff_lt-mul {k = p} {x = m + p - 1} {y = suc d} one).1 (omega (arith, suc-mul d p)) in
    omega (arith, above, (le-div_iff_mul-le {k = p} {x = d} {y = m + p - 1} one).1 (omega arith))

module _ (z : Sizes) (ok : sizes_allowed z ≡ true) where
  pub waiting_samples_bound : most_waiting z * z.packet ≤ 135167
  unfolding most_waiting
  waiting_samples_bound = omega (arith, allowed z ok, div-mul-le_self (z.max + z.packet - 1) z.packet)

  pub most_waiting_bound : most_waiting z ≤ 135167
  unfolding most_waiting
  most_waiting_bound = omega (arith, allowed z ok, div-le_self (z.max + z.packet - 1) z.packet)

  pub picture_bound : z.width * z.height ≤ 16777216
  picture_bound = let a = allowed z ok in mul-le-mul a.width_most a.height_most

  pub float_section_bound : float_section z ≤ 401408
  unfolding float_section
  float_section_bound = omega (arith, allowed z ok, waiting_samples_bound)

  pub word_section_bound : word_section z ≤ 16912383
  unfolding word_section
  word_section_bound = omega (arith, picture_bound, most_waiting_bound)

-- ---- of the products as the code has them

pub waiting_samples_few : (z : Code.Sizes) {n : ℕ} → sizes_allowed (sizes_of z) ≡ true → n ≤ most_waiting (sizes_of z) → n * z.packet ≤ 135167
waiting_samples_few z ok h = omega (arith, waiting_samples_bound (sizes_of z) ok, mul-le-mul_right z.packet h)

pub packet_times_few : (z : Code.Sizes) {n : ℕ} → sizes_allowed (sizes_of z) ≡ true → n ≤ most_waiting (sizes_of z) → z.packet * n ≤ 135167
packet_times_few z {n} ok h = rw (mul_comm z.packet n) (waiting_samples_few z ok h)

pub picture_small : (z : Code.Sizes) → sizes_allowed (sizes_of z) ≡ true → z.width * z.height ≤ 16777216
picture_small z ok = picture_bound (sizes_of z) ok
