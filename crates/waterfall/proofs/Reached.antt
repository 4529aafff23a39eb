-- How far x columns of `width` reach into the bins: x × bins = bin × width + rest, with a rest below width. So the bin of column x is the quotient, which
-- goes on by adding the quotient and the rest of one column. Assumes nothing.
use mathlib.Core.Path.{◌≡◌, sym, ap, ◌∙◌}
use Prim.Native.Nat.{ℕ, ◌+◌, ◌*◌, ◌/◌, ◌%◌, ◌≤◌, ◌<◌}
use native.Mathlib.Nat.{suc-mul, div-add-mod', zero-mul}
use native.Mathlib.Numerals.{add-one}
use native.Mathlib.Omega.{arith}
use lib.Arith.{digits_div}

-- the columns before x reach so far
pub record Reached (width bins x bin rest : ℕ) : Type 0 where
  pub sum : bin * width + rest ≡ x * bins
  pub part : rest < width

pub none_reached : (width bins : ℕ) → 1 ≤ width → Reached width bins 0 0 0
none_reached width bins h = record { sum = rw (zero-mul width, zero-mul bins); part = omega arith }

pub reached_bin : (width bins x bin rest : ℕ) → Reached width bins x bin rest → x * bins / width ≡ bin
reached_bin width bins x bin rest r = ap (λ (n : ℕ). n / width) (sym r.sum) ∙ digits_div bin r.part

-- one column more
pub reached_more : (width bins x bin rest by-bin by-rest bin' rest' : ℕ) → Reached width bins x bin rest → by-bin * width + by-rest ≡ bins
    → bin' * width + rest' ≡ bin * width + rest + (by-bin * width + by-rest) → rest' < width → Reached width bins (x + 1) bin' rest'
reached_more width bins x bin rest by-bin by-rest bin' rest' r one e h =
    record { sum = e ∙ rw (r.sum, one) (sym (rw add-one (suc-mul x bins))); part = h }

pub one_column : (width bins : ℕ) → bins / width * width + bins % width ≡ bins
one_column width bins = div-add-mod' bins width
