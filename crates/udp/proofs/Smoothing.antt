-- Smoothing of a row, by whether the length changes and whether the weight is 1 or more. Assumes nothing.
use Rattle.std.proofs.Common.{◌≡◌, true, false, List, length, eq-eqb, ne_eqb}
use mathlib.Core.List.{zip_with}
use lib.Ieee as Ieee
use lib.Ieee.{Float, binary32}
use Rattle.model.specs.Floats.{clampf, f1}
use Rattle.model.proofs.Constants.{f_zero, f_one}
use Rattle.model.specs.Scaling.{smoothed, smoothing_weight, smoothing_after}

-- the weight as the code works it out
pub weight_is : (smoothing clamped : Float) → clamped ≡ clampf smoothing (Ieee.of_bits binary32 0) (Ieee.of_bits binary32 0x3f800000)
    → Ieee.sub binary32 (Ieee.of_bits binary32 0x3f800000) (Ieee.mul binary32 (Ieee.of_bits binary32 0x3f666666) clamped) ≡ smoothing_weight smoothing
unfolding smoothing_weight
weight_is smoothing clamped is = rw (is, f_zero, f_one)

module _ (smoothing : Float) (row old : List Float) where
  pub length_change_copies : (length old ≡ length row → ⊥) → smoothing_after smoothing row old ≡ row
  unfolding smoothing_after
  length_change_copies other = rw (ne_eqb (length old) (length row) other)

  pub whole_weight_copies : length old ≡ length row → Ieee.le f1 (smoothing_weight smoothing) ≡ true → smoothing_after smoothing row old ≡ row
  unfolding smoothing_after
  whole_weight_copies same whole = rw (eq-eqb (length old) (length row) same, whole)

  pub moves_toward_row : length old ≡ length row → Ieee.le f1 (smoothing_weight smoothing) ≡ false
      → smoothing_after smoothing row old ≡ zip_with (smoothed (smoothing_weight smoothing)) old row
  unfolding smoothing_after
  moves_toward_row same below = rw (eq-eqb (length old) (length row) same, below)
