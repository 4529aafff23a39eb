-- The display after a row: it stays with adaptive off or with no finite value, else the estimates move toward the row's levels. Assumes nothing.
use Rattle.std.proofs.Common.{◌≡◌, Option, None, Some, MatchOption, true, false, eqb, List, length, sym, ◌∙◌}
use lib.Ieee.{Float}
use Rattle.model.specs.Scaling.{Display, finite_values, row_floor, row_top, estimates_toward, display_after}
use Rattle.model.proofs.BoolLaws.{by_test}
use Rattle.spectrum_utils.specs.declared.FloorAndTop.{FloorAndTop}
use Rattle.spectrum_utils.specs.Estimates.{row_estimate}

pub stays_with_adaptive_off : (row : List Float) (d : Display) → d.adaptive ≡ false → d ≡ display_after row d
unfolding display_after
stays_with_adaptive_off row d off = rw off

module _ (row : List Float) (d : Display) (on : d.adaptive ≡ true) where
  pub stays_with_none_finite : row_estimate row ≡ None → d ≡ display_after row d
  unfolding display_after row_estimate
  stays_with_none_finite is =
      by_test (eqb (length (finite_values row)) 0)
      (λ none-finite. rw (on, none-finite))
      (λ some-finite. let e = rw some-finite at is in cc)

  pub moves_toward_levels : (levels : FloorAndTop) → row_estimate row ≡ Some levels → estimates_toward levels.floor levels.top d ≡ display_after row d
  unfolding display_after row_estimate
  moves_toward_levels levels is =
      by_test (eqb (length (finite_values row)) 0)
      (λ none-finite. let e = rw none-finite at is in cc)
      (λ some-finite.
      let e = rw some-finite at is in
      let f : levels ≡ record { floor = row_floor row; top = row_top row } = cc in
      rw (on, some-finite, f))

-- as an estimate that may be absent tells it
pub follows_estimate : (row : List Float) (d r : Display) (levels : Option FloorAndTop) → d.adaptive ≡ true → levels ≡ row_estimate row
    → MatchOption levels (r ≡ d) (λ x. r ≡ estimates_toward x.floor x.top d) → r ≡ display_after row d
follows_estimate row d r None on is answer = answer ∙ stays_with_none_finite row d on (sym is)
follows_estimate row d r (Some levels) on is answer = answer ∙ moves_toward_levels row d on levels (sym is)
