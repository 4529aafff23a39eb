-- A list split into a row and the spectrum, each b long, and smoothing with what lies behind it: its parts, and what is left where the fronts of the spectrum
-- and of smoothing are written over. Assumes nothing.
use mathlib.Core.Path.{◌≡◌, sym, ◌∙◌, ap}
use mathlib.Core.List.{List, ◌++◌}
use Prim.Native.Nat.{ℕ, ◌+◌, ◌-◌, ◌*◌, ◌≤◌}
use native.Mathlib.Omega.{arith}
use lib.ListN.{length, take, drop, length-append, length-drop}
use lib.Seq.{take_at, drop_at, take-append-le, take-take, drop-drop, length-take-le}
use Rattle.model.specs.Bytes.{part}

module _ {ℓ} {X : Type ℓ} where
  pub record RowSplit (b : ℕ) (rows front spectrum smooth : List X) : Type ℓ where
    pub row_is : front ≡ take b rows
    pub spectrum_is : spectrum ≡ take b (drop b rows)
    pub smooth_is : smooth ≡ drop (2 * b) rows

  -- one part after the other
  pub split_in_turn : (b : ℕ) (rows front behind spectrum smooth : List X) → front ≡ take b rows → behind ≡ drop b rows
      → spectrum ≡ take b behind → smooth ≡ drop b behind → RowSplit b rows front spectrum smooth
  split_in_turn b rows front behind spectrum smooth row_is behind_is spectrum_is smooth_is =
      let two : b + b ≡ 2 * b = omega arith in
      record {
        row_is = row_is;
        spectrum_is = rw (spectrum_is, behind_is);
        smooth_is = rw (smooth_is, behind_is, drop-drop, two);
      }

  module _ {b : ℕ} {rows front spectrum smooth : List X} (split : RowSplit b rows front spectrum smooth) (fits : 3 * b ≤ length rows) where
    pub row_long : length front ≡ b
    row_long = ap length split.row_is ∙ length-take-le b rows (omega arith)

    pub spectrum_long : length spectrum ≡ b
    spectrum_long = ap length split.spectrum_is ∙ length-take-le b (drop b rows) (simp length-drop (omega arith))

    module _ (n : ℕ) (few : n ≤ b) where
      pub row_part : take n front ≡ take n rows
      row_part = rw split.row_is (take-take n b rows few)

      pub spectrum_part : take n spectrum ≡ part b n rows
      spectrum_part = rw split.spectrum_is (take-take n b (drop b rows) few)

      pub smooth_part : take n smooth ≡ part (2 * b) n rows
      smooth_part = ap (take n) split.smooth_is

    -- what is left: n bins of the spectrum and of smoothing are new
    module _ (n : ℕ) (few : n ≤ b) (new_spectrum new_smooth : List X) (spectrum_n : length new_spectrum ≡ n) (smooth_n : length new_smooth ≡ n) where
      abbrev shown_spectrum : List X
      shown_spectrum = new_spectrum ++ drop n spectrum

      abbrev shown_smooth : List X
      shown_smooth = new_smooth ++ drop n smooth

      abbrev rows_left : List X
      rows_left = front ++ (shown_spectrum ++ shown_smooth)

      as_long : length shown_spectrum ≡ b
      as_long = rw (length-append, length-drop) (omega (arith, spectrum_long))

      behind_row : drop b rows_left ≡ shown_spectrum ++ shown_smooth
      behind_row = drop_at front _ b row_long

      behind_spectrum : drop (2 * b) rows_left ≡ shown_smooth
      behind_spectrum =
          let two : 2 * b ≡ b + b = omega arith in
          rw (two, ← drop-drop b b rows_left, behind_row) (drop_at shown_spectrum _ b as_long)

      behind_smooth : drop b shown_smooth ≡ drop b smooth
      behind_smooth =
          let later : b ≡ n + (b - n) = omega arith in
          rw later (sym (drop-drop (b - n) n shown_smooth) ∙ ap (drop (b - n)) (drop_at new_smooth _ n smooth_n) ∙ drop-drop (b - n) n smooth)

      pub row_kept : take b rows_left ≡ take b rows
      row_kept = take_at front _ b row_long ∙ split.row_is

      pub spectrum_shown : part b n rows_left ≡ new_spectrum
      spectrum_shown = rw behind_row (take-append-le n shown_spectrum _ (omega (arith, as_long)) ∙ take_at new_spectrum _ n spectrum_n)

      pub smooth_shown : part (2 * b) n rows_left ≡ new_smooth
      smooth_shown = rw behind_spectrum (take_at new_smooth _ n smooth_n)

      pub behind_kept : drop (3 * b) rows_left ≡ drop (3 * b) rows
      behind_kept =
          let three : 3 * b ≡ 2 * b + b = omega arith in
          rw three (sym (drop-drop b (2 * b) rows_left) ∙ ap (drop b) behind_spectrum ∙ behind_smooth ∙ ap (drop b) split.smooth_is ∙ drop-drop b (2 * b) rows)
