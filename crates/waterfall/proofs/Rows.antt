-- The window of a row that is not empty, the rows of a picture, and a row drawn over them. Assumes nothing.
use mathlib.Core.Path.{◌≡◌, sym, ap, ◌∙◌, subst}
use mathlib.Core.List.{List}
use Prim.Native.Nat.{ℕ, zero, suc, ◌+◌, ◌-◌, ◌*◌, ◌/◌, ◌≤◌, ◌<◌, min}
use native.Mathlib.Omega.{arith}
use native.Mathlib.Nat.{mul_comm, mul-lt-mul_of_pos_right, div-lt_iff_lt-mul}
use lib.ListN.{length, take, drop, length-drop}
use lib.Seq.{length-take-le, get_or-take, get_or-drop}
use lib.Ieee.{Float}
use Rattle.model.specs.Bytes.{part, placed}
use Rattle.model.specs.Floats.{◌-f◌, maxf, f0, f1}
use Rattle.model.specs.Picture.{db_to_u8, visible_bins, window_end, bin_at, pixel, drawn_row, picture_after}
use Rattle.spectrum_utils.specs.Promises.{Window}
use Rattle.spectrum_utils.specs.Levels.{level_above}
use Rattle.waterfall.specs.Shown.{column_color}
use Rattle.waterfall.proofs.Drawn.{drawn, drawn_length, drawn_same, drawn_over}

-- ---- rows

-- the top row, and the rows below it
pub top_and_rest : (w h : ℕ) → 1 ≤ h → w + (h - 1) * w ≡ w * h
top_and_rest w zero some = absurd (omega arith)
top_and_rest w (suc h) some =
    let but-one : suc h - 1 ≡ h = omega arith in
    rw but-one (omega arith)

-- ---- a column of the window

quotient_inside : (w visible x : ℕ) → x < w → 1 ≤ visible → min (x * visible / w) (visible - 1) ≡ x * visible / w
quotient_inside w visible x h some =
    let below : x * visible / w < visible = (div-lt_iff_lt-mul {k = w} {x = x * visible} {y = visible} (omega arith)).1 (subst (λ (n : ℕ). x * visible < n) (mul_comm w visible) (mul-lt-mul_of_pos_right h some)) in
    omega (arith, below)

module _ (w : ℕ) (top range zoom : Float) (row : List Float) (start end : ℕ) (window : Window (length row) zoom start end) (some : start < end) (inside : end ≤ length row) where
  -- the rule by which the bins that show are drawn
  abbrev pub window_color : ℕ → ℕ
  window_color = column_color w (top -f maxf range f1) (maxf range f1) (take (end - start) (drop start row))

  window_column : (x : ℕ) → x < w → window_color x ≡ pixel w top range zoom row x
  unfolding db_to_u8 level_above pixel bin_at window_end
  window_column x h =
      let visible : end - start ≡ visible_bins (length row) zoom = rw (window.from, window.to) (omega arith) in
      let as_long : length (take (end - start) (drop start row)) ≡ end - start = length-take-le (end - start) (drop start row) (simp length-drop (omega arith)) in
      let quotient = quotient_inside w (end - start) x h (omega arith) in
      rw (as_long, ← visible, ← window.from, quotient, get_or-take (end - start) (drop start row) (x * (end - start) / w) f0 (omega (arith, quotient)), get_or-drop start row (x * (end - start) / w) f0)

  -- ---- the picture

  pub picture_drawn : (h : ℕ) (old : List ℕ) → 1 ≤ h → length old ≡ w * h
      → placed 0 (drawn window_color w) (placed w (part 0 ((h - 1) * w) old) old) ≡ picture_after w h top range zoom row old
  unfolding picture_after drawn_row
  picture_drawn h old some_rows full =
      ap (λ (ys : List ℕ). placed 0 ys (placed w (part 0 ((h - 1) * w) old) old)) (drawn_same _ (pixel w top range zoom row) w window_column)
      ∙ drawn_over (drawn (pixel w top range zoom row) w) old w ((h - 1) * w) (drawn_length (pixel w top range zoom row) w) (full ∙ sym (top_and_rest w h some_rows))
