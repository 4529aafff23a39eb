-- A completed row keeps the lengths of the spectrum, of smoothing and of the picture, so a waterfall payload keeps what a channel shows. By the lengths of what is copied, zipped and drawn. Assumes nothing.
use Prim.Native.Nat.{ℕ, zero, suc, ◌+◌, ◌-◌, ◌*◌, ◌≤◌, min}
use native.Mathlib.Omega.{arith}
use mathlib.Core.Path.{◌≡◌, refl, ◌∙◌}
use mathlib.Core.Bool.{true, not, ◌||◌}
use mathlib.Core.Option.{Option, none, some}
use mathlib.Core.List.{List, zip_with}
use lib.ListN.{length, length-append, length-take, length-map}
use lib.Dec.{eqb}
use lib.Ieee as Ieee
use lib.Ieee.{Float}
use borrow.Author.Tests.{eqb-true, not-false}
use Rattle.model.specs.Floats.{f1}
use Rattle.model.specs.Sizes.{Sizes}
use Rattle.model.specs.Row.{Row, push_chunk}
use Rattle.model.specs.Scaling.{averaged, spectrum_after, smoothed, smoothing_weight, smoothing_after}
use Rattle.model.specs.Picture.{count_from, drawn_row, picture_after}
use Rattle.model.specs.Receiver.{Channel}
use Rattle.model.specs.Questions.{total_allowed}
use Rattle.model.specs.Step.{shown_row, chunk_result, waterfall_into}
use Rattle.model.proofs.BoolLaws.{cond_keeps, neither_first}
use Rattle.model.proofs.ListLaws.{zip_with_length, count_from_length}
use Rattle.model.proofs.RowLaws.{RowKept, CompletedKept, push_chunk_keeps, push_chunk_completes}

-- ---- lengths

pub spectrum_length : (row old : List Float) → length (spectrum_after row old) ≡ length row
unfolding spectrum_after
spectrum_length row old =
    cond_keeps (λ (xs : List Float). length xs ≡ length row) (eqb (length old) (length row)) (zip_with averaged old row) row
    (λ same. zip_with_length averaged old row (eqb-true _ _ same)) (λ other. refl)

pub smoothing_length : (smoothing : Float) (row old : List Float) → length (smoothing_after smoothing row old) ≡ length row
unfolding smoothing_after
smoothing_length smoothing row old =
    let w = smoothing_weight smoothing in
    cond_keeps (λ (xs : List Float). length xs ≡ length row)
    (not (eqb (length old) (length row)) || Ieee.le f1 w) row (zip_with (smoothed w) old row)
    (λ copied. refl) (λ moved. zip_with_length _ old row (eqb-true _ _ (not-false _ (neither_first _ _ moved))))

pub drawn_row_length : (width : ℕ) (top range zoom : Float) (row : List Float) → length (drawn_row width top range zoom row) ≡ width
unfolding drawn_row
drawn_row_length width top range zoom row = length-map (count_from 0 width) _ ∙ count_from_length 0 width

-- one row, and of the picture all rows but one
one_row_and_rest : (w h : ℕ) → 1 ≤ h → w + min ((h - 1) * w) (w * h) ≡ w * h
one_row_and_rest w zero some_rows = omega arith
one_row_and_rest w (suc h) some_rows =
    let but-one : suc h - 1 ≡ h = omega arith in
    rw but-one (omega arith)

pub picture_length : (width height : ℕ) (top range zoom : Float) (row : List Float) (old : List ℕ)
    → 1 ≤ height → length old ≡ width * height
    → length (picture_after width height top range zoom row old) ≡ width * height
unfolding picture_after
picture_length width height top range zoom row old some_rows full =
    simp (length-append, length-take, drawn_row_length, full) (one_row_and_rest width height some_rows)

-- ---- what a channel shows

pub record ScreenKept (z : Sizes) (c : Channel) : Type 0 where
  pub row : RowKept z c.row
  pub spectrum : length c.spectrum ≤ z.bins
  pub smoothing : length c.smoothing ≤ z.bins
  pub picture : length c.picture ≡ z.width * z.height

chunk_result_keeps : (z : Sizes) (c : Channel) (kept : Option Row) (completed : Option (List Float)) → 1 ≤ z.height
    → RowKept z kept → CompletedKept z completed → ScreenKept z c → ScreenKept z (chunk_result z c kept completed).after
unfolding chunk_result shown_row
chunk_result_keeps z c kept none some_rows row fits h =
    record { row = row; spectrum = h.spectrum; smoothing = h.smoothing; picture = h.picture }
chunk_result_keeps z c kept (some values) some_rows row fits h =
    record {
      row = row;
      spectrum = rw spectrum_length fits.1;
      smoothing = rw smoothing_length fits.1;
      picture = picture_length z.width z.height _ _ _ _ c.picture some_rows h.picture;
    }

pub waterfall_keeps : (z : Sizes) (payload : List ℕ) (c : Channel) → total_allowed z payload ≡ true → 1 ≤ z.height
    → ScreenKept z c → ScreenKept z (waterfall_into z payload c).after
unfolding waterfall_into
waterfall_keeps z payload c allowed some_rows h =
    chunk_result_keeps z c (push_chunk payload c.row).row (push_chunk payload c.row).completed some_rows
    (push_chunk_keeps z payload c.row allowed h.row) (push_chunk_completes z payload c.row allowed h.row) h

chunk_result_buffer : (z : Sizes) (c : Channel) (kept : Option Row) (completed : Option (List Float))
    → (chunk_result z c kept completed).after.buffer ≡ c.buffer
unfolding chunk_result shown_row
chunk_result_buffer z c kept none = refl
chunk_result_buffer z c kept (some values) = refl

-- the jitter buffer stays
pub waterfall_keeps_buffer : (z : Sizes) (payload : List ℕ) (c : Channel) → (waterfall_into z payload c).after.buffer ≡ c.buffer
unfolding waterfall_into
waterfall_keeps_buffer z payload c =
    chunk_result_buffer z c (push_chunk payload c.row).row (push_chunk payload c.row).completed
