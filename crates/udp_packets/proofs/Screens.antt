-- A channel in lent memory takes the model's step: a row that is shown, and a chunk that completes none or one. Assumes nothing.
use Rattle.std.proofs.Common.{Option, None, Some}
use mathlib.Core.Path.{◌≡◌, refl, sym, ◌∙◌, ap, subst}
use mathlib.Core.Bool.{true, and-eq-true_iff}
use mathlib.Core.Option as Maybe
use mathlib.Core.Option.{none, some}
use mathlib.Core.List.{List}
use Prim.Native.Nat.{ℕ, ◌*◌, ◌≤◌}
use native.Mathlib.Omega.{arith}
use lib.ListN.{length, take}
use lib.Seq.{length-take-le}
use lib.Dec.{leb, ltb}
use lib.Ieee.{Float}
use borrow.Author.Tests.{leb-true, ltb-true}
use Rattle.model.specs.Bytes.{part}
use Rattle.model.specs.JitterBuffer.{Buffer}
use Rattle.model.specs.Row.{Row, RowResult, push_chunk}
use Rattle.model.specs.Scaling.{display_after, shown_top, shown_range, spectrum_after, smoothing_after}
use Rattle.model.specs.Picture.{picture_after}
use Rattle.model.specs.Receiver.{row}
use Rattle.model.specs.Questions.{row_held, total_allowed}
use Rattle.model.specs.Step.{shown_row, chunk_result, waterfall_into}
use Rattle.model.proofs.BoolLaws.{both_and, first_of_both, second_of_both, beq_equal}
use Rattle.model.proofs.ListLaws.{alike_shorter}
use Rattle.model.proofs.RowLaws.{RowKept, push_chunk_keeps, row_kept_held}
use Rattle.calls.specs.declared.Sizes.{Sizes}
use Rattle.calls.specs.Views.{sizes_of}
use Rattle.udp.specs.declared.Display.{Display}
use Rattle.reassembler.specs.declared.OpenRow.{OpenRow}
use Rattle.reassembler.specs.declared.Pushed.{Pushed}
use Rattle.udp_packets.specs.declared.Screen.{Screen}
use Rattle.reassembler.specs.Rows.{open_of, row_of, completed_of, PushedAs}
use Rattle.udp.specs.Views.{display_of}
use Rattle.udp_packets.specs.Packets.{row_asked, screen_asked, channel_of}

-- ---- a row that could be held

-- its values stand in the first bins
pub row_in_front : (bins : ℕ) (r : Option OpenRow) (xs ys : List Float) → row_asked bins r ≡ true → take bins xs ≡ take bins ys → row_of r xs ≡ row_of r ys
unfolding row_asked
row_in_front bins None xs ys asked alike = refl
row_in_front bins (Some r) xs ys asked alike =
    let fits = leb-true r.total_bins bins (first_of_both (leb r.total_bins bins) _ asked) in
    rw (alike_shorter r.total_bins bins xs ys fits alike)

pub asked_kept : (z : Sizes) (r : Option OpenRow) (xs : List Float) → row_asked z.bins r ≡ true → z.bins ≤ length xs → RowKept (sizes_of z) (row_of r xs)
unfolding row_asked
asked_kept z None xs asked long = tt
asked_kept z (Some r) xs asked long =
    let total = (and-eq-true_iff (leb r.total_bins z.bins) _).0 asked in
    let filled = (and-eq-true_iff (ltb r.filled (2 * r.total_bins)) _).0 total.1 in
    let fits = leb-true r.total_bins z.bins total.0 in
    let below = ltb-true r.filled (2 * r.total_bins) filled.0 in
    record {
      fits = fits;
      some_bins = omega arith;
      filled_below = below;
      done_when_full = beq_equal r.done (leb r.total_bins r.filled) filled.1;
      as_long = length-take-le r.total_bins xs (omega arith);
    }

pub kept_asked : (z : Sizes) (r : Option OpenRow) (xs : List Float) → RowKept (sizes_of z) (row_of r xs) → row_asked z.bins r ≡ true
unfolding row_asked row_held
kept_asked z None xs kept = refl
kept_asked z (Some r) xs kept = row_kept_held (sizes_of z) (some (open_of r xs)) kept

pub asked_lengths : (bins : ℕ) (s : Screen) → screen_asked bins s ≡ true → (s.spectrum_len ≤ bins) × (s.smooth_len ≤ bins)
unfolding screen_asked
asked_lengths bins s asked =
    let lengths = (and-eq-true_iff (leb s.spectrum_len bins) _).0 (second_of_both (row_asked bins s.row) _ asked) in
    (leb-true _ _ lengths.0, leb-true _ _ lengths.1)

-- ---- a row that is shown

module _ (z : Sizes) (s : Screen) (b : Buffer Float) (n : ℕ) (rows rows' : List Float) (picture picture' : List ℕ) (d : Display)
    (same_row : row_of s.row rows' ≡ row_of s.row rows)
    (display_is : display_of d ≡ display_after (take n rows) (display_of s.display))
    (spectrum_is : part z.bins n rows' ≡ spectrum_after (take n rows) (part z.bins s.spectrum_len rows))
    (smoothing_is : part (2 * z.bins) n rows' ≡ smoothing_after d.smoothing (take n rows) (part (2 * z.bins) s.smooth_len rows))
    (picture_is : picture' ≡ picture_after z.width z.height (shown_top (display_of d)) (shown_range (display_of d)) d.zoom (part (2 * z.bins) n rows') picture) where
  pub row_shown : shown_row (sizes_of z) (row_of s.row rows) (take n rows) (channel_of z b s rows picture)
      ≡ channel_of z b (record { row = s.row; spectrum_len = n; smooth_len = n; display = d }) rows' picture'
  unfolding shown_row
  row_shown = rw (← display_is, picture_is, same_row, spectrum_is, smoothing_is)

-- ---- a chunk

result_of : (r : RowResult) (kept : Maybe.Option Row) (completed : Maybe.Option (List Float)) → kept ≡ r.row → completed ≡ r.completed
    → r ≡ record { row = kept; completed = completed }
result_of r kept completed row_is completed-is = rw (row_is, completed-is)

-- the row of a chunk, in the first bins: `before` is that part at entry and `after` at exit
module _ (z : Sizes) (s : Screen) (payload : List ℕ) (rows rows' before after : List Float) (p : Pushed (Option OpenRow))
    (held : screen_asked z.bins s ≡ true) (allowed : total_allowed (sizes_of z) payload ≡ true)
    (lent : take z.bins before ≡ take z.bins rows) (long : z.bins ≤ length before)
    (left : take z.bins after ≡ take z.bins rows') (pushed : PushedAs (push_chunk payload (row_of s.row before)) p after) where
  row_asked_law : row_asked z.bins s.row ≡ true
  unfolding screen_asked
  row_asked_law = first_of_both (row_asked z.bins s.row) _ held

  pub row_still_asked : row_asked z.bins p.state ≡ true
  row_still_asked =
      kept_asked z p.state after
      (subst (RowKept (sizes_of z)) (sym pushed.row) (push_chunk_keeps (sizes_of z) payload (row_of s.row before) allowed (asked_kept z s.row before row_asked_law long)))

  -- the model's chunk, from the whole list and to it
  chunk_pushed : push_chunk payload (row_of s.row rows) ≡ record { row = row_of p.state rows'; completed = completed_of p.completed after }
  chunk_pushed =
      ap (push_chunk payload) (sym (row_in_front z.bins s.row before rows row_asked_law lent))
      ∙ result_of _ (row_of p.state after) (completed_of p.completed after) pushed.row pushed.completed
      ∙ ap (λ (r : Maybe.Option Row). record { row = r; completed = completed_of p.completed after }) (row_in_front z.bins p.state after rows' row_still_asked left)

  -- the screen with the chunk's row
  abbrev screen_pushed : Screen
  screen_pushed = record { row = p.state; spectrum_len = s.spectrum_len; smooth_len = s.smooth_len; display = s.display }

  pub screen_still_asked : screen_asked z.bins screen_pushed ≡ true
  unfolding screen_asked
  screen_still_asked = both_and row_still_asked (second_of_both (row_asked z.bins s.row) _ held)

  module _ (b : Buffer Float) (picture : List ℕ)
      (spectrum-stays : part z.bins s.spectrum_len rows' ≡ part z.bins s.spectrum_len rows)
      (smoothing-stays : part (2 * z.bins) s.smooth_len rows' ≡ part (2 * z.bins) s.smooth_len rows) where
    pub none_completed : p.completed ≡ None
        → waterfall_into (sizes_of z) payload (channel_of z b s rows picture) ≡ record { after = channel_of z b screen_pushed rows' picture; answer = row none }
    unfolding waterfall_into chunk_result
    none_completed is = rw (chunk_pushed, is, spectrum-stays, smoothing-stays)

    pub one_completed : (n : ℕ) → p.completed ≡ Some n
        → waterfall_into (sizes_of z) payload (channel_of z b s rows picture)
        ≡ record { after = shown_row (sizes_of z) (row_of p.state rows') (take n after) (channel_of z b screen_pushed rows' picture); answer = row (some (take n after)) }
    unfolding waterfall_into chunk_result shown_row
    one_completed n is = rw (chunk_pushed, is, spectrum-stays, smoothing-stays)
