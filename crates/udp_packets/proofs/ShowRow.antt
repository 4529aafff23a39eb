-- What showing a row leaves, from what its four steps promise. Assumes nothing.
use mathlib.Core.Path.{◌≡◌, ◌∙◌, ap}
use mathlib.Core.Bool.{true}
use mathlib.Core.List.{List, ◌++◌}
use Prim.Native.Nat.{ℕ, ◌*◌, ◌≤◌}
use native.Mathlib.Omega.{arith}
use lib.ListN.{length, take, drop}
use lib.Seq.{length-take-le, take_at}
use lib.Ieee.{Float}
use borrow.Author.Tests.{le-leb}
use Rattle.model.specs.Bytes.{part}
use Rattle.model.specs.Scaling.{display_after, shown_top, shown_range, spectrum_after, smoothing_after}
use Rattle.model.specs.Picture.{picture_after}
use Rattle.model.proofs.BoolLaws.{both_and, first_of_both}
use Rattle.model.proofs.PictureLaws.{spectrum_length, smoothing_length}
use Rattle.calls.specs.declared.Sizes.{Sizes}
use Rattle.spectrum_utils.specs.Promises.{InFront}
use Rattle.udp.specs.declared.Display.{Display}
use Rattle.udp_packets.specs.declared.Screen.{Screen}
use Rattle.udp.specs.Views.{display_of}
use Rattle.udp_packets.specs.Packets.{row_asked, screen_asked, ScreenReady, RowShown}
use Rattle.udp_packets.proofs.RowParts.{RowSplit, row_part, spectrum_part, smooth_part, row_kept, spectrum_shown, smooth_shown, behind_kept}
use Rattle.udp_packets.proofs.Screens.{asked_lengths, row_in_front, row_shown}

-- a running row with a new front of n bins
module _ {values entry exit : List Float} {k : ℕ} (n : ℕ) (new : InFront values entry exit k) (long : length values ≡ n) where
  pub bins_new : k ≡ n
  bins_new = new.count ∙ long

  pub row_new : exit ≡ values ++ drop n entry
  row_new = rw long at new.placed

  pub front_new : take k exit ≡ values
  front_new = rw (bins_new, row_new) (take_at values _ n long)

-- the parts of the rows
module _ (z : Sizes) (s : Screen) (n sorting : ℕ) (rows front spectrum smooth : List Float) (picture picture' : List ℕ) (d : Display)
    (ready : ScreenReady z s (length rows) sorting (length picture)) (few : n ≤ z.bins)
    (split : RowSplit z.bins rows front spectrum smooth)
    (display : display_of d ≡ display_after (take n front) (display_of s.display))
    (drawn : picture' ≡ picture_after z.width z.height (shown_top (display_of d)) (shown_range (display_of d)) d.zoom
    (smoothing_after d.smoothing (take n front) (take s.smooth_len smooth)) picture) where
  abbrev left : Screen
  left = record { row = s.row; spectrum_len = n; smooth_len = n; display = d }

  row_is : take n front ≡ take n rows
  row_is = row_part split ready.fits n few

  row_length_law : length (take n front) ≡ n
  row_length_law = ap length row_is ∙ length-take-le n rows (omega (arith, ready.fits))

  abbrev new_spectrum : List Float
  new_spectrum = spectrum_after (take n front) (take s.spectrum_len spectrum)

  abbrev new_smoothing : List Float
  new_smoothing = smoothing_after d.smoothing (take n front) (take s.smooth_len smooth)

  new_spectrum_length : length new_spectrum ≡ n
  new_spectrum_length = spectrum_length (take n front) _ ∙ row_length_law

  new_smoothing_length : length new_smoothing ≡ n
  new_smoothing_length = smoothing_length d.smoothing (take n front) _ ∙ row_length_law

  abbrev rows' : List Float
  rows' = front ++ ((new_spectrum ++ drop n spectrum) ++ (new_smoothing ++ drop n smooth))

  row_stays : take z.bins rows' ≡ take z.bins rows
  row_stays = row_kept split ready.fits n few new_spectrum new_smoothing new_spectrum_length new_smoothing_length

  row_asked_law : row_asked z.bins s.row ≡ true
  unfolding screen_asked
  row_asked_law = first_of_both (row_asked z.bins s.row) _ ready.held

  display_is : display_of d ≡ display_after (take n rows) (display_of s.display)
  display_is = rw row_is at display

  spectrum_is : part z.bins n rows' ≡ spectrum_after (take n rows) (part z.bins s.spectrum_len rows)
  spectrum_is =
      spectrum_shown split ready.fits n few new_spectrum new_smoothing new_spectrum_length new_smoothing_length
      ∙ rw (row_is, spectrum_part split ready.fits s.spectrum_len (asked_lengths z.bins s ready.held).0)

  smoothing_shown : part (2 * z.bins) n rows' ≡ new_smoothing
  smoothing_shown = smooth_shown split ready.fits n few new_spectrum new_smoothing new_spectrum_length new_smoothing_length

  smoothing_is : part (2 * z.bins) n rows' ≡ smoothing_after d.smoothing (take n rows) (part (2 * z.bins) s.smooth_len rows)
  smoothing_is = smoothing_shown ∙ rw (row_is, smooth_part split ready.fits s.smooth_len (asked_lengths z.bins s ready.held).1)

  picture_is : picture' ≡ picture_after z.width z.height (shown_top (display_of d)) (shown_range (display_of d)) d.zoom (part (2 * z.bins) n rows') picture
  picture_is = rw (← smoothing_shown) at drawn

  still_asked : screen_asked z.bins left ≡ true
  unfolding screen_asked
  still_asked = both_and row_asked_law (both_and (le-leb n z.bins few) (le-leb n z.bins few))

  pub show_row_shows : RowShown z s rows n picture left rows' picture'
  show_row_shows =
      record {
        step = λ b. row_shown z s b n rows rows' picture picture' d (row_in_front z.bins s.row rows' rows row_asked_law row_stays) display_is spectrum_is smoothing_is picture_is;
        front = row_stays;
        behind = behind_kept split ready.fits n few new_spectrum new_smoothing new_spectrum_length new_smoothing_length;
        held = still_asked;
      }
