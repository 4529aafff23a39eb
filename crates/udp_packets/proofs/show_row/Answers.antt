-- `udp_packets::show_row` meets its contract, by what its four steps promise. Assumes nothing.
use mathlib.Core.Path.{◌≡◌, ◌∙◌}
use native.Mathlib.Omega.{arith}
use lib.ListN.{length, take, length-take}
use lib.Seq.{length-take-le}
use Rattle.model.proofs.SizeLaws.{allowed}
use Rattle.model.proofs.PictureLaws.{spectrum_length, smoothing_length}
use Rattle.calls.specs.Views.{sizes_of}
use Rattle.udp_packets.proofs.RowParts.{split_in_turn}
use Rattle.udp_packets.proofs.Screens.{asked_lengths}
use Rattle.udp_packets.proofs.ShowRow.{bins_new, row_new, front_new, show_row_shows}
use Rattle.udp_packets.proofs.show_row.Goals as goal

pub update_spectrum_db-spectrum_len-requires : goal.update_spectrum_db-spectrum_len-requires
update_spectrum_db-spectrum_len-requires c = let lengths = asked_lengths c.args.z.bins c.args.screen c.requires.0.held in (
  simp length-take (omega (arith, c.requires.2, c.split_at_mut-front.ensures.front_len, c.split_at_mut-spectrum.ensures.front_len)),
  omega (arith, lengths.0, c.split_at_mut-spectrum.ensures.front_len),
)

pub update_adaptive_waterfall_display-display-requires : goal.update_adaptive_waterfall_display-display-requires
update_adaptive_waterfall_display-display-requires c = let a = allowed (sizes_of c.args.z) c.requires.0.allowed in
    (simp length-take (omega (arith, c.requires.2, a.bins_most)), simp length-take (omega (arith, c.requires.2, c.requires.0.room)))

pub smooth_row-smooth_len-requires : goal.smooth_row-smooth_len-requires
smooth_row-smooth_len-requires c = let lengths = asked_lengths c.args.z.bins c.args.screen c.requires.0.held in (
  simp length-take (omega (arith, c.requires.0.fits, c.requires.2, c.split_at_mut-front.ensures.back_len, c.split_at_mut-spectrum.ensures.back_len)),
  omega (arith, lengths.1, c.requires.0.fits, c.split_at_mut-front.ensures.back_len, c.split_at_mut-spectrum.ensures.back_len),
)

pub draw_row_db-requires : goal.draw_row_db-requires
draw_row_db-requires c = let a = allowed (sizes_of c.args.z) c.requires.0.allowed in
    let front = c.split_at_mut-front.result.0.now in
    let row_bins : length (take c.args.n front) ≡ c.args.n = length-take-le c.args.n front (omega (arith, c.requires.2, c.split_at_mut-front.ensures.front_len)) in
    let bins = smoothing_length _ (take c.args.n front) _ ∙ row_bins in
    rw (front_new c.args.n c.smooth_row-smooth_len.ensures bins, bins) (record {
      some_columns = a.width;
      few_columns = a.width_most;
      some_rows = a.height;
      few_rows = a.height_most;
      whole = c.requires.0.whole;
      some_bins = c.requires.1;
      few_bins = omega (arith, c.requires.2, a.bins_most);
    })

pub returns : goal.returns
returns c = let g = c.args in
    let front = c.split_at_mut-front in
    let spectrum = c.split_at_mut-spectrum in
    let row_bins : length (take g.n front.result.0.now) ≡ g.n = length-take-le g.n front.result.0.now (omega (arith, c.requires.2, front.ensures.front_len)) in
    let new_spectrum = c.update_spectrum_db-spectrum_len.ensures in
    let new_smooth = c.smooth_row-smooth_len.ensures in
    let bins = spectrum_length (take g.n front.result.0.now) _ ∙ row_bins in
    let smooth_bins = smoothing_length _ (take g.n front.result.0.now) _ ∙ row_bins in
    rw (bins_new g.n new_spectrum bins, bins_new g.n new_smooth smooth_bins, row_new g.n new_spectrum bins, row_new g.n new_smooth smooth_bins)
    (show_row_shows g.z g.screen g.n (length g.sorting.now) g.rows.now front.result.0.now spectrum.result.0.now spectrum.result.1.now g.picture.now _
    c.update_adaptive_waterfall_display-display.result c.requires.0 c.requires.2
    (split_in_turn g.z.bins g.rows.now _ front.result.1.now _ _ front.ensures.front front.ensures.back spectrum.ensures.front spectrum.ensures.back)
    c.update_adaptive_waterfall_display-display.ensures
    (rw (c.shown_top.ensures, c.shown_range.ensures, front_new g.n new_smooth smooth_bins) at c.draw_row_db.ensures))
