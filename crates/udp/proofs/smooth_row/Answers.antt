-- `udp::smooth_row` meets its contract: the answers are the cases of `smoothing_after`. Assumes nothing.
use Rattle.std.proofs.Common.{rules, ◌≡◌, sym, ap, ◌∙◌, arith, length, take, length-take-le}
use mathlib.Core.List.{zip_with}
use Rattle.model.specs.Scaling.{smoothed, smoothing_weight, smoothing_after}
use Rattle.model.proofs.Constants.{f_one}
use Rattle.model.proofs.PictureLaws.{smoothing_length}
use Rattle.spectrum_utils.proofs.RowInFront.{front_written}
use Rattle.udp.proofs.Smoothing.{weight_is, length_change_copies, whole_weight_copies, moves_toward_row}
use Rattle.udp.proofs.smooth_row.Goals as goal
use Rattle.udp.proofs.smooth_row.Goals.{then-len-bins-via-then-len-bins, then-len-bins-via-else-len-bins+then-w}

pub returns-then-len-bins : goal.returns-then-len-bins
returns-then-len-bins c = let g = c.args in
    let row = g.row.now in
    let old = take g.len g.smooth.now in
    let long = length-take-le g.len g.smooth.now (omega (arith, c.requires)) in
    let w = weight_is g.smoothing c.clamp.result c.clamp.ensures in
    let copied : smoothing_after g.smoothing row old ≡ row = elim c.then-len-bins.branch [
      | then-len-bins-via-then-len-bins b ↦ length_change_copies g.smoothing row old (λ same. b.if-len-bins.true (sym long ∙ same))
      | then-len-bins-via-else-len-bins+then-w b ↦ whole_weight_copies g.smoothing row old (long ∙ b.if-len-bins.false) (rw (w, f_one) at b.if-w.true)
    ] in
    front_written _ _ g.smooth.now (length row) (c.copy_from_slice.ensures.after ∙ sym copied) (smoothing_length g.smoothing row old)

pub returns : goal.returns
unfolding smoothed
returns c = let g = c.args in
    let row = g.row.now in
    let old = take g.len g.smooth.now in
    let long = length-take-le g.len g.smooth.now (omega (arith, c.requires)) in
    let w = weight_is g.smoothing c.clamp.result c.clamp.ensures in
    let moved = c.zip_in_place.ensures (smoothed (smoothing_weight g.smoothing)) (λ x y r p. rw (← w) (search rules)) in
    front_written _ _ g.smooth.now (length row)
    (moved ∙ ap (λ n. zip_with (smoothed (smoothing_weight g.smoothing)) (take n g.smooth.now) row) (sym c.if-len-bins.false)
    ∙ sym (moves_toward_row g.smoothing row old (long ∙ c.if-len-bins.false) (rw (w, f_one) at c.if-w.false)))
    (smoothing_length g.smoothing row old)
