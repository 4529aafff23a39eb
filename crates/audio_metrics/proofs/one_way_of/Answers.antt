-- `audio_metrics::one_way_of` meets its contract: the two wrapping steps keep the low 64 bits. Assumes nothing.
use Rattle.std.proofs.Common.{◌∙◌, w64, arith}
use mir.ValLaws.{to_z-of_z}
use Rattle.audio_metrics.proofs.DelayWords.{one_way_of_words}
use Rattle.udp_framing.proofs.Wrapped.{wraps_back}
use Rattle.audio_metrics.proofs.one_way_of.Goals as goal

pub returns : goal.returns
returns c = let e = to_z-of_z w64 c.args.offset c.ranges.offset in
    let t = c.args.times in
    to_z-of_z w64 c.as_signed.result (record { sfits = c.as_signed.type_inv })
    ∙ c.as_signed.ensures
    ∙ rw (c.as_bits.ensures, e)
    (one_way_of_words t.receive t.send _ (omega (arith, c.well_formed)) (wraps_back t.receive t.send (omega (arith, c.well_formed)) (omega (arith, c.well_formed))) c.args.offset c.ranges.offset)
