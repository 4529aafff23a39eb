-- `udp_framing::clock_offset_rtt` meets its contract: half the difference of the sums is the offset, and the differences that wrap are the round trip.
-- Assumes nothing.
use Rattle.std.proofs.Common.{◌≡◌, ◌+◌, pos, ◌-ℤ◌, ◌∙◌, to_z-of_z, w64, mod-lt, rules, arith}
use lib.Signed.{quot_z}
use Rattle.model.specs.Clock.{bits64}
use Rattle.udp_framing.specs.Views.{sum_of}
use Rattle.model.proofs.ProbeWords.{offset_of_words, round_trip_of_words}
use Rattle.udp_framing.proofs.Wrapped.{wraps_back}
use Rattle.udp_framing.proofs.clock_offset_rtt.Goals as goal

pub returns : goal.returns
returns c = let t = c.args.t in
    let server : sum_of c.carrying_add-server.result ≡ t.t2 + t.t3 = omega (arith, c.carrying_add-server.ensures) in
    let client : sum_of c.carrying_add-client.result ≡ t.t1 + t.t4 = omega (arith, c.carrying_add-client.ensures) in
    let bits : c.half_difference-offset.result ≡ bits64 (quot_z (pos (t.t2 + t.t3) -ℤ pos (t.t1 + t.t4)) (pos 2)) =
    rw (← server, ← client) c.half_difference-offset.ensures
    in
    record {
      offset = to_z-of_z {w = w64} {z = c.as_signed.result} (search rules) ∙ c.as_signed.ensures ∙ offset_of_words t.t1 t.t2 t.t3 t.t4 bits;
      rtt =
          to_z-of_z {w = w64} {z = c.as_signed-2.result} (search rules) ∙ c.as_signed-2.ensures
          ∙ round_trip_of_words t.t1 t.t2 t.t3 t.t4 _ _ _ (mod-lt _ (omega arith)) (wraps_back t.t4 t.t1 (omega (arith, c.well_formed)) (omega (arith, c.well_formed)))
          (wraps_back t.t3 t.t2 (omega (arith, c.well_formed)) (omega (arith, c.well_formed))) (wraps_back _ _ (mod-lt _ (omega arith)) (mod-lt _ (omega arith)));
    }
