-- `receiver::clock::probe` meets its contract. Assumes nothing.
use Rattle.std.proofs.Common.{rules, ◌≡◌, refl}
use mir.Syntax.{w64}
use mir.Val.{SFits}
use mir.ValLaws.{to_z-of_z}
use Rattle.model.specs.Clock.{record_probe, probe_offset, probe_round_trip}
use Rattle.model.specs.Questions.{first_no, own_questions}
use Rattle.model.specs.Receiver.{probe}
use Rattle.model.specs.Step.{changes}
use Rattle.audio_metrics.specs.Views.{clock_of}
use Rattle.receiver.proofs.clock.probe.Goals as goal

pub returns : goal.returns
unfolding own_questions first_no changes
returns c = let t = c.args.t in
    let m = c.clock_offset_rtt-measured in
    let offset_fits : SFits w64 m.result.offset = search rules in
    let rtt-fits : SFits w64 m.result.rtt = search rules in
    let offset = to_z-of_z w64 _ offset_fits in
    let rtt = to_z-of_z w64 _ rtt-fits in
    let told = rw (offset, rtt, m.ensures.offset, m.ensures.rtt) at c.probe_in_range-in_range.ensures in
    rw c.answered.ensures (c.clocked.ensures (probe t.t1 t.t2 t.t3 t.t4) (record_probe (probe_offset t.t1 t.t2 t.t3 t.t4) (probe_round_trip t.t1 t.t2 t.t3 t.t4)) tt (rw told) refl
    (λ k yes p. let is : clock_of k ≡ record_probe m.result.offset m.result.rtt (clock_of c.args.r.clock) = search rules in rw (m.ensures.offset, m.ensures.rtt) at is))
