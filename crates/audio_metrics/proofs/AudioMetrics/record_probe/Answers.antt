-- `audio_metrics::AudioMetrics::record_probe` meets its contract: by the sign of the round trip the clock stays, or takes `timing_after`. Assumes nothing.
use Rattle.std.proofs.Common.{w64}
use mir.ValLaws.{to_z-of_z}
use Rattle.model.specs.Clock.{record_probe}
use Rattle.audio_metrics.specs.Views.{timing_of}
use Rattle.audio_metrics.proofs.Probe.{above_zero, above_taken}
use Rattle.audio_metrics.proofs.AudioMetrics.record_probe.Goals as goal

pub returns : goal.returns
unfolding record_probe
returns c = let t = above_zero c.args.rtt_ns (rw (to_z-of_z w64 c.args.rtt_ns c.ranges.rtt_ns) at c.if-rtt_ns-le0.false) in
    let e = rw (to_z-of_z w64 c.args.rtt_ns c.ranges.rtt_ns, to_z-of_z w64 c.args.offset_ns c.ranges.offset_ns) at c.timing_after-next.ensures in
    rw (above_taken c.args.offset_ns c.args.rtt_ns (timing_of c.args.self.timing) t, e)
