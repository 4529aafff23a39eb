-- `audio_metrics_words_c::audio_metrics_record_probe` meets its contract: the closure is the model's call. Assumes nothing.
use Rattle.std.proofs.Common.{w64, rules}
use mir.ValLaws.{to_z-of_z}
use Rattle.model.specs.Clock.{record_probe}
use Rattle.audio_metrics_words.proofs.Calls.{recorded_words}
use Rattle.audio_metrics_words_c.proofs.audio_metrics_record_probe.Goals as goal

pub returns-clause-state_after : goal.returns-clause-state_after
returns-clause-state_after c = rw (← (rw (to_z-of_z w64 c.args.offset_ns c.ranges.offset_ns, to_z-of_z w64 c.args.rtt_ns c.ranges.rtt_ns) at c.probe_in_range-allowed.ensures)) (recorded_words c.recorded.ensures (record_probe c.args.offset_ns c.args.rtt_ns) (λ m n is by. rw (← is) (search rules)))
