-- `audio_metrics_words_c::audio_metrics_record_audio_one_way` meets its contract: the closure is the model's call. Assumes nothing.
use Rattle.std.proofs.Common.{rules}
use Rattle.model.specs.Clock.{record_one_way}
use Rattle.audio_metrics_words.proofs.Calls.{recorded_words}
use Rattle.audio_metrics_words_c.proofs.audio_metrics_record_audio_one_way.Goals as goal

pub returns-clause-state_after : goal.returns-clause-state_after
returns-clause-state_after c = recorded_words c.recorded.ensures (record_one_way c.args.recv_ns c.args.send_ns) (λ m n is by. rw (← is) (search rules))
