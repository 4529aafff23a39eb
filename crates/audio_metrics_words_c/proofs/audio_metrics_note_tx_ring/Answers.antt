-- `audio_metrics_words_c::audio_metrics_note_tx_ring` meets its contract: the closure is the model's call. Assumes nothing.
use Rattle.std.proofs.Common.{rules}
use Rattle.model.specs.Clock.{record_transmit}
use Rattle.audio_metrics_words.proofs.Calls.{recorded_words}
use Rattle.audio_metrics_words_c.proofs.audio_metrics_note_tx_ring.Goals as goal

pub returns-clause-state_after : goal.returns-clause-state_after
returns-clause-state_after c = rw (← c.depth_in_range-allowed.ensures) (recorded_words c.recorded.ensures (record_transmit c.args.samples) (λ m n is by. rw (← is) (search rules)))
