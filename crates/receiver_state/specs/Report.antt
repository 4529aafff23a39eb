-- The report that a receiver gives, and the lines that a report stands for. Assumes nothing.
use Rattle.std.specs.Prelude.{ℕ, List, [], ◌∷◌, ◌++◌, map, pos}
use Rattle.model.specs.Framing.{A, B}
use Rattle.model.specs.JitterBuffer.{Counters}
use Rattle.model.specs.Clock.{reading}
use Rattle.model.specs.Replay.{line, decimal, or_dash, channel_line}
use Rattle.jitter_buffer.specs.declared.JitterBuffer.{JitterBuffer}
use Rattle.audio_metrics.specs.Views.{timing_of, delay_of}
use Rattle.receiver_state.specs.declared.Receiver.{Receiver}
use Rattle.receiver_state.specs.declared.report.SoundReport.{SoundReport}
use Rattle.receiver_state.specs.declared.report.Report.{Report}

-- ---- from a receiver

abbrev pub sound_in : JitterBuffer → SoundReport
sound_in j =
    record {
      received = j.packets_received;
      inserted = j.packets_inserted;
      concealed = j.packets_missing_concealed;
      late = j.packets_dropped_late;
      overflow = j.packets_dropped_overflow;
      invalid_size = j.packets_dropped_invalid_size;
      resyncs = j.resync_count;
      filled = j.filled;
    }

abbrev pub report_of : Receiver → Report
report_of r =
    record {
      a = sound_in r.a.jitter;
      b = sound_in r.b.jitter;
      incoming = r.incoming;
      audio = r.audio;
      waterfall = r.waterfall;
      timing = r.clock.timing;
      one_way = r.clock.one_way;
    }

-- ---- in lines: A, B, I and C

abbrev pub counters_in : SoundReport → Counters
counters_in v =
    record {
      received = v.received;
      inserted = v.inserted;
      concealed = v.concealed;
      late = v.late;
      overflow = v.overflow;
      invalid_size = v.invalid_size;
      resyncs = v.resyncs;
      filled = v.filled;
    }

abbrev pub incoming_numbers : Report → List ℕ
incoming_numbers v =
    v.incoming ∷ v.audio.packets ∷ v.waterfall.packets ∷ v.audio.dropped ∷ v.waterfall.dropped ∷ v.audio.late ∷ v.waterfall.late ∷ []

abbrev pub clock_words : Report → List (List ℕ)
clock_words v =
    or_dash (reading (λ t. t.offset) (timing_of v.timing))
    ∷ or_dash (reading (λ t. pos t.round_trip) (timing_of v.timing))
    ∷ or_dash (delay_of v.one_way)
    ∷ []

unfoldable pub report_lines : Report → List ℕ
report_lines v =
    channel_line A (counters_in v.a)
    ++ (channel_line B (counters_in v.b) ++ (line 73 (map decimal (incoming_numbers v)) ++ line 67 (clock_words v)))
