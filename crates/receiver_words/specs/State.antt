-- The receiver that 90 words are, the 90 words of a receiver, and the four words of an answer. Assumes nothing.
use Rattle.std.specs.Prelude.{ℕ, Bool, true, false, cond, List, [], ◌∷◌, ◌++◌, get_or, drop, ℤ, Option, None, Some, Result, Ok, Err}
use Rattle.std.proofs.Math.Option as Maybe
use Rattle.std.proofs.Math.Option.{none, some}
use Rattle.std.proofs.lemmas.List.Edits.{sets}
use Rattle.model.specs.Clock as Clock
use Rattle.audio_metrics.specs.declared.ClockTiming.{ClockTiming}
use Rattle.audio_metrics.specs.declared.JitterDepth.{JitterDepth}
use Rattle.audio_metrics.specs.declared.AudioMetrics.{AudioMetrics}
use Rattle.audio_metrics.specs.Views.{clock_of}
use Rattle.audio_metrics_words.specs.Words.{clock_in, clock_words}
use Rattle.calls.specs.Views.{size_numbers, play_words}
use Rattle.channel.specs.declared.Channel.{Channel}
use Rattle.receiver_state.specs.declared.Receiver.{Receiver}
use Rattle.receiver_state.specs.declared.Answer.{Answer}
use Rattle.receiver_state.specs.declared.Answer.TheVariants.{Accepted, Played, NoRow, Row}
use Rattle.receiver_words.specs.Words.{sizes_in, counts_in, buffer_in, screen_in, count_words, buffer_words, screen_words}

-- ---- the clock of the model's clock

abbrev pub timing_back : Maybe.Option Clock.Timing → Option ClockTiming
timing_back none = None
timing_back (some t) = Some (record { offset_ns = t.offset; rtt_ns = t.round_trip; min_rtt_ns = t.least })

abbrev pub delay_back : Maybe.Option ℤ → Option ℤ
delay_back none = None
delay_back (some n) = Some n

abbrev pub depth_back : Maybe.Option Clock.Depth → Option JitterDepth
depth_back none = None
depth_back (some d) = Some (record { jitter_avg_ms = d.average; jitter_peak_ms = d.peak })

unfoldable pub clock_back : Clock.Clock → AudioMetrics
clock_back k =
    record {
      timing = timing_back k.timing;
      one_way = delay_back k.one_way;
      jitter = depth_back k.depth;
      counts = record { conceals = k.counts.conceals; late = k.counts.late; overflow = k.counts.overflow; resyncs = k.counts.resyncs };
      tx_ring_peak_ms = k.transmit_peak;
    }

-- ---- words read

unfoldable pub channel_read : List ℕ → Channel
channel_read w = record { jitter = buffer_in w; screen = screen_in (drop 14 w) }

unfoldable pub receiver_at : List ℕ → Receiver
receiver_at w =
    record {
      sizes = sizes_in w;
      calls = get_or w 6 0;
      incoming = get_or w 7 0;
      audio = counts_in (drop 8 w);
      waterfall = counts_in (drop 13 w);
      a = channel_read (drop 18 w);
      b = channel_read (drop 47 w);
      clock = clock_back (clock_in (drop 76 w));
    }

-- ---- words written

-- the six sizes, the accepted calls, and the datagrams with a valid header
abbrev pub head_words : Receiver → List ℕ
head_words r = size_numbers r.sizes ++ r.calls ∷ r.incoming ∷ []

unfoldable pub channel_words : Channel → List ℕ
channel_words c = buffer_words c.jitter ++ screen_words c.screen

unfoldable pub receiver_words : Receiver → List ℕ
receiver_words r =
    head_words r ++ count_words r.audio ++ count_words r.waterfall ++ channel_words r.a ++ channel_words r.b
    ++ clock_words (clock_of r.clock)

-- ---- answers

-- 0 and a refusal's number; 1: accepted; 2, taken, dropped and short; 3: no row; 4 and the bins of a completed row
abbrev pub answer_words : Result Answer ℕ → List ℕ
answer_words (Err number) = 0 ∷ number ∷ 0 ∷ 0 ∷ []
answer_words (Ok Accepted) = 1 ∷ 0 ∷ 0 ∷ 0 ∷ []
answer_words (Ok (Played p)) = 2 ∷ play_words p
answer_words (Ok NoRow) = 3 ∷ 0 ∷ 0 ∷ 0 ∷ []
answer_words (Ok (Row n)) = 4 ∷ n ∷ 0 ∷ 0 ∷ []

abbrev pub is_refused : Result Answer ℕ → Bool
is_refused (Err number) = true
is_refused (Ok a) = false

-- the words of a state after a call: a refusal leaves each as it was
unfoldable pub state_left : Receiver → Result Answer ℕ → List ℕ → List ℕ
state_left r said w = cond (is_refused said) w (sets w 0 (receiver_words r))

-- setup's answer: 0 and a refusal's number, or 1
abbrev pub setup_words : Result Receiver ℕ → List ℕ
setup_words (Err number) = 0 ∷ number ∷ 0 ∷ 0 ∷ []
setup_words (Ok r) = 1 ∷ 0 ∷ 0 ∷ 0 ∷ []

abbrev pub setup_left : Result Receiver ℕ → List ℕ → List ℕ
setup_left (Err number) w = w
setup_left (Ok r) w = sets w 0 (receiver_words r)
