-- What a call does: the first "no" of its questions, or what an accepted call changes and answers; and lists of calls. Assumes nothing.
use Rattle.std.specs.Prelude.{ℕ, ◌+◌, cond, List, [], ◌∷◌, drop, Float}
use Rattle.std.proofs.Math.Option.{Option, none, some}
use Rattle.model.specs.Floats.{from_bits, f0}
use Rattle.model.specs.Sizes.{Sizes}
use Rattle.model.specs.Framing.{Header, header_fields, header_length, Side, A, B, Stream, audio, waterfall, other_stream, stream_in}
use Rattle.model.specs.Counts.{counted}
use Rattle.model.specs.Samples.{audio_payload, holds_samples, samples_of}
use Rattle.model.specs.JitterBuffer as Jitter
use Rattle.model.specs.JitterBuffer.{Buffer}
use Rattle.model.specs.Row.{Row, push_chunk}
use Rattle.model.specs.Scaling.{Display, spectrum_after, display_after, shown_top, shown_range, smoothing_after}
use Rattle.model.specs.Picture.{picture_after}
use Rattle.model.specs.Clock.{Clock, probe_offset, probe_round_trip, record_probe, record_one_way, record_depth, record_transmit}
use Rattle.model.specs.Receiver.{Settings, Call, datagram, play, reset, set, probe, one_way, depth, transmit_depth, Channel, Counts, State, Lent, Answer, refused, accepted, played, row, StepResult}
use Rattle.model.specs.Questions.{first_no, questions}

-- ---- what an accepted call does to a channel

pub record ChannelResult : Type 0 where
  pub after : Channel
  pub answer : Answer

unfoldable pub with_buffer : Buffer Float → Channel → Channel
with_buffer b c =
    record {
      buffer = b;
      row = c.row;
      spectrum = c.spectrum;
      smoothing = c.smoothing;
      picture = c.picture;
      display = c.display;
    }

unfoldable pub play_channel : Sizes → ℕ → Channel → ChannelResult
play_channel z n c =
    let r = Jitter.play f0 z n c.buffer in
    record { after = with_buffer r.after c; answer = played r.answer }

-- reset touches the jitter buffer, with filled, alone
unfoldable pub reset_channel : Channel → ChannelResult
reset_channel c = record { after = with_buffer (Jitter.reset c.buffer) c; answer = accepted }

-- the estimates stay
unfoldable pub set_display : Settings → Display → Display
set_display x d =
    record {
      adaptive = x.adaptive;
      top = from_bits x.top;
      range = from_bits x.range;
      zoom = from_bits x.zoom;
      smoothing = from_bits x.smoothing;
      top_estimate = d.top_estimate;
      floor_estimate = d.floor_estimate;
      range_estimate = d.range_estimate;
    }

unfoldable pub set_channel : Settings → Channel → ChannelResult
set_channel x c =
    record {
      after = record {
        buffer = c.buffer;
        row = c.row;
        spectrum = c.spectrum;
        smoothing = c.smoothing;
        picture = c.picture;
        display = set_display x c.display;
      };
      answer = accepted;
    }

-- an audio payload: stopped, or pushed
unfoldable pub audio_into : Sizes → ℕ → List ℕ → Channel → ChannelResult
audio_into z sequence payload c =
    record {
      after =
          cond (holds_samples payload)
          (with_buffer (Jitter.push f0 z (record { sequence = sequence; samples = samples_of payload }) c.buffer) c)
          c;
      answer = row none;
    }

-- a completed row: spectrum and estimates from the raw row, then smoothing, then the picture from the smoothed row
unfoldable pub shown_row : Sizes → Option Row → List Float → Channel → Channel
shown_row z kept values c =
    let d = display_after values c.display in
    let smooth = smoothing_after d.smoothing values c.smoothing in
    record {
      buffer = c.buffer;
      row = kept;
      spectrum = spectrum_after values c.spectrum;
      smoothing = smooth;
      picture = picture_after z.width z.height (shown_top d) (shown_range d) d.zoom smooth c.picture;
      display = d;
    }

unfoldable pub chunk_result : Sizes → Channel → Option Row → Option (List Float) → ChannelResult
chunk_result z c kept none =
    record {
      after = record {
        buffer = c.buffer;
        row = kept;
        spectrum = c.spectrum;
        smoothing = c.smoothing;
        picture = c.picture;
        display = c.display;
      };
      answer = row none;
    }
chunk_result z c kept (some values) = record { after = shown_row z kept values c; answer = row (some values) }

unfoldable pub waterfall_into : Sizes → List ℕ → Channel → ChannelResult
waterfall_into z payload c =
    let r = push_chunk payload c.row in
    chunk_result z c r.row r.completed

-- ---- what an accepted call does to the receiver

-- a call on one side
unfoldable pub on_side : Side → (Channel → ChannelResult) → State → StepResult
on_side A f s =
    let r = f s.channel_a in
    record {
      after = record {
        sizes = s.sizes;
        calls = s.calls;
        incoming = s.incoming;
        counts = s.counts;
        channel_a = r.after;
        channel_b = s.channel_b;
        clock = s.clock;
      };
      answer = r.answer;
    }
on_side B f s =
    let r = f s.channel_b in
    record {
      after = record {
        sizes = s.sizes;
        calls = s.calls;
        incoming = s.incoming;
        counts = s.counts;
        channel_a = s.channel_a;
        channel_b = r.after;
        clock = s.clock;
      };
      answer = r.answer;
    }

unfoldable pub on_clock : (Clock → Clock) → State → StepResult
on_clock f s =
    record {
      after = record {
        sizes = s.sizes;
        calls = s.calls;
        incoming = s.incoming;
        counts = s.counts;
        channel_a = s.channel_a;
        channel_b = s.channel_b;
        clock = f s.clock;
      };
      answer = accepted;
    }

-- each valid header adds 1 to incoming; only streams 1 and 2 add to audio or waterfall counts
unfoldable pub counts_after : ℕ → Stream → Counts → Counts
counts_after sequence (audio A) k = record { audio = counted sequence k.audio; waterfall = k.waterfall }
counts_after sequence (audio B) k = k
counts_after sequence (waterfall A) k = record { audio = k.audio; waterfall = counted sequence k.waterfall }
counts_after sequence (waterfall B) k = k
counts_after sequence other_stream k = k

unfoldable pub count_header : ℕ → Stream → State → State
count_header sequence stream s =
    record {
      sizes = s.sizes;
      calls = s.calls;
      incoming = s.incoming + 1;
      counts = counts_after sequence stream s.counts;
      channel_a = s.channel_a;
      channel_b = s.channel_b;
      clock = s.clock;
    }

-- the stream's work: a datagram of another stream has none
unfoldable pub dispatch : Header → List ℕ → Stream → State → StepResult
dispatch h bytes (audio side) s = on_side side (audio_into s.sizes h.sequence (audio_payload h.version bytes)) s
dispatch h bytes (waterfall side) s = on_side side (waterfall_into s.sizes (drop header_length bytes)) s
dispatch h bytes other_stream s = record { after = s; answer = row none }

-- the counts, then the stream's work
unfoldable pub take_datagram : List ℕ → State → StepResult
take_datagram bytes s =
    let h = header_fields bytes in
    dispatch h bytes (stream_in bytes) (count_header h.sequence (stream_in bytes) s)

-- what a call changes and answers, before it is counted
unfoldable pub changes : Call → State → StepResult
changes (datagram bytes) s = take_datagram bytes s
changes (play side n) s = on_side side (play_channel s.sizes n) s
changes (reset side) s = on_side side reset_channel s
changes (set side x) s = on_side side (set_channel x) s
changes (probe t1 t2 t3 t4) s = on_clock (record_probe (probe_offset t1 t2 t3 t4) (probe_round_trip t1 t2 t3 t4)) s
changes (one_way receive send) s = on_clock (record_one_way receive send) s
changes (depth samples counts) s = on_clock (record_depth samples counts) s
changes (transmit_depth samples) s = on_clock (record_transmit samples) s

-- one accepted call more: the one place where it is counted
unfoldable pub one_call_more : State → State
one_call_more s =
    record {
      sizes = s.sizes;
      calls = s.calls + 1;
      incoming = s.incoming;
      counts = s.counts;
      channel_a = s.channel_a;
      channel_b = s.channel_b;
      clock = s.clock;
    }

unfoldable pub accept : Call → State → StepResult
accept c s = let r = changes c s in record { after = one_call_more r.after; answer = r.answer }

-- after a refusal the state is unchanged
unfoldable pub decide : Option ℕ → Call → State → StepResult
decide (some number) c s = record { after = s; answer = refused number }
decide none c s = accept c s

-- a call: the first "no" of its questions, or what it does
unfoldable pub step : Lent → Call → State → StepResult
step lent c s = decide (first_no (questions lent s c)) c s

-- ---- lists of calls

-- a call with its answer
pub record Event : Type 0 where
  pub call : Call
  pub answer : Answer

pub record Run : Type 0 where
  pub events : List Event
  pub after : State

-- each call gets the state as the last one left it
unfoldable pub run : Lent → List Call → State → Run
run lent [] s = record { events = []; after = s }
run lent (c ∷ cs) s =
    let r = step lent c s in
    let rest = run lent cs r.after in
    record { events = record { call = c; answer = r.answer } ∷ rest.events; after = rest.after }
