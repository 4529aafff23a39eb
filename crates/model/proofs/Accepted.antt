-- An accepted call keeps the state: each call adds at most 4,294,967,295 to a counter, and one to the number of calls. Assumes nothing.
use mathlib.Core.Path.{◌≡◌}
use mathlib.Core.Bool.{true}
use mathlib.Core.Option.{Option, none, some}
use mathlib.Core.List.{List, ◌∷◌}
use Prim.Native.Nat.{ℕ, ◌+◌, ◌-◌, ◌*◌, ◌^◌, ◌≤◌, ◌<◌}
use native.Mathlib.Omega.{arith}
use borrow.Author.Tests.{leb-true}
use Rattle.model.specs.Sizes.{sizes_allowed}
use Rattle.model.specs.Framing.{header_fields, next_sequence, Side, A, B, Stream, audio, waterfall, other_stream, stream_in}
use Rattle.model.specs.Counts.{StreamCounts, counted, is_below, dropped_by, late_by}
use Rattle.model.specs.JitterBuffer.{Counters, reset}
use Rattle.model.specs.Clock.{Clock}
use Rattle.model.specs.Receiver as Receiver
use Rattle.model.specs.Receiver.{Call, datagram, play, set, probe, one_way, depth, transmit_depth, State, Counts, Channel, channel_of}
use Rattle.model.specs.Questions.{Question, most_added, first_no, own_questions, stream_allowed, clock_held}
use Rattle.model.specs.Step.{ChannelResult, with_buffer, reset_channel, on_side, on_clock, counts_after, count_header, dispatch, take_datagram, changes, one_call_more, accept}
use Rattle.model.specs.WholeList.{CallBytes}
use Rattle.model.proofs.BoolLaws.{by_test, cond_keeps}
use Rattle.model.proofs.FieldRange.{Bytes, sequence_below}
use Rattle.model.proofs.SizeLaws.{allowed}
use Rattle.model.proofs.BufferKept.{Grown}
use Rattle.model.proofs.ChannelKept.{ChannelKept, Acts, play_acts, reset_acts, set_acts, audio_acts, waterfall_acts}
use Rattle.model.proofs.ClockLaws.{probe_keeps, one_way_keeps, depth_keeps, transmit_keeps}
use Rattle.model.proofs.Held.{Within, StreamWithin, StateKept}

-- no question of a list is answered with no: the first is answered with yes, and none of the others with no
pub first_yes : (q : Question) (qs : List Question) → first_no (q ∷ qs) ≡ none → (q.yes ≡ true) × (first_no qs ≡ none)
unfolding first_no
first_yes q qs h =
    by_test q.yes (λ y. (y, rw y at h)) (λ n. let s : some q.number ≡ none = rw n at h in cc)

-- ---- counters

grown_within : (most limit : ℕ) (b c : Counters) → Within limit b → Grown most b c → Within (limit + most) c
grown_within most limit b c w g = omega arith

dropped_below : (last : Option ℕ) (s : ℕ) → s < 2 ^ 32 → dropped_by last s ≤ most_added
unfolding dropped_by
dropped_below none s h = omega arith
dropped_below (some last) s h =
    cond_keeps (λ (n : ℕ). n ≤ most_added) (is_below (next_sequence last) s) (s - next_sequence last) 0 (λ e. omega arith) (λ e. omega arith)

late_below : (last : Option ℕ) (s : ℕ) → late_by last s ≤ 1
unfolding late_by
late_below none s = omega arith
late_below (some last) s =
    cond_keeps (λ (n : ℕ). n ≤ 1) (is_below s (next_sequence last)) 1 0 (λ e. omega arith) (λ e. omega arith)

counted_within : (limit s : ℕ) (c : StreamCounts) → s < 2 ^ 32 → StreamWithin limit c → StreamWithin (limit + most_added) (counted s c)
unfolding counted
counted_within limit s c h w =
    record {
      packets = omega (arith, w.packets);
      dropped = omega (arith, w.dropped, dropped_below c.last s h);
      late = omega (arith, w.late, late_below c.last s);
    }

stream_more : (limit : ℕ) (c : StreamCounts) → StreamWithin limit c → StreamWithin (limit + most_added) c
stream_more limit c w =
    record { packets = omega (arith, w.packets); dropped = omega (arith, w.dropped); late = omega (arith, w.late) }

within_more : (limit : ℕ) (k : Counters) → Within limit k → Within (limit + most_added) k
within_more limit k w = omega arith

-- ---- a state whose header is counted, before its call is

record Ahead (s : State) : Type 0 where
  allowed : sizes_allowed s.sizes ≡ true
  channel_a : ChannelKept s.sizes s.channel_a
  channel_b : ChannelKept s.sizes s.channel_b
  counters_a : Within (s.calls * most_added) s.channel_a.buffer.counters
  counters_b : Within (s.calls * most_added) s.channel_b.buffer.counters
  clock : clock_held s.clock ≡ true
  incoming : s.incoming ≤ s.calls * most_added + most_added
  audio : StreamWithin (s.calls * most_added + most_added) s.counts.audio
  waterfall : StreamWithin (s.calls * most_added + most_added) s.counts.waterfall

ahead : (s : State) → StateKept s → Ahead s
ahead s k =
    record {
      allowed = k.allowed;
      channel_a = k.channel_a;
      channel_b = k.channel_b;
      counters_a = k.counters_a;
      counters_b = k.counters_b;
      clock = k.clock;
      incoming = omega (arith, k.incoming);
      audio = stream_more _ _ k.audio;
      waterfall = stream_more _ _ k.waterfall;
    }

counts_ahead : (limit sequence : ℕ) (stream : Stream) (k : Counts) → sequence < 2 ^ 32 → StreamWithin limit k.audio → StreamWithin limit k.waterfall
    → StreamWithin (limit + most_added) (counts_after sequence stream k).audio × StreamWithin (limit + most_added) (counts_after sequence stream k).waterfall
unfolding counts_after
counts_ahead limit sequence (audio A) k h a w = (counted_within limit sequence k.audio h a, stream_more limit k.waterfall w)
counts_ahead limit sequence (audio B) k h a w = (stream_more limit k.audio a, stream_more limit k.waterfall w)
counts_ahead limit sequence (waterfall A) k h a w = (stream_more limit k.audio a, counted_within limit sequence k.waterfall h w)
counts_ahead limit sequence (waterfall B) k h a w = (stream_more limit k.audio a, stream_more limit k.waterfall w)
counts_ahead limit sequence other_stream k h a w = (stream_more limit k.audio a, stream_more limit k.waterfall w)

header_ahead : (sequence : ℕ) (stream : Stream) (s : State) → sequence < 2 ^ 32 → StateKept s → Ahead (count_header sequence stream s)
unfolding count_header
header_ahead sequence stream s h k =
    let c = counts_ahead (s.calls * most_added) sequence stream s.counts h k.audio k.waterfall in
    record {
      allowed = k.allowed;
      channel_a = k.channel_a;
      channel_b = k.channel_b;
      counters_a = k.counters_a;
      counters_b = k.counters_b;
      clock = k.clock;
      incoming = omega (arith, k.incoming);
      audio = c.0;
      waterfall = c.1;
    }

-- ---- a state whose call is done, before it is counted

record Done (s : State) : Type 0 where
  allowed : sizes_allowed s.sizes ≡ true
  channel_a : ChannelKept s.sizes s.channel_a
  channel_b : ChannelKept s.sizes s.channel_b
  counters_a : Within (s.calls * most_added + most_added) s.channel_a.buffer.counters
  counters_b : Within (s.calls * most_added + most_added) s.channel_b.buffer.counters
  clock : clock_held s.clock ≡ true
  incoming : s.incoming ≤ s.calls * most_added + most_added
  audio : StreamWithin (s.calls * most_added + most_added) s.counts.audio
  waterfall : StreamWithin (s.calls * most_added + most_added) s.counts.waterfall

counted_keeps : (s : State) → Done s → StateKept (one_call_more s)
unfolding one_call_more
counted_keeps s k =
    let e : (s.calls + 1) * most_added ≡ s.calls * most_added + most_added = omega arith in
    record {
      allowed = k.allowed;
      channel_a = k.channel_a;
      channel_b = k.channel_b;
      counters_a = rw e k.counters_a;
      counters_b = rw e k.counters_b;
      clock = k.clock;
      incoming = rw e k.incoming;
      audio = rw e k.audio;
      waterfall = rw e k.waterfall;
    }

-- nothing is done but the header counted
none_done : (s : State) → Ahead s → Done s
none_done s k =
    record {
      allowed = k.allowed;
      channel_a = k.channel_a;
      channel_b = k.channel_b;
      counters_a = within_more _ _ k.counters_a;
      counters_b = within_more _ _ k.counters_b;
      clock = k.clock;
      incoming = k.incoming;
      audio = k.audio;
      waterfall = k.waterfall;
    }

on_side_done : (side : Side) (f : Channel → ChannelResult) (s : State) → Ahead s → ChannelKept s.sizes (f (channel_of side s)).after
    → Within (s.calls * most_added + most_added) (f (channel_of side s)).after.buffer.counters → Done (on_side side f s).after
unfolding on_side
on_side_done A f s k c w =
    let d = none_done s k in
    record {
      allowed = d.allowed;
      channel_a = c;
      channel_b = d.channel_b;
      counters_a = w;
      counters_b = d.counters_b;
      clock = d.clock;
      incoming = d.incoming;
      audio = d.audio;
      waterfall = d.waterfall;
    }
on_side_done B f s k c w =
    let d = none_done s k in
    record {
      allowed = d.allowed;
      channel_a = d.channel_a;
      channel_b = c;
      counters_a = d.counters_a;
      counters_b = w;
      clock = d.clock;
      incoming = d.incoming;
      audio = d.audio;
      waterfall = d.waterfall;
    }

-- the two channels are kept alike
channel_ahead : (side : Side) (s : State) → Ahead s
    → ChannelKept s.sizes (channel_of side s) × Within (s.calls * most_added) (channel_of side s).buffer.counters
channel_ahead A s k = (k.channel_a, k.counters_a)
channel_ahead B s k = (k.channel_b, k.counters_b)

on_side_acts : (side : Side) (f : Channel → ChannelResult) (s : State) → Ahead s → Acts s.sizes (channel_of side s) (f (channel_of side s))
    → Done (on_side side f s).after
on_side_acts side f s k a =
    on_side_done side f s k a.kept (grown_within most_added (s.calls * most_added) _ _ (channel_ahead side s k).1 a.moves.grown)

on_clock_done : (f : Clock → Clock) (s : State) → Ahead s → clock_held (f s.clock) ≡ true → Done (on_clock f s).after
unfolding on_clock
on_clock_done f s k h =
    let d = none_done s k in
    record {
      allowed = d.allowed;
      channel_a = d.channel_a;
      channel_b = d.channel_b;
      counters_a = d.counters_a;
      counters_b = d.counters_b;
      clock = h;
      incoming = d.incoming;
      audio = d.audio;
      waterfall = d.waterfall;
    }

-- ---- the eight calls

dispatch_done : (bytes : List ℕ) (stream : Stream) (s : State) → Bytes bytes → stream_allowed s.sizes bytes stream ≡ true → Ahead s
    → Done (dispatch (header_fields bytes) bytes stream s).after
unfolding dispatch stream_allowed
dispatch_done bytes (audio side) s b t k =
    on_side_acts side _ s k
    (audio_acts s.sizes _ _ (channel_of side s) (allowed s.sizes k.allowed) (sequence_below bytes b) (channel_ahead side s k).0)
dispatch_done bytes (waterfall side) s b t k =
    on_side_acts side _ s k
    (waterfall_acts s.sizes _ (channel_of side s) (allowed s.sizes k.allowed) t (channel_ahead side s k).0)
dispatch_done bytes other_stream s b t k = none_done s k

datagram_done : (bytes : List ℕ) (s : State) → Bytes bytes → first_no (own_questions s.sizes (datagram bytes)) ≡ none → StateKept s
    → Done (take_datagram bytes s).after
unfolding own_questions take_datagram count_header
datagram_done bytes s b h k =
    let six = first_yes _ _ h in
    let seven = first_yes _ _ six.1 in
    let eight = first_yes _ _ seven.1 in
    dispatch_done bytes (stream_in bytes) (count_header (header_fields bytes).sequence (stream_in bytes) s) b eight.0
    (header_ahead (header_fields bytes).sequence (stream_in bytes) s (sequence_below bytes b) k)

reset_within : (limit : ℕ) (c : Channel) → Within limit (reset_channel c).after.buffer.counters
unfolding reset_channel with_buffer reset
reset_within limit c = omega arith

changes_done : (c : Call) (s : State) → CallBytes c → first_no (own_questions s.sizes c) ≡ none → StateKept s → Done (changes c s).after
unfolding changes own_questions
changes_done (datagram bytes) s b h k = datagram_done bytes s b h k
changes_done (play side n) s b h k =
    let nine = leb-true n 65535 (first_yes _ _ h).0 in
    on_side_acts side _ s (ahead s k) (play_acts s.sizes n (channel_of side s) (allowed s.sizes k.allowed) nine (channel_ahead side s (ahead s k)).0)
changes_done (Receiver.reset side) s b h k =
    on_side_done side _ s (ahead s k) (reset_acts s.sizes (channel_of side s) (allowed s.sizes k.allowed) (channel_ahead side s (ahead s k)).0)
    (reset_within _ (channel_of side s))
changes_done (set side x) s b h k =
    on_side_acts side _ s (ahead s k) (set_acts s.sizes x (channel_of side s) (channel_ahead side s (ahead s k)).0)
changes_done (probe t1 t2 t3 t4) s b h k = on_clock_done _ s (ahead s k) (probe_keeps _ _ s.clock (first_yes _ _ h).0 k.clock)
changes_done (one_way receive send) s b h k = on_clock_done _ s (ahead s k) (one_way_keeps receive send s.clock k.clock)
changes_done (depth samples counts) s b h k = on_clock_done _ s (ahead s k) (depth_keeps samples counts s.clock k.clock)
changes_done (transmit_depth samples) s b h k = on_clock_done _ s (ahead s k) (transmit_keeps samples s.clock k.clock)

-- an accepted call keeps the state
pub accept_keeps : (c : Call) (s : State) → CallBytes c → first_no (own_questions s.sizes c) ≡ none → StateKept s → StateKept (accept c s).after
unfolding accept
accept_keeps c s b h k = counted_keeps (changes c s).after (changes_done c s b h k)
