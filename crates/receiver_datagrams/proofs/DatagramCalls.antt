-- A datagram that questions 1 to 4 let through: its own questions, its header's counts, and its stream's work. Assumes nothing.
use Rattle.std.proofs.Common.{None, Some, Ok, Err}
use Rattle.std.specs.Prelude.{Option, MatchOption}
use Rattle.std.proofs.lemmas.List.{take_rest, drop_min}
use mathlib.Core.Path.{◌≡◌, refl, sym, ◌∙◌, ap}
use mathlib.Core.Bool.{true}
use mathlib.Core.Option.{none, some}
use mathlib.Core.List.{List}
use Prim.Native.Nat.{ℕ, ◌+◌, ◌-◌, ◌*◌, ◌^◌, ◌≤◌, ◌<◌, min}
use lib.ListN.{length, take, drop}
use lib.Dec.{leb, ltb}
use lib.Ieee.{Float}
use borrow.Author.Tests.{le-leb, lt-leb, ltb-false}
use Rattle.model.specs.Bytes.{all}
use Rattle.model.specs.Sizes as Sizing
use Rattle.model.specs.Framing as Framing
use Rattle.model.specs.Framing.{Header, header_fields, parse_header, valid_header, stream_in, audio_start}
use Rattle.model.specs.Samples.{audio_payload}
use Rattle.model.specs.Receiver as Model
use Rattle.model.specs.Receiver.{datagram, row, is_accepted}
use Rattle.model.specs.Questions.{most_calls, most_added, first_no, own_questions, length_allowed, stream_allowed, total_allowed, channel_held, clock_held, stream_held, held}
use Rattle.model.specs.Step.{audio_into, counts_after, count_header, dispatch, take_datagram, changes, one_call_more, accept}
use Rattle.model.proofs.BoolLaws.{by_test, first_of_both, second_of_both, both_and}
use Rattle.calls.specs.declared.Side.{Side}
use Rattle.calls.specs.declared.Side.TheVariants.{A, B}
use Rattle.calls.specs.declared.Refusal.{Refusal}
use Rattle.calls.specs.Refusals.{refusal_number}
use Rattle.calls.specs.Views.{model_side, sizes_of}
use Rattle.model.proofs.HeldKept.{NextFits}
use Rattle.jitter_buffer.specs.View.{next_of}
use Rattle.jitter_buffer.proofs.HeldKept.{WordsFit}
use Rattle.channel.specs.View.{Inside}
use Rattle.udp_framing.specs.declared.MediaHeader.{MediaHeader}
use Rattle.udp_framing.specs.Views.{header_of}
use Rattle.udp.specs.declared.StreamCounts.{StreamCounts}
use Rattle.udp.specs.Requires.{CountsFit}
use Rattle.udp.specs.Views.{counts_of}
use Rattle.reassembler.specs.Rows.{completed_of}
use Rattle.udp.proofs.CountsHeld.{held_counts_fit, held_incoming_fits}
use Rattle.receiver_state.specs.declared.Receiver.{Receiver}
use Rattle.receiver_state.specs.declared.Answer.{Answer as AnyAnswer}
use Rattle.receiver_state.specs.declared.Answer.TheVariants as Answer
use Rattle.receiver_datagrams.specs.declared.Stream.{Stream}
use Rattle.reassembler.specs.declared.Pushed.{Pushed}
use Rattle.receiver_state.specs.View.{row_place, stream_place, channel_at, state_of}
use Rattle.receiver_datagrams.specs.Promises.{counted_on, model_stream, header_questions, HeaderReady, DatagramTaken}
use Rattle.receiver_state.specs.Fields.{counted, header_set}
use Rattle.receiver_state.specs.Promises.{AreasKept, Called, Ready, SidesReady, SideTaken, RowsTaken}
use Rattle.receiver_state.proofs.CallLaws.{areas_same, own_refused, accepted_called, sides_ready}
use Rattle.receiver_state.proofs.SideCalls.{channel_on}

-- the payload that is lent
pub payload_taken : (from start version : ℕ) (bytes : List ℕ) → from ≡ min start (length bytes) → start ≡ audio_start version
    → take (length bytes - from) (drop from bytes) ≡ audio_payload version bytes
unfolding audio_payload
payload_taken from start version bytes from_is start_is =
    take_rest bytes from ∙ ap (λ (n : ℕ). drop n bytes) from_is ∙ drop_min start bytes ∙ ap (λ (n : ℕ). drop n bytes) start_is

-- ---- refusals

module _ (r : Receiver) (fs : List Float) (us bytes : List ℕ) (ready : Ready r fs us) (are : all (λ b. ltb b 256) bytes ≡ true) where
  refused_by : (why : Refusal) → first_no (own_questions (sizes_of r.sizes) (datagram bytes)) ≡ some (refusal_number why)
      → DatagramTaken r fs us bytes (record { receiver = r; answer = Err why }) fs us
  refused_by why e = record { called = own_refused r fs us ready (datagram bytes) (refusal_number why) are e; row_bins = tt }

  pub too_short_law : length bytes < 16 → DatagramTaken r fs us bytes (record { receiver = r; answer = Err Refusal.Length }) fs us
  unfolding own_questions first_no
  too_short_law few = refused_by Refusal.Length (rw (lt-leb 16 (length bytes) few))

  pub too_long_law : 16 ≤ length bytes → 65535 < length bytes → DatagramTaken r fs us bytes (record { receiver = r; answer = Err Refusal.Length }) fs us
  unfolding own_questions first_no
  too_long_law enough many = refused_by Refusal.Length (rw (le-leb 16 (length bytes) enough, lt-leb (length bytes) 65535 many))

  pub header_refused : (h : Header) (stream : Framing.Stream) (why : Refusal) → length_allowed bytes ≡ true → h ≡ header_fields bytes → stream_in bytes ≡ stream
      → some (refusal_number why) ≡ first_no (header_questions (sizes_of r.sizes) h stream bytes) → DatagramTaken r fs us bytes (record { receiver = r; answer = Err why }) fs us
  unfolding own_questions first_no
  header_refused h stream why six fields stream-is refuses = refused_by why (rw six (sym (rw (fields, ← stream-is) at refuses)))

pub length_asked : (bytes : List ℕ) → 16 ≤ length bytes → length bytes ≤ 65535 → length_allowed bytes ≡ true
length_asked bytes enough few = both_and (le-leb 16 (length bytes) enough) (le-leb (length bytes) 65535 few)

-- ---- the counts

module _ (r : Receiver) (fs : List Float) (us : List ℕ) (ready : Ready r fs us) where
  -- question 3 of the counts
  record CountsHeld : Type 0 where
    incoming : leb r.incoming (r.calls * most_added) ≡ true
    audio : stream_held (r.calls * most_added) (counts_of r.audio) ≡ true
    waterfall : stream_held (r.calls * most_added) (counts_of r.waterfall) ≡ true

  counts_held : CountsHeld
  unfolding held
  counts_held =
      let b = second_of_both (channel_held (sizes_of r.sizes) (r.calls * most_added) (state_of r fs us).channel_a) _ ready.holds in
      let k = second_of_both (channel_held (sizes_of r.sizes) (r.calls * most_added) (state_of r fs us).channel_b) _ b in
      let i = second_of_both (clock_held (state_of r fs us).clock) _ k in
      let s = second_of_both (leb r.incoming (r.calls * most_added)) _ i in
      record {
        incoming = first_of_both (leb r.incoming (r.calls * most_added)) _ i;
        audio = first_of_both (stream_held (r.calls * most_added) (counts_of r.audio)) _ s;
        waterfall = second_of_both (stream_held (r.calls * most_added) (counts_of r.audio)) _ s;
      }

  pub incoming_fits : r.incoming + 1 < 2 ^ 64
  incoming_fits = held_incoming_fits r.calls r.incoming ready.calls counts_held.incoming

  pub audio_fits : CountsFit (counts_of r.audio)
  audio_fits = held_counts_fit r.calls (counts_of r.audio) ready.calls counts_held.audio

  pub waterfall_fits : CountsFit (counts_of r.waterfall)
  waterfall_fits = held_counts_fit r.calls (counts_of r.waterfall) ready.calls counts_held.waterfall

  -- counting a header leaves both channels ready
  pub begun_ready : (audio waterfall : StreamCounts) → SidesReady (header_set audio waterfall r) fs us
  begun_ready audio waterfall =
      let sides = sides_ready r fs us ready in
      record { allowed = sides.allowed; floats = sides.floats; words = sides.words; channels = channels; inside = inside; next = next }
    where
      channels : (side : Side) → channel_held (sizes_of r.sizes) (most_calls * most_added) (channel_on side (header_set audio waterfall r) fs us) ≡ true
      channels A = (sides_ready r fs us ready).channels A
      channels B = (sides_ready r fs us ready).channels B

      inside : (side : Side) → Inside r.sizes (channel_at side (header_set audio waterfall r))
      inside A = ready.inside A
      inside B = ready.inside B

      next : (side : Side) → NextFits (next_of (channel_at side (header_set audio waterfall r)).jitter.next_sequence)
      next A = ready.next A
      next B = ready.next B

-- ---- accepted datagrams

module _ (r : Receiver) (fs : List Float) (us bytes : List ℕ) (h : MediaHeader) (asked : HeaderReady r fs us bytes h) (words : WordsFit us) (are : all (λ b. ltb b 256) bytes ≡ true) where
  sequence_is : (header_fields bytes).sequence ≡ h.sequence
  sequence_is = ap (λ (x : Header). x.sequence) (sym asked.fields)

  version_is : (header_fields bytes).version ≡ h.version
  version_is = ap (λ (x : Header). x.version) (sym asked.fields)

  -- the header is counted, then the stream's work is done, then the call is counted
  datagram_called : (stream : Framing.Stream) → stream_in bytes ≡ stream
      → (audio waterfall : StreamCounts)
      → record { audio = counts_of audio; waterfall = counts_of waterfall } ≡ counts_after h.sequence stream (record { audio = counts_of r.audio; waterfall = counts_of r.waterfall })
      → (a : Model.Answer) → is_accepted a ≡ true → (v : Receiver) (fs' : List Float) (us' : List ℕ)
      → dispatch (header_fields bytes) bytes stream (state_of (header_set audio waterfall r) fs us) ≡ record { after = state_of v fs' us'; answer = a }
      → AreasKept (sizes_of r.sizes) fs us fs' us' → Called (datagram bytes) r fs us a (counted v) fs' us'
  unfolding own_questions first_no accept changes take_datagram count_header one_call_more
  datagram_called stream stream-is audio waterfall counts a accepts v fs' us' done areas =
      let counted-so : record { audio = counts_of audio; waterfall = counts_of waterfall }
      ≡ counts_after (header_fields bytes).sequence stream (record { audio = counts_of r.audio; waterfall = counts_of r.waterfall }) = rw sequence_is counts in
      accepted_called r fs us asked.ready words (datagram bytes) a (counted v) fs' us' are
      (rw (asked.length_asked, asked.header_asked, asked.stream_asked)) accepts
      (rw (stream-is, ← counted-so, done)) areas

  -- ---- sound

  sound_counted : (side : Side) (k : StreamCounts) → counts_of k ≡ counted_on side h.sequence (counts_of r.audio)
      → record { audio = counts_of k; waterfall = counts_of r.waterfall } ≡ counts_after h.sequence (Framing.audio (model_side side)) (record { audio = counts_of r.audio; waterfall = counts_of r.waterfall })
  unfolding counts_after
  sound_counted A k is = rw is
  sound_counted B k is = rw is

  pub heard_called : (side : Side) → stream_in bytes ≡ Framing.audio (model_side side) → (k : StreamCounts) → counts_of k ≡ counted_on side h.sequence (counts_of r.audio)
      → (payload : List ℕ) → payload ≡ audio_payload h.version bytes → (v : Receiver) (fs' : List Float) (us' : List ℕ)
      → SideTaken side (audio_into (sizes_of r.sizes) h.sequence payload) (header_set k r.waterfall r) fs us (row none) v fs' us'
      → DatagramTaken r fs us bytes (record { receiver = counted v; answer = Ok Answer.NoRow }) fs' us'
  unfolding dispatch is_accepted
  heard_called side stream k k-is payload is v fs' us' taken =
      record {
        called =
            datagram_called (Framing.audio (model_side side)) stream k r.waterfall (sound_counted side k k-is) (row none) refl v fs' us'
            (rw (sequence_is, version_is, ← is) taken.taken) taken.areas;
        row_bins = tt;
      }

  -- ---- a stream that no channel takes

  passed_counted : stream_in bytes ≡ Framing.other_stream → DatagramTaken r fs us bytes (record { receiver = counted (header_set r.audio r.waterfall r); answer = Ok Answer.NoRow }) fs us
  unfolding dispatch counts_after is_accepted
  passed_counted stream =
      record {
        called = datagram_called Framing.other_stream stream r.audio r.waterfall refl (row none) refl (header_set r.audio r.waterfall r) fs us refl (areas_same (sizes_of r.sizes) fs us);
        row_bins = tt;
      }

  pub passed_called : (begun r' : Receiver) → stream_in bytes ≡ Framing.other_stream → begun ≡ header_set r.audio r.waterfall r → r' ≡ counted begun
      → DatagramTaken r fs us bytes (record { receiver = r'; answer = Ok Answer.NoRow }) fs us
  passed_called begun r' stream header call = rw (call, header) (passed_counted stream)

  -- ---- rows

  rows_counted : (side : Side) (k : StreamCounts) → counts_of k ≡ counted_on side h.sequence (counts_of r.waterfall)
      → record { audio = counts_of r.audio; waterfall = counts_of k } ≡ counts_after h.sequence (Framing.waterfall (model_side side)) (record { audio = counts_of r.audio; waterfall = counts_of r.waterfall })
  unfolding counts_after
  rows_counted A k is = rw is
  rows_counted B k is = rw is

  place_is : (side : Side) → stream_in bytes ≡ Framing.waterfall (model_side side) → stream_place (sizes_of r.sizes) (stream_in bytes) ≡ row_place (sizes_of r.sizes) side
  place_is A stream = rw stream
  place_is B stream = rw stream

  -- question 8 of the payload
  pub total_asked : (side : Side) → stream_in bytes ≡ Framing.waterfall (model_side side) → total_allowed (sizes_of r.sizes) (drop 16 bytes) ≡ true
  unfolding stream_allowed
  total_asked side stream = rw stream at asked.stream_asked

  module _ (side : Side) (stream : stream_in bytes ≡ Framing.waterfall (model_side side))
      (k : StreamCounts) (k-is : counts_of k ≡ counted_on side h.sequence (counts_of r.waterfall)) (v : Pushed Receiver) (fs' : List Float) (us' : List ℕ)
      (taken : RowsTaken side (header_set r.audio k r) fs us (drop 16 bytes) v fs' us') where
    seen_called : (a : Model.Answer) → is_accepted a ≡ true → Model.row (completed_of v.completed (drop (row_place (sizes_of r.sizes) side) fs')) ≡ a
        → Called (datagram bytes) r fs us a (counted v.state) fs' us'
    unfolding dispatch
    seen_called a accepts is =
        datagram_called (Framing.waterfall (model_side side)) stream r.audio k (rows_counted side k k-is) a accepts v.state fs' us'
        (taken.shown.taken ∙ rw is) taken.shown.areas

    none_completed : v.completed ≡ None → DatagramTaken r fs us bytes (record { receiver = counted v.state; answer = Ok Answer.NoRow }) fs' us'
    unfolding is_accepted
    none_completed is = record { called = seen_called (row none) refl (rw is); row_bins = tt }

    one_completed : (n : ℕ) → v.completed ≡ Some n → DatagramTaken r fs us bytes (record { receiver = counted v.state; answer = Ok (Answer.Row n) }) fs' us'
    unfolding is_accepted
    one_completed n is =
        record {
          called = rw (place_is side stream) (seen_called (row (some (take n (drop (row_place (sizes_of r.sizes) side) fs')))) refl (rw is));
          row_bins = rw is at taken.completed;
        }

    -- a datagram that completes a row answers its length
    pub row_answered : (a : AnyAnswer) → MatchOption v.completed (a ≡ Answer.NoRow) (λ n. a ≡ Answer.Row n)
        → DatagramTaken r fs us bytes (record { receiver = counted v.state; answer = Ok a }) fs' us'
    row_answered a says = by_completed v.completed refl says
      where
        by_completed : (o : Option ℕ) → v.completed ≡ o → MatchOption o (a ≡ Answer.NoRow) (λ n. a ≡ Answer.Row n)
            → DatagramTaken r fs us bytes (record { receiver = counted v.state; answer = Ok a }) fs' us'
        by_completed None is e = rw e (none_completed is)
        by_completed (Some n) is e = rw e (one_completed n is)

-- ---- questions 7 and 8

pub headers_told : (z : Sizing.Sizes) (h : Header) (stream : Framing.Stream) (bytes : List ℕ) → none ≡ first_no (header_questions z h stream bytes)
    → (valid_header h ≡ true) × (stream_allowed z bytes stream ≡ true)
unfolding first_no
headers_told z h stream bytes none-refuse =
    by_test (valid_header h)
    (λ seven. by_test (stream_allowed z bytes stream)
    (λ eight. (seven, eight))
    (λ eight. let no : none ≡ some 8 = rw (seven, eight) at none-refuse in cc))
    (λ seven. let no : none ≡ some 7 = rw seven at none-refuse in cc)

-- ---- the header that was found

pub header_found_law : (bytes : List ℕ) (h : MediaHeader) → some (header_of h) ≡ parse_header bytes → (16 ≤ length bytes) × (header_of h ≡ header_fields bytes)
unfolding parse_header
header_found_law bytes h is =
    by_test (ltb (length bytes) 16)
    (λ short. let no : some (header_of h) ≡ none = rw short at is in cc)
    (λ long. let found : some (header_of h) ≡ some (header_fields bytes) = rw long at is in (ltb-false (length bytes) 16 long, cc))

pub stream_found : (bytes : List ℕ) (h : MediaHeader) (s : Stream) → header_of h ≡ header_fields bytes → model_stream s ≡ Framing.stream_of h.stream_type → stream_in bytes ≡ model_stream s
unfolding stream_in
stream_found bytes h s fields is = rw (← fields) (sym is)
