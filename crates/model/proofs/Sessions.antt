-- The sessions that document 01 works by hand, run on the definitions. Assumes nothing.
use Rattle.std.specs.Prelude.{◌≡◌, refl, ℕ, ◌-◌, ◌*◌, ◌^◌, true, List, [], ◌∷◌, ◌++◌, map, reverse, ℤ, pos, neg_ℤ, Float, replicate}
use Rattle.std.proofs.Math.Option.{Option, none, some}
use Rattle.std.specs.Float.Ieee as Ieee
use Rattle.model.specs.Bytes.{big_endian_bytes}
use Rattle.model.specs.Floats as Floats
use Rattle.model.specs.Floats.{f0, f1, natf, from_bits}
use Rattle.model.specs.Sizes.{Sizes}
use Rattle.model.specs.Framing.{A}
use Rattle.model.specs.Counts.{StreamCounts, counted}
use Rattle.model.specs.JitterBuffer as Jitter
use Rattle.model.specs.JitterBuffer.{Buffer, Counters, Played, fresh_buffer}
use Rattle.model.specs.Row as Row
use Rattle.model.specs.Row.{push_chunk}
use Rattle.model.specs.Scaling as Scaling
use Rattle.model.specs.Picture as Picture
use Rattle.model.specs.Picture.{window_start, window_end, bin_at, count_from}
use Rattle.model.specs.Clock as Clock
use Rattle.model.specs.Clock.{Timing, probe_offset, probe_round_trip, probed}
use Rattle.model.specs.Receiver.{Setup, Call, Answer, datagram, play, row, played, fresh}
use Rattle.model.specs.Questions.{opened, set_up}
use Rattle.model.specs.Step.{Event, Run, run}
use Rattle.model.specs.Replay.{replay, replay_areas}
use Rattle.model.specs.Text.{ascii, lines}
use Rattle.model.proofs.Computes.{computes}
use Rattle.model.specs.Tape.{Tape, read_tape, written, read, write, bytes_of}

-- ---- the jitter buffer: samples are numbers here, and the filler is 0

-- packet, target, max; the row and the picture play no part
jitter_sizes : ℕ → ℕ → ℕ → Sizes
jitter_sizes p t m = record { packet = p; target = t; max = m; bins = 1; width = 1; height = 1 }

-- the packets of the sequences, pushed in turn: sample i of sequence s is 1000 × s + i
pushed : Sizes → List ℕ → Buffer ℕ → Buffer ℕ
pushed z [] b = b
pushed z (s ∷ ss) b =
    pushed z ss (Jitter.push 0 z (record { sequence = s; samples = count_from (1000 * s) z.packet }) b)

record Plays : Type 0 where
  answers : List (Played ℕ)
  counters : Counters
  largest : ℕ

-- plays of the numbers of samples, in turn
playing : Sizes → List ℕ → Buffer ℕ → Plays
playing z [] b = record { answers = []; counters = b.counters; largest = b.largest }
playing z (n ∷ ns) b =
    let r = Jitter.play 0 z n b in
    let rest = playing z ns r.after in
    record { answers = r.answer ∷ rest.answers; counters = rest.counters; largest = rest.largest }

-- the plays after the pushes, from a fresh buffer
session : Sizes → List ℕ → List ℕ → Plays
session z sequences plays = playing z plays (pushed z sequences fresh_buffer)

answer : List ℕ → ℕ → ℕ → ℕ → Played ℕ
answer samples taken dropped short = record { samples = samples; taken = taken; dropped = dropped; short = short }

-- the counters that a session leaves
counted_as : ℕ → ℕ → ℕ → ℕ → ℕ → Counters
counted_as received inserted concealed resyncs filled =
    record {
      received = received;
      inserted = inserted;
      concealed = concealed;
      late = 0;
      overflow = 0;
      invalid_size = 0;
      resyncs = resyncs;
      filled = filled;
    }

-- ---- counts, rows, zoom, clock

-- counts of a stream whose last sequence is s
last_was : ℕ → StreamCounts
last_was s = record { packets = 1; dropped = 0; late = 0; last = some s }

-- a chunk's payload: row number, total, first bin, values as bit patterns
chunk_of : ℕ → ℕ → ℕ → List ℕ → List ℕ
chunk_of number total first values =
    big_endian_bytes 2 number ++ (big_endian_bytes 2 total ++ (big_endian_bytes 2 first ++ little_endian_words values))
  where
    little_endian_words : List ℕ → List ℕ
    little_endian_words [] = []
    little_endian_words (v ∷ vs) = reverse (big_endian_bytes 4 v) ++ little_endian_words vs

-- one of row 7
chunk : ℕ → ℕ → List ℕ → List ℕ
chunk total first values = chunk_of 7 total first values

-- what each of the payloads completes, in turn
completed : List (List ℕ) → Option Row.Row → List (Option (List Float))
completed [] r = []
completed (p ∷ ps) r = let x = push_chunk p r in x.completed ∷ completed ps x.row

-- 1 and 2, the values of the row's session
one_two : List ℕ
one_two = 0x3f800000 ∷ 0x40000000 ∷ []

-- the offset after each probe of an offset and a round trip, from a fresh clock
record Probe : Type 0 where
  offset : ℕ
  round_trip : ℕ

probe' : ℕ → ℕ → Probe
probe' o r = record { offset = o; round_trip = r }

offsets : List Probe → Option Timing → List (Option ℤ)
offsets [] t = []
offsets (p ∷ ps) t =
    let after = probed (pos p.offset) (pos p.round_trip) t in
    Clock.reading (λ x. x.offset) after ∷ offsets ps after

-- ---- the starred sessions

pub record Starred : Type 0 where
  -- 4, 8, 16: push 10, 11; plays of 4: taken 4, 4, then short 4
  in_order : session (jitter_sizes 4 8 16) (10 ∷ 11 ∷ []) (4 ∷ 4 ∷ 4 ∷ [])
      ≡ record {
        answers =
            answer (10000 ∷ 10001 ∷ 10002 ∷ 10003 ∷ []) 4 0 0
            ∷ answer (11000 ∷ 11001 ∷ 11002 ∷ 11003 ∷ []) 4 0 0
            ∷ answer (0 ∷ 0 ∷ 0 ∷ 0 ∷ []) 0 0 4
            ∷ [];
        counters = counted_as 2 2 0 0 4;
        largest = 8;
      }
  -- 4, 8, 16: push 10, 20; plays of 8: taken 8, 8, 4; concealed 3, resyncs 1
  gap : session (jitter_sizes 4 8 16) (10 ∷ 20 ∷ []) (8 ∷ 8 ∷ 8 ∷ [])
      ≡ record {
        answers =
            answer (10000 ∷ 10001 ∷ 10002 ∷ 10003 ∷ 0 ∷ 0 ∷ 0 ∷ 0 ∷ []) 8 0 0
            ∷ answer (0 ∷ 0 ∷ 0 ∷ 0 ∷ 0 ∷ 0 ∷ 0 ∷ 0 ∷ []) 8 0 0
            ∷ answer (20000 ∷ 20001 ∷ 20002 ∷ 20003 ∷ 0 ∷ 0 ∷ 0 ∷ 0 ∷ []) 4 0 4
            ∷ [];
        counters = counted_as 2 2 3 1 16;
        largest = 12;
      }
  -- 64, 112, 256: push 1, 2; play 10 drops 16
  above_target : session (jitter_sizes 64 112 256) (1 ∷ 2 ∷ []) (10 ∷ [])
      ≡ record { answers = answer (count_from 1016 10) 10 16 0 ∷ []; counters = counted_as 2 2 0 0 0; largest = 128 }
  -- target 113: drops 0
  near_target : session (jitter_sizes 64 113 256) (1 ∷ 2 ∷ []) (10 ∷ [])
      ≡ record { answers = answer (count_from 1000 10) 10 0 0 ∷ []; counters = counted_as 2 2 0 0 0; largest = 128 }
  -- last and new sequence 4,294,967,295: dropped grows by 4,294,967,295
  sequence_repeated : counted 4294967295 (last_was 4294967295)
      ≡ record { packets = 2; dropped = 4294967295; late = 0; last = some 4294967295 }
  -- total 4, values 1, 2 at bin 0, sent twice: row 1, 2, 0, 0
  chunk_twice : completed (chunk 4 0 one_two ∷ chunk 4 0 one_two ∷ []) none
      ≡ none ∷ some (natf 1 ∷ natf 2 ∷ f0 ∷ f0 ∷ []) ∷ []
  -- 5 bins, zoom 2: window 1..4; width 4 shows bins 1, 1, 2, 3
  zoomed : (window_start 5 (natf 2) ≡ 1)
      × (window_end 5 (natf 2) ≡ 4)
      × (map (bin_at 4 5 (natf 2)) (count_from 0 4) ≡ 1 ∷ 1 ∷ 2 ∷ 3 ∷ [])
  -- times 10, 5, 5, 11: offset −5, round trip 1
  times : (probe_offset 10 5 5 11 ≡ neg_ℤ (pos 5)) × (probe_round_trip 10 5 5 11 ≡ pos 1)
  -- probes (100, 64), (90, 96), (0, 200): offsets 100, 98, 98
  probes : offsets (probe' 100 64 ∷ probe' 90 96 ∷ probe' 0 200 ∷ []) none
      ≡ some (pos 100) ∷ some (pos 98) ∷ some (pos 98) ∷ []
  -- with 97 for 96, 98
  probes_at_gate : offsets (probe' 100 64 ∷ probe' 90 97 ∷ []) none ≡ some (pos 100) ∷ some (pos 98) ∷ []
  -- with 98, 100
  probes_past_gate : offsets (probe' 100 64 ∷ probe' 90 98 ∷ []) none ≡ some (pos 100) ∷ some (pos 100) ∷ []

pub starred : Starred
unfolding computes jitter_sizes pushed playing session answer counted_as last_was chunk_of chunk completed one_two probe' offsets
starred =
    record {
      in_order = refl;
      gap = refl;
      above_target = refl;
      near_target = refl;
      sequence_repeated = refl;
      chunk_twice = refl;
      zoomed = (refl, refl, refl);
      times = (refl, refl);
      probes = refl;
      probes_at_gate = refl;
      probes_past_gate = refl;
    }

-- ---- the tape that document 01 prints in hex

tape_words : List ℕ
tape_words =
    0xE0000000 ∷ 2 ∷ 2 ∷ 4 ∷ 1 ∷ 1 ∷ 1
    ∷ 0 ∷ 0 ∷ 0 ∷ 0 ∷ 0 ∷ 0
    ∷ 0x20000014 ∷ 0x52530101 ∷ 7 ∷ 0 ∷ 0 ∷ 0xFF7F0180
    ∷ 0x40000002
    ∷ 0
    ∷ []

tape_setup : Setup
tape_setup =
    record {
      sizes = record { packet = 2; target = 2; max = 4; bins = 1; width = 1; height = 1 };
      estimates_a = record { top = 0; floor = 0; range = 0 };
      estimates_b = record { top = 0; floor = 0; range = 0 };
    }

-- version 1, stream 1, sequence 7, timestamp 0, the samples 32767 and −32767
tape_datagram : List ℕ
tape_datagram = 0x52 ∷ 0x53 ∷ 1 ∷ 1 ∷ 0 ∷ 0 ∷ 0 ∷ 7 ∷ 0 ∷ 0 ∷ 0 ∷ 0 ∷ 0 ∷ 0 ∷ 0 ∷ 0 ∷ 0xff ∷ 0x7f ∷ 0x01 ∷ 0x80 ∷ []

tape_calls : List Call
tape_calls = datagram tape_datagram ∷ play A 2 ∷ []

tape : Tape
tape = record { setup = tape_setup; calls = tape_calls }

tape_run : Run
tape_run = run replay_areas tape_calls (fresh tape_setup)

-- the answers of a run, in order
answers : List Event → List Answer
answers [] = []
answers (e ∷ es) = e.answer ∷ answers es

-- what replay prints of it
printed : List ℕ
printed =
    lines
    ("P A 2 0 0 3f800000 bf800000"
    ∷ "A 1 1 0 0 0 0 0 0"
    ∷ "B 0 0 0 0 0 0 0 0"
    ∷ "I 1 1 0 0 0 0 0"
    ∷ "C - - -"
    ∷ [])

pub record TapeSession : Type 0 where
  -- it decodes to its setup and two calls
  decodes : read (bytes_of tape_words) ≡ read_tape tape
  -- its setup is accepted
  set_up_law : set_up replay_areas tape_setup ≡ opened (fresh tape_setup)
  -- the answers: no row, then line P
  line_p : answers tape_run.events
      ≡ row none
      ∷ played (record { samples = from_bits 0x3f800000 ∷ from_bits 0xbf800000 ∷ []; taken = 2; dropped = 0; short = 0 })
      ∷ []
  line_a : tape_run.after.channel_a.buffer.counters ≡ counted_as 1 1 0 0 0
  line_b : tape_run.after.channel_b.buffer.counters ≡ counted_as 0 0 0 0 0
  line_i : (tape_run.after.incoming ≡ 1)
      × (tape_run.after.counts.audio ≡ record { packets = 1; dropped = 0; late = 0; last = some 7 })
      × (tape_run.after.counts.waterfall ≡ record { packets = 0; dropped = 0; late = 0; last = none })
  -- "-" three times: no offset, with it no round trip, and no one-way
  line_c : (tape_run.after.clock.timing ≡ none) × (tape_run.after.clock.one_way ≡ none)
  -- they encode to the same words
  encodes : write tape ≡ written (bytes_of tape_words)
  -- and this is what replay prints
  prints : replay (bytes_of tape_words) ≡ printed
  -- the empty tape, a word behind the end, and a setup with packet 0: only the X line
  prints_bad : (replay [] ≡ lines ("X 11 0" ∷ []))
      × (replay (bytes_of (tape_words ++ (0 ∷ []))) ≡ lines ("X 11 21" ∷ []))
      × (replay (bytes_of (0xE0000000 ∷ replicate 12 0 ++ (0 ∷ []))) ≡ lines ("X 1" ∷ []))

pub tape_session : TapeSession
unfolding computes counted_as tape_words tape_setup tape_datagram tape_calls tape tape_run answers printed ascii lines
tape_session =
    record {
      decodes = refl;
      set_up_law = refl;
      line_p = refl;
      line_a = refl;
      line_b = refl;
      line_i = (refl, refl, refl);
      line_c = (refl, refl);
      encodes = refl;
      prints = refl;
      prints_bad = (refl, refl, refl);
    }

-- ---- sessions of our own at the edges

-- 3e38, its negative, and half
huge : Float
huge = from_bits 0x7f61b1e6

minus_huge : Float
minus_huge = from_bits 0xff61b1e6

half : Float
half = from_bits 0x3f000000

-- 2, 4, 4: sequences 5 and 6 fill the buffer, and 7 is next; then so many samples of a sequence
wrong_push : ℕ → ℕ → Buffer ℕ
wrong_push s n =
    Jitter.push 0 (jitter_sizes 2 4 4) (record { sequence = s; samples = count_from 0 n }) (pushed (jitter_sizes 2 4 4) (5 ∷ 6 ∷ []) fresh_buffer)

tested : ℕ → ℕ → ℕ → Counters
tested late overflow invalid_size =
    record { received = 3; inserted = 2; concealed = 0; late = late; overflow = overflow; invalid_size = invalid_size; resyncs = 0; filled = 0 }

-- a smoothing buffer of one bin after each of the rows
smoothing : List Float → List Float → List (List Float)
smoothing [] old = []
smoothing (r ∷ rs) old = let next = Scaling.smoothing_after half (r ∷ []) old in next ∷ smoothing rs next

pub record Edges : Type 0 where
  -- total 3, values 1, 2 at bin 0: one bin is missing, and the second time completes
  not_early : completed (chunk 3 0 one_two ∷ chunk 3 0 one_two ∷ []) none
      ≡ none ∷ some (natf 1 ∷ natf 2 ∷ f0 ∷ []) ∷ []
  -- a value that is not finite in the middle: the earlier one remains, and bins are not counted
  not_finite : completed
      (chunk 3 0 (0x3f800000 ∷ 0x7f800000 ∷ 0x40000000 ∷ []) ∷ chunk 3 1 one_two ∷ chunk 3 2 (0x40000000 ∷ []) ∷ [])
      none
      ≡ none ∷ none ∷ some (natf 1 ∷ natf 1 ∷ natf 2 ∷ []) ∷ []
  -- a done row ignores a chunk; a new total opens a row; a chunk of no values counts none
  done_ignored : completed
      (chunk 2 0 one_two ∷ chunk 2 0 one_two ∷ chunk 1 0 (0x40000000 ∷ []) ∷ chunk 2 0 [] ∷ chunk 2 1 one_two ∷ [])
      none
      ≡ some (natf 1 ∷ natf 2 ∷ []) ∷ none ∷ some (natf 2 ∷ []) ∷ none ∷ none ∷ []
  -- a new row number opens a zeroed row: the first bin of row 7 is not row 8's
  new_number : completed (chunk_of 7 2 0 (0x3f800000 ∷ []) ∷ chunk_of 8 2 1 (0x40000000 ∷ []) ∷ chunk_of 8 2 1 (0x40000000 ∷ []) ∷ []) none
      ≡ none ∷ none ∷ some (f0 ∷ natf 2 ∷ []) ∷ []
  -- a full buffer counts a duplicate as overflow; below next is late
  refused_packets : (pushed (jitter_sizes 2 4 4) (5 ∷ 5 ∷ 9 ∷ 4 ∷ 9 ∷ []) fresh_buffer).counters
      ≡ record {
        received = 5;
        inserted = 2;
        concealed = 1;
        late = 1;
        overflow = 1;
        invalid_size = 0;
        resyncs = 0;
        filled = 2;
      }
  -- the first test that fails counts: of a full buffer whose next is 7, 3 samples of sequence 4 are of invalid size, 2 of them late, and 2 of
  -- sequence 9 overflow
  tests_in_order : ((wrong_push 4 3).counters ≡ tested 0 0 1) × ((wrong_push 4 2).counters ≡ tested 1 0 0) × ((wrong_push 9 2).counters ≡ tested 0 1 0)
  -- the sequence wraps: 4,294,967,295 is played, then 0
  wraps : session (jitter_sizes 2 2 8) (4294967295 ∷ 0 ∷ []) (2 ∷ 2 ∷ [])
      ≡ record {
        answers = answer (4294967295000 ∷ 4294967295001 ∷ []) 2 0 0 ∷ answer (0 ∷ 1 ∷ []) 2 0 0 ∷ [];
        counters = counted_as 2 2 0 0 0;
        largest = 4;
      }
  -- a play of 0 samples still fills and drops
  play_of_none : session (jitter_sizes 64 112 256) (1 ∷ 2 ∷ []) (0 ∷ 1 ∷ [])
      ≡ record {
        answers = answer [] 0 16 0 ∷ answer (1016 ∷ []) 1 0 0 ∷ [];
        counters = counted_as 2 2 0 0 0;
        largest = 128;
      }
  -- −0 and 0 keep their order: of the row 0, −0 the floor is 0 and the top −0
  level_zeros : (Scaling.row_floor (f0 ∷ from_bits 0x80000000 ∷ []) ≡ f0)
      × (Scaling.row_top (f0 ∷ from_bits 0x80000000 ∷ []) ≡ from_bits 0x80000000)
  -- smoothing 0.5 over finite rows reaches an infinity and a NaN
  overflowing : smoothing (huge ∷ minus_huge ∷ minus_huge ∷ huge ∷ []) []
      ≡ (huge ∷ []) ∷ (Ieee.inf true ∷ []) ∷ (Ieee.nan ∷ []) ∷ (Ieee.nan ∷ []) ∷ []
  -- rounding half away from zero, on both sides and below a half
  rounded : map Floats.round_half_away (from_bits 0x40200000 ∷ from_bits 0xc0200000 ∷ from_bits 0x3effffff ∷ from_bits 0x3f000000 ∷ [])
      ≡ natf 3 ∷ from_bits 0xc0400000 ∷ f0 ∷ f1 ∷ []
  -- the low 64 bits are kept: a probe whose offset is −2
  wide_probe : (probe_offset 0 (2 ^ 64 - 1) (2 ^ 64 - 1) 1 ≡ neg_ℤ (pos 2)) × (probe_round_trip 0 (2 ^ 64 - 1) (2 ^ 64 - 1) 1 ≡ pos 1)
  -- a round trip is stored before the gate
  stored_before_gate : probed (pos 0) (pos 200) (probed (pos 100) (pos 64) none)
      ≡ some (record { offset = pos 100; round_trip = 200; least = 65 })
  -- black, blue, cyan, yellow, red
  colours : map Picture.color_map (0 ∷ 63 ∷ 64 ∷ 127 ∷ 191 ∷ 255 ∷ [])
      ≡ 0 ∷ 0x0000fc ∷ 0x0001ff ∷ 0x00fdff ∷ 0xfeff00 ∷ 0xff0000 ∷ []

pub edges : Edges
unfolding computes jitter_sizes pushed playing session answer counted_as chunk_of chunk completed one_two huge minus_huge half wrong_push tested smoothing
edges =
    record {
      not_early = refl;
      not_finite = refl;
      done_ignored = refl;
      new_number = refl;
      refused_packets = refl;
      tests_in_order = (refl, refl, refl);
      wraps = refl;
      play_of_none = refl;
      level_zeros = (refl, refl);
      overflowing = refl;
      rounded = refl;
      wide_probe = (refl, refl);
      stored_before_gate = refl;
      colours = refl;
    }
