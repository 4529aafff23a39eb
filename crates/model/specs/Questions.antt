-- The questions before a call acts, and setup, which acts where none is answered with no. Assumes nothing.
use Rattle.std.specs.Prelude.{ℕ, ◌+◌, ◌*◌, Bool, true, false, ◌&&◌, cond, List, [], ◌∷◌, length, drop, ℤ, pos, neg_ℤ, leb, ltb, eqb, Float}
use Rattle.std.specs.Bool.{beq}
use Rattle.std.proofs.Math.Option.{Option, none, some}
use Rattle.std.specs.Int.Signed.{le_z}
use Rattle.model.specs.Bytes.{all}
use Rattle.model.specs.Floats.{finite, from_bits}
use Rattle.model.specs.Sizes.{Sizes, between, sizes_allowed, most_waiting, float_area, word_area}
use Rattle.model.specs.Framing.{header_fields, header_length, valid_header, Stream, audio, waterfall, other_stream, stream_in}
use Rattle.model.specs.Counts.{StreamCounts}
use Rattle.model.specs.JitterBuffer.{Counters, Packet, Buffer}
use Rattle.model.specs.Row.{Row, chunk_total}
use Rattle.model.specs.Clock.{Timing, Clock, probe_offset, probe_round_trip, one_way_in_range}
use Rattle.model.specs.Receiver.{Estimates, Setup, Settings, Call, datagram, play, reset, set, probe, one_way, depth, transmit_depth, Channel, State, Lent, fresh}

-- ---- questions

-- a question of document 01 by its number, and whether its answer is yes
pub record Question : Type 0 where
  pub number : ℕ
  pub yes : Bool

abbrev pub ask : ℕ → Bool → Question
ask n b = record { number = n; yes = b }

-- the number of the first "no", if there is one
unfoldable pub first_no : List Question → Option ℕ
first_no [] = none
first_no (q ∷ qs) = cond q.yes (first_no qs) (some q.number)

-- the most calls that a receiver accepts
abbrev pub most_calls : ℕ
most_calls = 4294967295

-- the most that one call adds to a counter
abbrev pub most_added : ℕ
most_added = 4294967295

-- question 2: both areas long enough
unfoldable pub areas_long : Lent → Sizes → Bool
areas_long lent z = leb (float_area z) lent.floats && leb (word_area z) lent.words

-- a bit pattern of a finite float
unfoldable pub finite_bits : ℕ → Bool
finite_bits b = finite (from_bits b)

unfoldable pub estimates_finite : Estimates → Bool
estimates_finite e = finite_bits e.top && (finite_bits e.floor && finite_bits e.range)

unfoldable pub settings_finite : Settings → Bool
settings_finite x = finite_bits x.top && (finite_bits x.range && (finite_bits x.zoom && finite_bits x.smoothing))

-- setup asks 1, 2, 5
unfoldable pub setup_questions : Lent → Setup → List Question
setup_questions lent setup =
    ask 1 (sizes_allowed setup.sizes)
    ∷ ask 2 (areas_long lent setup.sizes)
    ∷ ask 5 (estimates_finite setup.estimates_a && estimates_finite setup.estimates_b)
    ∷ []

pub data Opened : Type 0 where
  not_opened : ℕ → Opened
  opened : State → Opened

unfoldable pub opened_unless : Option ℕ → Setup → Opened
opened_unless (some number) setup = not_opened number
opened_unless none setup = opened (fresh setup)

-- setup: the first "no", or a fresh receiver
unfoldable pub set_up : Lent → Setup → Opened
set_up lent setup = opened_unless (first_no (setup_questions lent setup)) setup

-- ---- question 3: could a receiver hold this state?

-- the sequences of waiting packets
unfoldable pub sequences : List (Packet Float) → List ℕ
sequences [] = []
sequences (p ∷ ps) = p.sequence ∷ sequences ps

-- each is below the one after it
unfoldable pub strictly_rising : List ℕ → Bool
strictly_rising [] = true
strictly_rising (x ∷ []) = true
strictly_rising (x ∷ y ∷ ys) = ltb x y && strictly_rising (y ∷ ys)

-- started: none below next; not started: queue empty, packet × waiting < target
unfoldable pub start_held : Sizes → Option ℕ → Buffer Float → Bool
start_held z none b = eqb (length b.queue) 0 && ltb (z.packet * length b.waiting) z.target
start_held z (some next) b = all (leb next) (sequences b.waiting)

-- each counter, and filled, is at most the limit
unfoldable pub counters_held : ℕ → Counters → Bool
counters_held limit k =
    all (λ n. leb n limit)
    (k.received ∷ k.inserted ∷ k.concealed ∷ k.late ∷ k.overflow ∷ k.invalid_size ∷ k.resyncs ∷ k.filled ∷ [])

unfoldable pub buffer_held : Sizes → ℕ → Buffer Float → Bool
buffer_held z limit b =
    leb (length b.waiting) (most_waiting z)
    && (strictly_rising (sequences b.waiting)
    && (ltb (length b.queue) (z.target + z.packet)
    && (leb b.run 2
    && (start_held z b.next b
    && (counters_held limit b.counters
    && ltb b.largest (z.max + z.target + 2 * z.packet))))))

-- row total ≤ bins, filled bins < 2 × total, and done exactly when filled ≥ total
unfoldable pub row_held : Sizes → Option Row → Bool
row_held z none = true
row_held z (some r) =
    leb r.total z.bins
    && (ltb r.filled (2 * r.total)
    && beq r.done (leb r.total r.filled))

-- spectrum and smoothing lengths ≤ bins
unfoldable pub channel_held : Sizes → ℕ → Channel → Bool
channel_held z limit c =
    buffer_held z limit c.buffer
    && (row_held z c.row
    && (leb (length c.spectrum) z.bins && leb (length c.smoothing) z.bins))

-- the bound of question 9
abbrev pub clock_bound : ℕ
clock_bound = 4611686018427387903

-- within ± the bound
unfoldable pub offset_allowed : ℤ → Bool
offset_allowed n = le_z (neg_ℤ (pos clock_bound)) n && le_z n (pos clock_bound)

-- offset, round trip and least are all absent or all there, the first within 9, the others 1 to 9's bound
unfoldable pub timing_held : Option Timing → Bool
timing_held none = true
timing_held (some t) = offset_allowed t.offset && (between 1 clock_bound t.round_trip && between 1 clock_bound t.least)

-- one-way absent or, only with an offset, in its range
unfoldable pub one_way_held : Option Timing → Option ℤ → Bool
one_way_held t none = true
one_way_held none (some n) = false
one_way_held (some t) (some n) = one_way_in_range n

unfoldable pub clock_held : Clock → Bool
clock_held k = timing_held k.timing && one_way_held k.timing k.one_way

unfoldable pub stream_held : ℕ → StreamCounts → Bool
stream_held limit c = all (λ n. leb n limit) (c.packets ∷ c.dropped ∷ c.late ∷ [])

-- counters are at most calls × 4,294,967,295
unfoldable pub held : State → Bool
held s =
    let limit = s.calls * most_added in
    channel_held s.sizes limit s.channel_a
    && (channel_held s.sizes limit s.channel_b
    && (clock_held s.clock
    && (leb s.incoming limit
    && (stream_held limit s.counts.audio && stream_held limit s.counts.waterfall))))

-- ---- the questions of a call

-- question 6: a datagram of 16 to 65,535 bytes
abbrev pub length_allowed : List ℕ → Bool
length_allowed bytes = between header_length 65535 (length bytes)

-- question 8: a waterfall payload of 6 bytes or more names a total ≤ bins
unfoldable pub total_allowed : Sizes → List ℕ → Bool
total_allowed z payload = cond (leb 6 (length payload)) (leb (chunk_total payload) z.bins) true

unfoldable pub stream_allowed : Sizes → List ℕ → Stream → Bool
stream_allowed z bytes (audio side) = true
stream_allowed z bytes (waterfall side) = total_allowed z (drop header_length bytes)
stream_allowed z bytes other_stream = true

-- question 9 of a probe, of the numbers whose low 64 bits are kept
unfoldable pub probe_allowed : ℤ → ℤ → Bool
probe_allowed offset round_trip = offset_allowed offset && le_z round_trip (pos clock_bound)

-- question 9 of a depth
unfoldable pub depth_allowed : ℕ → Bool
depth_allowed samples = leb samples 16777216

-- what a call asks after 1, 2, 3 and 4
unfoldable pub own_questions : Sizes → Call → List Question
own_questions z (datagram bytes) =
    ask 6 (length_allowed bytes)
    ∷ ask 7 (valid_header (header_fields bytes))
    ∷ ask 8 (stream_allowed z bytes (stream_in bytes))
    ∷ []
own_questions z (play side n) = ask 9 (leb n 65535) ∷ []
own_questions z (reset side) = []
own_questions z (set side x) = ask 5 (settings_finite x) ∷ []
own_questions z (probe t1 t2 t3 t4) = ask 9 (probe_allowed (probe_offset t1 t2 t3 t4) (probe_round_trip t1 t2 t3 t4)) ∷ []
own_questions z (one_way receive send) = []
own_questions z (depth samples counts) = ask 9 (depth_allowed samples) ∷ []
own_questions z (transmit_depth samples) = ask 9 (depth_allowed samples) ∷ []

unfoldable pub questions : Lent → State → Call → List Question
questions lent s c =
    ask 1 (sizes_allowed s.sizes)
    ∷ ask 2 (areas_long lent s.sizes)
    ∷ ask 3 (held s)
    ∷ ask 4 (ltb s.calls most_calls)
    ∷ own_questions s.sizes c
