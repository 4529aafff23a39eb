-- Replay: a tape in, lines of text out. Text is a list of ASCII codes; words of a line stand a space apart. Assumes nothing.
use Rattle.std.specs.Prelude.{ℕ, zero, suc, ◌+◌, ◌*◌, ◌/◌, ◌%◌, ◌^◌, cond, List, [], ◌∷◌, ◌++◌, map, length, ℤ, pos, negsuc, leb, ltb, Float}
use Rattle.std.proofs.Math.Option.{Option, none, some}
use Rattle.model.specs.Floats.{to_bits}
use Rattle.model.specs.Framing.{Side, A, B, Stream, audio, waterfall, other_stream, stream_in}
use Rattle.model.specs.JitterBuffer.{Counters, Played}
use Rattle.model.specs.Clock as Clock
use Rattle.model.specs.Receiver.{Lent, Call, datagram, play, reset, set, probe, one_way, depth, transmit_depth, Answer, refused, accepted, played, row, State}
use Rattle.model.specs.Questions.{Opened, opened, not_opened, set_up}
use Rattle.model.specs.Step.{Event, run}
use Rattle.model.specs.Tape.{TapeRead, read_tape, bad_tape, read}

-- ---- numbers in text

-- the digits of n before those that are there: fuel is more than n has digits
unfoldable pub digits_before : ℕ → ℕ → List ℕ → List ℕ
digits_before zero n rest = rest
digits_before (suc fuel) n rest =
    let more = digits_before fuel (n / 10) ((48 + n % 10) ∷ rest) in
    cond (ltb n 10) ((48 + n) ∷ rest) more

-- decimal
unfoldable pub decimal : ℕ → List ℕ
decimal n = digits_before (suc n) n []

unfoldable pub signed_decimal : ℤ → List ℕ
signed_decimal (pos n) = decimal n
signed_decimal (negsuc n) = 45 ∷ decimal (suc n)

-- 0 to 9, then a to f
unfoldable pub hex_digit : ℕ → ℕ
hex_digit d = cond (ltb d 10) (48 + d) (87 + d)

unfoldable pub hex_digits : ℕ → ℕ → List ℕ
hex_digits zero n = []
hex_digits (suc k) n = hex_digit (n / 16 ^ k % 16) ∷ hex_digits k n

-- bits in eight lower-case digits
unfoldable pub hex_bits : Float → List ℕ
hex_bits x = hex_digits 8 (to_bits x)

-- ---- lines

-- the words behind the first, each after a space, then the end of the line
unfoldable pub rest : List (List ℕ) → List ℕ
rest [] = 10 ∷ []
rest (w ∷ ws) = 32 ∷ w ++ rest ws

-- a line begins with its letter
unfoldable pub line : ℕ → List (List ℕ) → List ℕ
line letter ws = letter ∷ rest ws

unfoldable pub side_letter : Side → ℕ
side_letter A = 65
side_letter B = 66

-- P: channel, taken, dropped, short, sample bits in hex
unfoldable pub play_line : Side → Played Float → List ℕ
play_line side p =
    line 80 ((side_letter side ∷ []) ∷ decimal p.taken ∷ decimal p.dropped ∷ decimal p.short ∷ map hex_bits p.samples)

-- W: channel, value bits in hex
unfoldable pub row_line : Side → List Float → List ℕ
row_line side values = line 87 ((side_letter side ∷ []) ∷ map hex_bits values)

-- X: a refusal's number
unfoldable pub refused_line : ℕ → List ℕ
refused_line n = line 88 (decimal n ∷ [])

-- the channel that a call is for: a row's is its stream's
unfoldable pub stream_side : Stream → Side
stream_side (audio side) = side
stream_side (waterfall side) = side
stream_side other_stream = A

unfoldable pub side_of : Call → Side
side_of (datagram bytes) = stream_side (stream_in bytes)
side_of (play side n) = side
side_of (reset side) = side
side_of (set side x) = side
side_of (probe t1 t2 t3 t4) = A
side_of (one_way receive send) = A
side_of (depth samples counts) = A
side_of (transmit_depth samples) = A

unfoldable pub answer_line : Side → Answer → List ℕ
answer_line side (refused n) = refused_line n
answer_line side accepted = []
answer_line side (played p) = play_line side p
answer_line side (row none) = []
answer_line side (row (some values)) = row_line side values

unfoldable pub event_lines : List Event → List ℕ
event_lines [] = []
event_lines (e ∷ es) = answer_line (side_of e.call) e.answer ++ event_lines es

-- ---- the closing lines

-- A, B: received, inserted, concealed, late, overflow, invalid size, resyncs, filled
unfoldable pub channel_line : Side → Counters → List ℕ
channel_line side k =
    line (side_letter side)
    (map decimal
    (k.received ∷ k.inserted ∷ k.concealed ∷ k.late ∷ k.overflow ∷ k.invalid_size ∷ k.resyncs ∷ k.filled ∷ []))

-- I: incoming, audio, waterfall, audio dropped, waterfall dropped, audio late, waterfall late
unfoldable pub incoming_line : State → List ℕ
incoming_line s =
    let a = s.counts.audio in
    let w = s.counts.waterfall in
    line 73 (map decimal (s.incoming ∷ a.packets ∷ w.packets ∷ a.dropped ∷ w.dropped ∷ a.late ∷ w.late ∷ []))

-- "-" for what is absent
unfoldable pub or_dash : Option ℤ → List ℕ
or_dash none = 45 ∷ []
or_dash (some n) = signed_decimal n

-- C: offset, round trip, one-way in nanoseconds
unfoldable pub clock_line : Clock.Clock → List ℕ
clock_line k =
    line 67
    (or_dash (Clock.reading (λ t. t.offset) k.timing)
    ∷ or_dash (Clock.reading (λ t. pos t.round_trip) k.timing)
    ∷ or_dash k.one_way
    ∷ [])

unfoldable pub closing_lines : State → List ℕ
closing_lines s =
    channel_line A s.channel_a.buffer.counters
    ++ (channel_line B s.channel_b.buffer.counters ++ (incoming_line s ++ clock_line s.clock))

-- ---- a tape

-- the lines of a session over areas of these lengths: those of its calls and then the closing ones, or the X line of a refused setup
unfoldable pub session_lines : Lent → List Call → Opened → List ℕ
session_lines lent calls (not_opened n) = refused_line n
session_lines lent calls (opened s) =
    let r = run lent calls s in
    event_lines r.events ++ closing_lines r.after

-- a refused tape prints only its X line, 11 followed by the place
unfoldable pub bad_tape_line : ℕ → List ℕ
bad_tape_line place = line 88 (decimal 11 ∷ decimal place ∷ [])

unfoldable pub tape_lines : Lent → TapeRead → List ℕ
tape_lines lent (bad_tape place) = bad_tape_line place
tape_lines lent (read_tape t) = session_lines lent t.calls (set_up lent t.setup)

-- a tape of any length
unfoldable pub replay_over : Lent → List ℕ → List ℕ
replay_over lent bytes = tape_lines lent (read bytes)

-- a tape of at most so many words; a longer one is refused at the place behind them
unfoldable pub replay_within : Lent → ℕ → List ℕ → List ℕ
replay_within lent words bytes = cond (leb (length bytes) (4 * words)) (replay_over lent bytes) (bad_tape_line words)

-- ---- the program replay: areas of 16,384 words, and a tape of at most 65,536 bytes

abbrev pub replay_areas : Lent
replay_areas = record { floats = 16384; words = 16384 }

unfoldable pub replay : List ℕ → List ℕ
replay bytes = replay_within replay_areas 16384 bytes
