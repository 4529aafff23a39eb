-- Lines, and sums over a channel's plays since its last reset. Assumes nothing.
use Rattle.std.specs.Prelude.{ℕ, ◌+◌, Bool, true, false, ◌&&◌, cond, List, [], ◌∷◌, Float}
use Rattle.std.proofs.Math.Option.{Option, none, some}
use Rattle.model.specs.Framing.{header_fields, valid_header, Side, A, B, Stream, audio, waterfall, other_stream, stream_in}
use Rattle.model.specs.JitterBuffer.{Played}
use Rattle.model.specs.Clock.{Clock}
use Rattle.model.specs.Receiver.{Call, datagram, play, reset, set, probe, one_way, depth, transmit_depth, Channel, Counts, State, Answer, refused, accepted, played, row, is_accepted}
use Rattle.model.specs.Questions.{length_allowed}
use Rattle.model.specs.Step.{Event}

-- ---- lines

-- Line is document 01's term: the calls that channel A, channel B or the clock answers to.
pub data Line : Type 0 where
  channel : Side → Line
  clock : Line

unfoldable pub stream_line : Stream → Option Line
stream_line (audio side) = some (channel side)
stream_line (waterfall side) = some (channel side)
stream_line other_stream = none

-- the line of a call, if it has one: a datagram refused by 6 or 7, or of another stream, has none; one refused by 8 has its channel's
unfoldable pub line_of : Call → Option Line
line_of (datagram bytes) =
    cond (length_allowed bytes && valid_header (header_fields bytes)) (stream_line (stream_in bytes)) none
line_of (play side n) = some (channel side)
line_of (reset side) = some (channel side)
line_of (set side x) = some (channel side)
line_of (probe t1 t2 t3 t4) = some clock
line_of (one_way receive send) = some clock
line_of (depth samples counts) = some clock
line_of (transmit_depth samples) = some clock

abbrev pub same_side : Side → Side → Bool
same_side A A = true
same_side A B = false
same_side B A = false
same_side B B = true

abbrev pub same_line : Line → Line → Bool
same_line (channel s) (channel t) = same_side s t
same_line (channel s) clock = false
same_line clock (channel t) = false
same_line clock clock = true

abbrev pub is_of : Line → Option Line → Bool
is_of l none = false
is_of l (some m) = same_line l m

-- a line's calls only, in their order
unfoldable pub only_calls : Line → List Call → List Call
only_calls l [] = []
only_calls l (c ∷ cs) = cond (is_of l (line_of c)) (c ∷ only_calls l cs) (only_calls l cs)

-- a line's calls with their answers only
unfoldable pub only_events : Line → List Event → List Event
only_events l [] = []
only_events l (e ∷ es) = cond (is_of l (line_of e.call)) (e ∷ only_events l es) (only_events l es)

-- a line's state: all that its calls may change but incoming and the number of accepted calls, which no line owns
pub data LineState : Type 0 where
  state_a : Counts → Channel → LineState
  state_b : Channel → LineState
  state_clock : Clock → LineState

unfoldable pub line_state : Line → State → LineState
line_state (channel A) s = state_a s.counts s.channel_a
line_state (channel B) s = state_b s.channel_b
line_state clock s = state_clock s.clock

-- ---- taken and dropped since a reset

-- a number of a play's answer: 0 where there is none
unfoldable pub of_play : (Played Float → ℕ) → Answer → ℕ
of_play f (refused n) = 0
of_play f accepted = 0
of_play f (played p) = f p
of_play f (row r) = 0

-- a sum over a channel's plays, with one call more: a play adds to it, a reset begins it anew
unfoldable pub tally : Side → (Played Float → ℕ) → Call → Answer → ℕ → ℕ
tally side f (datagram bytes) a sum = sum
tally side f (play t n) a sum = cond (same_side side t) (sum + of_play f a) sum
tally side f (reset t) a sum = cond (same_side side t && is_accepted a) 0 sum
tally side f (set t x) a sum = sum
tally side f (probe t1 t2 t3 t4) a sum = sum
tally side f (one_way receive send) a sum = sum
tally side f (depth samples counts) a sum = sum
tally side f (transmit_depth samples) a sum = sum

unfoldable pub tally_from : Side → (Played Float → ℕ) → ℕ → List Event → ℕ
tally_from side f sum [] = sum
tally_from side f sum (e ∷ es) = tally_from side f (tally side f e.call e.answer sum) es

-- the sum over the channel's plays since its last reset, or setup
unfoldable pub since_reset : Side → (Played Float → ℕ) → List Event → ℕ
since_reset side f es = tally_from side f 0 es
