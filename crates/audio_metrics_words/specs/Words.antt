-- The clock in 14 words of 64 bits, and what a call over them leaves. Assumes nothing.
use Rattle.std.specs.Prelude.{ℕ, ◌+◌, ◌%◌, ◌^◌, Bool, ◌&&◌, cond, List, [], ◌∷◌, get_or, ℤ, eqb, Float}
use Rattle.std.proofs.Math.Option.{Option, none, some}
use Rattle.model.specs.Floats.{from_bits, to_bits}
use Rattle.model.specs.Clock.{Timing, Depth, Clock, bits64, signed64}
use Rattle.model.specs.Questions.{clock_held}

-- ---- words read: a flag of 0 says that the numbers after it are absent

-- a float's pattern is the low half of its word
unfoldable pub float_in : ℕ → Float
float_in w = from_bits (w % 2 ^ 32)

unfoldable pub timing_in : ℕ → ℕ → ℕ → ℕ → Option Timing
timing_in known offset round_trip least =
    cond (eqb known 0) none (some (record { offset = signed64 offset; round_trip = round_trip; least = least }))

unfoldable pub delay_in : ℕ → ℕ → Option ℤ
delay_in known delay = cond (eqb known 0) none (some (signed64 delay))

unfoldable pub depth_in : ℕ → ℕ → ℕ → Option Depth
depth_in known average peak = cond (eqb known 0) none (some (record { average = float_in average; peak = float_in peak }))

unfoldable pub clock_in : List ℕ → Clock
clock_in w =
    record {
      timing = timing_in (get_or w 0 0) (get_or w 1 0) (get_or w 2 0) (get_or w 3 0);
      one_way = delay_in (get_or w 4 0) (get_or w 5 0);
      depth = depth_in (get_or w 6 0) (get_or w 7 0) (get_or w 8 0);
      counts = record { conceals = get_or w 9 0; late = get_or w 10 0; overflow = get_or w 11 0; resyncs = get_or w 12 0 };
      transmit_peak = float_in (get_or w 13 0);
    }

-- ---- words written

unfoldable pub timing_words : Option Timing → List ℕ
timing_words none = 0 ∷ 0 ∷ 0 ∷ 0 ∷ []
timing_words (some t) = 1 ∷ bits64 t.offset ∷ t.round_trip ∷ t.least ∷ []

unfoldable pub delay_words : Option ℤ → List ℕ
delay_words none = 0 ∷ 0 ∷ []
delay_words (some n) = 1 ∷ bits64 n ∷ []

unfoldable pub depth_words : Option Depth → List ℕ
depth_words none = 0 ∷ 0 ∷ 0 ∷ []
depth_words (some d) = 1 ∷ to_bits d.average ∷ to_bits d.peak ∷ []

unfoldable pub clock_words : Clock → List ℕ
clock_words k =
    let t = timing_words k.timing in
    let o = delay_words k.one_way in
    let d = depth_words k.depth in
    get_or t 0 0 ∷ get_or t 1 0 ∷ get_or t 2 0 ∷ get_or t 3 0
    ∷ get_or o 0 0 ∷ get_or o 1 0
    ∷ get_or d 0 0 ∷ get_or d 1 0 ∷ get_or d 2 0
    ∷ k.counts.conceals ∷ k.counts.late ∷ k.counts.overflow ∷ k.counts.resyncs
    ∷ to_bits k.transmit_peak
    ∷ []

-- ---- calls

-- a call acts where the clock could be held and its numbers are allowed
unfoldable pub acts : Bool → List ℕ → Bool
acts allowed w = clock_held (clock_in w) && allowed

-- the words after it: unchanged where it does not act
unfoldable pub words_after : Bool → (Clock → Clock) → List ℕ → List ℕ
words_after allowed f w = cond (acts allowed w) (clock_words (f (clock_in w))) w

-- ---- readings

-- 2^32 and the pattern, or 0 where there is no reading
unfoldable pub reading_word : Option Float → ℕ
reading_word none = 0
reading_word (some x) = 4294967296 + to_bits x
