-- The questions at their bounds, computed: both sides of each bound, and which number counts where several answers are no. Assumes nothing.
use Rattle.std.specs.Prelude.{◌≡◌, refl, ℕ, ◌+◌, ◌*◌, Bool, true, false, List, [], ◌∷◌, ◌++◌, map, replicate, eqb}
use Rattle.std.proofs.Math.Option.{Option, none, some}
use Rattle.model.specs.Sizes.{Sizes, sizes_allowed}
use Rattle.model.specs.Framing.{A, B}
use Rattle.model.specs.Clock.{DepthCounts}
use Rattle.model.specs.Receiver.{Estimates, Settings, Setup, Call, datagram, play, reset, set, probe, depth, transmit_depth, State, Lent, Answer, refused, fresh}
use Rattle.model.specs.Questions.{Opened, not_opened, opened, set_up}
use Rattle.model.specs.Step.{step}
use Rattle.model.proofs.Computes.{computes}

-- ---- a receiver to ask

sized : ℕ → ℕ → ℕ → ℕ → ℕ → ℕ → Sizes
sized packet target max bins width height =
    record { packet = packet; target = target; max = max; bins = bins; width = width; height = height }

estimates : ℕ → ℕ → ℕ → Estimates
estimates top floor range = record { top = top; floor = floor; range = range }

setup_of : Sizes → Setup
setup_of z = record { sizes = z; estimates_a = estimates 0 0 0; estimates_b = estimates 0 0 0 }

areas : ℕ → ℕ → Lent
areas floats words = record { floats = floats; words = words }

-- at most 4 packets wait, so a section has 4 × 3 + (5 + 3) + 3 × 7 = 41 floats and 4 + 2 × 3 = 10 words
zs : Sizes
zs = sized 3 5 10 7 2 3

-- areas of exactly 2 × 41 + 7 floats and 2 × 10 words
exact : Lent
exact = areas 89 20

start : State
start = fresh (setup_of zs)

with_sizes : Sizes → State → State
with_sizes z s =
    record { sizes = z; calls = s.calls; incoming = s.incoming; counts = s.counts; channel_a = s.channel_a; channel_b = s.channel_b; clock = s.clock }

with_calls : ℕ → State → State
with_calls n s =
    record { sizes = s.sizes; calls = n; incoming = s.incoming; counts = s.counts; channel_a = s.channel_a; channel_b = s.channel_b; clock = s.clock }

with_incoming : ℕ → State → State
with_incoming n s =
    record { sizes = s.sizes; calls = s.calls; incoming = n; counts = s.counts; channel_a = s.channel_a; channel_b = s.channel_b; clock = s.clock }

-- the refusal of a call, if it is refused
number : Answer → Option ℕ
number (refused n) = some n
number _ = none

asked : Lent → State → List Call → List (Option ℕ)
asked lent s cs = map (λ c. number (step lent c s).answer) cs

-- the same for setup
setup_number : Opened → Option ℕ
setup_number (not_opened n) = some n
setup_number (opened s) = none

-- ---- calls

-- a datagram: magic, version, type, sequence 1, timestamp 0, then so many bytes
header : ℕ → ℕ → ℕ → List ℕ
header low version type = 0x52 ∷ low ∷ version ∷ type ∷ 0 ∷ 0 ∷ 0 ∷ 1 ∷ replicate 8 0

sent : ℕ → ℕ → ℕ → List ℕ → Call
sent low version type payload = datagram (header low version type ++ payload)

-- a chunk of row 1 with so many bins in all, and no values
chunk : ℕ → List ℕ
chunk total = 0 ∷ 1 ∷ 0 ∷ total ∷ 0 ∷ 0 ∷ []

settings : ℕ → ℕ → ℕ → ℕ → Settings
settings top range zoom smoothing = record { adaptive = true; top = top; range = range; zoom = zoom; smoothing = smoothing }

counts : DepthCounts
counts = record { conceals = 1; late = 2; overflow = 3; resyncs = 4 }

-- the largest float, the lowest, the infinities, and a NaN
largest : ℕ
largest = 0x7f7fffff

lowest : ℕ
lowest = 0xff7fffff

infinity : ℕ
infinity = 0x7f800000

minus_infinity : ℕ
minus_infinity = 0xff800000

nan : ℕ
nan = 0x7fc00000

-- the bound of question 9
most : ℕ
most = 4611686018427387903

-- ---- the order

-- a state that no receiver could hold
unheld : State
unheld = with_incoming 1 start

-- all calls are used up
full : State
full = with_calls 4294967295 start

-- Where two answers are no, the first counts.
pub record Order : Type 0 where
  one_two : asked (areas 0 0) (with_sizes (sized 0 5 10 7 2 3) start) (reset A ∷ []) ≡ some 1 ∷ []
  two_three : asked (areas 88 20) unheld (reset A ∷ []) ≡ some 2 ∷ []
  -- of a state at the last call with a counter past its bound
  three_four : asked exact (with_incoming (4294967295 * 4294967295 + 1) full) (reset A ∷ []) ≡ some 3 ∷ []
  -- 4 before each call's own: 5, 6, 7, 8, and 9 of a play, a probe and both depths
  four_own : asked exact full
      (set A (settings nan 0 0 0) ∷ datagram [] ∷ sent 0x53 3 1 [] ∷ sent 0x53 1 2 (chunk 8) ∷ play B 65536 ∷ probe 0 (most + 1) (most + 1) 0
      ∷ depth 16777217 counts ∷ transmit_depth 16777217 ∷ [])
      ≡ some 4 ∷ some 4 ∷ some 4 ∷ some 4 ∷ some 4 ∷ some 4 ∷ some 4 ∷ some 4 ∷ []
  -- 15 bytes of a wrong magic; and a wrong magic or version over a total that is too large
  six_seven : asked exact start (datagram (replicate 15 0) ∷ []) ≡ some 6 ∷ []
  seven_eight : asked exact start (sent 0x52 1 2 (chunk 8) ∷ sent 0x53 3 4 (chunk 8) ∷ []) ≡ some 7 ∷ some 7 ∷ []
  setup_one_two : setup_number (set_up (areas 0 0) (setup_of (sized 0 5 10 7 2 3))) ≡ some 1
  setup_two_five : setup_number (set_up (areas 88 20) (record { sizes = zs; estimates_a = estimates nan 0 0; estimates_b = estimates 0 0 0 })) ≡ some 2

pub order : Order
unfolding computes sized estimates setup_of areas zs exact start with_sizes with_calls with_incoming number asked setup_number header sent chunk settings counts nan most unheld full
order =
    record {
      one_two = refl;
      two_three = refl;
      three_four = refl;
      four_own = refl;
      six_seven = refl;
      seven_eight = refl;
      setup_one_two = refl;
      setup_two_five = refl;
    }

-- ---- questions 1, 2, 4, 5, 6, 7, 8, 9

-- a setup of zs whose estimates are 0 but for one
with_estimate : ℕ → ℕ → Setup
with_estimate k bits =
    record { sizes = zs; estimates_a = estimates (at 0) (at 1) (at 2); estimates_b = estimates (at 3) (at 4) (at 5) }
  where
    pick : Bool → ℕ
    pick true = bits
    pick false = 0

    at : ℕ → ℕ
    at i = pick (eqb i k)

pub record Bounds : Type 0 where
  -- 1: each size at its least and at its most, and one past each
  sizes_in_law : map sizes_allowed
      (sized 1 1 1 1 1 1 ∷ sized 4096 4096 4096 65535 4096 4096 ∷ sized 4096 65536 65536 1 1 1 ∷ sized 1 65536 131072 1 1 1 ∷ [])
      ≡ true ∷ true ∷ true ∷ true ∷ []
  packet_out : map sizes_allowed (sized 0 1 1 1 1 1 ∷ sized 4097 4097 4097 1 1 1 ∷ []) ≡ false ∷ false ∷ []
  target_out : map sizes_allowed (sized 2 1 2 1 1 1 ∷ sized 1 65537 65537 1 1 1 ∷ []) ≡ false ∷ false ∷ []
  max_out : map sizes_allowed (sized 1 2 1 1 1 1 ∷ sized 1 1 131073 1 1 1 ∷ []) ≡ false ∷ false ∷ []
  bins_out : map sizes_allowed (sized 1 1 1 0 1 1 ∷ sized 1 1 1 65536 1 1 ∷ []) ≡ false ∷ false ∷ []
  width_out : map sizes_allowed (sized 1 1 1 1 0 1 ∷ sized 1 1 1 1 4097 1 ∷ []) ≡ false ∷ false ∷ []
  height_out : map sizes_allowed (sized 1 1 1 1 1 0 ∷ sized 1 1 1 1 1 4097 ∷ []) ≡ false ∷ false ∷ []
  one : asked exact (with_sizes (sized 0 5 10 7 2 3) start) (reset A ∷ []) ≡ some 1 ∷ []
  setup_one : setup_number (set_up exact (setup_of (sized 0 5 10 7 2 3))) ≡ some 1
  -- 2: exact areas, and either one short by one
  two : (asked exact start (reset A ∷ []) ≡ none ∷ [])
      × (asked (areas 88 20) start (reset A ∷ []) ≡ some 2 ∷ [])
      × (asked (areas 89 19) start (reset A ∷ []) ≡ some 2 ∷ [])
  setup_two : map (λ lent. setup_number (set_up lent (setup_of zs))) (exact ∷ areas 88 20 ∷ areas 89 19 ∷ []) ≡ none ∷ some 2 ∷ some 2 ∷ []
  -- 3, by its number
  three : asked exact unheld (reset A ∷ []) ≡ some 3 ∷ []
  -- 4: the last call, and one more
  four : (asked exact (with_calls 4294967294 start) (reset A ∷ []) ≡ none ∷ []) × (asked exact full (reset A ∷ []) ≡ some 4 ∷ [])
  -- 5: the largest and the lowest float; an infinity or a NaN in each place
  five : asked exact start
      (set A (settings largest lowest largest lowest)
      ∷ set A (settings infinity 0 0 0) ∷ set A (settings 0 nan 0 0) ∷ set B (settings 0 0 minus_infinity 0) ∷ set B (settings 0 0 0 nan) ∷ [])
      ≡ none ∷ some 5 ∷ some 5 ∷ some 5 ∷ some 5 ∷ []
  setup_five : (map (λ k. setup_number (set_up exact (with_estimate k lowest))) (0 ∷ 1 ∷ 2 ∷ 3 ∷ 4 ∷ 5 ∷ []) ≡ replicate 6 none)
      × (map (λ k. setup_number (set_up exact (with_estimate k infinity))) (0 ∷ 1 ∷ 2 ∷ 3 ∷ 4 ∷ 5 ∷ []) ≡ replicate 6 (some 5))
  -- 6: 15 and 16 bytes, 65,535 and 65,536, of a stream that no channel takes
  six : asked exact start
      (datagram (0x52 ∷ 0x53 ∷ 1 ∷ 5 ∷ replicate 11 0) ∷ sent 0x53 1 5 [] ∷ sent 0x53 1 5 (replicate 65519 0) ∷ sent 0x53 1 5 (replicate 65520 0) ∷ [])
      ≡ some 6 ∷ none ∷ none ∷ some 6 ∷ []
  -- 7: the magic's neighbours and another first byte; versions 0 to 3
  seven : asked exact start
      (sent 0x52 1 5 [] ∷ sent 0x54 1 5 [] ∷ datagram (0x53 ∷ 0x53 ∷ 1 ∷ 5 ∷ replicate 12 0) ∷ sent 0x53 0 5 [] ∷ sent 0x53 1 5 [] ∷ sent 0x53 2 5 [] ∷ sent 0x53 3 5 [] ∷ [])
      ≡ some 7 ∷ some 7 ∷ some 7 ∷ some 7 ∷ none ∷ none ∷ some 7 ∷ []
  -- 8: a total of 7 bins and of 8, on both channels, also where the chunk is ragged; not of 5 bytes, and not of audio
  eight : asked exact start
      (sent 0x53 1 2 (chunk 7) ∷ sent 0x53 2 4 (chunk 7) ∷ sent 0x53 1 2 (chunk 8) ∷ sent 0x53 2 4 (chunk 8) ∷ sent 0x53 1 4 (chunk 8 ++ (1 ∷ []))
      ∷ sent 0x53 1 2 (0 ∷ 1 ∷ 0 ∷ 8 ∷ 0 ∷ []) ∷ sent 0x53 1 1 (chunk 8) ∷ sent 0x53 1 3 (chunk 8) ∷ [])
      ≡ none ∷ none ∷ some 8 ∷ some 8 ∷ some 8 ∷ none ∷ none ∷ none ∷ []
  -- 9: an offset of ± the bound, and past it; a round trip at the bound, and past it
  nine_probe : asked exact start
      (probe 0 most most 0 ∷ probe 0 (most + 1) (most + 1) 0 ∷ probe most 0 0 most ∷ probe (most + 1) 0 0 (most + 1) ∷ probe 0 0 0 most ∷ probe 0 0 0 (most + 1) ∷ [])
      ≡ none ∷ some 9 ∷ none ∷ some 9 ∷ none ∷ some 9 ∷ []
  nine_depth : asked exact start (depth 16777216 counts ∷ depth 16777217 counts ∷ transmit_depth 16777216 ∷ transmit_depth 16777217 ∷ [])
      ≡ none ∷ some 9 ∷ none ∷ some 9 ∷ []
  nine_play : asked exact start (play A 65535 ∷ play A 65536 ∷ play B 65535 ∷ play B 65536 ∷ []) ≡ none ∷ some 9 ∷ none ∷ some 9 ∷ []

pub bounds : Bounds
unfolding computes sized estimates setup_of areas zs exact start with_sizes with_calls with_incoming number asked setup_number header sent chunk settings counts largest lowest infinity minus_infinity nan most unheld full with_estimate
bounds =
    record {
      sizes_in_law = refl;
      packet_out = refl;
      target_out = refl;
      max_out = refl;
      bins_out = refl;
      width_out = refl;
      height_out = refl;
      one = refl;
      setup_one = refl;
      two = (refl, refl, refl);
      setup_two = refl;
      three = refl;
      four = (refl, refl);
      five = refl;
      setup_five = (refl, refl);
      six = refl;
      seven = refl;
      eight = refl;
      nine_probe = refl;
      nine_depth = refl;
      nine_play = refl;
    }
