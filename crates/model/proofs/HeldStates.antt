-- Question 3 at the edges of each of its clauses, computed: a state on the edge can be held, one past it cannot, on both channels and the clock. Assumes nothing.
use Rattle.std.specs.Prelude.{◌≡◌, refl, ℕ, ◌+◌, ◌*◌, Bool, true, false, List, [], ◌∷◌, map, ℤ, pos, neg_ℤ, replicate, Float}
use Rattle.std.proofs.Math.Option.{Option, none, some}
use Rattle.model.specs.Floats.{f0}
use Rattle.model.specs.Sizes.{Sizes}
use Rattle.model.specs.Counts.{StreamCounts}
use Rattle.model.specs.JitterBuffer.{Counters, Packet, fresh_counters}
use Rattle.model.specs.Row.{Row}
use Rattle.model.specs.Clock.{Timing, Clock, fresh_clock}
use Rattle.model.specs.Receiver.{Estimates, Channel, State, fresh_channel}
use Rattle.model.specs.Questions.{held}
use Rattle.model.proofs.Computes.{computes}

-- ---- states that differ in one part

-- at most 4 packets wait; a queue is shorter than 6, a largest amount below 16, a row has at most 3 bins
z : Sizes
z = record { packet = 2; target = 4; max = 8; bins = 3; width = 1; height = 1 }

-- the bound of a counter after one call
limit : ℕ
limit = 4294967295

e : Estimates
e = record { top = 0; floor = 0; range = 0 }

-- a receiver of one call with these channels, counts and clock
receiver : Channel → Channel → ℕ → StreamCounts → StreamCounts → Clock → State
receiver a b incoming audio waterfall k =
    record {
      sizes = z;
      calls = 1;
      incoming = incoming;
      counts = record { audio = audio; waterfall = waterfall };
      channel_a = a;
      channel_b = b;
      clock = k;
    }

none_counted : StreamCounts
none_counted = record { packets = 0; dropped = 0; late = 0; last = none }

idle : Channel
idle = fresh_channel z e

-- which of the channels can be held, as A's and as B's
held_as_a : List Channel → List Bool
held_as_a cs = map (λ c. held (receiver c idle 0 none_counted none_counted fresh_clock)) cs

held_as_b : List Channel → List Bool
held_as_b cs = map (λ c. held (receiver idle c 0 none_counted none_counted fresh_clock)) cs

held_clocks : List Clock → List Bool
held_clocks ks = map (λ k. held (receiver idle idle 0 none_counted none_counted k)) ks

-- ---- channels

-- packets of two samples that wait at these sequences
waiting : List ℕ → List (Packet Float)
waiting [] = []
waiting (s ∷ ss) = record { sequence = s; samples = f0 ∷ f0 ∷ [] } ∷ waiting ss

buffered : Option ℕ → List ℕ → ℕ → ℕ → ℕ → Counters → Channel
buffered next sequences queued run largest k =
    record {
      buffer = record { next = next; waiting = waiting sequences; queue = replicate queued f0; run = run; largest = largest; counters = k };
      row = none;
      spectrum = [];
      smoothing = [];
      picture = 0 ∷ [];
      display = idle.display;
    }

counters : ℕ → ℕ → ℕ → ℕ → ℕ → ℕ → ℕ → ℕ → Counters
counters received inserted concealed late overflow invalid_size resyncs filled =
    record {
      received = received;
      inserted = inserted;
      concealed = concealed;
      late = late;
      overflow = overflow;
      invalid_size = invalid_size;
      resyncs = resyncs;
      filled = filled;
    }

-- channels of which one counter is n and the others 0
counting : ℕ → List Channel
counting n =
    map (λ k. buffered none [] 0 0 0 k)
    (counters n 0 0 0 0 0 0 0
    ∷ counters 0 n 0 0 0 0 0 0
    ∷ counters 0 0 n 0 0 0 0 0
    ∷ counters 0 0 0 n 0 0 0 0
    ∷ counters 0 0 0 0 n 0 0 0
    ∷ counters 0 0 0 0 0 n 0 0
    ∷ counters 0 0 0 0 0 0 n 0
    ∷ counters 0 0 0 0 0 0 0 n
    ∷ [])

-- a channel that shows a row, a spectrum and a smoothing buffer of these lengths
showing : Option Row → ℕ → ℕ → Channel
showing r spectrum smooth =
    record {
      buffer = idle.buffer;
      row = r;
      spectrum = replicate spectrum f0;
      smoothing = replicate smooth f0;
      picture = 0 ∷ [];
      display = idle.display;
    }

row_of : ℕ → ℕ → Bool → Channel
row_of total filled done =
    showing (some (record { number = 7; total = total; filled = filled; done = done; values = replicate total f0 })) 0 0

-- on an edge: 4 waiting of a started channel; next itself waits; a queue of 5; a run of 2, also before the start; one waiting before the
-- start; a largest amount of 15; rows of 3 bins with 0, 2, 3 and 5 filled; a spectrum and a smoothing buffer of 3
on_edge : List Channel
on_edge =
    buffered (some 1) (1 ∷ 2 ∷ 3 ∷ 4 ∷ []) 0 0 0 fresh_counters
    ∷ buffered (some 0) (5 ∷ 4294967295 ∷ []) 5 2 0 fresh_counters
    ∷ buffered none (9 ∷ []) 0 2 15 fresh_counters
    ∷ row_of 3 0 false ∷ row_of 3 2 false ∷ row_of 3 3 true ∷ row_of 3 5 true
    ∷ showing none 3 0 ∷ showing none 0 3
    ∷ []

-- one past each: 5 waiting; two of one sequence, and two that fall; a queue of 6; a run of 3; one below next; before the start a queue of
-- 1, and two waiting; a largest amount of 16; a row of 4 bins, one of none, 6 filled, done too early and not done in time; a spectrum and
-- a smoothing buffer of 4
past_edge : List Channel
past_edge =
    buffered (some 1) (1 ∷ 2 ∷ 3 ∷ 4 ∷ 5 ∷ []) 0 0 0 fresh_counters
    ∷ buffered (some 1) (2 ∷ 2 ∷ []) 0 0 0 fresh_counters
    ∷ buffered (some 1) (3 ∷ 2 ∷ []) 0 0 0 fresh_counters
    ∷ buffered (some 0) [] 6 0 0 fresh_counters
    ∷ buffered (some 0) [] 0 3 0 fresh_counters
    ∷ buffered (some 2) (1 ∷ 2 ∷ []) 0 0 0 fresh_counters
    ∷ buffered none [] 1 0 0 fresh_counters
    ∷ buffered none (1 ∷ 2 ∷ []) 0 0 0 fresh_counters
    ∷ buffered none [] 0 0 16 fresh_counters
    ∷ row_of 4 0 false ∷ row_of 0 0 false ∷ row_of 0 0 true ∷ row_of 3 6 true ∷ row_of 3 2 true ∷ row_of 3 3 false
    ∷ showing none 4 0 ∷ showing none 0 4
    ∷ []

-- ---- the clock

timed : Option Timing → Option ℤ → Clock
timed t w = record { timing = t; one_way = w; depth = none; counts = fresh_clock.counts; transmit_peak = f0 }

timing : ℤ → ℕ → ℕ → Option Timing
timing offset round_trip least = some (record { offset = offset; round_trip = round_trip; least = least })

-- the bound of question 9
most : ℕ
most = 4611686018427387903

-- ---- counts

-- a stream of which one count is n
counts : ℕ → List StreamCounts
counts n =
    record { packets = n; dropped = 0; late = 0; last = none }
    ∷ record { packets = 0; dropped = n; late = 0; last = none }
    ∷ record { packets = 0; dropped = 0; late = n; last = some 4294967295 }
    ∷ []

held_counts : List StreamCounts → List Bool
held_counts cs = map (λ c. held (receiver idle idle 0 c none_counted fresh_clock)) cs

held_row_counts : List StreamCounts → List Bool
held_row_counts cs = map (λ c. held (receiver idle idle 0 none_counted c fresh_clock)) cs

-- the same state after so many calls
after : ℕ → State → State
after n s =
    record { sizes = s.sizes; calls = n; incoming = s.incoming; counts = s.counts; channel_a = s.channel_a; channel_b = s.channel_b; clock = s.clock }

pub record HeldStates : Type 0 where
  on_edge_law : (held_as_a on_edge ≡ replicate 9 true) × (held_as_b on_edge ≡ replicate 9 true)
  past_edge_law : (held_as_a past_edge ≡ replicate 17 false) × (held_as_b past_edge ≡ replicate 17 false)
  -- each of the eight counters
  each_counter : (held_as_a (counting limit) ≡ replicate 8 true)
      × (held_as_a (counting (limit + 1)) ≡ replicate 8 false)
      × (held_as_b (counting limit) ≡ replicate 8 true)
      × (held_as_b (counting (limit + 1)) ≡ replicate 8 false)
  -- incoming, and the three counts of each stream
  incoming : (held (receiver idle idle limit none_counted none_counted fresh_clock) ≡ true)
      × (held (receiver idle idle (limit + 1) none_counted none_counted fresh_clock) ≡ false)
  streams : (held_counts (counts limit) ≡ replicate 3 true)
      × (held_counts (counts (limit + 1)) ≡ replicate 3 false)
      × (held_row_counts (counts limit) ≡ replicate 3 true)
      × (held_row_counts (counts (limit + 1)) ≡ replicate 3 false)
  -- the bound grows with the calls
  calls : (held (after 0 (receiver idle idle 1 none_counted none_counted fresh_clock)) ≡ false)
      × (held (after 2 (receiver idle idle (2 * limit) none_counted none_counted fresh_clock)) ≡ true)
      × (held (after 2 (receiver idle idle (2 * limit + 1) none_counted none_counted fresh_clock)) ≡ false)
  -- an offset of ± the bound, a round trip and a least of 1 and of the bound, in any order; a one-way at either end of its range
  clock_on_edge : held_clocks
      (timed (timing (pos most) 1 most) none ∷ timed (timing (neg_ℤ (pos most)) most 1) none
      ∷ timed (timing (pos 0) 1 1) (some (neg_ℤ (pos 1000000000))) ∷ timed (timing (pos 0) 1 1) (some (pos 5000000000)) ∷ [])
      ≡ replicate 4 true
  clock_past_edge : held_clocks
      (timed (timing (pos (most + 1)) 1 1) none ∷ timed (timing (neg_ℤ (pos (most + 1))) 1 1) none
      ∷ timed (timing (pos 0) 0 1) none ∷ timed (timing (pos 0) (most + 1) 1) none
      ∷ timed (timing (pos 0) 1 0) none ∷ timed (timing (pos 0) 1 (most + 1)) none
      ∷ timed (timing (pos 0) 1 1) (some (neg_ℤ (pos 1000000001))) ∷ timed (timing (pos 0) 1 1) (some (pos 5000000001))
      ∷ timed none (some (pos 0)) ∷ [])
      ≡ replicate 9 false

pub held_states : HeldStates
unfolding computes z limit e receiver none_counted idle held_as_a held_as_b held_clocks waiting buffered counters counting showing row_of on_edge past_edge timed timing most counts held_counts held_row_counts after
held_states =
    record {
      on_edge_law = (refl, refl);
      past_edge_law = (refl, refl);
      each_counter = (refl, refl, refl, refl);
      incoming = (refl, refl);
      streams = (refl, refl, refl, refl);
      calls = (refl, refl, refl);
      clock_on_edge = refl;
      clock_past_edge = refl;
    }
