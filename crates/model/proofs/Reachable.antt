-- Every state that a list of calls reaches from an accepted setup can be held; so while calls are left no call is refused with 1 to 4. Assumes nothing.
use mathlib.Core.Path.{◌≡◌, refl, ap}
use mathlib.Core.Bool.{true}
use mathlib.Core.Option.{Option, none, some}
use mathlib.Core.List.{List, [], ◌∷◌}
use Prim.Native.Nat.{ℕ, suc, ◌+◌, ◌≤◌, ◌<◌}
use native.Mathlib.Omega.{arith}
use borrow.Author.Tests.{lt-ltb}
use Rattle.model.specs.Sizes.{sizes_allowed}
use Rattle.model.specs.Framing.{header_fields, Side, A, B, Stream, audio, waterfall, other_stream, stream_in}
use Rattle.model.specs.Receiver.{Setup, Call, datagram, play, reset, set, State, Channel, Lent, fresh, fresh_channel}
use Rattle.model.specs.Questions.{opened, opened_unless, set_up, setup_questions, first_no, most_calls, areas_long, held, clock_held, timing_held, one_way_held, own_questions, questions}
use Rattle.model.specs.Step.{ChannelResult, on_side, on_clock, count_header, dispatch, take_datagram, changes, one_call_more, accept, decide, step, run}
use Rattle.model.specs.WholeList.{All, CallBytes}
use Rattle.model.proofs.SizeLaws.{allowed}
use Rattle.model.proofs.ChannelKept.{fresh_channel_kept}
use Rattle.model.proofs.Held.{StateKept, kept_held}
use Rattle.model.proofs.Accepted.{first_yes, accept_keeps}

-- ---- setup

-- the sizes of an accepted setup are allowed, and the areas long enough for them
pub record SetUp (lent : Lent) (setup : Setup) (s : State) : Type 0 where
  pub allowed : sizes_allowed setup.sizes ≡ true
  pub areas : areas_long lent setup.sizes ≡ true
  pub state : s ≡ fresh setup

opened_facts : (lent : Lent) (setup : Setup) (s : State) (o : Option ℕ) → first_no (setup_questions lent setup) ≡ o → opened_unless o setup ≡ opened s → SetUp lent setup s
unfolding opened_unless setup_questions
opened_facts lent setup s (some n) e h = cc
opened_facts lent setup s none e h =
    let one = first_yes _ _ e in
    let two = first_yes _ _ one.1 in
    record { allowed = one.0; areas = two.0; state = cc }

pub set_up_facts : (lent : Lent) (setup : Setup) (s : State) → set_up lent setup ≡ opened s → SetUp lent setup s
unfolding set_up
set_up_facts lent setup s h = opened_facts lent setup s (first_no (setup_questions lent setup)) refl h

fresh_kept : (setup : Setup) → sizes_allowed setup.sizes ≡ true → StateKept (fresh setup)
unfolding fresh clock_held timing_held one_way_held fresh_channel
fresh_kept setup h =
    let a = allowed setup.sizes h in
    record {
      allowed = h;
      channel_a = fresh_channel_kept setup.sizes setup.estimates_a a;
      channel_b = fresh_channel_kept setup.sizes setup.estimates_b a;
      counters_a = omega arith;
      counters_b = omega arith;
      clock = refl;
      incoming = omega arith;
      audio = record { packets = omega arith; dropped = omega arith; late = omega arith };
      waterfall = record { packets = omega arith; dropped = omega arith; late = omega arith };
    }

-- ---- steps

decided_keeps : (lent : Lent) (c : Call) (s : State) (o : Option ℕ) → first_no (questions lent s c) ≡ o → CallBytes c → StateKept s → StateKept (decide o c s).after
unfolding decide questions
decided_keeps lent c s (some n) e b k = k
decided_keeps lent c s none e b k =
    let one = first_yes _ _ e in
    let two = first_yes _ _ one.1 in
    let three = first_yes _ _ two.1 in
    let four = first_yes _ _ three.1 in
    accept_keeps c s b four.1 k

-- every call keeps the state: a refused one leaves it as it was
pub step_keeps : (lent : Lent) (c : Call) (s : State) → CallBytes c → StateKept s → StateKept (step lent c s).after
unfolding step
step_keeps lent c s b k = decided_keeps lent c s (first_no (questions lent s c)) refl b k

pub run_keeps : (lent : Lent) (cs : List Call) (s : State) → All CallBytes cs → StateKept s → StateKept (run lent cs s).after
unfolding run
run_keeps lent [] s b k = k
run_keeps lent (c ∷ cs) s b k = run_keeps lent cs (step lent c s).after b.1 (step_keeps lent c s b.0 k)

pub set_up_kept : (lent : Lent) (setup : Setup) (s : State) → set_up lent setup ≡ opened s → StateKept s
set_up_kept lent setup s h =
    let f = set_up_facts lent setup s h in
    rw f.state (fresh_kept setup f.allowed)

-- after every list of calls from an accepted setup all that `StateKept` says holds: the buffers, the rows and the clock are in their ranges,
-- and each counter, and filled, is at most calls × 4,294,967,295
pub reachable_kept : (lent : Lent) (setup : Setup) (s : State) (cs : List Call) → set_up lent setup ≡ opened s → All CallBytes cs
    → StateKept (run lent cs s).after
reachable_kept lent setup s cs h b = run_keeps lent cs s b (set_up_kept lent setup s h)

-- after every list of calls from an accepted setup the third question is answered yes
pub reachable_can_be_held : (lent : Lent) (setup : Setup) (s : State) (cs : List Call) → set_up lent setup ≡ opened s → All CallBytes cs
    → held (run lent cs s).after ≡ true
reachable_can_be_held lent setup s cs h b =
    kept_held (run lent cs s).after (reachable_kept lent setup s cs h b)

-- ---- while calls are left, the first four questions are answered yes

-- a state in which a call gets past them
pub record Ready (lent : Lent) (s : State) : Type 0 where
  pub kept : StateKept s
  pub areas : areas_long lent s.sizes ≡ true
  pub calls : s.calls < most_calls

pub ready_step : (lent : Lent) (c : Call) (s : State) → Ready lent s → step lent c s ≡ decide (first_no (own_questions s.sizes c)) c s
unfolding step questions first_no
ready_step lent c s r = rw (r.kept.allowed, r.areas, kept_held s r.kept, lt-ltb s.calls most_calls r.calls)

-- ---- sizes stay, and an accepted call is one call more

record Uncounted (s t : State) : Type 0 where
  sizes : t.sizes ≡ s.sizes
  calls : t.calls ≡ s.calls

side_uncounted : (side : Side) (f : Channel → ChannelResult) (s : State) → Uncounted s (on_side side f s).after
unfolding on_side
side_uncounted A f s = record { sizes = refl; calls = refl }
side_uncounted B f s = record { sizes = refl; calls = refl }

dispatch_uncounted : (bytes : List ℕ) (stream : Stream) (s : State) → Uncounted s (dispatch (header_fields bytes) bytes stream s).after
unfolding dispatch
dispatch_uncounted bytes (audio side) s = side_uncounted side _ s
dispatch_uncounted bytes (waterfall side) s = side_uncounted side _ s
dispatch_uncounted bytes other_stream s = record { sizes = refl; calls = refl }

datagram_uncounted : (bytes : List ℕ) (s : State) → Uncounted s (take_datagram bytes s).after
unfolding take_datagram count_header
datagram_uncounted bytes s =
    let m = dispatch_uncounted bytes (stream_in bytes) (count_header (header_fields bytes).sequence (stream_in bytes) s) in
    record { sizes = m.sizes; calls = m.calls }

changes_uncounted : (c : Call) (s : State) → Uncounted s (changes c s).after
unfolding changes on_clock
changes_uncounted (datagram bytes) s = datagram_uncounted bytes s
changes_uncounted (play side n) s = side_uncounted side _ s
changes_uncounted (reset side) s = side_uncounted side _ s
changes_uncounted (set side x) s = side_uncounted side _ s
changes_uncounted _ s = record { sizes = refl; calls = refl }

pub record OneMore (s t : State) : Type 0 where
  pub sizes : t.sizes ≡ s.sizes
  pub calls : t.calls ≡ s.calls + 1

pub accept_one_more : (c : Call) (s : State) → OneMore s (accept c s).after
unfolding accept one_call_more
accept_one_more c s = let m = changes_uncounted c s in record { sizes = m.sizes; calls = ap (λ (n : ℕ). n + 1) m.calls }

pub record AtMostOneMore (s t : State) : Type 0 where
  pub sizes : t.sizes ≡ s.sizes
  pub calls : t.calls ≤ s.calls + 1

decided_at_most : (o : Option ℕ) (c : Call) (s : State) → AtMostOneMore s (decide o c s).after
unfolding decide
decided_at_most (some n) c s = record { sizes = refl; calls = omega arith }
decided_at_most none c s = let m = accept_one_more c s in record { sizes = m.sizes; calls = omega arith }

pub step_at_most : (lent : Lent) (c : Call) (s : State) → AtMostOneMore s (step lent c s).after
unfolding step
step_at_most lent c s = decided_at_most (first_no (questions lent s c)) c s

-- a kept state with calls left for a list
pub record Room (lent : Lent) (left : ℕ) (s : State) : Type 0 where
  pub kept : StateKept s
  pub areas : areas_long lent s.sizes ≡ true
  pub calls : s.calls + left ≤ most_calls

pub room_ready : (lent : Lent) (left : ℕ) (s : State) → Room lent (suc left) s → Ready lent s
room_ready lent left s r = record { kept = r.kept; areas = r.areas; calls = omega (arith, r.calls) }

pub room_step : (lent : Lent) (left : ℕ) (c : Call) (s : State) → CallBytes c → Room lent (suc left) s → Room lent left (step lent c s).after
room_step lent left c s b r =
    let m = step_at_most lent c s in
    record { kept = step_keeps lent c s b r.kept; areas = rw m.sizes r.areas; calls = omega (arith, r.calls, m.calls) }

pub set_up_room : (lent : Lent) (setup : Setup) (s : State) (left : ℕ) → set_up lent setup ≡ opened s → left ≤ most_calls → Room lent left s
unfolding fresh
set_up_room lent setup s left h l =
    let f = set_up_facts lent setup s h in
    rw f.state (record { kept = fresh_kept setup f.allowed; areas = f.areas; calls = omega arith })
