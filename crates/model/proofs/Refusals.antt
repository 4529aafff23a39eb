-- A refused call leaves the state as it was, and its number is that of the first question that is answered with no;
-- a call that none refuses is accepted. In a list of at most 4,294,967,295 calls none is refused with 1 to 4. Assumes nothing.
use mathlib.Core.Path.{◌≡◌, refl, ap}
use mathlib.Core.Bool.{true, false}
use mathlib.Core.Option.{Option, none, some}
use mathlib.Core.List.{List, [], ◌∷◌, ◌++◌}
use Prim.Native.Nat.{ℕ, ◌≤◌}
use native.Mathlib.Omega.{arith}
use lib.ListN.{length}
use lib.Ieee.{Float}
use Rattle.model.specs.Sizes.{Sizes}
use Rattle.model.specs.Framing.{header_fields, Side, A, B, Stream, audio, waterfall, other_stream, stream_in}
use Rattle.model.specs.Row.{Row}
use Rattle.model.specs.Receiver.{Setup, Call, datagram, play, reset, set, one_way, State, Channel, Lent, refused, is_accepted}
use Rattle.model.specs.Questions.{Question, opened, not_opened, opened_unless, set_up, setup_questions, first_no, most_calls, own_questions, questions}
use Rattle.model.specs.Step.{ChannelResult, play_channel, reset_channel, set_channel, audio_into, chunk_result, waterfall_into, on_side, on_clock, dispatch, take_datagram, changes, accept, decide, step, Event, run}
use Rattle.model.specs.WholeList.{All, CallBytes}
use Rattle.model.proofs.BoolLaws.{by_test}
use Rattle.model.proofs.Reachable.{Ready, ready_step, Room, room_ready, room_step, set_up_room}

-- ---- the first "no"

-- n is the number of a question that is answered with no, and all before it with yes
pub record FirstNo (questions : List Question) (n : ℕ) : Type 0 where
  pub before : List Question
  pub refusing : Question
  pub behind : List Question
  pub split : questions ≡ before ++ refusing ∷ behind
  pub all_yes : All (λ q. q.yes ≡ true) before
  pub answered_no : refusing.yes ≡ false
  pub number : refusing.number ≡ n

another_yes : (q : Question) (qs : List Question) (n : ℕ) → q.yes ≡ true → FirstNo qs n → FirstNo (q ∷ qs) n
another_yes q qs n y f =
    record {
      before = q ∷ f.before;
      refusing = f.refusing;
      behind = f.behind;
      split = ap (λ (rest : List Question). q ∷ rest) f.split;
      all_yes = (y, f.all_yes);
      answered_no = f.answered_no;
      number = f.number;
    }

pub first_no_is_first : (qs : List Question) (n : ℕ) → first_no qs ≡ some n → FirstNo qs n
unfolding first_no
first_no_is_first [] n h = cc
first_no_is_first (q ∷ qs) n h =
    by_test q.yes
    (λ y. another_yes q qs n y (first_no_is_first qs n (rw y at h)))
    (λ y. let e : some q.number ≡ some n = rw y at h in
    record { before = []; refusing = q; behind = qs; split = refl; all_yes = tt; answered_no = y; number = cc })

-- ---- an accepted call is not refused

side_accepted : (side : Side) (f : Channel → ChannelResult) (s : State) → ((c : Channel) → is_accepted (f c).answer ≡ true) → is_accepted (on_side side f s).answer ≡ true
unfolding on_side
side_accepted A f s h = h s.channel_a
side_accepted B f s h = h s.channel_b

chunk_accepted : (z : Sizes) (c : Channel) (kept : Option Row) (completed : Option (List Float)) → is_accepted (chunk_result z c kept completed).answer ≡ true
unfolding chunk_result is_accepted
chunk_accepted z c kept none = refl
chunk_accepted z c kept (some values) = refl

dispatch_accepted : (bytes : List ℕ) (stream : Stream) (s : State) → is_accepted (dispatch (header_fields bytes) bytes stream s).answer ≡ true
unfolding dispatch audio_into waterfall_into is_accepted
dispatch_accepted bytes (audio side) s = side_accepted side _ s (λ c. refl)
dispatch_accepted bytes (waterfall side) s = side_accepted side _ s (λ c. chunk_accepted _ c _ _)
dispatch_accepted bytes other_stream s = refl

pub accept_accepted : (c : Call) (s : State) → is_accepted (accept c s).answer ≡ true
unfolding accept changes take_datagram play_channel reset_channel set_channel on_clock is_accepted
accept_accepted (datagram bytes) s = dispatch_accepted bytes (stream_in bytes) _
accept_accepted (play side n) s = side_accepted side _ s (λ c. refl)
accept_accepted (reset side) s = side_accepted side _ s (λ c. refl)
accept_accepted (set side x) s = side_accepted side _ s (λ c. refl)
accept_accepted _ s = refl

-- ---- refusals

-- what a refusal says and leaves
pub record Refusal (lent : Lent) (c : Call) (s : State) (n : ℕ) : Type 0 where
  pub unchanged : (step lent c s).after ≡ s
  pub first : FirstNo (questions lent s c) n

decided_refused : (o : Option ℕ) (c : Call) (s : State) (n : ℕ) → (decide o c s).answer ≡ refused n → (o ≡ some n) × ((decide o c s).after ≡ s)
unfolding decide is_accepted
decided_refused (some k) c s n h = (cc, refl)
decided_refused none c s n h =
    let y : is_accepted (refused n) ≡ true = rw h at (accept_accepted c s) in
    cc

-- each refusal is the first fitting one, and leaves the state as it was
pub refusal_is_first : (lent : Lent) (c : Call) (s : State) (n : ℕ) → (step lent c s).answer ≡ refused n → Refusal lent c s n
unfolding step
refusal_is_first lent c s n h =
    let d = decided_refused (first_no (questions lent s c)) c s n h in
    record { unchanged = d.1; first = first_no_is_first (questions lent s c) n d.0 }

-- a call that every question lets through is accepted
pub no_refusal_accepts : (lent : Lent) (c : Call) (s : State) → first_no (questions lent s c) ≡ none → step lent c s ≡ accept c s
unfolding step decide
no_refusal_accepts lent c s h = rw h

-- setup likewise
not_opened_law : (o : Option ℕ) (setup : Setup) (n : ℕ) → opened_unless o setup ≡ not_opened n → o ≡ some n
unfolding opened_unless
not_opened_law (some k) setup n h = cc
not_opened_law none setup n h = cc

pub setup_refusal_is_first : (lent : Lent) (setup : Setup) (n : ℕ) → set_up lent setup ≡ not_opened n → FirstNo (setup_questions lent setup) n
unfolding set_up
setup_refusal_is_first lent setup n h =
    first_no_is_first (setup_questions lent setup) n (not_opened_law (first_no (setup_questions lent setup)) setup n h)

-- ---- no call of a list is refused with 1 to 4

number_from : (k : ℕ) (qs : List Question) (n : ℕ) → All (λ q. k ≤ q.number) qs → first_no qs ≡ some n → k ≤ n
unfolding first_no
number_from k [] n a h = cc
number_from k (q ∷ qs) n a h =
    by_test q.yes
    (λ y. number_from k qs n a.1 (rw y at h))
    (λ y. let e : some q.number ≡ some n = rw y at h in
    let same : q.number ≡ n = cc in
    omega (arith, a.0))

own_numbers : (z : Sizes) (c : Call) → All (λ q. 5 ≤ q.number) (own_questions z c)
unfolding own_questions
own_numbers z (datagram bytes) = (omega arith, (omega arith, (omega arith, tt)))
own_numbers z (reset side) = tt
own_numbers z (one_way receive send) = tt
own_numbers z _ = (omega arith, tt)

-- a refusal comes from the call's own questions
abbrev pub RefusedByOwn : Event → Type 0
RefusedByOwn e = (n : ℕ) → e.answer ≡ refused n → 5 ≤ n

ready_refusal : (lent : Lent) (c : Call) (s : State) (n : ℕ) → Ready lent s → (step lent c s).answer ≡ refused n → 5 ≤ n
ready_refusal lent c s n r h =
    let d = decided_refused (first_no (own_questions s.sizes c)) c s n (rw (ready_step lent c s r) at h) in
    number_from 5 (own_questions s.sizes c) n (own_numbers s.sizes c) d.0

run_refusals : (lent : Lent) (cs : List Call) (s : State) → All CallBytes cs → Room lent (length cs) s → All RefusedByOwn (run lent cs s).events
unfolding run
run_refusals lent [] s b r = tt
run_refusals lent (c ∷ cs) s b r = (
  (λ n h. ready_refusal lent c s n (room_ready lent (length cs) s r) h),
  run_refusals lent cs (step lent c s).after b.1 (room_step lent (length cs) c s b.0 r),
)

-- from an accepted setup, no call of a list of at most 4,294,967,295 is refused with 1, 2, 3 or 4
pub never_refused_early : (lent : Lent) (setup : Setup) (start : State) (calls : List Call) → set_up lent setup ≡ opened start → length calls ≤ most_calls
    → All CallBytes calls → All RefusedByOwn (run lent calls start).events
never_refused_early lent setup start calls h few bytes =
    run_refusals lent calls start bytes (set_up_room lent setup start (length calls) h few)
