-- The lines without the model: a second receiver of the same setup that gets one line's calls only gives that line's answers and ends in its state.
-- Its areas may be longer or shorter, and may hold anything else in their free places. Assumes nothing.
use mathlib.Core.Path.{◌≡◌, refl, sym, ◌∙◌, ap}
use mathlib.Core.List.{List, [], ◌∷◌}
use Prim.Native.Nat.{ℕ, suc, ◌≤◌}
use native.Mathlib.Omega.{arith}
use lib.ListN.{length}
use Rattle.model.specs.Receiver.{Call, State, Lent, Setup, fresh}
use Rattle.model.specs.Questions.{most_calls, set_up, opened}
use Rattle.model.specs.Step.{Event, step, run}
use Rattle.model.specs.Lines.{Line, line_of, is_of, only_calls}
use Rattle.model.specs.WholeList.{All, CallBytes}
use Rattle.model.proofs.BoolLaws.{cond_keeps}
use Rattle.model.proofs.Reachable.{Room, ready_step, room_ready, room_step, set_up_facts, set_up_room}
use Rattle.calls.specs.declared.Sizes.{Sizes}
use Rattle.calls.specs.declared.Estimates.{Estimates}
use Rattle.calls.specs.Views.{model_setup}
use Rattle.histories.specs.Chains.{Moment, state_at, lent_at, LeftBySetup, Chain, calls_of}
use Rattle.histories.specs.Histories.{LineAgrees}
use Rattle.histories.proofs.Runs.{calls_length, chain_bytes, chain_run}
use Rattle.histories.proofs.WholeList.{left_opened, whole_list}

-- areas that are long enough are all the same to a call
same_step : (one other : Lent) (left : ℕ) (c : Call) (s : State) → Room one (suc left) s → Room other (suc left) s → step one c s ≡ step other c s
same_step one other left c s r q = ready_step one c s (room_ready one left s r) ∙ sym (ready_step other c s (room_ready other left s q))

room_after : (one other : Lent) (left : ℕ) (c : Call) (s : State) → CallBytes c → Room one (suc left) s → Room other (suc left) s
    → Room one left (step other c s).after
room_after one other left c s bytes r q = rw (← same_step one other left c s r q) (room_step one left c s bytes r)

-- and to a list of calls
any_areas : (one other : Lent) (cs : List Call) (s : State) → All CallBytes cs → Room one (length cs) s → Room other (length cs) s → run one cs s ≡ run other cs s
unfolding run
any_areas one other [] s bytes r q = refl
any_areas one other (c ∷ cs) s bytes r q =
    rw (
      same_step one other (length cs) c s r q,
      any_areas one other cs (step other c s).after bytes.1 (room_after one other (length cs) c s bytes.0 r q) (room_step other (length cs) c s bytes.0 q),
    )

-- a line has no more calls than the list
few_of_line : (l : Line) (cs : List Call) → length (only_calls l cs) ≤ length cs
unfolding only_calls
few_of_line l [] = omega arith
few_of_line l (c ∷ cs) =
    let rest = few_of_line l cs in
    cond_keeps (λ (ds : List Call). length ds ≤ suc (length cs)) (is_of l (line_of c)) (c ∷ only_calls l cs) (only_calls l cs) (λ yes'. omega arith) (λ no'. omega arith)

-- one line's calls, over other areas, from the same fresh receiver
alone_run_law : (one other : Lent) (setup : Setup) (start : State) (cs : List Call) → set_up one setup ≡ opened (fresh setup) → set_up other setup ≡ opened start
    → length cs ≤ most_calls → All CallBytes cs → run one cs (fresh setup) ≡ run other cs start
alone_run_law one other setup start cs here there few bytes =
    let is_fresh = (set_up_facts other setup start there).state in
    rw is_fresh
    (any_areas one other cs (fresh setup) bytes (set_up_room one setup (fresh setup) (length cs) here few)
    (rw is_fresh at (set_up_room other setup start (length cs) there few)))

-- the setup of a chain leaves the model's fresh receiver
opens_fresh : (lent : Lent) (setup : Setup) (s : State) → set_up lent setup ≡ opened s → set_up lent setup ≡ opened (fresh setup)
opens_fresh lent setup s h = h ∙ ap opened (set_up_facts lent setup s h).state

-- A chain of all calls and, from an accepted setup of the same sizes and estimates, a chain of one line's calls alone: they agree on that line.
pub line_alone : (z : Sizes) (a b : Estimates) (l : Line) (words : List ℕ) (start : Moment) (events : List Event) (last : Moment)
    → LeftBySetup z a b words start → Chain start events last → length events ≤ most_calls
    → (wordsAlone : List ℕ) (startAlone : Moment) (alone : List Event) (lastAlone : Moment) → LeftBySetup z a b wordsAlone startAlone
    → Chain startAlone alone lastAlone → calls_of alone ≡ only_calls l (calls_of events) → LineAgrees l events last alone lastAlone
line_alone z a b l words start events last done chain few wordsAlone startAlone alone lastAlone doneAlone chainAlone only =
    let setup = model_setup z a b in
    let here = opens_fresh (lent_at start) setup (state_at start) (left_opened z a b words start done) in
    let short : length (calls_of alone) ≤ most_calls = rw only (omega (arith, few_of_line l (calls_of events), calls_length events, few)) in
    let same =
    alone_run_law (lent_at start) (lent_at startAlone) setup (state_at startAlone) (calls_of alone) here (left_opened z a b wordsAlone startAlone doneAlone) short
    (chain_bytes chainAlone)
    ∙ chain_run chainAlone in
    let line = (whole_list z a b words start events last done chain few).lines l in
    record { answers = rw (← only, same) at line.answers; state = rw (← only, same) at line.state }
