-- A chain's events and its last state are those of the model's run of its calls. Assumes nothing.
use mathlib.Core.Path.{◌≡◌, refl, ◌∙◌, ap}
use mathlib.Core.List.{List, [], ◌∷◌}
use Prim.Native.Nat.{suc}
use lib.ListN.{length}
use Rattle.model.specs.Receiver.{Call, Answer}
use Rattle.model.specs.Step.{Event, run}
use Rattle.model.specs.WholeList.{All, CallBytes}
use Rattle.model.proofs.Reachable.{step_at_most}
use Rattle.histories.specs.Chains.{Moment, state_at, lent_at, Chain, end, call, calls_of, CalledAt}

pub calls_length : (events : List Event) → length (calls_of events) ≡ length events
unfolding calls_of
calls_length [] = refl
calls_length (e ∷ es) = ap suc (calls_length es)

-- every call of a chain is made of bytes
pub chain_bytes : {start last : Moment} {events : List Event} → Chain start events last → All CallBytes (calls_of events)
unfolding calls_of
chain_bytes end = tt
chain_bytes (call h rest) = (h.bytes, chain_bytes rest)

-- the areas stay as long as they were
link_lent : {c : Call} {a : Answer} (before after : Moment) → CalledAt c before a after → lent_at after ≡ lent_at before
link_lent before after h = rw (h.areas.float_length, h.areas.word_length)

pub chain_lent : {start last : Moment} {events : List Event} → Chain start events last → lent_at last ≡ lent_at start
chain_lent end = refl
chain_lent (call {before} {after} h rest) = chain_lent rest ∙ link_lent before after h

-- the sizes stay
link_sizes : {c : Call} {a : Answer} (before after : Moment) → CalledAt c before a after → (state_at after).sizes ≡ (state_at before).sizes
link_sizes {c} before after h = rw h.steps at (step_at_most (lent_at before) c (state_at before)).sizes

pub chain_sizes : {start last : Moment} {events : List Event} → Chain start events last → (state_at last).sizes ≡ (state_at start).sizes
chain_sizes end = refl
chain_sizes (call {before} {after} h rest) = chain_sizes rest ∙ link_sizes before after h

-- the model's run of the calls, link by link
pub chain_run : {start last : Moment} {events : List Event} → Chain start events last
    → run (lent_at start) (calls_of events) (state_at start) ≡ record { events = events; after = state_at last }
unfolding run calls_of
chain_run end = refl
chain_run (call {before} {after} h rest) =
    let same = rw (link_lent before after h) at (chain_run rest) in
    rw (h.steps, same)
