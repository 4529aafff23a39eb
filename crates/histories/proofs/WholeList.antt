-- The claim on every list of calls: it is the model's claim on the list of a chain's calls, read through the view. Assumes nothing.
use mathlib.Core.Path.{◌≡◌, ◌∙◌, ap}
use mathlib.Core.List.{List}
use Prim.Native.Nat.{ℕ, ◌≤◌}
use lib.ListN.{length}
use Rattle.model.specs.Receiver.{Setup, State, fresh}
use Rattle.model.specs.Questions.{most_calls, set_up, opened}
use Rattle.model.specs.Step.{Event}
use Rattle.model.proofs.Reachable.{set_up_facts}
use Rattle.model.proofs.Refusals.{never_refused_early}
use Rattle.model.proofs.WholeList as Laws
use Rattle.calls.specs.declared.Sizes.{Sizes}
use Rattle.calls.specs.declared.Estimates.{Estimates}
use Rattle.calls.specs.Views.{model_side, model_setup}
use Rattle.histories.specs.Chains.{Moment, state_at, lent_at, LeftBySetup, Chain, calls_of}
use Rattle.histories.specs.Histories.{Histories}
use Rattle.histories.proofs.Runs.{calls_length, chain_bytes, chain_lent, chain_sizes, chain_run}
use Rattle.histories.proofs.Fields.{channel_adds}

-- a receiver that is set up has the setup's sizes
fresh_sizes : (setup : Setup) (s : State) → s ≡ fresh setup → s.sizes ≡ setup.sizes
unfolding fresh
fresh_sizes setup s e = ap (λ (t : State). t.sizes) e

-- the setup is the model's, over areas of the lengths that it left
pub left_opened : (z : Sizes) (a b : Estimates) (words : List ℕ) (m : Moment) → LeftBySetup z a b words m
    → set_up (lent_at m) (model_setup z a b) ≡ opened (state_at m)
left_opened z a b words m done = rw done.word_length done.opens

-- For every accepted setup, and every chain of at most 4,294,967,295 calls from the receiver and the areas that it left, refused calls and those
-- of no line included.
pub whole_list : (z : Sizes) (a b : Estimates) (words : List ℕ) (start : Moment) (events : List Event) (last : Moment) → LeftBySetup z a b words start
    → Chain start events last → length events ≤ most_calls → Histories z a b start events last
whole_list z a b words start events last done chain few =
    let setup = model_setup z a b in
    let is-opened = left_opened z a b words start done in
    let facts = set_up_facts (lent_at start) setup (state_at start) is-opened in
    let sizes = fresh_sizes setup (state_at start) facts.state in
    let ran = chain_run chain in
    let bytes = chain_bytes chain in
    let short = rw (← calls_length events) at few in
    let whole = Laws.whole_list (lent_at start) setup (state_at start) (calls_of events) is-opened short bytes in
    record {
      lines = λ l.
          record {
            answers = rw (ran, facts.state) at (whole.lines l).answers;
            state = rw (ran, facts.state) at (whole.lines l).state;
          };
      channels = λ side.
          channel_adds z side events last (chain_sizes chain ∙ sizes) (rw (chain_lent chain) facts.areas)
          (rw (ran, sizes) at (whole.channels (model_side side)));
      refusals = rw ran at (never_refused_early (lent_at start) setup (state_at start) (calls_of events) is-opened short bytes);
    }
