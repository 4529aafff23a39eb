-- What setup promises. Assumes nothing.
use Rattle.std.specs.Prelude.{ℕ, ◌+◌, ◌*◌, ◌≡◌, Result, Ok, Err, List, length, replicate, Float}
use Rattle.model.specs.Bytes.{placed}
use Rattle.model.specs.Sizes.{most_waiting, word_section}
use Rattle.model.specs.Receiver.{fresh}
use Rattle.model.specs.Questions.{set_up, opened, not_opened}
use Rattle.calls.specs.declared.Sizes.{Sizes}
use Rattle.calls.specs.declared.Estimates.{Estimates}
use Rattle.calls.specs.declared.Refusal.{Refusal}
use Rattle.calls.specs.Views.{sizes_of, model_setup}
use Rattle.calls.specs.Refusals.{refusal_number}
use Rattle.receiver_state.specs.declared.Receiver.{Receiver}
use Rattle.receiver_state.specs.View.{state_of, lent_of}

-- the u32 area with both pictures zeroed: A's, and then B's
abbrev pub pictures_zeroed : Sizes → List ℕ → List ℕ
pictures_zeroed z us =
    placed (word_section (sizes_of z) + most_waiting (sizes_of z)) (replicate (z.width * z.height) 0)
    (placed (most_waiting (sizes_of z)) (replicate (z.width * z.height) 0) us)

-- whatever the areas hold, the view after an accepted setup is the model's fresh receiver; of the u32 area the pictures are written and nothing else
pub record SetupAccepted (z : Sizes) (a b : Estimates) (fs : List Float) (us : List ℕ) (r : Receiver) (us' : List ℕ) : Type 0 where
  pub opens : set_up (lent_of fs us) (model_setup z a b) ≡ opened (state_of r fs us')
  pub is_fresh : state_of r fs us' ≡ fresh (model_setup z a b)
  pub words : us' ≡ pictures_zeroed z us
  pub word_length : length us' ≡ length us

-- a refused setup changes nothing
abbrev pub SetupDone : Sizes → Estimates → Estimates → List Float → List ℕ → Result Receiver Refusal → List ℕ → Type 0
SetupDone z a b fs us (Err why) us' = (set_up (lent_of fs us) (model_setup z a b) ≡ not_opened (refusal_number why)) × (us' ≡ us)
SetupDone z a b fs us (Ok r) us' = SetupAccepted z a b fs us r us'
