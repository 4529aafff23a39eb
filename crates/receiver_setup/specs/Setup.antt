-- What setup asks. Assumes nothing.
use Rattle.std.specs.Prelude.{ℕ, ◌≤◌, ◌≡◌, Result, Ok, List, length, Float}
use Rattle.model.specs.Sizes.{word_area}
use Rattle.model.specs.Questions.{first_no, setup_questions}
use Rattle.calls.specs.declared.Sizes.{Sizes}
use Rattle.calls.specs.declared.Estimates.{Estimates}
use Rattle.calls.specs.declared.Refusal.{Refusal}
use Rattle.calls.specs.Views.{sizes_of, model_setup}
use Rattle.receiver_state.specs.View.{lent_of}
use Rattle.receiver_state.specs.Promises.{verdict_of}

-- questions 1, 2 and 5, in their order; where each is answered with yes, the u32 area is long enough
pub record SetupAsked (z : Sizes) (a b : Estimates) (fs : List Float) (us : List ℕ) (v : Result (Unit {0}) Refusal) : Type 0 where
  pub asked : verdict_of v ≡ first_no (setup_questions (lent_of fs us) (model_setup z a b))
  pub ready : v ≡ Ok tt → word_area (sizes_of z) ≤ length us
