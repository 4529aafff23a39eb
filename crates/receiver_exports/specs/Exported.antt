-- What the exports promise: the receiver's own promise of the call, at the receiver that the words are, and the words of what it leaves. Assumes nothing.
use Rattle.std.specs.Prelude.{ℕ, ◌≡◌, Bool, true, false, ◌&&◌, List, [], length, leb, Result, Float}
use Rattle.std.proofs.lemmas.List.Edits.{sets}
use Rattle.model.specs.Receiver.{Call}
use Rattle.calls.specs.declared.Side.{Side}
use Rattle.calls.specs.declared.Sizes.{Sizes}
use Rattle.calls.specs.declared.Estimates.{Estimates}
use Rattle.calls.specs.declared.Refusal.{Refusal}
use Rattle.receiver_state.specs.declared.Receiver.{Receiver}
use Rattle.receiver_state.specs.declared.Answered.{Answered}
use Rattle.receiver_state.specs.View.{answer_of, numbered}
use Rattle.receiver_state.specs.Promises.{Called}
use Rattle.receiver.specs.Promises.{PlayedOut}
use Rattle.receiver_datagrams.specs.Promises.{DatagramTaken}
use Rattle.receiver_setup.specs.Promises.{SetupDone}
use Rattle.receiver_words.specs.State.{receiver_at, answer_words, state_left, setup_words, setup_left}

-- a state has 90 words, and an answer four
unfoldable pub words_there : List ℕ → List ℕ → Bool
words_there state answer = leb 90 (length state) && leb 4 (length answer)

-- ---- calls

-- what a call promises of a receiver and of what it leaves and answers
abbrev pub Promise : Type 1
Promise = Receiver → Answered → Type 0

-- a call that leaves both areas as they are
abbrev pub Calls : Call → List Float → List ℕ → Promise
Calls c fs us r v = Called c r fs us (answer_of v.answer []) v.receiver fs us

abbrev pub Plays : Side → List Float → List ℕ → List Float → List Float → List ℕ → List Float → Promise
Plays side fs us out fs' us' out' r v = PlayedOut side r fs us out v fs' us' out'

abbrev pub Takes : List ℕ → List Float → List ℕ → List Float → List ℕ → Promise
Takes bytes fs us fs' us' r v = DatagramTaken r fs us bytes v fs' us'

-- what a call leaves and answers stands in the words
pub record Left (promise : Promise) (state answer state' answer' : List ℕ) : Type 0 where
  pub answered : Answered
  pub promised : promise (receiver_at state) answered
  pub state_left_law : state' ≡ state_left answered.receiver (numbered answered.answer) state
  pub answer_left : answer' ≡ sets answer 0 (answer_words (numbered answered.answer))

-- a call acts exactly where its words are there; where they are not, no word changes, nor what else was lent
pub record Exported (promise : Promise) (kept : Type 0) (state answer state' answer' : List ℕ) (r : Bool) : Type 0 where
  pub acts : r ≡ words_there state answer
  pub short : r ≡ false → (state' ≡ state) × (answer' ≡ answer) × kept
  pub left : r ≡ true → Left promise state answer state' answer'

-- the areas of a call that writes none
abbrev pub NoneWritten : Type 0
NoneWritten = Unit {0}

-- ---- setup

pub record SetupLeft (z : Sizes) (a b : Estimates) (fs : List Float) (us us' state answer state' answer' : List ℕ) : Type 0 where
  pub set_up_law : Result Receiver Refusal
  pub done : SetupDone z a b fs us set_up_law us'
  pub state_left_law : state' ≡ setup_left (numbered set_up_law) state
  pub answer_left : answer' ≡ sets answer 0 (setup_words (numbered set_up_law))

pub record SetupExported (z : Sizes) (a b : Estimates) (fs : List Float) (us us' state answer state' answer' : List ℕ) (r : Bool) : Type 0 where
  pub acts : r ≡ words_there state answer
  pub short : r ≡ false → (state' ≡ state) × (answer' ≡ answer) × (us' ≡ us)
  pub left : r ≡ true → SetupLeft z a b fs us us' state answer state' answer'
