-- What an export answers, from what the receiver's call promises. Assumes nothing.
use Prim.Native.Nat.{ℕ}
use mathlib.Core.Path.{◌≡◌, refl, sym, ◌∙◌}
use mathlib.Core.Bool.{Bool, true, false}
use mathlib.Core.List.{List}
use Rattle.std.proofs.Common.{Result}
use lib.Seq.{sets}
use lib.Ieee.{Float}
use Rattle.calls.specs.declared.Sizes.{Sizes}
use Rattle.calls.specs.declared.Estimates.{Estimates}
use Rattle.calls.specs.declared.Refusal.{Refusal}
use Rattle.receiver_state.specs.declared.Receiver.{Receiver}
use Rattle.receiver_state.specs.declared.Answered.{Answered}
use Rattle.receiver_state.specs.View.{numbered}
use Rattle.receiver_setup.specs.Promises.{SetupDone}
use Rattle.receiver_words.specs.State.{receiver_at, answer_words, state_left, setup_words, setup_left}
use Rattle.receiver_exports.specs.Exported.{words_there, Promise, Exported, SetupExported}

module _ (state answer : List ℕ) where
  module _ (promise : Promise) where
    pub too_short_law : {kept : Type 0} → kept → {r : Bool} → r ≡ words_there state answer → r ≡ false → Exported promise kept state answer state answer false
    too_short_law k asked told = record { acts = sym told ∙ asked; short = λ e. (refl, refl, k); left = λ e. cc }

    pub acted : {kept : Type 0} {r : Bool} {before : Receiver} (v : Answered) {state' answer' : List ℕ} → r ≡ words_there state answer → r ≡ true
        → before ≡ receiver_at state → promise before v → (state' ≡ state_left v.receiver (numbered v.answer) state) × (answer' ≡ sets answer 0 (answer_words (numbered v.answer)))
        → Exported promise kept state answer state' answer' true
    acted v asked told read promised words =
        record {
          acts = sym told ∙ asked;
          short = λ e. cc;
          left = λ e. record { answered = v; promised = rw read at promised; state_left_law = words.0; answer_left = words.1 };
        }

  module _ (z : Sizes) (a b : Estimates) (fs : List Float) (us : List ℕ) where
    pub setup_too_short : {r : Bool} → r ≡ words_there state answer → r ≡ false → SetupExported z a b fs us us state answer state answer false
    setup_too_short asked told = record { acts = sym told ∙ asked; short = λ e. (refl, refl, refl); left = λ e. cc }

    pub setup_acted : {r : Bool} (s : Result Receiver Refusal) {us' state' answer' : List ℕ} → r ≡ words_there state answer → r ≡ true → SetupDone z a b fs us s us'
        → (state' ≡ setup_left (numbered s) state) × (answer' ≡ sets answer 0 (setup_words (numbered s))) → SetupExported z a b fs us us' state answer state' answer' true
    setup_acted s asked told done words =
        record {
          acts = sym told ∙ asked;
          short = λ e. cc;
          left = λ e. record { set_up_law = s; done = done; state_left_law = words.0; answer_left = words.1 };
        }
