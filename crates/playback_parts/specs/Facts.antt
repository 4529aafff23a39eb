-- What is known of a call before it is made. Assumes nothing.
use Rattle.std.specs.Prelude.{ℕ, ◌≡◌, true, Option, Some, None, Result, Ok, Err}
use Rattle.model.specs.Sizes as Sizing
use Rattle.model.specs.Sizes.{sizes_allowed}
use Rattle.model.specs.Framing.{Stream, stream_in}
use Rattle.model.specs.Receiver as Model
use Rattle.model.specs.Receiver.{Call}
use Rattle.model.specs.Tape as Tape
use Rattle.model.specs.Replay.{stream_side, side_of}
use Rattle.calls.specs.Views.{model_side}
use Rattle.tape.specs.declared.BadWord.{BadWord}
use Rattle.tape.specs.Answers.{bad_at}
use Rattle.receiver_state.specs.View.{stream_place}
use Rattle.replaying.specs.Acting.{samples_asked}
use Rattle.playback_parts.specs.declared.facts.Facts.{Facts}
use Rattle.playback_parts.specs.declared.facts.StreamFacts.{StreamFacts}

-- where the values of a row stand that a call completes
abbrev pub place_of : Sizing.Sizes → Call → ℕ
place_of z (Model.datagram bytes) = stream_place z (stream_in bytes)
place_of z _ = 0

-- sizes that question 1 refuses have no places
pub record StreamFound (z : Sizing.Sizes) (s : Stream) (v : StreamFacts) : Type 0 where
  pub side : model_side v.side ≡ stream_side s
  pub row : sizes_allowed z ≡ true → v.row ≡ stream_place z s

pub record CallFacts (z : Sizing.Sizes) (c : Call) (next : ℕ) (v : Facts) : Type 0 where
  pub side : model_side v.side ≡ side_of c
  pub next_place : v.next ≡ next
  pub samples : v.samples ≡ samples_asked c
  pub row : sizes_allowed z ≡ true → v.row ≡ place_of z c

-- of a call its facts, and of no other what could be taken for them
abbrev pub FactsOf : Sizing.Sizes → Tape.Found → Result (Option Facts) BadWord → Type 0
FactsOf z (Tape.found_call c next) (Ok (Some v)) = CallFacts z c next v
FactsOf z (Tape.found_call c next) (Ok None) = ⊥
FactsOf z (Tape.found_call c next) (Err bad) = ⊥
FactsOf z Tape.found_end r = r ≡ Ok None
FactsOf z (Tape.found_bad place) r = r ≡ Err (bad_at place)
