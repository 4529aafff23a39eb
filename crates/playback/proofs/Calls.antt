-- What becomes of a step at a tape's place, by what stands there. Assumes nothing.
use Prim.Native.Nat.{ℕ}
use mathlib.Core.Path.{◌≡◌, refl, sym, subst}
use mathlib.Core.Bool.{true}
use mathlib.Core.List.{List}
use lib.Ieee.{Float}
use Rattle.std.specs.Prelude.{Some, None, Ok}
use Rattle.model.specs.Bytes.{all}
use Rattle.model.specs.Sizes.{Sizes}
use Rattle.model.specs.Tape as Tape
use Rattle.model.specs.Tape.{call_at}
use Rattle.model.proofs.BytesLaws.{is_byte}
use Rattle.calls.specs.Views.{sizes_of}
use Rattle.receiver_state.specs.declared.Answered.{Answered}
use Rattle.replaying.specs.Acting.{call_found, MadeOf}
use Rattle.playback_parts.specs.declared.Form.{Form}
use Rattle.playback_parts.specs.declared.Doing.{Doing}
use Rattle.playback_parts.specs.declared.Playback.{Playback}
use Rattle.playback.specs.declared.Wrote.{Wrote}
use Rattle.playback_parts.specs.declared.facts.Facts.{Facts}
use Rattle.playback_parts.specs.Facts.{FactsOf}
use Rattle.playback.specs.Steps.{WrittenAs, CallBegun}
use Rattle.playback.proofs.Written.{call_written}

module _ (tape : List ℕ) (w : Playback) (facts : Facts) (doing : w.doing ≡ Doing.Call) where
  pub made_written : (form : Form) (found : Tape.Found) → call_at tape w.place ≡ found → FactsOf (sizes_of w.receiver.sizes) found (Ok (Some facts)) → all is_byte tape ≡ true
      → (fs : List Float) (us : List ℕ) (samples : List Float) (text : List ℕ) (v : Answered) (fs' : List Float) (us' : List ℕ) (samples' : List Float) (text' : List ℕ) (x : Wrote)
      → MadeOf (call_found found) w.receiver fs us samples v fs' us' samples' → CallBegun form v facts fs' text text' x
      → WrittenAs form tape w fs us samples text x fs' us' samples' text'
  made_written form (Tape.found_call c next) is known are fs us samples text v fs' us' samples' text' x made begun =
      subst (λ (d : Doing). WrittenAs form tape (record { receiver = w.receiver; place = w.place; doing = d }) fs us samples text x fs' us' samples' text') (sym doing)
      (call_written c w.receiver fs us samples v fs' us' samples' made next facts known form tape are w.place is text text' x begun)
  made_written form Tape.found_end is known are fs us samples text v fs' us' samples' text' x made begun = absurd made
  made_written form (Tape.found_bad place) is known are fs us samples text v fs' us' samples' text' x made begun = absurd made

-- what has no facts is the end
module _ (z : Sizes) where
  pub end_found : (found : Tape.Found) → FactsOf z found (Ok None) → found ≡ Tape.found_end
  end_found (Tape.found_call c next) known = absurd known
  end_found Tape.found_end known = refl
  end_found (Tape.found_bad place) known = cc
