-- Whether a call over words acts: where the clock could be held and its numbers are allowed. Assumes nothing.
use mathlib.Core.Path.{◌≡◌, refl, sym, ap, ◌∙◌}
use mathlib.Core.Bool.{Bool, true, false}
use mathlib.Core.List.{List}
use Prim.Native.Nat.{ℕ}
use Rattle.model.specs.Clock.{Clock}
use Rattle.model.specs.Questions.{clock_held}
use Rattle.model.proofs.BoolLaws.{by_test}
use Rattle.audio_metrics.specs.declared.AudioMetrics.{AudioMetrics}
use Rattle.audio_metrics.specs.Views.{clock_of}
use Rattle.audio_metrics_words.specs.Words.{clock_in, clock_words, acts, words_after}
use Rattle.audio_metrics_words.specs.Calls.{RecordedBy}

module _ (allowed : Bool) (w : List ℕ) where
  pub acting : true ≡ clock_held (clock_in w) → allowed ≡ true → acts allowed w ≡ true
  unfolding acts
  acting h a = rw (← h, a)

  pub not_held : false ≡ clock_held (clock_in w) → acts allowed w ≡ false
  unfolding acts
  not_held h = rw (← h)

  pub not_allowed : true ≡ clock_held (clock_in w) → allowed ≡ false → acts allowed w ≡ false
  unfolding acts
  not_allowed h a = rw (← h, a)

-- a call that does not act leaves the words
pub refused_so : {F : Type 0} (post : F → AudioMetrics → AudioMetrics → Type 0) (f : F) (allowed : Bool) (w : List ℕ) → acts allowed w ≡ false
    → RecordedBy post f allowed w w false
refused_so post f allowed w e = record { value = sym e; acted = λ t. cc; unchanged = λ t. refl }

-- a call whose closure does to the clock what the model does leaves the model's words
module _ {F : Type 0} {post : F → AudioMetrics → AudioMetrics → Type 0} {f : F} {allowed : Bool} {entry exit : List ℕ} {r : Bool} where
  pub recorded_words : RecordedBy post f allowed entry exit r → (does : Clock → Clock)
      → ((m n : AudioMetrics) → clock_of m ≡ clock_in entry → post f m n → clock_of n ≡ does (clock_in entry))
      → exit ≡ words_after allowed does entry
  unfolding words_after
  recorded_words by does means =
      by_test (acts allowed entry)
      (λ t. let left = by.acted t in rw t (left.words ∙ ap clock_words (means left.before left.after left.is left.by_call)))
      (λ t. rw t (by.unchanged t))
