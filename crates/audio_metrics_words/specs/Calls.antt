-- What a call of the clock over its words needs of the closure that makes it, and what it leaves. Assumes nothing.
use Rattle.std.specs.Prelude.{◌≡◌, ℕ, Bool, true, false, List}
use Rattle.model.specs.Questions.{clock_held}
use Rattle.audio_metrics.specs.declared.AudioMetrics.{AudioMetrics}
use Rattle.audio_metrics.specs.Views.{clock_of}
use Rattle.audio_metrics_words.specs.Words.{clock_in, clock_words, acts}

-- the closure may be called with the clock in the words, where it could be held and the call's numbers are allowed
abbrev pub Callable : {F : Type 0} → (F → AudioMetrics → Type 0) → F → Bool → List ℕ → Type 0
Callable pre f allowed w = (m : AudioMetrics) → clock_of m ≡ clock_in w → clock_held (clock_of m) ≡ true → allowed ≡ true → pre f m

-- the words after a call that acts: those of the closure's answer
pub record Left {F : Type 0} (post : F → AudioMetrics → AudioMetrics → Type 0) (f : F) (entry exit : List ℕ) : Type 0 where
  pub before : AudioMetrics
  pub after : AudioMetrics
  pub is : clock_of before ≡ clock_in entry
  pub by_call : post f before after
  pub words : exit ≡ clock_words (clock_of after)

-- whether a call acts, and the words after it: unchanged where it does not act
pub record RecordedBy {F : Type 0} (post : F → AudioMetrics → AudioMetrics → Type 0) (f : F) (allowed : Bool) (entry exit : List ℕ) (r : Bool) : Type 0 where
  pub value : r ≡ acts allowed entry
  pub acted : acts allowed entry ≡ true → Left post f entry exit
  pub unchanged : acts allowed entry ≡ false → exit ≡ entry
