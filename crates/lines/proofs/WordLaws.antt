-- Words one behind the other. Assumes nothing.
use Prim.Native.Nat.{ℕ, suc, ◌+◌, ◌*◌, ◌<◌, ◌≤◌, ◌^◌}
use mathlib.Core.Path.{◌≡◌, refl, sym, ◌∙◌, ap}
use mathlib.Core.List.{List, [], ◌∷◌, ◌++◌, map, append_assoc, append-nil}
use native.Mathlib.Omega.{arith}
use native.Mathlib.Numerals.{add-one}
use lib.ListN.{length, take, get_or, length-append}
use lib.Seq.{take-suc}
use Rattle.model.specs.Replay.{decimal, signed_decimal, hex_bits, rest, or_dash}
use Rattle.model.specs.Clock as Clock
use Rattle.model.specs.Clock.{reading}
use Rattle.audio_metrics.specs.Views.{known_of, timing_of, delay_of}
use Rattle.audio_metrics.specs.declared.ClockTiming.{ClockTiming}
use Rattle.model.specs.Floats.{to_bits}
use Rattle.model.proofs.Decimal.{decimal_at_most, hex_digits_length}
use Rattle.model.proofs.PlacedLaws.{none_placed}
use lib.IntN.{ℤ, pos, negsuc}
use lib.Ieee.{Float}
use mir.Syntax.{w64}
use mir.Val.{Fits, SFits}
use Rattle.std.proofs.Common.{Option, None, Some, MatchOption, IsSomeAnd}
use Rattle.std.proofs.lemmas.List.{map_push}
use Rattle.text.proofs.FittedLaws.{Fitted, fitted_behind}
use Rattle.lines.specs.Lines.{spaced, word_or_dash}

-- a line's words, and then its end
pub rest_is_spaced : (ws : List (List ℕ)) → rest ws ≡ spaced ws ++ (10 ∷ [])
unfolding rest spaced
rest_is_spaced [] = refl
rest_is_spaced (w ∷ ws) = ap (λ (xs : List ℕ). 32 ∷ w ++ xs) (rest_is_spaced ws) ∙ ap (λ (xs : List ℕ). 32 ∷ xs) (sym (append_assoc w (spaced ws) (10 ∷ [])))

pub spaced_append : (vs ws : List (List ℕ)) → spaced (vs ++ ws) ≡ spaced vs ++ spaced ws
unfolding spaced
spaced_append [] ws = refl
spaced_append (v ∷ vs) ws = ap (λ (xs : List ℕ). 32 ∷ v ++ xs) (spaced_append vs ws) ∙ ap (λ (xs : List ℕ). 32 ∷ xs) (sym (append_assoc v (spaced vs) (spaced ws)))

-- ---- numbers

-- a number of 64 bits has at most 20 digits
pub digits_few : (n : ℕ) → n < 2 ^ 64 → length (decimal n) ≤ 20
digits_few n wide = decimal_at_most 19 n (omega arith)

-- one word more, of a list's element
module _ {A : Type 0} (f : A → List ℕ) (d : A) where
  words_one_more : (xs : List A) (i : ℕ) → i < length xs → spaced (map f (take (i + 1) xs)) ≡ spaced (map f (take i xs)) ++ (32 ∷ f (get_or xs i d))
  unfolding spaced
  words_one_more xs i h =
      rw (add-one, take-suc xs i d) (ap spaced (map_push f (take i xs) (get_or xs i d)) ∙ spaced_append (map f (take i xs)) (f (get_or xs i d) ∷ [])
      ∙ ap (λ (ys : List ℕ). spaced (map f (take i xs)) ++ (32 ∷ ys)) (append-nil (f (get_or xs i d))))

  pub one_word_more : (xs : List A) (i : ℕ) {at next end : ℕ} {first middle last : List ℕ} → i < length xs
      → Fitted (spaced (map f (take i xs))) at first middle next → Fitted (32 ∷ f (get_or xs i d)) next middle last end
      → Fitted (spaced (map f (take (i + 1) xs))) at first last end
  one_word_more xs i h before one = rw (words_one_more xs i h) (fitted_behind before one)

-- numbers of 64 bits take at most 21 bytes each
pub numbers_few : (xs : List ℕ) → ((i : ℕ) → Fits w64 (get_or xs i 0)) → length (spaced (map decimal xs)) ≤ 21 * length xs
unfolding spaced
numbers_few [] wide = omega arith
numbers_few (x ∷ xs) wide =
    omega (arith, digits_few x (wide 0).fits, numbers_few xs (λ i. wide (suc i)), length-append (decimal x) (spaced (map decimal xs)))

-- ---- numbers one behind the other

pub nothing_fitted : (at : ℕ) (xs : List ℕ) → at ≤ length xs → Fitted [] at xs xs at
nothing_fitted at xs inside = record { room = omega arith; place = omega arith; target = sym (none_placed at xs) }

-- ---- values

-- eight digits
pub bits_length : (x : Float) → length (hex_bits x) ≡ 8
unfolding hex_bits
bits_length x = hex_digits_length 8 (to_bits x)

pub values_length : (xs : List Float) → length (spaced (map hex_bits xs)) ≡ 9 * length xs
unfolding spaced
values_length [] = refl
values_length (x ∷ xs) = omega (arith, bits_length x, values_length xs, length-append (hex_bits x) (spaced (map hex_bits xs)))

-- ---- signed numbers

-- a signed number of 64 bits has at most 20 characters
pub signed_few : (z : ℤ) → SFits w64 z → length (signed_decimal z) ≤ 20
unfolding signed_decimal
signed_few (pos n) fits = decimal_at_most 19 n (omega (arith, fits.sfits))
signed_few (negsuc n) fits = omega (arith, decimal_at_most 18 (suc n) (omega (arith, fits.sfits)))

-- ---- words that may be absent

-- a word that is read of what may be absent
pub read_word : {B : Type 0} {P : ClockTiming → B → Type 0} (word : B → List ℕ) (f : ClockTiming → B) (g : Clock.Timing → ℤ)
    → ((t : ClockTiming) → word (f t) ≡ signed_decimal (g (known_of t))) → ((t : ClockTiming) (b : B) → P t b → b ≡ f t)
    → (timing : Option ClockTiming) (read : Option B) → MatchOption timing (read ≡ None) (λ t. IsSomeAnd read (P t))
    → word_or_dash word read ≡ or_dash (reading g (timing_of timing))
unfolding or_dash
read_word word f g same value None read is = rw is
read_word word f g same value (Some t) None is = absurd is
read_word word f g same value (Some t) (Some b) is = rw (value t b is) (same t)

pub delay_word : (one_way : Option ℤ) → word_or_dash signed_decimal one_way ≡ or_dash (delay_of one_way)
unfolding or_dash
delay_word None = refl
delay_word (Some n) = refl
