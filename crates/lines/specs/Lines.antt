-- The words of a line, and what a piece of text promises. Assumes nothing.
use Rattle.std.specs.Prelude.{ℕ, ◌*◌, ◌/◌, ◌≤◌, min, ◌≡◌, true, cond, List, [], ◌∷◌, ◌++◌, map, length, take, ℤ, pos, Float, leb, Option, Some, None}
use Rattle.std.proofs.Math.Option as maybe
use Rattle.model.specs.Bytes.{placed}
use Rattle.model.specs.Framing.{Side}
use Rattle.model.specs.Clock as Clock
use Rattle.model.specs.Clock.{reading}
use Rattle.model.specs.Replay.{decimal, hex_bits, line, side_letter, or_dash}

-- words, each after a space
unfoldable pub spaced : List (List ℕ) → List ℕ
spaced [] = []
spaced (w ∷ ws) = 32 ∷ w ++ spaced ws

-- how a line of a play or of a row begins
unfoldable pub head : ℕ → Side → List ℕ → List ℕ
head letter side numbers = letter ∷ spaced ((side_letter side ∷ []) ∷ map decimal numbers)

-- a word, or a dash for one that is absent
abbrev pub word_or_dash : {A : Type 0} → (A → List ℕ) → Option A → List ℕ
word_or_dash word None = 45 ∷ []
word_or_dash word (Some w) = word w

-- the clock's words, with a dash for what is absent
abbrev pub offset_word : maybe.Option Clock.Timing → List ℕ
offset_word t = or_dash (reading (λ k. k.offset) t)

abbrev pub round_trip_word : maybe.Option Clock.Timing → List ℕ
round_trip_word t = or_dash (reading (λ k. pos k.round_trip) t)

unfoldable pub clock_text : maybe.Option Clock.Timing → maybe.Option ℤ → List ℕ
clock_text t delay = line 67 (offset_word t ∷ round_trip_word t ∷ or_dash delay ∷ [])

-- A piece of text at the front of lent bytes: it is written where the most that such a piece can have would fit, and else nothing is.
pub record Piece (most : ℕ) (text : List ℕ) (entry exit : List ℕ) (answer : Option ℕ) : Type 0 where
  pub few : leb most (length entry) ≡ true → length text ≤ most
  pub answered : answer ≡ cond (leb most (length entry)) (Some (length text)) None
  pub target : exit ≡ cond (leb most (length entry)) (placed 0 text entry) entry

-- the bits of so many values stand at the front, each after a space
pub record ValuesWritten (values : List Float) (entry exit : List ℕ) (count : ℕ) : Type 0 where
  pub most : count ≡ min (length values) (length entry / 9)
  pub target : exit ≡ placed 0 (spaced (map hex_bits (take count values))) entry
  pub bytes : length (spaced (map hex_bits (take count values))) ≡ 9 * count
