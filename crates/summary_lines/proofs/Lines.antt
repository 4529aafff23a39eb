-- Each answer's line in a summary, and a line from its beginning and its end. Assumes nothing.
use Prim.Native.Nat.{ℕ, ◌+◌, ◌*◌, ◌≤◌, ◌<◌}
use mathlib.Core.Path.{◌≡◌, refl, sym, ap}
use mathlib.Core.List.{List, [], ◌∷◌, ◌++◌, map}
use native.Mathlib.Omega.{arith}
use lib.ListN.{length, set}
use lib.Ieee.{Float}
use borrow.Author.Tests.{le-leb}
use Rattle.std.proofs.Common.{Option, Some, Result, Ok, Err}
use Rattle.model.specs.Framing.{Side}
use Rattle.model.specs.Replay.{decimal, line, refused_line, side_letter}
use Rattle.model.specs.Summary.{play_summary, row_summary, answer_summary}
use Rattle.model.proofs.ListLaws.{placed_length}
use Rattle.calls.specs.declared.PlayedSamples.{PlayedSamples}
use Rattle.calls.specs.Views.{play_words}
use Rattle.text.proofs.FittedLaws.{Fitted, fitted_behind}
use Rattle.model.proofs.PlacedLaws.{none_placed}
use Rattle.lines.specs.Lines.{head, Piece}
use Rattle.lines.proofs.WordLaws.{rest_is_spaced}
use Rattle.lines.proofs.Pieces.{byte_fitted}
use Rattle.receiver_state.specs.declared.Answer.{Answer}
use Rattle.receiver_state.specs.declared.Answer.TheVariants.{Played, Row}
use Rattle.receiver_state.specs.View.{answer_numbered}
use Rattle.playback_parts.specs.Parts.{TextPut}
use Rattle.playback_parts.proofs.Texts.{piece_put}
use Rattle.summary_lines.specs.Summaries.{SummaryPut}

-- ---- a letter, a channel and numbers, to the line's end

module _ (letter : ℕ) (side : Side) (numbers : List ℕ) where
  abbrev pub words : List (List ℕ)
  words = (side_letter side ∷ []) ∷ map decimal numbers

  line_is : line letter words ≡ head letter side numbers ++ (10 ∷ [])
  unfolding line head
  line_is = ap (λ (xs : List ℕ). letter ∷ xs) (rest_is_spaced words)

  module _ {entry exit : List ℕ} {p : Option ℕ} {end : ℕ} (room : 4 + 21 * length numbers ≤ length entry) (piece : Piece (3 + 21 * length numbers) (head letter side numbers) entry exit p) (is : p ≡ Some end) where
    begins : TextPut (head letter side numbers) entry exit end
    begins = piece_put (omega arith) piece is

    few : length (head letter side numbers) ≤ 3 + 21 * length numbers
    few = piece.few (le-leb (3 + 21 * length numbers) (length entry) (omega arith))

    begun_fitted : Fitted (head letter side numbers) 0 entry exit end
    begun_fitted = record { room = omega (arith, few); place = rw begins.length_is (omega arith); target = begins.target }

    exit_length : length exit ≡ length entry
    exit_length = rw begins.target (placed_length 0 (head letter side numbers) entry begun_fitted.room)

    -- the beginning leaves a byte for the line's end
    pub end_inside : end < length exit
    end_inside = rw exit_length (omega (arith, few, begins.length_is))

    pub line_put : TextPut (line letter words) entry (set exit end 10) (end + 1)
    line_put =
        let all = fitted_behind begun_fitted (byte_fitted 10 end exit end_inside) in
        rw line_is (record { length_is = rw all.place (omega arith); target = all.target })

-- ---- each answer

module _ (side : Side) {entry exit : List ℕ} {bytes : ℕ} where
  pub refused_put : (number count : ℕ) → TextPut (refused_line number) entry exit bytes → SummaryPut side (Err number) count entry exit bytes
  unfolding answer_summary
  refused_put number count put = record { text = refused_line number; put = put; line = λ values has. refl }

  pub play_put : (n : PlayedSamples) (count : ℕ) → TextPut (line 80 (words 80 side (play_words n))) entry exit bytes → SummaryPut side (Ok (Played n)) count entry exit bytes
  unfolding answer_summary play_summary
  play_put n count put = record { text = line 80 (words 80 side (play_words n)); put = put; line = λ values has. refl }

  pub row_put : (n count : ℕ) → TextPut (line 87 (words 87 side (count ∷ []))) entry exit bytes → SummaryPut side (Ok (Row n)) count entry exit bytes
  unfolding answer_summary row_summary
  row_put n count put = record { text = line 87 (words 87 side (count ∷ [])); put = put; line = λ values has. rw has }

-- an answer without a line
pub none_put : (side : Side) (count : ℕ) (entry : List ℕ) (a : Result Answer ℕ) → ((values : List Float) → answer_summary side (answer_numbered a values) ≡ [])
    → SummaryPut side a count entry entry 0
none_put side count entry a line = record { text = []; put = record { length_is = refl; target = sym (none_placed 0 entry) }; line = λ values has. line values }
