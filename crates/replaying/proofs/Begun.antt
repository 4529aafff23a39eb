-- Each answer's line, from its beginning and what is left of it. Assumes nothing.
use Prim.Native.Nat.{ℕ, ◌≤◌}
use mathlib.Core.Path.{◌≡◌, refl, sym}
use mathlib.Core.List.{List, [], ◌++◌, append-nil}
use native.Mathlib.Omega.{arith}
use lib.ListN.{length}
use lib.Ieee.{Float}
use Rattle.std.proofs.Common.{Option, Some, Result, Ok, Err}
use Rattle.model.specs.Framing.{Side}
use Rattle.model.specs.Replay.{refused_line, answer_line}
use Rattle.calls.specs.declared.PlayedSamples.{PlayedSamples}
use Rattle.calls.specs.declared.Refusal.{Refusal}
use Rattle.calls.specs.Views.{play_words, model_played}
use Rattle.model.proofs.PlacedLaws.{none_placed}
use Rattle.lines.specs.Lines.{head, Piece}
use Rattle.lines.proofs.Pieces.{piece_length, piece_target, play_line_pieces, row_line_pieces}
use Rattle.receiver_state.specs.declared.Answer.{Answer}
use Rattle.receiver_state.specs.declared.Answer.TheVariants.{Accepted, Played, NoRow, Row}
use Rattle.receiver_state.specs.View.{numbered, answer_numbered}
use Rattle.replaying.specs.declared.printing.Left.{Left}
use Rattle.replaying.specs.declared.printing.Left.TheVariants.{Nothing, Samples, Values}
use Rattle.replaying.specs.Printing.{left_of, left_behind, LineBegun}

-- a piece that had room
piece_begun : {most written : ℕ} {text entry exit : List ℕ} {p : Option ℕ} (side : Side) (a : Result Answer ℕ) (left : Left) → left ≡ left_behind a → most ≤ length entry → Piece most text entry exit p
    → p ≡ Some written → ((values : List Float) → answer_line side (answer_numbered a values) ≡ text ++ left_of left values)
    → LineBegun side a entry exit (record { written = written; left = left })
piece_begun {most} {written} {text} {entry} side a left left_is room piece answered is =
    record { text = text; written = piece_length piece room answered; target = piece_target piece room; left = left_is; line = is }

module _ (side : Side) {written : ℕ} {entry exit : List ℕ} {p : Option ℕ} (room : 66 ≤ length entry) (answered : p ≡ Some written) where
  pub refused_begun : (number : ℕ) → Piece 23 (refused_line number) entry exit p → LineBegun side (Err number) entry exit (record { written = written; left = Nothing })
  unfolding answer_line
  refused_begun number piece = piece_begun side (Err number) Nothing refl (omega arith) piece answered (λ values. sym (append-nil _))

  pub played_begun : (n : PlayedSamples) → Piece 66 (head 80 side (play_words n)) entry exit p → LineBegun side (Ok (Played n)) entry exit (record { written = written; left = Samples })
  unfolding answer_line
  played_begun n piece = piece_begun side (Ok (Played n)) Samples refl room piece answered (λ values. play_line_pieces side (model_played n values))

  pub row_begun : (n : ℕ) → Piece 3 (head 87 side []) entry exit p → LineBegun side (Ok (Row n)) entry exit (record { written = written; left = Values n })
  unfolding answer_line
  row_begun n piece = piece_begun side (Ok (Row n)) (Values n) refl (omega arith) piece answered (λ values. row_line_pieces side _)

-- what is left is the same whether a refusal is told by its case or by its number
pub left_behind_numbered : (a : Result Answer Refusal) → left_behind (numbered a) ≡ left_behind a
left_behind_numbered (Err why) = refl
left_behind_numbered (Ok (Played n)) = refl
left_behind_numbered (Ok (Row n)) = refl
left_behind_numbered (Ok Accepted) = refl
left_behind_numbered (Ok NoRow) = refl

-- an answer without a line
pub none_begun : (side : Side) (entry : List ℕ) (a : Result Answer ℕ) → left_behind a ≡ Nothing → ((values : List Float) → answer_line side (answer_numbered a values) ≡ [])
    → LineBegun side a entry entry (record { written = 0; left = Nothing })
none_begun side entry a left line = record { text = []; written = refl; target = sym (none_placed 0 entry); left = sym left; line = line }
