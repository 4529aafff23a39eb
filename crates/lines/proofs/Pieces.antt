-- Pieces of text, from parts that fitted one behind the other. Assumes nothing.
use Prim.Native.Nat.{ℕ, ◌+◌, ◌*◌, ◌≤◌, ◌<◌}
use mathlib.Core.Path.{◌≡◌, refl, sym, ◌∙◌, ap}
use mathlib.Core.Option as maybe
use mathlib.Core.List.{List, [], ◌∷◌, ◌++◌, map, append_assoc}
use native.Mathlib.Omega.{arith}
use lib.ListN.{length, take, drop, set, get_or, length-append, take-append-drop}
use lib.IntN.{ℤ}
use lib.Ieee.{Float}
use mir.Syntax.{w64}
use mir.Val.{Fits}
use borrow.Author.Tests.{le-leb}
use Rattle.model.specs.Bytes.{placed}
use Rattle.model.specs.Framing.{Side}
use Rattle.model.specs.JitterBuffer.{Counters, Played}
use Rattle.model.specs.Clock as Clock
use Rattle.model.specs.Replay.{decimal, hex_bits, line, rest, or_dash, side_letter, play_line, row_line, refused_line, bad_tape_line, channel_line, clock_line}
use Rattle.std.proofs.Common.{Option, Some}
use Rattle.std.proofs.lemmas.List.{map-append}
use Rattle.text.proofs.FittedLaws.{Fitted}
use Rattle.text.proofs.WrittenLaws.{byte_placed}
use Rattle.lines.specs.Lines.{spaced, head, offset_word, round_trip_word, clock_text, Piece}
use Rattle.lines.proofs.WordLaws.{rest_is_spaced, spaced_append, numbers_few}

-- ---- a piece

pub written_piece : {most : ℕ} {text entry exit : List ℕ} {next : ℕ} → length text ≤ most → most ≤ length entry → Fitted text 0 entry exit next
    → Piece most text entry exit (Some next)
written_piece {most} {text} {entry} few room f =
    record { few = λ fits. few; answered = rw (le-leb most (length entry) room) (ap Some (rw f.place (omega arith))); target = rw (le-leb most (length entry) room) f.target }

-- with room for the most that it can have, a piece is written
module _ {most : ℕ} {text entry exit : List ℕ} {answer : Option ℕ} (piece : Piece most text entry exit answer) (room : most ≤ length entry) where
  pub piece_answered : answer ≡ Some (length text)
  piece_answered = rw (le-leb most (length entry) room) at piece.answered

  pub piece_length : {n : ℕ} → answer ≡ Some n → n ≡ length text
  piece_length is = let answered = piece_answered in cc

  pub piece_target : exit ≡ placed 0 text entry
  piece_target = rw (le-leb most (length entry) room) at piece.target

-- one byte
pub byte_fitted : (b at : ℕ) (xs : List ℕ) → at < length xs → Fitted (b ∷ []) at xs (set xs at b) (at + 1)
byte_fitted b at xs inside = record { room = omega arith; place = refl; target = byte_placed at b xs inside }

-- ---- a letter and numbers, to the line's end

module _ (letter : ℕ) (numbers : List ℕ) (wide : (i : ℕ) → Fits w64 (get_or numbers i 0)) where
  abbrev text : List ℕ
  text = line letter (map decimal numbers)

  pub text_is : text ≡ (letter ∷ spaced (map decimal numbers)) ++ (10 ∷ [])
  unfolding line
  text_is = ap (λ (xs : List ℕ). letter ∷ xs) (rest_is_spaced (map decimal numbers))

  pub line_few : length text ≤ 2 + 21 * length numbers
  line_few = rw (text_is, length-append) (omega (arith, numbers_few numbers wide))

  -- ---- a letter, a channel and numbers

  module _ (side : Side) where
    pub head_is : head letter side numbers ≡ (letter ∷ 32 ∷ side_letter side ∷ []) ++ spaced (map decimal numbers)
    unfolding head spaced
    head_is = refl

    pub head_few : length (head letter side numbers) ≤ 3 + 21 * length numbers
    head_few = rw head_is (omega (arith, numbers_few numbers wide))

-- ---- the clock

module _ (t : maybe.Option Clock.Timing) (delay : maybe.Option ℤ) where
  pub clock_is : clock_text t delay ≡ ((((67 ∷ []) ++ (32 ∷ offset_word t)) ++ (32 ∷ round_trip_word t)) ++ (32 ∷ or_dash delay)) ++ (10 ∷ [])
  unfolding clock_text line rest
  clock_is = simp append_assoc

-- ---- the model's lines, from their pieces

-- a play: its head, its samples, and the end of the line
pub play_line_pieces : (side : Side) (p : Played Float)
    → play_line side p ≡ head 80 side (p.taken ∷ p.dropped ∷ p.short ∷ []) ++ (spaced (map hex_bits p.samples) ++ (10 ∷ []))
unfolding play_line line head spaced rest
play_line_pieces side p = simp (rest_is_spaced, append_assoc)

-- a row: its head, its values, and the end of the line
pub row_line_pieces : (side : Side) (values : List Float) → row_line side values ≡ head 87 side [] ++ (spaced (map hex_bits values) ++ (10 ∷ []))
unfolding row_line line head spaced rest
row_line_pieces side values = simp (rest_is_spaced, append_assoc)

-- values go on where those before them ended
pub values_go_on : (k : ℕ) (xs : List Float) → spaced (map hex_bits xs) ≡ spaced (map hex_bits (take k xs)) ++ spaced (map hex_bits (drop k xs))
values_go_on k xs =
    ap (λ (ys : List Float). spaced (map hex_bits ys)) (sym (take-append-drop k xs)) ∙ ap spaced (map-append hex_bits (take k xs) (drop k xs)) ∙ spaced_append _ _

-- refusals
pub refused_line_is : (n : ℕ) → refused_line n ≡ line 88 (map decimal (n ∷ []))
unfolding refused_line
refused_line_is n = refl

pub bad_tape_line_is : (place : ℕ) → bad_tape_line place ≡ line 88 (map decimal (11 ∷ place ∷ []))
unfolding bad_tape_line
bad_tape_line_is place = refl

-- the closing lines
pub channel_line_is : (side : Side) (k : Counters)
    → channel_line side k
    ≡ line (side_letter side) (map decimal (k.received ∷ k.inserted ∷ k.concealed ∷ k.late ∷ k.overflow ∷ k.invalid_size ∷ k.resyncs ∷ k.filled ∷ []))
unfolding channel_line
channel_line_is side k = refl

pub clock_line_is : (k : Clock.Clock) → clock_line k ≡ clock_text k.timing k.one_way
unfolding clock_line clock_text
clock_line_is k = refl
