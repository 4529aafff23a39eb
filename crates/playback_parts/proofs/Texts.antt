-- A text that had room stands at the front. Assumes nothing.
use Prim.Native.Nat.{ℕ, ◌+◌, ◌≤◌}
use mathlib.Core.Path.{◌≡◌, refl}
use mathlib.Core.List.{List}
use native.Mathlib.Omega.{arith}
use lib.ListN.{length, take, drop, length-append}
use lib.Seq.{take_at}
use Rattle.std.proofs.Common.{Option, Some}
use Rattle.model.specs.Bytes.{placed}
use Rattle.lines.specs.Lines.{Piece}
use Rattle.lines.proofs.Pieces.{piece_length, piece_target}
use Rattle.playback_parts.specs.Parts.{TextPut}

pub piece_put : {most : ℕ} {text entry exit : List ℕ} {p : Option ℕ} {n : ℕ} → most ≤ length entry → Piece most text entry exit p → p ≡ Some n → TextPut text entry exit n
piece_put room piece answered = record { length_is = piece_length piece room answered; target = piece_target piece room }

-- what stands at the front is the text, and lies inside
module _ (text entry exit : List ℕ) (n : ℕ) (put : TextPut text entry exit n) where
  pub put_front : take n exit ≡ text
  unfolding placed
  put_front = rw (put.target, put.length_is) (take_at text _ (length text) refl)

  pub put_inside : n ≤ length exit
  unfolding placed
  put_inside = rw (put.target, put.length_is) (rw (length-append text (drop (0 + length text) entry)) (omega arith))
