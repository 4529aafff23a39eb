-- Bytes written into a target, from the last to the first or the first before the others. Assumes nothing.
use Rattle.std.proofs.Common.{◌≡◌, ℕ, suc, ◌+◌, ◌<◌, ◌≤◌, true, leb, List, [], ◌∷◌, ◌++◌, length, set, ap, ◌∙◌, arith, length-set, le-leb, Option, Some, None, add-one, refl}
use lib.Seq.{set_split}
use borrow.Author.Tests.{lt-leb}
use Rattle.model.specs.Bytes.{placed, written_into}
use Rattle.model.proofs.PlacedLaws.{placed_append, placed_ahead}
use Rattle.text.specs.Promises.{Written}

-- ---- one byte before the others, or behind them

pub byte_placed : (at b : ℕ) (target : List ℕ) → at < length target → set target at b ≡ placed at (b ∷ []) target
unfolding placed
byte_placed at b target inside = rw (set_split target at b inside, add-one at) refl

-- the last byte may be written first
pub last_placed_first : (at : ℕ) (xs : List ℕ) (b : ℕ) (target : List ℕ) → at + length xs < length target
    → placed at xs (set target (at + length xs) b) ≡ placed at (xs ++ (b ∷ [])) target
last_placed_first at xs b target inside = rw (byte_placed (at + length xs) b target inside) (placed_ahead at xs (b ∷ []) target (omega arith))

-- a byte was written, and then the others behind it, where there is room for all
pub written_behind : {exit : List ℕ} {answer : Option ℕ} (at b : ℕ) (xs entry : List ℕ) → at + suc (length xs) ≤ length entry
    → Written xs (at + 1) (set entry at b) exit answer → Written (b ∷ xs) at entry exit answer
unfolding written_into
written_behind at b xs entry fits w = record { answered = rw all ((rw others at w.answered) ∙ ap Some (omega arith)); target = rw all ((rw others at w.target) ∙ together) }
  where
    others : leb (at + 1 + length xs) (length (set entry at b)) ≡ true
    others = le-leb (at + 1 + length xs) (length (set entry at b)) (simp length-set (omega arith))

    all : leb (at + suc (length xs)) (length entry) ≡ true
    all = le-leb (at + suc (length xs)) (length entry) fits

    together : placed (at + 1) xs (set entry at b) ≡ placed at (b ∷ xs) entry
    together = rw (byte_placed at b entry (omega arith)) (placed_append at (b ∷ []) xs entry (omega arith))
