use Rattle.std.proofs.Common.{sym, leb-true, ◌*◌, ◌+◌, ◌≤◌, length, rules, subst, List, ℕ, Some}
use Rattle.calls.specs.Views.{model_side}
use Rattle.text.proofs.FittedLaws.{fitted_behind}
use Rattle.lines.specs.Lines.{Piece, head}
use Rattle.lines.proofs.Pieces.{written_piece, head_few, head_is}
use Rattle.lines.proofs.put_head.Goals as goal

pub returns : goal.returns
returns c = let g = c.args in
    let room : 3 + 21 * length g.numbers.now ≤ length g.out.now = leb-true _ _ (sym c.if-not-has_room.ensures) in
    let few = head_few g.letter g.numbers.now c.type_inv.numbers (model_side g.side) in
    let all = fitted_behind (fitted_behind (fitted_behind c.byte.ensures.fitted c.byte-2.ensures.fitted) (rw c.letter.ensures at c.byte-3.ensures.fitted)) c.words.ensures.fitted in
    subst (λ (exit : List ℕ). Piece (3 + 21 * length g.numbers.now) (head g.letter (model_side g.side) g.numbers.now) g.out.now exit (Some c.words.new.self.at)) (search rules)
    (written_piece few room (rw (← head_is g.letter g.numbers.now c.type_inv.numbers (model_side g.side)) at all))
