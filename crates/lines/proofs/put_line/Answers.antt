-- `lines::put_line` meets its contract. Assumes nothing.
use Rattle.std.proofs.Common.{◌+◌, ◌*◌, ◌≤◌, ℕ, List, Some, length, map, sym, subst, arith, rules, leb-true}
use Rattle.model.specs.Replay.{decimal, line}
use Rattle.text.proofs.FittedLaws.{fitted_behind}
use Rattle.lines.specs.Lines.{Piece}
use Rattle.lines.proofs.WordLaws.{numbers_few}
use Rattle.lines.proofs.Pieces.{written_piece, text_is, line_few}
use Rattle.lines.proofs.put_line.Goals as goal

pub byte-requires-2 : goal.byte-requires-2
byte-requires-2 c = let n = c.args.numbers.now in
    let room : 2 + 21 * length n ≤ length c.args.out.now = leb-true _ _ (sym c.if-not-has_room.ensures) in
    omega (arith, room, c.words.ensures.fitted.place, c.words.ensures.lent.1, c.byte.ensures.fitted.place, c.byte.ensures.lent.1, numbers_few n c.type_inv.numbers)

pub returns : goal.returns
returns c = let g = c.args in
    let room : 2 + 21 * length g.numbers.now ≤ length g.out.now = leb-true _ _ (sym c.if-not-has_room.ensures) in
    let all = fitted_behind (fitted_behind c.byte.ensures.fitted c.words.ensures.fitted) c.byte-2.ensures.fitted in
    subst (λ (exit : List ℕ). Piece (2 + 21 * length g.numbers.now) (line g.letter (map decimal g.numbers.now)) g.out.now exit (Some c.byte-2.new.self.at)) (search rules)
    (written_piece (line_few g.letter g.numbers.now c.type_inv.numbers) room (rw (← text_is g.letter g.numbers.now c.type_inv.numbers) at all))
