-- `text::put_negative` meets its contract: a number has at most 20 digits, so that their number and the minus are a length. Assumes nothing.
use Rattle.std.proofs.Common.{◌+◌, ◌≤◌, length, sym, arith, leb-true}
use Rattle.model.specs.Replay.{decimal}
use Rattle.model.proofs.Decimal.{decimal_at_most}
use Rattle.text.proofs.WrittenLaws.{written_behind}
use Rattle.text.proofs.DigitLaws.{decimal_digits}
use Rattle.text.proofs.put_negative.Goals as goal

pub overflow_add-count : goal.overflow_add-count
overflow_add-count c = omega (arith, decimal_at_most 19 c.args.n (omega arith))

pub returns : goal.returns
returns c = let a = c.args in
    let room : a.at + (1 + c.digits-count.result) ≤ length a.out.now = leb-true _ _ (sym c.if-not-has_room.ensures) in
    written_behind a.at 45 (decimal a.n) a.out.now (omega (arith, room, c.digits-count.ensures)) (rw (decimal_digits a.n c.digits-count.result c.digits-count.ensures) at c.put_digits.ensures)
