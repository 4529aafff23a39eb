-- `text::put_digits` meets its contract. The loop's invariant: there is room, and with the i digits of what is left written too, the target is as it is to be.
-- Assumes nothing.
use Rattle.std.proofs.Common.{◌≡◌, ◌+◌, ◌≤◌, length}
use Rattle.model.specs.Bytes.{placed}
use Rattle.text.specs.Digits.{digits_in}
use Rattle.text.proofs.put_digits.Given as goal

abbrev pub invariant-loop-i : goal.invariant-loop-i
invariant-loop-i l = (l.at + l.count ≤ length l.initial.out)
    × (placed l.at (digits_in l.base l.i l.left) l.out ≡ placed l.at (digits_in l.base l.count l.n) l.initial.out)
