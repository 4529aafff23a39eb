-- `text::digits` meets its contract. Assumes nothing.
use Rattle.std.proofs.Common.{rules}
use Rattle.text.proofs.DigitLaws.{digits_by_power}
use Rattle.text.proofs.digits.Goals as goal

pub returns : goal.returns
returns c = let e = c.checked_ilog10.ensures in
    digits_by_power c.args.n c.map_or.result c.checked_ilog10.result e.none e.power_le e.next_power_gt (search rules)
