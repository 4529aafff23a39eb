use Rattle.calls.specs.Views.{model_side}
use Rattle.calls.proofs.Letters.{one_byte}
use Rattle.calls.proofs.SideDisplay.fmt.Goals as goal

pub returns-clause-writes : goal.returns-clause-writes
returns-clause-writes g c plain ok = rw (c.from.ensures, c.letter.ensures, one_byte (model_side c.args.self.now)) at c.write_char.ensures.writes plain ok
