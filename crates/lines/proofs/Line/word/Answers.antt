-- `lines::Line::word` meets its contract: both parts fit. Assumes nothing.
use Rattle.std.proofs.Common.{arith}
use Rattle.text.proofs.FittedLaws.{some_answered, answer_fitted, fitted_behind}
use Rattle.lines.proofs.Line.word.Goals as goal

pub unwrap-self-requires : goal.unwrap-self-requires
unwrap-self-requires g c = some_answered c.put.ensures.written (omega (arith, c.byte.ensures.fitted.place, c.byte.ensures.lent.1, c.put.ensures.few))

pub returns-clause-fitted : goal.returns-clause-fitted
returns-clause-fitted g c = fitted_behind c.byte.ensures.fitted (answer_fitted c.put.ensures.written c.unwrap-self.ensures)
