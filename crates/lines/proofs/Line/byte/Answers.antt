-- `lines::Line::byte` meets its contract. Assumes nothing.
use Rattle.lines.proofs.Pieces.{byte_fitted}
use Rattle.lines.proofs.Line.byte.Goals as goal

pub returns-clause-fitted : goal.returns-clause-fitted
returns-clause-fitted c = let line = c.args.self.now in byte_fitted c.args.b line.at line.out.now c.requires
