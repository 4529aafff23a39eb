-- `summary_lines::put_numbered` meets its contract: the line is its beginning and its end. Assumes nothing.
use Rattle.calls.specs.Views.{model_side}
use Rattle.summary_lines.proofs.Lines.{end_inside, line_put}
use Rattle.summary_lines.proofs.put_numbered.Goals as goal

pub bounds-text-end : goal.bounds-text-end
bounds-text-end c = let g = c.args in
    end_inside g.letter (model_side g.side) g.numbers.now c.requires c.put_head.ensures c.unwrap-end.ensures

pub returns : goal.returns
returns c = let g = c.args in
    line_put g.letter (model_side g.side) g.numbers.now c.requires c.put_head.ensures c.unwrap-end.ensures
