-- `areas::move_few` meets its contract, by the local copy and by `copy_within`. Assumes nothing.
use native.Mathlib.Omega.{arith}
use mathlib.Core.Path.{◌∙◌}
use Rattle.areas.proofs.PutBack.{part_put, copied_within}
use Rattle.areas.proofs.move_few.Goals as goal

pub returns-then-size_of_val-le65536 : goal.returns-then-size_of_val-le65536
returns-then-size_of_val-le65536 g c = let q = c.args in
    part_put q.to q.n q.from q.a.now q.a.now _ (omega arith) (c.copy_from_slice-then-size_of_val-le65536.ensures.after ∙ c.copy_from_slice.ensures.after)

pub returns-else-size_of_val-le65536 : goal.returns-else-size_of_val-le65536
returns-else-size_of_val-le65536 g c = let q = c.args in
    c.copy_within.ensures.after ∙ copied_within q.to q.n q.from q.a.now (omega arith)
