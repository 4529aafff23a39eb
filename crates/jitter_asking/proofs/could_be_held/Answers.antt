-- `jitter_asking::could_be_held` meets its contract: its tests are those of question 3. Assumes nothing.
use Rattle.std.proofs.Common.{rules}
use native.Mathlib.Omega.{arith}
use Rattle.jitter_asking.proofs.Asked.{told}
use Rattle.jitter_asking.proofs.could_be_held.Goals as goal

pub returns-then-counted : goal.returns-then-counted
returns-then-counted c = told c.in-Some.ensures.1 (search rules) (omega arith) c.start_held-start.ensures.next _ (search rules)

pub returns-else-counted : goal.returns-else-counted
returns-else-counted c = told c.in-Some.ensures.1 (search rules) (omega arith) c.start_held-start.ensures.next _ (search rules)
