-- `lines::put_values` meets its contract: each value takes nine bytes. Assumes nothing.
use Rattle.std.proofs.Common.{◌≡◌, ℕ, List, length, take, subst, arith, rules, length-take}
use Rattle.lines.specs.Lines.{ValuesWritten}
use Rattle.lines.proofs.WordLaws.{values_length}
use Rattle.lines.proofs.put_values.Goals as goal

pub returns : goal.returns
returns c = let fitting = take c.min.result c.args.values.now in
    let same : length fitting ≡ c.min.result = simp length-take (omega (arith, c.min.ensures)) in
    subst (λ (exit : List ℕ). ValuesWritten c.args.values.now c.args.out.now exit (length fitting)) {x = c.words.new.self.out.now} (search rules)
    (rw same (record { most = c.min.ensures; target = c.words.ensures.fitted.target; bytes = rw same at (values_length fitting) }))
