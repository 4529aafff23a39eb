-- `tape_exports::answers::put_setup` meets its contract: the estimates are stored right behind the sizes. Assumes nothing.
use Rattle.std.proofs.Common.{[], ◌∷◌, refl}
use Rattle.calls.specs.Views.{size_numbers}
use Rattle.numbers.proofs.Stored.{then}
use Rattle.tape_exports.proofs.answers.put_setup.Goals as goal

pub returns : goal.returns
returns c = let x = c.args.x in
    let estimates = x.a.top ∷ x.a.floor ∷ x.a.range ∷ x.b.top ∷ x.b.floor ∷ x.b.range ∷ [] in
    then c.args.out.now (size_numbers x.sizes) {ys = estimates} 6 refl (rw c.numbers.ensures at c.put.ensures) c.put-2.ensures refl
