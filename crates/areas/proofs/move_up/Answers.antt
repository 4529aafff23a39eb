use mathlib.Core.Path.{◌≡◌, refl, sym, ◌∙◌}
use Prim.Native.Nat.{◌+◌, ◌-◌}
use native.Mathlib.Nat.{add-zero}
use native.Mathlib.Omega.{arith}
use borrow.Author.Rules.{rules}
use Rattle.model.proofs.PlacedLaws.{none_placed}
use Rattle.areas.specs.Parts.{moved}
use Rattle.areas.proofs.Placed.{some_of, move_up_further}
use Rattle.areas.proofs.move_up.Goals as goal

pub loop-left-init : goal.loop-left-init
loop-left-init g c = let q = c.args in
    let none : q.n - q.n ≡ 0 = omega arith in
    (omega arith, rw none (sym (none_placed (q.to + q.n) q.a.now)), refl)

pub loop-left-preserved : goal.loop-left-preserved
loop-left-preserved g c = let q = c.args in
    let left = c.loop-left.left - c.min-few.result in
    let e : c.loop-left.left ≡ left + c.min-few.result = omega arith in
    let rest : c.min-few.result + (q.n - (left + c.min-few.result)) ≡ q.n - left = omega arith in
    let f : q.from + (left + c.min-few.result) ≡ q.from + left + c.min-few.result = omega arith in
    let t : q.to + (left + c.min-few.result) ≡ q.to + left + c.min-few.result = omega arith in
    let held : c.loop-left.a ≡ moved (q.from + left + c.min-few.result) (q.to + left + c.min-few.result) (q.n - (left + c.min-few.result)) q.a.now = rw (e, f, t) at c.loop-left.invariant.1 in (
      omega arith,
      c.move_few.ensures
          ∙ rw (held, ← rest) (move_up_further (some_of q.a.now (omega arith)) (q.from + left) (q.to + left) c.min-few.result (q.n - (left + c.min-few.result)) q.a.now (omega arith) (omega arith)),
      search rules,
    )

pub shape_of-a : goal.shape_of-a
shape_of-a g c = c.loop-left.invariant.2

pub returns : goal.returns
returns g c = let q = c.args in
    let none : c.loop-left.left ≡ 0 = omega arith in
    let all : q.n - 0 ≡ q.n = omega arith in
    rw (none, add-zero q.from, add-zero q.to, all) at c.loop-left.invariant.1
