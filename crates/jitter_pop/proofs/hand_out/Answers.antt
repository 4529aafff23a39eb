-- `jitter_pop::hand_out` meets its contract: what is taken is queued, and what is short is not. Assumes nothing.
use mathlib.Core.Path.{◌≡◌, refl, ◌∙◌, ap}
use mathlib.Core.List.{◌++◌}
use lib.ListN.{drop}
use Rattle.model.specs.Bytes.{part, placed}
use native.Mathlib.Omega.{arith}
use Prim.Native.Nat.{◌+◌}
use lib.Ieee.{of_bits}
use Rattle.sizes.specs.declared.Offsets.{Offsets}
use Rattle.areas.proofs.PutBack.{front_put}
use Rattle.jitter_pop.proofs.hand_out.Goals as goal

pub returns : goal.returns
unfolding of_bits
returns c = let q = ap (λ (o : Offsets). o.queue) c.section_offsets-queue.ensures in
    let taken = c.min-taken.result in
    let from = c.section_offsets-queue.result.queue + c.args.dropped in
    let front : c.copy_from_slice.new.self ++ drop taken c.args.out.now ≡ placed 0 (part from taken c.args.fs.now) c.args.out.now =
    front_put taken from c.args.out.now c.args.fs.now c.copy_from_slice.new.self (omega (arith, q, c.min-taken.ensures, c.requires)) c.copy_from_slice.ensures.after
    in
    record {
      took = c.min-taken.ensures;
      drops = refl;
      lacks = refl;
      buffer = refl;
      floats = rw q at c.move_down.ensures;
      samples = c.fill.ensures ∙ rw (front, q);
    }
