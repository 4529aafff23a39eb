-- `reassembler::store_chunk` meets its contract: the answers are the cases of `store_chunk`. Assumes nothing.
use mathlib.Core.Path.{refl}
use Rattle.model.specs.Row.{store_chunk}
use Rattle.reassembler.proofs.RowStore.{some_stored, all_stored}
use Rattle.reassembler.proofs.store_chunk.Goals as goal
use Rattle.reassembler.proofs.store_chunk.Goals.{then-row-via-then-row, then-row-via-else-row+then-store_finite-n}

pub returns-then-row : goal.returns-then-row
unfolding store_chunk
returns-then-row c = let g = c.args in
    elim c.then-row.branch [
      | then-row-via-then-row w ↦ rw (w.buf-is, w.if-row.true) (record { row = refl; completed = refl; inside = tt })
      | then-row-via-else-row+then-store_finite-n w ↦
          rw w.buf-is (some_stored g.row g.buf.now w.store_finite.new.to g.chunk w.store_finite.result c.requires w.if-row.false w.store_finite.ensures w.if-store_finite-n.true)
    ]

pub returns : goal.returns
returns c = let g = c.args in
    rw c.count_filled.ensures (all_stored g.row g.buf.now c.store_finite.new.to g.chunk c.store_finite.result c.requires c.if-row.false c.store_finite.ensures c.if-store_finite-n.false)
