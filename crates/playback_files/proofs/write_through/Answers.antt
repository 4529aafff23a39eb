use mathlib.Core.Path.{refl}
use mathlib.Core.List.{[]}
use native.Mathlib.Omega.{arith}
use Rattle.playback_windows.specs.Through.{start}
use Rattle.playback_files.proofs.Windows.{pieces_through, pieces_go_on}
use Rattle.playback_files.proofs.write_through.Goals as goal

pub loop-form-init : goal.loop-form-init
loop-form-init c = (λ base whole win. ([], start), omega arith)

pub returns-then-not-write_all : goal.returns-then-not-write_all
returns-then-not-write_all c = let g = c.args in
    (c.pieces_in-gathered.result.playback, pieces_go_on g.w c.loop-form.p c.pieces_in-gathered.ensures c.loop-form.invariant.0, refl)

pub returns-then-ne : goal.returns-then-ne
returns-then-ne c = let g = c.args in
    (pieces_go_on g.w c.loop-form.p c.pieces_in-gathered.ensures c.loop-form.invariant.0, pieces_through c.pieces_in-gathered.ensures g.w c.loop-form.invariant.1)

pub loop-form-preserved : goal.loop-form-preserved
loop-form-preserved c = let g = c.args in
    (pieces_go_on g.w c.loop-form.p c.pieces_in-gathered.ensures c.loop-form.invariant.0, (pieces_through c.pieces_in-gathered.ensures g.w c.loop-form.invariant.1).inside)
