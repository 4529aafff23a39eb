-- `playback_pieces::one` meets its contract: what was lent is the end of the text, and comes back behind what was there. Assumes nothing.
use mathlib.Core.Path.{sym, ◌∙◌, ap}
use native.Mathlib.Omega.{arith}
use Rattle.std.specs.Prelude.{Some}
use Rattle.playback_pieces.proofs.Gathers.{wrote_inside, ended_there, step_wrote, step_quiet}
use Rattle.playback_pieces.proofs.one.Goals as goal

pub overflow_add-result : goal.overflow_add-result
overflow_add-result c = let g = c.args in
    let is = step_wrote c.step_as.result c.in_ok-v.v (sym c.ok.ensures.value ∙ c.in_ok-ok.was ∙ ap Some c.in_ok-v.was) in
    let done = rw is at c.step_as.ensures in
    let fits = wrote_inside g.form g.tape.now g.p g.fs.now g.us.now g.samples.now g.text.now _ _ _ _ c.text-1.given.0 c.requires c.in_ok-v.v done in
    omega (arith, fits, c.well_formed.1.1.1.1.1)

pub returns-in_err-ok : goal.returns-in_err-ok
returns-in_err-ok c = let g = c.args in
    let quiet = step_quiet c.step_as.result (λ v is. cc (is, c.ok.ensures.value, c.in_err-ok.was)) in
    rw c.from_residual.ensures (ended_there g.form g.tape.now g.p g.fs.now g.us.now g.samples.now g.text.now _ _ _ _ c.step_as.result quiet c.step_as.ensures)

pub returns-in_err-v : goal.returns-in_err-v
returns-in_err-v c = let g = c.args in
    let quiet = step_quiet c.step_as.result (λ v is. cc (is, c.ok.ensures.value, c.in_ok-ok.was, c.in_err-v.was)) in
    rw c.from_residual-in_err-v.ensures (ended_there g.form g.tape.now g.p g.fs.now g.us.now g.samples.now g.text.now _ _ _ _ c.step_as.result quiet c.step_as.ensures)
