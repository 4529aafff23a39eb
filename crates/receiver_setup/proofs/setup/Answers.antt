-- `receiver_setup::setup` meets its contract: its questions, and then both pictures and the receiver. Assumes nothing.
use mathlib.Core.Path.{◌≡◌, refl}
use Rattle.std.proofs.lemmas.Result.{err_from_is_err_and}
use Rattle.calls.specs.declared.Refusal.{Refusal}
use Rattle.receiver_setup.proofs.SetupLaws.{setup_sizes_refused, setup_refused, setup_opened}
use Rattle.receiver_setup.proofs.setup.Goals as goal

pub returns-in_err-sizes : goal.returns-in_err-sizes
returns-in_err-sizes c = let g = c.args in
    let no = rw c.in_err-sizes.ensures.ok_part at c.of.ensures in
    let p = err_from_is_err_and c.from_residual.result c.from_residual.ensures.1 in
    let e = rw c.in_err-sizes.ensures.ok_part at c.in_err-sizes.ensures.value in
    let why : c.in_err-sizes.field-0.0 ≡ Refusal.Sizes = cc in
    rw (p.1, p.2, why) (setup_refused g.z g.a g.b g.fs.now g.us.now _ (setup_sizes_refused g.z g.a g.b g.fs.now g.us.now no).asked, refl)

pub returns-in_err-setup_asked : goal.returns-in_err-setup_asked
returns-in_err-setup_asked c = let g = c.args in
    let of = rw c.in_ok-sizes.ensures.ok_part at c.of.ensures in
    let p = err_from_is_err_and c.from_residual-in_err-setup_asked.result c.from_residual-in_err-setup_asked.ensures.1 in
    rw (p.1, p.2) (setup_refused g.z g.a g.b g.fs.now g.us.now _ (rw of.0 at c.in_err-setup_asked.ensures.asked), refl)

pub returns : goal.returns
returns c = let g = c.args in
    let of = rw c.in_ok-sizes.ensures.ok_part at c.of.ensures in
    let asked = rw of.0 at c.in_ok-setup_asked.ensures in
    rw (c.zero_pictures.ensures, of.0) (setup_opened g.z g.us.now (asked.ready refl) g.a g.b g.fs.now c.new.result c.new.ensures asked.asked)
