-- `receiver_state::asking::asked` meets its contract: its answers are the first four questions, in their order. Assumes nothing.
use mathlib.Core.Path.{◌≡◌, sym}
use Rattle.calls.specs.declared.Refusal.{Refusal}
use Rattle.std.proofs.lemmas.Result.{err_from_is_err_and}
use Rattle.receiver_state.proofs.StateQuestions.{sizes_refused, areas_refused, words_long, state_refused, calls_refused, all_yes}
use Rattle.receiver_state.proofs.asking.asked.Goals as goal

pub returns-in_err-sizes : goal.returns-in_err-sizes
returns-in_err-sizes c =
    let no = rw c.in_err-sizes.ensures.ok_part at c.of.ensures in
    let p = err_from_is_err_and c.from_residual.result c.from_residual.ensures.1 in
    let e = rw c.in_err-sizes.ensures.ok_part at c.in_err-sizes.ensures.value in
    let why : c.in_err-sizes.field-0.0 ≡ Refusal.Sizes = cc in
    rw (p.1, p.2, why) (sizes_refused c.args.r c.args.fs.now c.args.us.now (sym no))

pub returns-then-not-areas_long : goal.returns-then-not-areas_long
returns-then-not-areas_long c = let of = rw c.in_ok-sizes.ensures.ok_part at c.of.ensures in
    areas_refused _ _ _ (sym of.1) (rw of.0 at c.if-not-areas_long.ensures)

pub could_be_held-requires : goal.could_be_held-requires
could_be_held-requires c = let g = c.args in
    let of = rw c.in_ok-sizes.ensures.ok_part at c.of.ensures in
    (of.1, words_long g.r g.fs.now g.us.now (sym of.1) (rw of.0 at c.if-not-areas_long.ensures))

pub returns-then-not-could_be_held : goal.returns-then-not-could_be_held
returns-then-not-could_be_held c = let of = rw c.in_ok-sizes.ensures.ok_part at c.of.ensures in
    state_refused _ _ _ (sym of.1) (rw of.0 at c.if-not-areas_long.ensures) c.if-not-could_be_held.ensures

pub returns-then-r-ge4294967295 : goal.returns-then-r-ge4294967295
returns-then-r-ge4294967295 c = let of = rw c.in_ok-sizes.ensures.ok_part at c.of.ensures in
    calls_refused _ _ _ (sym of.1) (rw of.0 at c.if-not-areas_long.ensures) c.if-not-could_be_held.ensures c.if-r-ge4294967295.true

pub returns : goal.returns
returns c = let of = rw c.in_ok-sizes.ensures.ok_part at c.of.ensures in
    all_yes _ _ _ (sym of.1) (rw of.0 at c.if-not-areas_long.ensures) c.if-not-could_be_held.ensures c.if-r-ge4294967295.false
