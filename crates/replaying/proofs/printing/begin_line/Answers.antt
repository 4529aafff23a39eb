-- `replaying::printing::begin_line` meets its contract: by the answer. Assumes nothing.
use mathlib.Core.Path.{◌≡◌, refl}
use Rattle.std.proofs.Common.{inl, inr, rules, Ok, ◌⊎◌}
use Rattle.model.specs.Replay.{answer_line}
use Rattle.calls.specs.Views.{model_side}
use Rattle.receiver_state.specs.declared.Answer.TheVariants.{Accepted, Played, NoRow, Row}
use Rattle.replaying.proofs.Begun.{refused_begun, played_begun, row_begun, none_begun}
use Rattle.replaying.proofs.printing.begin_line.Goals as goal

pub returns-in-Err : goal.returns-in-Err
returns-in-Err c = rw c.in-Err.is (refused_begun (model_side c.args.side) c.requires c.unwrap.ensures c.in-Err.number c.put_refusal.ensures)

pub returns-in-Ok-Accepted : goal.returns-in-Ok-Accepted
unfolding answer_line
returns-in-Ok-Accepted c = let g = c.args in
    let none = none_begun (model_side g.side) g.text.now in
    let is : (g.answer ≡ Ok Accepted) ⊎ (g.answer ≡ Ok NoRow) = search rules in
    elim is [ inl e ↦ rw e (none (Ok Accepted) refl (λ values. refl)) | inr e ↦ rw e (none (Ok NoRow) refl (λ values. refl)) ]

pub returns-in-Ok-Played : goal.returns-in-Ok-Played
returns-in-Ok-Played c = let g = c.args in
    let is : g.answer ≡ Ok (Played c.in-Ok-Played.p) = search rules in
    rw is (played_begun (model_side g.side) c.requires c.unwrap-in-Ok-Played.ensures c.in-Ok-Played.p (rw c.words.ensures at c.put_head.ensures))

pub returns-in-Ok-Row : goal.returns-in-Ok-Row
returns-in-Ok-Row c = let g = c.args in
    let is : g.answer ≡ Ok (Row c.in-Ok-Row.n) = search rules in
    rw is (row_begun (model_side g.side) c.requires c.unwrap-in-Ok-Row.ensures c.in-Ok-Row.n c.put_head-in-Ok-Row.ensures)
