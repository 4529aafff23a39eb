-- `summary_lines::put_summary` meets its contract: by the answer. Assumes nothing.
use mathlib.Core.Path.{◌≡◌, refl}
use native.Mathlib.Omega.{arith}
use Rattle.std.proofs.Common.{inl, inr, rules, Ok, ◌⊎◌}
use Rattle.model.specs.Summary.{answer_summary}
use Rattle.calls.specs.Views.{model_side}
use Rattle.receiver_state.specs.declared.Answer.TheVariants.{Accepted, Played, NoRow, Row}
use Rattle.playback_parts.proofs.Texts.{piece_put}
use Rattle.summary_lines.proofs.Lines.{refused_put, play_put, row_put, none_put}
use Rattle.summary_lines.proofs.put_summary.Goals as goal

pub returns-in-Err : goal.returns-in-Err
returns-in-Err c = rw c.in-Err.is (refused_put (model_side c.args.side) c.in-Err.number c.args.values (piece_put (omega (arith, c.requires)) c.put_refusal.ensures c.unwrap.ensures))

pub returns-in-Ok-Accepted : goal.returns-in-Ok-Accepted
unfolding answer_summary
returns-in-Ok-Accepted c = let g = c.args in
    let none = none_put (model_side g.side) g.values g.text.now in
    let is : (g.answer ≡ Ok Accepted) ⊎ (g.answer ≡ Ok NoRow) = search rules in
    elim is [ inl e ↦ rw e (none (Ok Accepted) (λ values. refl)) | inr e ↦ rw e (none (Ok NoRow) (λ values. refl)) ]

pub returns-in-Ok-Played : goal.returns-in-Ok-Played
returns-in-Ok-Played c = let g = c.args in
    let is : g.answer ≡ Ok (Played c.in-Ok-Played.p) = search rules in
    rw is (play_put (model_side g.side) c.in-Ok-Played.p g.values (rw c.words.ensures at c.put_numbered.ensures))

pub returns-in-Ok-Row : goal.returns-in-Ok-Row
returns-in-Ok-Row c = let g = c.args in
    let is : g.answer ≡ Ok (Row c.in-Ok-Row.field-0-0) = search rules in
    rw is (row_put (model_side g.side) c.in-Ok-Row.field-0-0 g.values c.put_numbered-in-Ok-Row.ensures)
