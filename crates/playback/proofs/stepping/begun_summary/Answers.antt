-- `playback::stepping::begun_summary` meets its contract. Assumes nothing.
use mathlib.Core.Path.{refl, sym, ◌∙◌}
use mathlib.Core.List.{append-nil}
use Rattle.receiver_state.proofs.AnswerNumbers.{answer_of_numbered}
use Rattle.playback.proofs.Walks.{row_has}
use Rattle.playback.proofs.stepping.begun_summary.Goals as goal

pub returns : goal.returns
returns c = let g = c.args in
    let put = rw c.numbered.ensures at c.put_summary.ensures in
    record {
      piece = put.text;
      put = put.put;
      line_is = λ values stands.
          rw (← answer_of_numbered g.v.answer values) (put.line values (row_has g.v.answer g.facts g.fs.now values _ c.row_length-values.ensures stands) ∙ sym (append-nil _));
      behind = refl;
    }
