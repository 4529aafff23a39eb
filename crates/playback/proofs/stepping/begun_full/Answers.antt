-- `playback::stepping::begun_full` meets its contract. Assumes nothing.
use mathlib.Core.Path.{refl}
use Rattle.receiver_state.proofs.AnswerNumbers.{answer_of_numbered}
use Rattle.replaying.proofs.Begun.{left_behind_numbered}
use Rattle.playback.proofs.stepping.begun_full.Goals as goal

pub returns : goal.returns
returns c = let g = c.args in
    let line = rw c.numbered.ensures at c.begin_line-line.ensures in
    record {
      piece = line.text;
      put = record { length_is = line.written; target = line.target };
      line_is = λ values stands. rw (← answer_of_numbered g.v.answer values, ← left_behind_numbered g.v.answer, ← line.left) (line.line values);
      behind = rw (c.doing_after.ensures, line.left, left_behind_numbered g.v.answer) refl;
    }
