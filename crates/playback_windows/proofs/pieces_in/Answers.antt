-- `playback_windows::pieces_in` meets its contract. Assumes nothing.
use Rattle.playback_windows.proofs.Pieces.{steps_by_windows, steps_stay_inside}
use Rattle.playback_windows.proofs.pieces_in.Goals as goal

pub returns : goal.returns
returns c = record {
  until = c.reach-until.result;
  reach = c.reach-until.ensures;
  gathered = c.pieces.ensures;
  stands = λ whole base win. steps_by_windows c.reach-until.ensures win c.pieces.ensures.gathering.steps;
  inside = steps_stay_inside c.pieces.ensures.gathering.steps;
}
