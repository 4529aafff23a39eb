-- `playback_files::by_window` meets its contract: the steps lead to where the replay is, and it goes on from there. Assumes nothing.
use Rattle.playback_pieces.specs.Gathered.{moment}
use Rattle.playback_files.proofs.Windows.{steps_lead_on, went_begun}
use Rattle.playback_files.proofs.by_window.Goals as goal

pub returns : goal.returns
returns c = let g = c.args in
    let went = c.went_by.ensures in
    (went.0, steps_lead_on g.form g.window.bytes.now g.window.last g.p c.in_ok-t.t (moment g.p.playback g.fs.now g.us.now g.samples.now) c.went_by.result _ _ _ (c.in_ok-t.ensures.0 g.p.base) went.1, went_begun g.p c.in_ok-t.t c.went_by.result went.1)
