-- `playback_files::next_window` meets its contract. Assumes nothing.
use lib.ListN.{length}
use Rattle.std.proofs.lemmas.Result.{err_from_is_err_and}
use Rattle.tape_files.proofs.Readings.{known_by_window}
use Rattle.playback_files.proofs.Known.{ends_here}
use Rattle.playback_files.proofs.next_window.Goals as goal

pub returns-in_err-part : goal.returns-in_err-part
returns-in_err-part c = let p = err_from_is_err_and c.from_residual.result c.from_residual.ensures.1 in
    rw (p.1, p.2) (tt, ends_here c.args.p.base c.args.p.playback c.args.fs.now c.args.us.now c.args.samples.now _ tt, tt)

pub returns : goal.returns
returns c = let read = c.in_ok-part.ensures in
    (c.by_window.ensures.0, known_by_window c.args.file.now (length c.args.window.now) c.args.p.base _ _ _ read.0 read.1 c.window-1.given c.by_window.ensures.1, c.by_window.ensures.2)
