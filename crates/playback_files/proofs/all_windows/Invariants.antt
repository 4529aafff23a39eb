-- `playback_files::all_windows` meets its contract. Assumes nothing.
use Prim.Native.Nat.{◌-◌, ◌*◌, ◌≤◌}
use lib.ListN.{length}
use Rattle.tape_files.specs.Readings.{KnownOf}
use Rattle.playback_pieces.specs.Gathered.{moment}
use Rattle.playback_windows.specs.Pieces.{moment_from_start}
use Rattle.playback_files.specs.Windows.{Led}
use Rattle.playback_files.proofs.all_windows.Given as goal

abbrev pub invariant-loop-next : goal.invariant-loop-next
invariant-loop-next l = (4 * l.p.base ≤ l.file.bytes) × KnownOf l.file (length l.initial.window) (λ whole. Led l.form whole (moment_from_start l.initial.p.base (moment l.initial.p.playback l.initial.fs l.initial.us l.initial.samples)) (moment_from_start l.p.base (moment l.p.playback l.fs l.us l.samples)))

abbrev pub decreases-loop-next : goal.decreases-loop-next
decreases-loop-next l = l.file.bytes - l.p.base
