-- `playback_files::write_through` meets its contract: with each text that is written fewer steps of the window are left. Assumes nothing.
use Prim.Native.Nat.{ℕ, ◌*◌, ◌≤◌, max}
use lib.ListN.{length}
use Rattle.playback.specs.Steps.{steps_left}
use Rattle.playback_pieces.specs.Gathered.{moment}
use Rattle.playback_files.specs.Windows.{StepsOn}
use Rattle.playback_files.proofs.write_through.Given as goal

abbrev pub invariant-loop-form : goal.invariant-loop-form
invariant-loop-form l = ((base : ℕ) → StepsOn l.form l.window.bytes.now l.window.last base (moment l.initial.p l.initial.fs l.initial.us l.initial.samples) base (moment l.p l.fs l.us l.samples)) × (4 * l.p.place ≤ max (4 * l.initial.p.place) (length l.window.bytes.now))

abbrev pub decreases-loop-form : goal.decreases-loop-form
decreases-loop-form l = steps_left l.window.bytes.now l.p l.fs l.samples
