-- `playback_pieces::pieces` meets its contract. The loop's invariant: what stands at the front of the text is what the steps so far wrote. The measure
-- is how many steps are left. Assumes nothing.
use mathlib.Core.Path.{◌≡◌}
use lib.ListN.{length}
use Rattle.playback.specs.Steps.{steps_left}
use Rattle.playback_pieces.specs.Gathered.{moment, Gathering}
use Rattle.playback_pieces.proofs.pieces.Given as goal

abbrev pub invariant-loop-text : goal.invariant-loop-text
invariant-loop-text l = Gathering l.form l.tape l.until (moment l.initial.p.playback l.initial.fs l.initial.us l.initial.samples) l.initial.text (moment l.p.playback l.fs l.us l.samples) l.p.bytes l.text × (length l.text ≡ length l.initial.text)

abbrev pub decreases-loop-text : goal.decreases-loop-text
decreases-loop-text l = steps_left l.tape l.p.playback l.fs l.samples
