-- `input::read_all` meets its contract: what is there was read, and with each read fewer bytes are missing. Assumes nothing.
use Rattle.std.proofs.Common.{◌≡◌, ◌-◌, ◌≤◌, length}
use Rattle.input.specs.Promises.{ReadBefore}
use Rattle.input.proofs.read_all.Given as goal

abbrev pub invariant-loop-at : goal.invariant-loop-at
invariant-loop-at g l = (length l.bytes ≡ length l.initial.bytes) × (l.at ≤ length l.bytes) × ReadBefore (g.R.Read.remaining l.initial.reader) (g.R.Read.remaining l.reader) l.bytes l.at

abbrev pub decreases-loop-at : goal.decreases-loop-at
decreases-loop-at g l = length l.bytes - l.at
