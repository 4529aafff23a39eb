-- `jitter_buffer::fill_playout` meets its contract. The loop's invariant: the rest of the fill makes of the view what the whole makes of the view at entry. The measure is what the queue lacks. Assumes nothing.
use Rattle.std.proofs.Common.{◌≡◌, ◌+◌, ◌-◌, length}
use Rattle.jitter_buffer.proofs.FillTurns.{UnderWay}
use Rattle.jitter_buffer.proofs.fill_playout.Given as goal

abbrev pub invariant-loop-after : goal.invariant-loop-after
invariant-loop-after l = UnderWay l.z.sizes l.initial.fs l.us l.initial.b l.fs l.b l.taken × (length l.fs ≡ length l.initial.fs)

abbrev pub decreases-loop-after : goal.decreases-loop-after
decreases-loop-after l = l.z.sizes.target + l.z.sizes.packet - l.b.playout_len
