-- `jitter_asking::rises` meets its contract. The loop's invariant: the pairs that are left are those of a front of the sequences, and those from its last one on rise or not. Assumes nothing.
use Rattle.std.proofs.Common.{◌≡◌}
use Rattle.std.specs.Slice.Iter.{windows_rest, windows_size}
use Rattle.std.specs.Slice.ArrayWindows.{array_windows_parts}
use Rattle.jitter_asking.proofs.Asked.{PairsLeft}
use Rattle.jitter_asking.proofs.rises.Given as goal

abbrev pub invariant-loop-u : goal.invariant-loop-u
invariant-loop-u l = let left = array_windows_parts l.u-iterator.iter in (windows_size left ≡ 2) × PairsLeft l.us (windows_rest left) l.rising
