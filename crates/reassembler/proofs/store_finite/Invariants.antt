-- `reassembler::store_finite` meets its contract. The loop's invariant: the first j values are finite, and stored. Assumes nothing.
use mathlib.Core.Path.{◌≡◌}
use mathlib.Core.List.{◌++◌, map}
use lib.ListN.{take, drop}
use Rattle.reassembler.specs.Rows.{value_of}
use Rattle.reassembler.proofs.Prefix.{PrefixPast}
use Rattle.reassembler.proofs.store_finite.Given as goal

abbrev pub invariant-loop-j : goal.invariant-loop-j
invariant-loop-j l = PrefixPast (map value_of l.values) l.j × (l.to ≡ take l.j (map value_of l.values) ++ drop l.j l.initial.to)
