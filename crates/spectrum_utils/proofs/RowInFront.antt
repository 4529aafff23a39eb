-- A running row whose front is written over, all bins of a row. Assumes nothing.
use mathlib.Core.Path.{◌≡◌, refl}
use mathlib.Core.List.{List, ◌++◌}
use Prim.Native.Nat.{ℕ}
use lib.ListN.{length, drop}
use lib.Ieee.{Float}
use Rattle.spectrum_utils.specs.Promises.{InFront}

pub front_written : (values front entry : List Float) (bins : ℕ) → front ≡ values → length values ≡ bins → InFront values entry (front ++ drop bins entry) bins
front_written values front entry bins is long = rw (is, ← long) (record { count = refl; placed = refl })
