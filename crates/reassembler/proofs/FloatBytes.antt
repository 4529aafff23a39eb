-- The floats of bytes are those of their fours. Assumes nothing.
use mathlib.Core.Path.{◌≡◌, refl}
use mathlib.Core.List.{List, [], ◌∷◌, map}
use Prim.Native.Nat.{ℕ, zero, suc, ◌/◌}
use native.Mathlib.Omega.{arith}
use lib.ListN.{length}
use Rattle.std.specs.Int.{w32, from_le_bytes}
use Rattle.std.specs.Simd.{first_chunks}
use Rattle.model.specs.Bytes.{little_endian}
use Rattle.model.specs.Row.{floats_of}
use Rattle.reassembler.specs.Rows.{value_of}

four_bytes : (a b c d : ℕ) → little_endian (a ∷ b ∷ c ∷ d ∷ []) ≡ from_le_bytes w32 (a ∷ b ∷ c ∷ d ∷ [])
unfolding little_endian
four_bytes a b c d = omega arith

pub floats_of_fours : (k : ℕ) (bytes : List ℕ) → k ≡ length bytes / 4 → floats_of bytes ≡ map value_of (first_chunks 4 k bytes)
unfolding floats_of
floats_of_fours zero (a ∷ b ∷ c ∷ d ∷ rest) h = absurd (omega arith)
floats_of_fours zero _ h = refl
floats_of_fours (suc k) (a ∷ b ∷ c ∷ d ∷ rest) h = rw (four_bytes a b c d, floats_of_fours k rest (omega arith))
floats_of_fours (suc k) _ h = absurd (omega arith)
