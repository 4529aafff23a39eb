-- The range of a number in bytes: k bytes, each below 256, are a number below 256 to the k. Assumes nothing.
use Prim.Native.Nat.{ℕ, ◌^◌, ◌<◌}
use native.Mathlib.Omega.{arith}
use native.Mathlib.Nat.{lt_of_lt_of_le, pow-le-pow_right}
use mathlib.Core.Path.{◌≡◌}
use mathlib.Core.Bool.{true}
use mathlib.Core.List.{List}
use lib.ListN.{drop, length-take}
use lib.Dec.{lit≤}
use Rattle.model.specs.Bytes.{big_endian_at, part, all}
use Rattle.model.specs.Framing.{header_fields}
use Rattle.model.proofs.ListLaws.{all_drop, all_take}
use Rattle.model.proofs.BytesLaws.{is_byte, big_endian_below}

-- every one is below 256
abbrev pub Bytes : List ℕ → Type 0
Bytes bytes = all is_byte bytes ≡ true

pub field_below : (at k : ℕ) (bytes : List ℕ) → Bytes bytes → big_endian_at at k bytes < 256 ^ k
field_below at k bytes h =
    lt_of_lt_of_le
    (big_endian_below (part at k bytes) (all_take is_byte k (drop at bytes) (all_drop is_byte at bytes h)))
    (pow-le-pow_right (lit≤ tt) (simp length-take (omega arith)))

pub sequence_below : (bytes : List ℕ) → Bytes bytes → (header_fields bytes).sequence < 2 ^ 32
unfolding header_fields
sequence_below bytes h = field_below 4 4 bytes h
