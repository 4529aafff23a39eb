-- Numbers written as bytes, one behind the other: they are written together. Assumes nothing.
use Prim.Native.Nat.{ℕ, ◌+◌, ◌≤◌}
use mathlib.Core.Path.{◌≡◌, refl}
use mathlib.Core.List.{List, ◌++◌}
use native.Mathlib.Omega.{arith}
use native.Mathlib.Nat.{zero-add}
use lib.ListN.{length, length-append}
use Rattle.model.specs.Bytes.{big_endian_bytes, placed}
use Rattle.model.proofs.PlacedLaws.{placed_append}
use Rattle.model.proofs.BytesLaws.{length_big_endian_bytes}

-- the first bytes of a target are written: they are xs, and the next number comes at the place behind them
pub record Front (xs target now : List ℕ) (at : ℕ) : Type 0 where
  pub place : length xs ≡ at
  pub bytes : now ≡ placed 0 xs target

pub number_first : (k n : ℕ) {target now : List ℕ} → now ≡ placed 0 (big_endian_bytes k n) target → Front (big_endian_bytes k n) target now k
number_first k n e = record { place = length_big_endian_bytes k n; bytes = e }

pub number_next : (k n : ℕ) {at : ℕ} {xs target now next : List ℕ} → Front xs target now at → at + k ≤ length target
    → next ≡ placed at (big_endian_bytes k n) now → Front (xs ++ big_endian_bytes k n) target next (at + k)
number_next k n {at} {xs} {target} {now} {next} front fits e =
    record { place = rw (length-append, size, place) refl; bytes = rw (e, front.bytes, ← place, ← zero-add (length xs)) together }
  where
    place : length xs ≡ at
    place = front.place

    size : length (big_endian_bytes k n) ≡ k
    size = length_big_endian_bytes k n

    together : placed (0 + length xs) (big_endian_bytes k n) (placed 0 xs target) ≡ placed 0 (xs ++ big_endian_bytes k n) target
    together = placed_append 0 xs (big_endian_bytes k n) target (omega arith)
