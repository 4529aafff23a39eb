-- A difference of words of 64 bits wraps. Assumes nothing.
use Rattle.std.proofs.Common.{◌≡◌, ℕ, ◌+◌, ◌-◌, ◌%◌, ◌^◌, ◌<◌, arith}

-- with what was taken away it wraps to what it was taken from
pub wraps_back : (m n : ℕ) → m < 2 ^ 64 → n < 2 ^ 64 → ((m + (2 ^ 64 - n)) % 2 ^ 64 + n) % 2 ^ 64 ≡ m
wraps_back m n p q = omega arith
