-- Numbers in bytes, and the bytes of numbers: a byte is a number below 256, a list of bytes is read from its front. Assumes nothing.
use Rattle.std.specs.Prelude.{ℕ, zero, suc, ◌+◌, ◌*◌, ◌/◌, ◌%◌, ◌^◌, Bool, true, ◌&&◌, cond, List, [], ◌∷◌, ◌++◌, length, take, drop, leb}
use Rattle.std.proofs.Math.Option.{Option, none, some}

-- the big-endian number that the bytes are
unfoldable pub big_endian : List ℕ → ℕ
big_endian [] = 0
big_endian (b ∷ bs) = b * 256 ^ length bs + big_endian bs

-- the little-endian number that the bytes are
unfoldable pub little_endian : List ℕ → ℕ
little_endian [] = 0
little_endian (b ∷ bs) = b + 256 * little_endian bs

-- the low k bytes of n, big-endian
unfoldable pub big_endian_bytes : ℕ → ℕ → List ℕ
big_endian_bytes zero n = []
big_endian_bytes (suc k) n = n / 256 ^ k % 256 ∷ big_endian_bytes k n

-- every element passes the test
unfoldable pub all {ℓ} : {A : Type ℓ} → (A → Bool) → List A → Bool
all f [] = true
all f (x ∷ xs) = f x && all f xs

-- the k elements from a place on
abbrev pub part {ℓ} : {A : Type ℓ} → ℕ → ℕ → List A → List A
part at k xs = take k (drop at xs)

-- xs with ys written from a place on
unfoldable pub placed {ℓ} : {A : Type ℓ} → ℕ → List A → List A → List A
placed at ys xs = take at xs ++ (ys ++ drop (at + length ys) xs)

-- question 2 of a target: the bytes written from a place on, or none where the target is too short
unfoldable pub written_into : ℕ → List ℕ → List ℕ → Option (List ℕ)
written_into at bytes target = cond (leb (at + length bytes) (length target)) (some (placed at bytes target)) none

-- the big-endian number in the k bytes from a place on
abbrev pub big_endian_at : ℕ → ℕ → List ℕ → ℕ
big_endian_at at k bytes = big_endian (part at k bytes)
