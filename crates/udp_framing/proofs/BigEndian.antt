-- What the library reads of an array of bytes, and writes into one, is the model's big-endian number. Assumes nothing.
use Rattle.std.proofs.Common.{◌≡◌, ℕ, zero, suc, ◌+◌, ◌/◌, ◌%◌, ◌^◌, ◌<◌, ◌≤◌, List, [], ◌∷◌, length, refl, ap, arith, w8, w16, w32, w64, length-take, length-drop}
use Rattle.std.specs.Int.{from_be_bytes, to_be_bytes, bytes_high_first}
use Rattle.model.specs.Bytes.{big_endian, big_endian_at, big_endian_bytes, part}

-- ---- numbers that are read

part_length : (at k : ℕ) (xs : List ℕ) → at + k ≤ length xs → length (part at k xs) ≡ k
part_length at k xs fits = simp (length-take, length-drop) (omega arith)

one_byte : (bs : List ℕ) → length bs ≡ 1 → from_be_bytes w8 bs ≡ big_endian bs
unfolding big_endian
one_byte [] l = absurd (omega arith)
one_byte (a ∷ []) l = omega arith
one_byte (a ∷ b ∷ rest) l = absurd (omega arith)

two_bytes : (bs : List ℕ) → length bs ≡ 2 → from_be_bytes w16 bs ≡ big_endian bs
unfolding big_endian
two_bytes (a ∷ b ∷ []) l = omega arith
two_bytes _ l = absurd (omega arith)

four_bytes : (bs : List ℕ) → length bs ≡ 4 → from_be_bytes w32 bs ≡ big_endian bs
unfolding big_endian
four_bytes (a ∷ b ∷ c ∷ d ∷ []) l = omega arith
four_bytes _ l = absurd (omega arith)

eight_bytes : (bs : List ℕ) → length bs ≡ 8 → from_be_bytes w64 bs ≡ big_endian bs
unfolding big_endian
eight_bytes (a ∷ b ∷ c ∷ d ∷ e ∷ f ∷ g ∷ h ∷ []) l = omega arith
eight_bytes _ l = absurd (omega arith)

module _ (at : ℕ) (xs : List ℕ) where
  pub read_1 : at + 1 ≤ length xs → from_be_bytes w8 (part at 1 xs) ≡ big_endian_at at 1 xs
  read_1 fits = one_byte (part at 1 xs) (part_length at 1 xs fits)

  pub read_2 : at + 2 ≤ length xs → from_be_bytes w16 (part at 2 xs) ≡ big_endian_at at 2 xs
  read_2 fits = two_bytes (part at 2 xs) (part_length at 2 xs fits)

  pub read_4 : at + 4 ≤ length xs → from_be_bytes w32 (part at 4 xs) ≡ big_endian_at at 4 xs
  read_4 fits = four_bytes (part at 4 xs) (part_length at 4 xs fits)

  pub read_8 : at + 8 ≤ length xs → from_be_bytes w64 (part at 8 xs) ≡ big_endian_at at 8 xs
  read_8 fits = eight_bytes (part at 8 xs) (part_length at 8 xs fits)

-- ---- bytes that are written

written : (k n : ℕ) → bytes_high_first k n ≡ big_endian_bytes k n
unfolding big_endian_bytes
written zero n = refl
written (suc zero) n = ap (λ (b : ℕ). b ∷ []) (omega arith)
written (suc (suc k)) n = ap (λ (bs : List ℕ). n / 256 ^ suc k % 256 ∷ bs) (written (suc k) n)

pub written_2 : (n : ℕ) → to_be_bytes w16 n ≡ big_endian_bytes 2 n
written_2 n = written 2 n

pub written_4 : (n : ℕ) → to_be_bytes w32 n ≡ big_endian_bytes 4 n
written_4 n = written 4 n

pub written_8 : (n : ℕ) → to_be_bytes w64 n ≡ big_endian_bytes 8 n
written_8 n = written 8 n

pub byte_written : (n : ℕ) → n < 256 → n ∷ [] ≡ big_endian_bytes 1 n
unfolding big_endian_bytes
byte_written n byte =
    let same : n ≡ n / 1 % 256 = omega arith in
    ap (λ (b : ℕ). b ∷ []) same
