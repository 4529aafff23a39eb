-- Bytes and the numbers that they are: each is the other's inverse, and so for words of four bytes. Assumes nothing.
use Prim.Native.Nat.{ℕ, zero, suc, ◌+◌, ◌*◌, ◌/◌, ◌%◌, ◌^◌, ◌<◌}
use mathlib.Core.Path.{◌≡◌, refl, ap, ◌∙◌}
use mathlib.Core.Bool.{Bool, true}
use mathlib.Core.List.{List, [], ◌∷◌, ◌++◌, append_assoc}
use native.Mathlib.Omega.{arith}
use native.Mathlib.Nat.{pow-succ', one-le-pow, mul-add-div_right, mod-eq_of_lt, mul_assoc, mul-add-mod_self_right}
use lib.ListN.{length, take, drop, get_or}
use lib.Seq.{take_all}
use lib.Arith.{digits_lt, digits_div, mod-mul}
use lib.Dec.{ltb}
use mir.Val.{Fits}
use mir.Syntax.{w8}
use borrow.Author.Tests.{ltb-true, lt-ltb}
use Rattle.model.specs.Bytes.{all, big_endian, big_endian_bytes}
use Rattle.model.specs.Tape.{words_of, bytes_of}
use Rattle.model.proofs.ListLaws.{all_head, all_tail, all_cons, all_append, all_take, all_drop}

-- a byte, and a word
abbrev pub is_byte : ℕ → Bool
is_byte b = ltb b 256

abbrev pub is_word : ℕ → Bool
is_word w = ltb w (2 ^ 32)

-- what a slice of bytes holds are bytes
pub slice_are_bytes : (xs : List ℕ) → ((i : ℕ) → Fits w8 (get_or xs i 0)) → all is_byte xs ≡ true
unfolding all
slice_are_bytes [] h = refl
slice_are_bytes (x ∷ xs) h = all_cons is_byte x xs (lt-ltb x 256 (h 0).fits) (slice_are_bytes xs (λ i. h (suc i)))

pub length_big_endian_bytes : (k n : ℕ) → length (big_endian_bytes k n) ≡ k
unfolding big_endian_bytes
length_big_endian_bytes zero n = refl
length_big_endian_bytes (suc k) n = ap suc (length_big_endian_bytes k n)

pub big_endian_bytes_are_bytes : (k n : ℕ) → all is_byte (big_endian_bytes k n) ≡ true
unfolding big_endian_bytes all
big_endian_bytes_are_bytes zero n = refl
big_endian_bytes_are_bytes (suc k) n =
    all_cons is_byte (n / 256 ^ k % 256) (big_endian_bytes k n) (lt-ltb (n / 256 ^ k % 256) 256 (omega arith)) (big_endian_bytes_are_bytes k n)

pub big_endian_below : (bs : List ℕ) → all is_byte bs ≡ true → big_endian bs < 256 ^ length bs
unfolding big_endian
big_endian_below [] h = omega arith
big_endian_below (b ∷ bs) h =
    rw pow-succ' (digits_lt (ltb-true b 256 (all_head is_byte b bs h)) (big_endian_below bs (all_tail is_byte b bs h)))

pow_positive : (k : ℕ) → 0 < 256 ^ k
pow_positive k = one-le-pow k 256 (omega arith)

-- the low bytes do not see what stands above them
pub big_endian_bytes_low : (k m n : ℕ) → big_endian_bytes k (m * 256 ^ k + n) ≡ big_endian_bytes k n
unfolding big_endian_bytes
big_endian_bytes_low zero m n = refl
big_endian_bytes_low (suc k) m n = rw (shifted, mul-add-div_right, pow_positive k, big_endian_bytes_low k (m * 256) n, above)
  where
    shifted : m * 256 ^ suc k ≡ m * 256 * 256 ^ k
    shifted = rw (pow-succ', ← mul_assoc m 256 (256 ^ k))

    above : (m * 256 + n / 256 ^ k) % 256 ≡ n / 256 ^ k % 256
    above = mul-add-mod_self_right m 256 (n / 256 ^ k)

pub bytes_of_number : (bs : List ℕ) → all is_byte bs ≡ true → big_endian_bytes (length bs) (big_endian bs) ≡ bs
unfolding big_endian big_endian_bytes
bytes_of_number [] h = refl
bytes_of_number (b ∷ bs) h =
    let below : big_endian bs < 256 ^ length bs = big_endian_below bs (all_tail is_byte b bs h) in
    let byte : b < 256 = ltb-true b 256 (all_head is_byte b bs h) in
    rw (digits_div b below, big_endian_bytes_low (length bs) b (big_endian bs), bytes_of_number bs (all_tail is_byte b bs h), mod-eq_of_lt byte)

pub number_of_low_bytes : (k n : ℕ) → big_endian (big_endian_bytes k n) ≡ n % 256 ^ k
unfolding big_endian big_endian_bytes
number_of_low_bytes zero n = omega arith
number_of_low_bytes (suc k) n =
    rw (length_big_endian_bytes k n, number_of_low_bytes k n, pow-succ', mod-mul n {m = 256} {c = 256 ^ k} (omega arith) (pow_positive k))

pub number_of_bytes : (k n : ℕ) → n < 256 ^ k → big_endian (big_endian_bytes k n) ≡ n
number_of_bytes k n h = number_of_low_bytes k n ∙ mod-eq_of_lt h

-- ---- words of four bytes

pub four_more : (q : ℕ) → 4 * suc q ≡ suc (suc (suc (suc (4 * q))))
four_more q = omega arith

pub length_words_of : (bytes : List ℕ) → length (words_of bytes) ≡ length bytes / 4
unfolding words_of
length_words_of (a ∷ b ∷ c ∷ d ∷ rest) = rw (length_words_of rest) (omega arith)
length_words_of _ = refl

pub length_bytes_of : (ws : List ℕ) → length (bytes_of ws) ≡ 4 * length ws
unfolding bytes_of big_endian_bytes
length_bytes_of [] = refl
length_bytes_of (w ∷ ws) = rw (length_bytes_of ws) (omega arith)

pub words_of_are_words : (bytes : List ℕ) → all is_byte bytes ≡ true → all is_word (words_of bytes) ≡ true
unfolding words_of all
words_of_are_words (a ∷ b ∷ c ∷ d ∷ rest) h =
    let word : List ℕ = a ∷ b ∷ c ∷ d ∷ [] in
    all_cons is_word (big_endian word) (words_of rest)
    (lt-ltb (big_endian word) (2 ^ 32) (big_endian_below word (all_take is_byte 4 (a ∷ b ∷ c ∷ d ∷ rest) h)))
    (words_of_are_words rest (all_drop is_byte 4 (a ∷ b ∷ c ∷ d ∷ rest) h))
words_of_are_words _ h = refl

pub bytes_of_are_bytes : (ws : List ℕ) → all is_byte (bytes_of ws) ≡ true
unfolding bytes_of all
bytes_of_are_bytes [] = refl
bytes_of_are_bytes (w ∷ ws) = all_append is_byte (big_endian_bytes 4 w) (bytes_of ws) (big_endian_bytes_are_bytes 4 w) (bytes_of_are_bytes ws)

pub bytes_of_append : (xs ys : List ℕ) → bytes_of (xs ++ ys) ≡ bytes_of xs ++ bytes_of ys
unfolding bytes_of
bytes_of_append [] ys = refl
bytes_of_append (x ∷ xs) ys = rw (bytes_of_append xs ys, append_assoc)

-- words in front of a place and behind it are those of the bytes in front of it and behind it
words_cut : (q : ℕ) (bytes : List ℕ) → (take q (words_of bytes) ≡ words_of (take (4 * q) bytes)) × (drop q (words_of bytes) ≡ words_of (drop (4 * q) bytes))
unfolding words_of
words_cut zero bytes = (refl, refl)
words_cut (suc q) (a ∷ b ∷ c ∷ d ∷ rest) = let r = words_cut q rest in rw (four_more q, r.0) (refl, r.1)
words_cut (suc q) _ = rw (four_more q) (refl, refl)

pub take_words_of : (q : ℕ) (bytes : List ℕ) → take q (words_of bytes) ≡ words_of (take (4 * q) bytes)
take_words_of q bytes = (words_cut q bytes).0

pub drop_words_of : (q : ℕ) (bytes : List ℕ) → drop q (words_of bytes) ≡ words_of (drop (4 * q) bytes)
drop_words_of q bytes = (words_cut q bytes).1

pub take_bytes_of : (q : ℕ) (ws : List ℕ) → take (4 * q) (bytes_of ws) ≡ bytes_of (take q ws)
unfolding bytes_of big_endian_bytes
take_bytes_of zero ws = refl
take_bytes_of (suc q) [] = rw (four_more q)
take_bytes_of (suc q) (w ∷ ws) = rw (four_more q, take_bytes_of q ws)

-- ---- words and bytes are inverse

pub words_of_bytes_of : (ws : List ℕ) → all is_word ws ≡ true → words_of (bytes_of ws) ≡ ws
unfolding words_of bytes_of big_endian_bytes
words_of_bytes_of [] h = refl
words_of_bytes_of (w ∷ ws) h =
    rw (words_of_bytes_of ws (all_tail is_word w ws h))
    (ap (λ (x : ℕ). x ∷ ws) (number_of_bytes 4 w (ltb-true w (2 ^ 32) (all_head is_word w ws h))))

pub bytes_of_words_of : (bytes : List ℕ) → all is_byte bytes ≡ true → bytes_of (words_of bytes) ≡ take (4 * length (words_of bytes)) bytes
unfolding words_of bytes_of
bytes_of_words_of (a ∷ b ∷ c ∷ d ∷ rest) h =
    rw (
      four_more (length (words_of rest)),
      bytes_of_number (a ∷ b ∷ c ∷ d ∷ []) (all_take is_byte 4 (a ∷ b ∷ c ∷ d ∷ rest) h),
      bytes_of_words_of rest (all_drop is_byte 4 (a ∷ b ∷ c ∷ d ∷ rest) h),
    )
bytes_of_words_of _ h = refl

-- bytes that are whole words
pub bytes_of_whole_words : (bytes : List ℕ) → all is_byte bytes ≡ true → length bytes % 4 ≡ 0 → bytes_of (words_of bytes) ≡ bytes
bytes_of_whole_words bytes h e = bytes_of_words_of bytes h ∙ take_all (4 * length (words_of bytes)) bytes (rw (length_words_of bytes) (omega arith))
