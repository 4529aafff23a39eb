-- Numbers in text, digit by digit: the last digit is what is left of a division by the base, and the digits before it are those of the quotient.
-- Text of a number is ASCII, and has as many digits as the number needs. Assumes nothing.
use Prim.Native.Nat.{ℕ, zero, suc, ◌+◌, ◌*◌, ◌/◌, ◌%◌, ◌^◌, ◌≤◌, ◌<◌}
use mathlib.Core.Path.{◌≡◌, refl, ap, ◌∙◌}
use mathlib.Core.Bool.{Bool, true, false}
use mathlib.Core.List.{List, [], ◌∷◌, ◌++◌, append_assoc}
use native.Mathlib.Omega.{arith}
use native.Mathlib.Nat.{div-div-eq-div-mul, pow-succ'}
use lib.IntN.{ℤ, pos, negsuc}
use lib.ListN.{length, length-append}
use lib.Dec.{ltb}
use borrow.Author.Tests.{ltb-true, ltb-false, lt-ltb, le-ltb}
use Rattle.model.specs.Bytes.{all}
use Rattle.model.specs.Replay.{digits_before, decimal, signed_decimal, hex_digit, hex_digits}
use Rattle.model.proofs.BoolLaws.{by_test, cond_keeps}
use Rattle.model.proofs.ListLaws.{all_cons, all_append}

-- ---- the digits before those that are there

digits_last : (fuel n : ℕ) (rest : List ℕ) → ltb n 10 ≡ true → digits_before (suc fuel) n rest ≡ (48 + n) ∷ rest
unfolding digits_before
digits_last fuel n rest e = rw e

digits_more : (fuel n : ℕ) (rest : List ℕ) → ltb n 10 ≡ false → digits_before (suc fuel) n rest ≡ digits_before fuel (n / 10) ((48 + n % 10) ∷ rest)
unfolding digits_before
digits_more fuel n rest e = rw e

-- what is there already stays behind the digits
digits_before_rest : (fuel n : ℕ) (rest : List ℕ) → digits_before fuel n rest ≡ digits_before fuel n [] ++ rest
unfolding digits_before
digits_before_rest zero n rest = refl
digits_before_rest (suc fuel) n rest =
    by_test (ltb n 10)
    (λ e. rw e)
    (λ e. rw (e, digits_before_rest fuel (n / 10) ((48 + n % 10) ∷ rest), digits_before_rest fuel (n / 10) ((48 + n % 10) ∷ []), append_assoc))

-- more fuel than is needed changes nothing
fuel_above : (f g n : ℕ) (rest : List ℕ) → n < f → n < g → digits_before f n rest ≡ digits_before g n rest
fuel_above zero g n rest l m = absurd (omega arith)
fuel_above (suc f) zero n rest l m = absurd (omega arith)
fuel_above (suc f) (suc g) n rest l m =
    by_test (ltb n 10)
    (λ e. rw (digits_last f n rest e, digits_last g n rest e))
    (λ e.
    let ten : 10 ≤ n = ltb-false n 10 e in
    rw (digits_more f n rest e, digits_more g n rest e)
    (fuel_above f g (n / 10) ((48 + n % 10) ∷ rest) (omega arith) (omega arith)))

-- ---- decimal, digit by digit

pub decimal_one_digit : (n : ℕ) → n < 10 → decimal n ≡ (48 + n) ∷ []
unfolding decimal
decimal_one_digit n l = digits_last n n [] (lt-ltb n 10 l)

pub decimal_last_digit : (n : ℕ) → 10 ≤ n → decimal n ≡ decimal (n / 10) ++ ((48 + n % 10) ∷ [])
unfolding decimal
decimal_last_digit n l =
    digits_more n n [] (le-ltb n 10 l)
    ∙ digits_before_rest n (n / 10) ((48 + n % 10) ∷ [])
    ∙ ap (λ (ds : List ℕ). ds ++ ((48 + n % 10) ∷ [])) (fuel_above n (suc (n / 10)) (n / 10) [] (omega arith) (omega arith))

-- what holds of one digit, and of a number where it holds of the number without its last digit, holds of every number
pub by_last_digit {ℓ} : (P : ℕ → Type ℓ) → ((n : ℕ) → n < 10 → P n) → ((n : ℕ) → 10 ≤ n → P (n / 10) → P n) → (n : ℕ) → P n
by_last_digit P one more n = go (suc n) n (omega arith)
  where
    go : (fuel n : ℕ) → n < fuel → P n
    go zero n l = absurd (omega arith)
    go (suc fuel) n l =
        by_test (ltb n 10)
        (λ e. one n (ltb-true n 10 e))
        (λ e.
        let ten : 10 ≤ n = ltb-false n 10 e in
        more n ten (go fuel (n / 10) (omega arith)))

-- ---- hexadecimal, digit by digit

pub hex_last_digit : (k n : ℕ) → hex_digits (suc k) n ≡ hex_digits k (n / 16) ++ (hex_digit (n % 16) ∷ [])
unfolding hex_digits
hex_last_digit zero n = ap (λ (d : ℕ). hex_digit d ∷ []) (omega arith)
hex_last_digit (suc k) n =
    rw (div-div-eq-div-mul, ← pow-succ' 16 k) (ap (λ (ds : List ℕ). hex_digit (n / 16 ^ suc k % 16) ∷ ds) (hex_last_digit k n))

-- ---- lengths

pub hex_digits_length : (k n : ℕ) → length (hex_digits k n) ≡ k
unfolding hex_digits
hex_digits_length zero n = refl
hex_digits_length (suc k) n = ap suc (hex_digits_length k n)

pub decimal_one_longer : (n : ℕ) → 10 ≤ n → length (decimal n) ≡ length (decimal (n / 10)) + 1
decimal_one_longer n l = rw (decimal_last_digit n l, length-append)

pub decimal_never_empty : (n : ℕ) → 0 < length (decimal n)
decimal_never_empty =
    by_last_digit (λ n. 0 < length (decimal n))
    (λ n l. rw (decimal_one_digit n l) (omega arith))
    (λ n l h. rw (decimal_one_longer n l) (omega arith))

-- a number below 10^k has at most k digits, and 0 has one
pub decimal_at_most : (k n : ℕ) → n < 10 ^ suc k → length (decimal n) ≤ suc k
decimal_at_most zero n l = rw (decimal_one_digit n (omega arith)) (omega arith)
decimal_at_most (suc k) n l =
    by_test (ltb n 10)
    (λ e. rw (decimal_one_digit n (ltb-true n 10 e)) (omega arith))
    (λ e.
    let below : n < 10 * 10 ^ suc k = rw pow-succ' at l in
    let h : length (decimal (n / 10)) ≤ suc k = decimal_at_most k (n / 10) (omega arith) in
    rw (decimal_one_longer n (ltb-false n 10 e)) (omega arith))

-- ---- text of a number is ASCII

abbrev pub is_ascii : ℕ → Bool
is_ascii b = ltb b 128

pub decimal_is_ascii : (n : ℕ) → all is_ascii (decimal n) ≡ true
unfolding all
decimal_is_ascii =
    by_last_digit (λ n. all is_ascii (decimal n) ≡ true)
    (λ n l. rw (decimal_one_digit n l) (all_cons is_ascii (48 + n) [] (lt-ltb (48 + n) 128 (omega arith)) refl))
    (λ n l h.
    rw (decimal_last_digit n l)
    (all_append is_ascii (decimal (n / 10)) ((48 + n % 10) ∷ []) h (all_cons is_ascii (48 + n % 10) [] (lt-ltb (48 + n % 10) 128 (omega arith)) refl)))

pub signed_decimal_is_ascii : (z : ℤ) → all is_ascii (signed_decimal z) ≡ true
unfolding signed_decimal
signed_decimal_is_ascii (pos n) = decimal_is_ascii n
signed_decimal_is_ascii (negsuc n) = all_cons is_ascii 45 (decimal (suc n)) refl (decimal_is_ascii (suc n))

hex_digit_is_ascii : (d : ℕ) → d < 16 → is_ascii (hex_digit d) ≡ true
unfolding hex_digit
hex_digit_is_ascii d l =
    lt-ltb (hex_digit d) 128 (cond_keeps (λ x. x < 128) (ltb d 10) (48 + d) (87 + d) (λ e. omega arith) (λ e. omega arith))

pub hex_digits_are_ascii : (k n : ℕ) → all is_ascii (hex_digits k n) ≡ true
unfolding hex_digits all
hex_digits_are_ascii zero n = refl
hex_digits_are_ascii (suc k) n =
    all_cons is_ascii (hex_digit (n / 16 ^ k % 16)) (hex_digits k n) (hex_digit_is_ascii (n / 16 ^ k % 16) (omega arith)) (hex_digits_are_ascii k n)
