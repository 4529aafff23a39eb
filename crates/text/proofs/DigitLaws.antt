-- The last digits of a number are its decimal text where they are as many as it has, and its text in hexadecimal. Assumes nothing.
use Rattle.std.proofs.Common.{◌≡◌, ℕ, zero, suc, ◌+◌, ◌-◌, ◌/◌, ◌%◌, ◌<◌, ◌≤◌, ◌*◌, ◌^◌, Option, Some, None, IfNone, IfSome, MatchOption, List, length, set, sym, refl, add-one, arith, length-append, lt-ltb}
use Rattle.model.specs.Bytes.{placed}
use Rattle.model.specs.Replay.{decimal, hex_digit, hex_digits}
use Rattle.model.proofs.Decimal.{by_last_digit, decimal_one_digit, decimal_last_digit, decimal_one_longer, hex_last_digit}
use native.Mathlib.Nat.{pow-succ'}
use Rattle.text.specs.Digits.{digits_in}
use Rattle.text.proofs.WrittenLaws.{last_placed_first}

pub digits_in_length : (base k n : ℕ) → length (digits_in base k n) ≡ k
unfolding digits_in
digits_in_length base zero n = refl
digits_in_length base (suc k) n = rw (length-append, digits_in_length base k (n / base)) (add-one k)

digit_below_ten : (d : ℕ) → d < 10 → hex_digit d ≡ 48 + d
unfolding hex_digit
digit_below_ten d l = rw (lt-ltb d 10 l)

decimal_by_length : (n : ℕ) → digits_in 10 (length (decimal n)) n ≡ decimal n
unfolding digits_in
decimal_by_length =
    by_last_digit (λ n. digits_in 10 (length (decimal n)) n ≡ decimal n)
    (λ n l.
    let same : n % 10 ≡ n = omega arith in
    rw (decimal_one_digit n l, same, digit_below_ten n l))
    (λ n l h.
    rw (decimal_one_longer n l, add-one, h, decimal_last_digit n l, digit_below_ten (n % 10) (omega arith)))

pub decimal_digits : (n count : ℕ) → count ≡ length (decimal n) → digits_in 10 count n ≡ decimal n
decimal_digits n count e = rw e (decimal_by_length n)

pub hex_digits_law : (k n : ℕ) → digits_in 16 k n ≡ hex_digits k n
unfolding digits_in hex_digits
hex_digits_law zero n = refl
hex_digits_law (suc k) n = rw (hex_digits_law k (n / 16)) (sym (hex_last_digit k n))

-- a digit is written, and the digits before it are those of the quotient
pub digit_placed : (base at i left : ℕ) (target : List ℕ) → 0 < i → at + i ≤ length target
    → placed at (digits_in base (i - 1) (left / base)) (set target (at + (i - 1)) (hex_digit (left % base))) ≡ placed at (digits_in base i left) target
unfolding digits_in
digit_placed base at zero left target some fits = absurd (omega arith)
digit_placed base at (suc k) left target some fits =
    let before : suc k - 1 ≡ k = omega arith in
    let long : length (digits_in base k (left / base)) ≡ k = digits_in_length base k (left / base) in
    rw before (rw long at (last_placed_first at (digits_in base k (left / base)) (hex_digit (left % base)) target (rw long (omega arith))))

-- a number from a power of ten on and below the next has a digit more than the power
pub decimal_by_power : (k n : ℕ) → 10 ^ k ≤ n → n < 10 * 10 ^ k → length (decimal n) ≡ k + 1
decimal_by_power zero n least most = rw (decimal_one_digit n (omega arith)) refl
decimal_by_power (suc k) n least most =
    let least' : 10 * 10 ^ k ≤ n = rw pow-succ' at least in
    let most' : n < 10 * (10 * 10 ^ k) = rw pow-succ' at most in
    let h : length (decimal (n / 10)) ≡ k + 1 = decimal_by_power k (n / 10) (omega arith) (omega arith) in
    rw (decimal_one_longer n (omega arith), h) (omega arith)

pub digits_by_power : (n count : ℕ) (power : Option ℕ) → IfNone power (n ≡ 0) → IfSome power (λ k. 10 ^ k ≤ n) → IfSome power (λ k. n < 10 * 10 ^ k)
    → MatchOption power (count ≡ 1) (λ k. count ≡ k + 1) → count ≡ length (decimal n)
digits_by_power n count None none least most is = rw (is, decimal_one_digit n (omega (arith, none))) refl
digits_by_power n count (Some k) none least most is = rw (is, decimal_by_power k n least most) refl
