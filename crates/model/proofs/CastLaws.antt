-- What a cast between signed and unsigned numbers of 64 bits gives is what the definitions say of the bits. Assumes nothing.
use Rattle.std.proofs.Common.{◌≡◌, ℕ, suc, ◌-◌, ◌%◌, ◌^◌, Bool, true, false, cond, ltb, ℤ, pos, negsuc, refl, sym, mod-eq_of_lt, arith, w64, SFits, to_z, of_z}
use mir.Syntax.{w128}
use mir.Val.{sel}
use Rattle.model.specs.Clock.{bits64, signed64}

either : (t : Bool) (x y : ℤ) → sel t x y ≡ cond t x y
either true x y = refl
either false x y = refl

pub signed_of_bits : (b : ℕ) → to_z w64 b ≡ signed64 b
unfolding signed64
signed_of_bits b = either (ltb b (2 ^ 63)) (pos b) (negsuc (2 ^ 64 - suc b))

pub bits_of_signed : (n : ℤ) → SFits w64 n → of_z w64 n ≡ bits64 n
unfolding bits64
bits_of_signed (pos n) f = sym (mod-eq_of_lt (omega (arith, f.sfits)))
bits_of_signed (negsuc n) f =
    let small : n % 2 ^ 64 ≡ n = mod-eq_of_lt (omega (arith, f.sfits)) in
    rw small refl

-- the low half of 128 bits
pub low_bits_of_signed : (n : ℤ) → SFits w128 n → of_z w128 n % 2 ^ 64 ≡ bits64 n
unfolding bits64
low_bits_of_signed (pos n) f = refl
low_bits_of_signed (negsuc n) f = omega (arith, f.sfits)
