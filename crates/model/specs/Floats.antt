-- Float helpers. Every float of the receiver is an f32; each operation is IEEE 754's at binary32 and rounds once. Assumes nothing.
use Rattle.std.specs.Prelude.{ℕ, ◌+◌, ◌-◌, ◌*◌, ◌/◌, Bool, true, false, ◌||◌, cond, ℤ, pos, negsuc, neg_ℤ, ltb, Float}
use Rattle.std.specs.Float.Ieee as Ieee
use Rattle.std.specs.Float.{nan, inf, fin, binary32}

-- ---- the steps: one rounding each

infixl 60 ◌+f◌ ◌-f◌
infixl 70 ◌*f◌ ◌/f◌
abbrev pub ◌+f◌ : Float → Float → Float
a +f b = Ieee.add binary32 a b

abbrev pub ◌-f◌ : Float → Float → Float
a -f b = Ieee.sub binary32 a b

abbrev pub ◌*f◌ : Float → Float → Float
a *f b = Ieee.mul binary32 a b

abbrev pub ◌/f◌ : Float → Float → Float
a /f b = Ieee.div binary32 a b

-- ---- tests and conversions

-- neither a NaN nor an infinity
unfoldable pub finite : Float → Bool
finite nan = false
finite (inf s) = false
finite (fin s m e) = true

-- `as` to an unsigned number of w bits: toward zero, to the nearest end of the range, and a NaN gives 0
abbrev pub as_unsigned : ℕ → Float → ℕ
as_unsigned w x = Ieee.to_unsigned w x

-- Rounding to whole goes half away from zero: of a magnitude n / d it is (2 n + d) / (2 d) in whole numbers, with the sign kept.
unfoldable pub round_half_away : Float → Float
round_half_away nan = nan
round_half_away (inf s) = inf s
round_half_away (fin s m e) = Ieee.round binary32 s ((2 * (m * Ieee.up e) + Ieee.down e) / (2 * Ieee.down e)) 1

-- `max` skips a NaN: b where b > a or a is a NaN, else a
unfoldable pub maxf : Float → Float → Float
maxf a b = cond (Ieee.lt a b || Ieee.is_nan a) b a

-- `clamp` passes a NaN
unfoldable pub clampf : Float → Float → Float → Float
clampf x low high = cond (Ieee.lt x low) low (cond (Ieee.lt high x) high x)

-- a signed number as the nearest f32, ties to even
abbrev pub nearest : ℤ → Float
nearest n = Ieee.of_int binary32 n

-- an unsigned number as the nearest f32
abbrev pub natf : ℕ → Float
natf n = nearest (pos n)

-- the f32 of a pattern of 32 bits: a NaN pattern gives a NaN
abbrev pub from_bits : ℕ → Float
from_bits b = Ieee.of_bits binary32 b

-- the pattern of an f32: a NaN gives the canonical one, 7fc00000
abbrev pub to_bits : Float → ℕ
to_bits x = Ieee.to_bits binary32 x

-- the signed number that the low 16 bits b are
unfoldable pub signed16 : ℕ → ℤ
signed16 b = cond (ltb b 0x8000) (pos b) (negsuc (0xffff - b))

-- A sample is a little-endian i16, of the bytes lo and hi, divided by 32767.
unfoldable pub sample : ℕ → ℕ → Float
sample lo hi = nearest (signed16 (lo + 256 * hi)) /f natf 32767

-- ---- constants: whole numbers exactly, the others by their bit patterns

abbrev pub f0 : Float
f0 = fin false 0 (pos 0)

abbrev pub f1 : Float
f1 = natf 1

-- 0.01
abbrev pub f0·01 : Float
f0·01 = from_bits 0x3c23d70a

-- 0.05
abbrev pub f0·05 : Float
f0·05 = from_bits 0x3d4ccccd

-- 0.20
abbrev pub f0·20 : Float
f0·20 = from_bits 0x3e4ccccd

-- 0.25
abbrev pub f0·25 : Float
f0·25 = from_bits 0x3e800000

-- 0.5
abbrev pub f0·5 : Float
f0·5 = from_bits 0x3f000000

-- 0.75
abbrev pub f0·75 : Float
f0·75 = from_bits 0x3f400000

-- 0.9
abbrev pub f0·9 : Float
f0·9 = from_bits 0x3f666666

-- 0.98
abbrev pub f0·98 : Float
f0·98 = from_bits 0x3f7ae148

-- 0.99
abbrev pub f0·99 : Float
f0·99 = from_bits 0x3f7d70a4

-- 0.999
abbrev pub f0·999 : Float
f0·999 = from_bits 0x3f7fbe77

-- -35
abbrev pub f_35 : Float
f_35 = nearest (neg_ℤ (pos 35))
