-- A float of code is a bit pattern; the model's whole numbers are the nearest floats. The constants of both are the same: each by computing. Assumes nothing.
use mathlib.Core.Path.{◌≡◌, refl}
use lib.Count.{count_trailing_zeros}
use lib.Ieee as Ieee
use lib.Ieee.{binary32}
use Rattle.model.specs.Floats.{natf, f0, f1}

pub f_zero : Ieee.of_bits binary32 0 ≡ f0
unfolding Ieee.of_bits Ieee.of_fields Ieee.odd
f_zero = refl

-- Named on an `unfolding` line, it opens what a constant's two sides compute by.
computes : Unit {0}
unfolding Ieee.of_bits Ieee.of_fields Ieee.odd count_trailing_zeros Ieee.of_int Ieee.round Ieee.size Ieee.span Ieee.climb Ieee.units
computes = tt

pub f_one : Ieee.of_bits binary32 0x3f800000 ≡ f1
unfolding computes
f_one = refl

pub f_three : Ieee.of_bits binary32 0x40400000 ≡ natf 3
unfolding computes
f_three = refl

pub f_four : Ieee.of_bits binary32 0x40800000 ≡ natf 4
unfolding computes
f_four = refl

pub f_30 : Ieee.of_bits binary32 0x41f00000 ≡ natf 30
unfolding computes
f_30 = refl

pub f_100 : Ieee.of_bits binary32 0x42c80000 ≡ natf 100
unfolding computes
f_100 = refl

pub f_255 : Ieee.of_bits binary32 0x437f0000 ≡ natf 255
unfolding computes
f_255 = refl

pub f_1000 : Ieee.of_bits binary32 0x447a0000 ≡ natf 1000
unfolding computes
f_1000 = refl

pub f_48000 : Ieee.of_bits binary32 0x473b8000 ≡ natf 48000
unfolding computes
f_48000 = refl

pub f_1000000 : Ieee.of_bits binary32 0x49742400 ≡ natf 1000000
unfolding computes
f_1000000 = refl
