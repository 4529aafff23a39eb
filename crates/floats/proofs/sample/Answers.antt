-- `floats::sample` meets its contract: the two bytes as an i16 are the model's signed number, and every such number is a float.
-- Assumes nothing.
use Rattle.std.proofs.Common.{◌≡◌, ℕ, suc, ◌+◌, ◌-◌, ◌*◌, ◌<◌, ltb, refl, ap, arith, w16, to_z}
use lib.Ieee.{Float, binary32, div, of_int, of_bits}
use mir.ValLaws.{to_z-Fits, to_z-of_z}
use Rattle.model.specs.Floats.{nearest, natf, signed16, sample}
use Rattle.model.proofs.BoolLaws.{by_test}
use Rattle.floats.proofs.sample.Goals as goal

-- 32767 as MIR has it, by its bit pattern
divisor : of_bits binary32 0x46ff_fe00 ≡ natf 32767
unfolding of_bits of_int
divisor = refl

read_signed : (b : ℕ) → b < 0x1_0000 → to_z w16 b ≡ signed16 b
unfolding signed16
read_signed b h =
    let same : 0x1_0000 - suc b ≡ 0xffff - b = omega arith in
    by_test (ltb b 0x8000) (λ e. simp e) (λ e. simp (e, same))

pub returns : goal.returns
unfolding sample
returns c = let b = c.args.lo + 256 * c.args.hi in
    let h : b < 0x1_0000 = omega arith in
    let order : c.args.lo + c.args.hi * 256 ≡ b = omega arith in
    rw (c.from_le_bytes.ensures, order, to_z-of_z w16 (to_z w16 b) (to_z-Fits w16 b (record { fits = h })), read_signed b h)
    (ap (λ (y : Float). div binary32 (nearest (signed16 b)) y) divisor)
