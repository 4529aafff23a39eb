-- `floats::nearest_i64_to_f32` meets its contract: the float of a negative number's size, negated, is its own. Assumes nothing.
use Rattle.std.proofs.Common.{◌≡◌, suc, false, ℤ, pos, negsuc, unsigned_abs, w64, to_z, of_z, sym, ◌∙◌, true≢false}
use lib.Dec.{leb-zero}
use lib.Ieee.{binary32, neg, of_int}
use lib.Signed.{le_z}
use mir.ValLaws.{to_z-of_z}
use Rattle.floats.proofs.Sign.{neg_round}
use Rattle.floats.proofs.nearest_i64_to_f32.Goals as goal

size_negated : (n : ℤ) → le_z (pos 0) n ≡ false → neg (of_int binary32 (pos (unsigned_abs n))) ≡ of_int binary32 n
unfolding neg of_int
size_negated (pos a) below = absurd (true≢false (sym (leb-zero a) ∙ below))
size_negated (negsuc a) below = neg_round binary32 (suc a) 1

pub returns-else-n-ge0 : goal.returns-else-n-ge0
returns-else-n-ge0 c =
    let same : to_z w64 (of_z w64 c.args.n) ≡ c.args.n = to_z-of_z w64 c.args.n c.ranges.n in
    rw (c.nearest_u64_to_f32-else-n-ge0.ensures, c.unsigned_abs.ensures.value, same) (size_negated c.args.n (rw same at c.if-n-ge0.false))
