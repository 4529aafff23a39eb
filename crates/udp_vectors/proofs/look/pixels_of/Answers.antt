-- `udp_vectors::look::pixels_of` is safe: allowed sizes have a picture of at most 16,777,216 places. Assumes nothing.
use Rattle.std.proofs.Common.{sym, ◌∙◌, arith}
use Rattle.sizes.proofs.Bounds.{picture_bound}
use Rattle.udp_vectors.proofs.look.pixels_of.Goals as goal

pub overflow_mul-result : goal.overflow_mul-result
overflow_mul-result c = omega (arith, picture_bound _ (sym c.allowed.ensures ∙ c.if-allowed.true))
