-- `floats_c::floats_nearest_i64_to_f32` meets its contract, which is the callee's: the machine reads n back from its bits, and n fits. Assumes nothing.
use Rattle.std.proofs.Common.{ℤ, ap, ◌∙◌, w64}
use mir.ValLaws.{to_z-of_z}
use Rattle.model.specs.Floats.{nearest}
use Rattle.floats_c.proofs.floats_nearest_i64_to_f32.Goals as goal

pub returns : goal.returns
returns c = c.nearest_i64_to_f32.ensures ∙ ap (λ (z : ℤ). nearest z) (to_z-of_z w64 c.args.n c.ranges.n)
