-- The channel that a number names, and a channel's number, for programs in other languages. Assumes nothing.
use Rattle.std.specs.Prelude.{ℕ, cond, eqb}
use Rattle.calls.specs.declared.Side.{Side}
use Rattle.calls.specs.declared.Side.TheVariants.{A, B}

-- 0 is channel A and any other number B
abbrev pub side_named : ℕ → Side
side_named n = cond (eqb n 0) A B

-- channel A is 0 and B is 1
abbrev pub side_number : Side → ℕ
side_number A = 0
side_number B = 1
