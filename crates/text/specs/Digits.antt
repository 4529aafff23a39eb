-- The last digits of a number in a base. Assumes nothing.
use Rattle.std.specs.Prelude.{ℕ, zero, suc, ◌/◌, ◌%◌, ◌<◌, ◌≤◌, List, [], ◌∷◌, ◌++◌}
use Rattle.model.specs.Replay.{hex_digit}

-- each digit of the base is one of 0 to 9 and a to f
pub record Base (base : ℕ) : Type 0 where
  pub some : 0 < base
  pub most : base ≤ 16

-- the last k digits of n
unfoldable pub digits_in : ℕ → ℕ → ℕ → List ℕ
digits_in base zero n = []
digits_in base (suc k) n = digits_in base k (n / base) ++ (hex_digit (n % base) ∷ [])
