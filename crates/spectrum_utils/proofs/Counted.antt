-- A list made by a rule of the numbers from 0 on has the rule's value at each place. Assumes nothing.
use mathlib.Core.Path.{◌≡◌, ◌∙◌, ap}
use mathlib.Core.List.{map}
use Prim.Native.Nat.{ℕ, zero, suc, ◌+◌, ◌<◌}
use native.Mathlib.Omega.{arith}
use lib.ListN.{get_or}
use Rattle.model.specs.Picture.{count_from}

get_d_counted : (f : ℕ → ℕ) (i n k d : ℕ) → k < n → get_or (map f (count_from i n)) k d ≡ f (i + k)
unfolding count_from
get_d_counted f i zero k d h = absurd (omega arith)
get_d_counted f i (suc n) zero d h = ap f (omega arith)
get_d_counted f i (suc n) (suc k) d h = get_d_counted f (suc i) n k d (omega arith) ∙ ap f (omega arith)

pub rule_at : (f : ℕ → ℕ) (n k d : ℕ) → k < n → get_or (map f (count_from 0 n)) k d ≡ f k
rule_at f n k d h = get_d_counted f 0 n k d h ∙ ap f (omega arith)
