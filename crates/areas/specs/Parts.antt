-- What a move inside a list leaves. Assumes nothing.
use Rattle.std.specs.Prelude.{ℕ}
use mathlib.Core.List.{List}
use Rattle.model.specs.Bytes.{part, placed}

-- xs with the n elements from `from` written again from `to` on
abbrev pub moved {ℓ} : {A : Type ℓ} → ℕ → ℕ → ℕ → List A → List A
moved from to n xs = placed to (part from n xs) xs
