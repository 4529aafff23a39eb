-- A number that is at most a list's length counts elements at its start. Assumes nothing.
use Rattle.std.proofs.Common.{ℕ, ◌≤◌, List, length, sym, length-take-le}
use Rattle.io.specs.Counts.{IsPrefixLen}

pub counts : (n : ℕ) (xs : List ℕ) → n ≤ length xs → IsPrefixLen n xs
counts n xs within = (within, sym (length-take-le n xs within))
