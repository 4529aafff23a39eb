-- What is read of an input whose bytes are known. Assumes nothing.
use Rattle.std.specs.Prelude.{ℕ, ◌<◌, List, length, take, Option}
use Rattle.std.specs.Io.KnownBytes.{Consumes, IsAtEnd}

-- the first n bytes are those that the input had next, and it has lost them
abbrev pub ReadBefore : Option (List ℕ) → Option (List ℕ) → List ℕ → ℕ → Type 0
ReadBefore before left bytes n = Consumes before left (take n bytes)

-- so they are, and where they are fewer than there was room for, the input has no more
abbrev pub ReadUntil : Option (List ℕ) → Option (List ℕ) → List ℕ → ℕ → Type 0
ReadUntil before left bytes n = ReadBefore before left bytes n × (n < length bytes → IsAtEnd left)
