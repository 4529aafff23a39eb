-- What the functions promise that write text. Assumes nothing.
use Rattle.std.specs.Prelude.{◌≡◌, ℕ, ◌+◌, List, length, Option, Some, None}
use Rattle.std.proofs.Math.Option as maybe
use Rattle.std.proofs.Math.Option.{get_or}
use Rattle.model.specs.Bytes.{written_into}

-- the place behind what was written, or none where nothing was written
abbrev pub next_or_no_room : ℕ → maybe.Option (List ℕ) → Option ℕ
next_or_no_room next maybe.none = None
next_or_no_room next (maybe.some bytes) = Some next

-- the bytes were written from a place on, or did not fit and the target is as it was
pub record Written (bytes : List ℕ) (at : ℕ) (entry exit : List ℕ) (answer : Option ℕ) : Type 0 where
  pub answered : answer ≡ next_or_no_room (at + length bytes) (written_into at bytes entry)
  pub target : exit ≡ get_or (written_into at bytes entry) entry
