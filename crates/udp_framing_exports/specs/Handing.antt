-- How values that may be missing go to a caller in another language: a bool, and numbers in a lent slice. Assumes nothing.
use Rattle.std.specs.Prelude.{ℕ, ◌≡◌, Bool, true, false, List, [], ◌∷◌, length, None, Some, Option as Found}
use Rattle.std.proofs.Math.Option.{Option, none, some}
use Rattle.std.proofs.lemmas.List.Edits.{sets}
use Rattle.model.specs.Bytes.{written_into}
use Rattle.model.specs.Framing.{Header, TimeRequest, TimeResponse}
use Rattle.udp_framing.specs.Promises.{or_unchanged}

abbrev pub is_there : {A : Type 0} → Option A → Bool
is_there none = false
is_there (some a) = true

-- the numbers of a value, none where it is missing
abbrev pub numbers_in : {A : Type 0} → (A → List ℕ) → Option A → List ℕ
numbers_in numbers_of none = []
numbers_in numbers_of (some a) = numbers_of a

-- the numbers that stand for a value, where there is one
abbrev pub numbers_found : Found (List ℕ) → Option (List ℕ)
numbers_found None = none
numbers_found (Some l) = some l

abbrev pub header_numbers : Header → List ℕ
header_numbers h = h.magic ∷ h.version ∷ h.stream_type ∷ h.sequence ∷ h.timestamp ∷ []

abbrev pub time_numbers : ℕ → List ℕ
time_numbers n = n ∷ []

abbrev pub request_numbers : TimeRequest → List ℕ
request_numbers r = r.probe ∷ r.t1 ∷ []

abbrev pub response_numbers : TimeResponse → List ℕ
response_numbers r = r.probe ∷ r.t1 ∷ r.t2 ∷ r.t3 ∷ []

-- whether a value is there, and its numbers from the front of a slice on, as far as it goes
pub record HandedFrom {A : Type 0} (numbers_of : A → List ℕ) (value : Option A) (entry exit : List ℕ) (r : Bool) : Type 0 where
  pub found : r ≡ is_there value
  pub numbers : exit ≡ sets entry 0 (numbers_in numbers_of value)

-- the header of which only magic and version matter
abbrev pub header_with : ℕ → ℕ → Header
header_with magic version = record { magic = magic; version = version; stream_type = 0; sequence = 0; timestamp = 0 }

-- the size of what was written, 0 where nothing was written
abbrev pub size_or0 : ℕ → Option (List ℕ) → ℕ
size_or0 size none = 0
size_or0 size (some bytes) = size

pub record BuiltOr0 (packet entry exit : List ℕ) (r : ℕ) : Type 0 where
  pub size : r ≡ size_or0 (length packet) (written_into 0 packet entry)
  pub bytes : exit ≡ or_unchanged entry (written_into 0 packet entry)
