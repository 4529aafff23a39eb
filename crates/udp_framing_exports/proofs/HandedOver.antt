-- What an export hands over, from what the function that it calls promises. Assumes nothing.
use Prim.Native.Nat.{ℕ}
use mathlib.Core.Path.{◌≡◌, refl, ◌∙◌}
use mathlib.Core.Bool.{Bool, true, false}
use mathlib.Core.Option.{Option, none, some}
use mathlib.Core.List.{List}
use lib.ListN.{length}
use lib.Seq.{sets}
use Rattle.model.specs.Bytes.{written_into}
use Rattle.udp_framing.specs.Views.{accepted, refused, or_refusal, answer_of}
use Rattle.udp_framing.specs.Promises.{size_or_refusal, BuiltAs}
use Rattle.udp_framing_exports.specs.Handing.{size_or0, numbers_found, HandedFrom, BuiltOr0}
use Rattle.std.specs.Prelude.{Result, Ok, Err, None, Some, IsSomeAnd, MatchOption, Option as Found}
use Rattle.std.specs.Result.{result_unwrap_or, result_ok}
use Rattle.calls.specs.declared.Refusal.{Refusal}

module _ {A : Type 0} where
  accepted_is_there : (number : ℕ) {a : A} (value : Option A) → accepted a ≡ or_refusal number value → some a ≡ value
  accepted_is_there number none e = cc
  accepted_is_there number (some b) e = cc

  refused_is_missing : (number n : ℕ) (value : Option A) → refused n ≡ or_refusal number value → none ≡ value
  refused_is_missing number n none e = refl
  refused_is_missing number n (some b) e = cc

  pub nothing_handed : (numbers_of : A → List ℕ) {value : Option A} (entry : List ℕ) → none ≡ value → HandedFrom numbers_of value entry entry false
  nothing_handed numbers_of entry e = record { found = rw (← e); numbers = rw (← e) }

  pub all_handed : (numbers_of : A → List ℕ) {a : A} {value : Option A} {entry exit : List ℕ} → some a ≡ value
      → exit ≡ sets entry 0 (numbers_of a) → HandedFrom numbers_of value entry exit true
  all_handed numbers_of e f = record { found = rw (← e); numbers = rw (← e) f }

-- ---- what stands for what was found

abbrev pub viewed : {A B : Type 0} → (B → A) → Found B → Option A
viewed view None = none
viewed view (Some b) = some (view b)

pub viewed_ok : {A B : Type 0} (view : B → A) (answer : Result B Refusal) (number : ℕ) (value : Option A)
    → answer_of view answer ≡ or_refusal number value → viewed view (result_ok answer) ≡ value
viewed_ok view (Ok b) number value e = accepted_is_there number value e
viewed_ok view (Err why) number value e = refused_is_missing number _ value e

-- the fields of what was found are handed over as its numbers
pub handed_as : {A B : Type 0} (numbers_of : A → List ℕ) (view : B → A) (found : Found B) (fields : Found (List ℕ))
    → MatchOption found (fields ≡ None) (λ b. IsSomeAnd fields (λ l. l ≡ numbers_of (view b)))
    → {value : Option A} → viewed view found ≡ value
    → {entry exit : List ℕ} {r : Bool} → HandedFrom (λ l. l) (numbers_found fields) entry exit r → HandedFrom numbers_of value entry exit r
handed_as numbers_of view None None is e h = record { found = rw (← e) h.found; numbers = rw (← e) h.numbers }
handed_as numbers_of view None (Some l) is e h = cc
handed_as numbers_of view (Some b) None is e h = absurd is
handed_as numbers_of view (Some b) (Some l) is e h = record { found = rw (← e) h.found; numbers = rw (← e, ← is) h.numbers }

-- ---- sizes

written_size : (size n : ℕ) (w : Option (List ℕ)) → accepted n ≡ size_or_refusal size w → n ≡ size_or0 size w
written_size size n none e = cc
written_size size n (some bytes) e = cc

refused_size : (size n : ℕ) (w : Option (List ℕ)) → refused n ≡ size_or_refusal size w → 0 ≡ size_or0 size w
refused_size size n none e = refl
refused_size size n (some bytes) e = cc

pub size_of_built : {packet entry exit : List ℕ} (answer : Result ℕ Refusal) {n : ℕ} → n ≡ result_unwrap_or answer 0
    → BuiltAs packet entry exit answer → BuiltOr0 packet entry exit n
size_of_built {packet} {entry} (Ok m) e built =
    record { size = e ∙ written_size (length packet) m (written_into 0 packet entry) built.answered; bytes = built.bytes }
size_of_built {packet} {entry} (Err r) e built =
    record { size = e ∙ refused_size (length packet) _ (written_into 0 packet entry) built.answered; bytes = built.bytes }
