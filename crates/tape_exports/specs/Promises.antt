-- What each export promises: the numbers are those of the tape's answer. Assumes nothing.
use Rattle.std.specs.Prelude.{ℕ, ◌-◌, ◌<◌, ◌≡◌, List, Ok, Err}
use Rattle.model.specs.Tape as Tape
use Rattle.model.specs.Tape.{call_at, read}
use Rattle.tape.specs.Answers.{Found, IsFound, bad_at, verdict_of, setup_answer}
use Rattle.tape_writer.specs.Answers.{answer_of, target_after}
use Rattle.tape_exports.specs.Numbers.{handed, largest, verdict_number, setup_number, setup_out, found_numbers, put_number}

-- the verdict on a tape
pub record VerdictHanded (tape : List ℕ) (r : ℕ) : Type 0 where
  pub answered : r ≡ verdict_number (verdict_of (read tape))
  -- no place is the largest number
  pub below : (place : ℕ) → verdict_of (read tape) ≡ Err (bad_at place) → place < largest

-- the setup of a tape, in a slice that a bad tape leaves as it was
pub record SetupHanded (tape entry exit : List ℕ) (r : ℕ) : Type 0 where
  pub answered : r ≡ setup_number (setup_answer (read tape))
  -- no place is the largest number
  pub below : (place : ℕ) → setup_answer (read tape) ≡ Err (bad_at place) → place < largest
  pub out : exit ≡ setup_out (setup_answer (read tape)) entry

-- what stands at a place of a tape
pub record CallHanded (tape : List ℕ) (place : ℕ) (entry exit : List ℕ) : Type 0 where
  pub found : Found
  pub right : IsFound tape (call_at tape place) found
  pub out : exit ≡ handed (found_numbers found) entry

-- a target that is written, or left as it was where the answer is a refusal
pub record PutHanded (p : Tape.Put) (old new : List ℕ) (r : ℕ) : Type 0 where
  pub answered : r ≡ put_number (answer_of p)
  -- no place is a refusal's number
  pub below : (next : ℕ) → answer_of p ≡ Ok next → next < largest - 11
  pub target : new ≡ target_after p old
