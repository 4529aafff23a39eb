-- What an export hands over, from what the function that it calls promises. Assumes nothing.
use Prim.Native.Nat.{ℕ, ◌^◌, ◌<◌}
use mathlib.Core.Path.{◌≡◌, ap, ◌∙◌}
use mathlib.Core.Bool.{true}
use mathlib.Core.List.{List}
use lib.ListN.{length}
use Rattle.model.specs.Receiver as Receiver
use Rattle.model.specs.Bytes.{all}
use Rattle.model.specs.Receiver.{Call}
use Rattle.model.specs.Tape.{read, put_call, put_setup, put_end}
use Rattle.model.proofs.BytesLaws.{is_byte}
use Rattle.std.specs.Prelude.{Result, Err}
use Rattle.tape.specs.declared.BadWord.{BadWord}
use Rattle.tape.specs.Answers.{bad_at, verdict_of, setup_answer}
use Rattle.tape_writer.specs.Answers.{Wrote}
use Rattle.std.specs.Prelude.{Result}
use Rattle.tape_writer.specs.declared.PutError.{PutError}
use Rattle.tape.specs.declared.Setup.{Setup}
use Rattle.tape_exports.specs.Numbers.{verdict_number, put_number}
use Rattle.tape_exports.specs.Promises.{VerdictHanded, SetupHanded, PutHanded}
use Rattle.tape_exports.proofs.Places.{verdict_below, setup_below, call_below, setup_put_below, end_below}

-- ---- what is read

module _ {tape : List ℕ} (are : all is_byte tape ≡ true) (fits : length tape < 2 ^ 64) where
  pub verdict_handed : {v : Result (Unit {0}) BadWord} → v ≡ verdict_of (read tape) → VerdictHanded tape (verdict_number v)
  verdict_handed e = record { answered = ap verdict_number e; below = verdict_below tape are fits }

  pub bad_handed : {entry : List ℕ} {s : Result Setup BadWord} {place : ℕ} → s ≡ setup_answer (read tape) → s ≡ Err (bad_at place)
      → SetupHanded tape entry entry place
  bad_handed e f = record { answered = rw (← e, f); below = setup_below tape are fits; out = rw (← e, f) }

-- ---- what is written

-- (Each answer names its lemma: tried, and `using` closes none, since it asks grind, which applies no lemma that gives a record.)

module _ (place : ℕ) {old new : List ℕ} {a : Result ℕ PutError} {r : ℕ} (fits : length old < 2 ^ 64) (e : r ≡ put_number a) where
  pub call_handed : (c : Call) → Wrote (put_call place c old) old new a → PutHanded (put_call place c old) old new r
  call_handed c w = record { answered = e ∙ ap put_number w.answers; below = call_below place old fits c; target = w.target }

  pub setup_put_handed : (x : Receiver.Setup) → Wrote (put_setup place x old) old new a → PutHanded (put_setup place x old) old new r
  setup_put_handed x w =
      record { answered = e ∙ ap put_number w.answers; below = setup_put_below place old fits x; target = w.target }

  pub end_handed : Wrote (put_end place old) old new a → PutHanded (put_end place old) old new r
  end_handed w = record { answered = e ∙ ap put_number w.answers; below = end_below place old fits; target = w.target }
