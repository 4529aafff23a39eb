-- Places are small: a word takes four bytes, and a slice's length is a number of 64 bits. Assumes nothing.
use Prim.Native.Nat.{ℕ, ◌+◌, ◌-◌, ◌*◌, ◌^◌, ◌<◌}
use mathlib.Core.Path.{◌≡◌, ap}
use mathlib.Core.Bool.{Bool, true, false, cond}
use mathlib.Core.List.{List, [], ◌∷◌}
use native.Mathlib.Omega.{arith}
use lib.ListN.{length}
use lib.Dec.{leb}
use borrow.Author.Tests.{leb-true}
use Rattle.model.specs.Bytes.{all}
use Rattle.model.specs.Receiver.{Call, Setup}
use Rattle.model.specs.Tape.{TapeRead, read_tape, bad_tape, read, word_of, end_word, call_words, call_fits, setup_words, setup_fits, put_words, put_call, put_setup, put_end, put_too_large}
use Rattle.model.proofs.BoolLaws.{by_test}
use Rattle.model.proofs.BytesLaws.{is_byte, length_words_of}
use Rattle.model.proofs.TapeFirstBad.{first_bad_word}
use Rattle.std.specs.Prelude.{Ok, Err}
use Rattle.tape.specs.declared.BadWord.{BadWord}
use Rattle.tape.specs.Answers.{bad_at, verdict_of, setup_answer}
use Rattle.tape_writer.specs.Answers.{answer_of}
use Rattle.tape_writer.specs.declared.PutError.TheVariants as putError
use Rattle.tape_writer.proofs.PutLaws.{words_put_law, words_no_room}
use Rattle.tape_exports.specs.Numbers.{largest}

-- ---- what is read

verdict_bad : (t : TapeRead) (place : ℕ) → verdict_of t ≡ Err (bad_at place) → t ≡ bad_tape place
verdict_bad (read_tape x) place e = cc
verdict_bad (bad_tape p) place e = let same : bad_at p ≡ bad_at place = cc in ap (λ (b : BadWord). bad_tape b.place) same

setup_bad : (t : TapeRead) (place : ℕ) → setup_answer t ≡ Err (bad_at place) → t ≡ bad_tape place
setup_bad (read_tape x) place e = cc
setup_bad (bad_tape p) place e = let same : bad_at p ≡ bad_at place = cc in ap (λ (b : BadWord). bad_tape b.place) same

module _ (tape : List ℕ) (are : all is_byte tape ≡ true) (fits : length tape < 2 ^ 64) where
  bad_below : (place : ℕ) → read tape ≡ bad_tape place → place < largest
  bad_below place e = omega (arith, (first_bad_word tape place are e).within, length_words_of tape)

  pub verdict_below : (place : ℕ) → verdict_of (read tape) ≡ Err (bad_at place) → place < largest
  verdict_below place e = bad_below place (verdict_bad (read tape) place e)

  pub setup_below : (place : ℕ) → setup_answer (read tape) ≡ Err (bad_at place) → place < largest
  setup_below place e = bad_below place (setup_bad (read tape) place e)

-- ---- what is written

module _ (place : ℕ) (target : List ℕ) (fits : length target < 2 ^ 64) where
  pub words_below : (ws : List ℕ) (next : ℕ) → answer_of (put_words place ws target) ≡ Ok next → next < largest - 11
  words_below ws next e =
      by_test (leb (4 * place + 4 * length ws) (length target))
      (λ room.
      let there : Ok (place + length ws) ≡ Ok next = rw (words_put_law place ws target room) at e in
      let same : place + length ws ≡ next = cc in
      omega (arith, leb-true (4 * place + 4 * length ws) (length target) room))
      (λ none.
      let refused : Err putError.NoRoom ≡ Ok next = rw (words_no_room place ws target none) at e in
      cc)

  fitting_below : (fits : Bool) (ws : List ℕ) (next : ℕ)
      → answer_of (cond fits (put_words place ws target) (put_too_large place)) ≡ Ok next
      → next < largest - 11
  fitting_below true ws next e = words_below ws next e
  fitting_below false ws next e = cc

  pub call_below : (c : Call) (next : ℕ) → answer_of (put_call place c target) ≡ Ok next → next < largest - 11
  unfolding put_call
  call_below c next e = fitting_below (call_fits c) (call_words c) next e

  pub setup_put_below : (x : Setup) (next : ℕ) → answer_of (put_setup place x target) ≡ Ok next → next < largest - 11
  unfolding put_setup
  setup_put_below x next e = fitting_below (setup_fits x) (setup_words x) next e

  pub end_below : (next : ℕ) → answer_of (put_end place target) ≡ Ok next → next < largest - 11
  unfolding put_end
  end_below next e = words_below (word_of end_word ∷ []) next e
