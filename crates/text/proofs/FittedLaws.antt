-- What a caller learns from an answer, and bytes that are written one part behind the other. Assumes nothing.
use Rattle.std.proofs.Common.{◌≡◌, ℕ, ◌+◌, ◌≤◌, leb, List, ◌++◌, length, arith, length-append, leb-true, le-leb, Option, Some, IsSome}
use Rattle.model.specs.Bytes.{placed, written_into}
use Rattle.model.proofs.BoolLaws.{by_test}
use Rattle.model.proofs.ListLaws.{placed_length}
use Rattle.model.proofs.PlacedLaws.{placed_append}
use Rattle.text.specs.Promises.{Written}

-- behind the answer Some
pub record Fitted (bytes : List ℕ) (at : ℕ) (entry exit : List ℕ) (next : ℕ) : Type 0 where
  pub room : at + length bytes ≤ length entry
  pub place : next ≡ at + length bytes
  pub target : exit ≡ placed at bytes entry

module _ {bytes : List ℕ} {at : ℕ} {entry exit : List ℕ} where
  pub next_fitted : {next : ℕ} → Written bytes at entry exit (Some next) → Fitted bytes at entry exit next
  unfolding written_into
  next_fitted w =
      by_test (leb (at + length bytes) (length entry))
      (λ e.
      let answered = rw e at w.answered in
      record { room = leb-true (at + length bytes) (length entry) e; place = cc; target = rw e at w.target })
      (λ e.
      let answered = rw e at w.answered in
      cc)

-- what fits was written
module _ {bytes : List ℕ} {at : ℕ} {entry exit : List ℕ} {answer : Option ℕ} (w : Written bytes at entry exit answer) where
  pub some_answered : at + length bytes ≤ length entry → IsSome answer
  unfolding written_into
  some_answered fits = rw (w.answered, le-leb (at + length bytes) (length entry) fits)

  pub answer_fitted : {next : ℕ} → answer ≡ Some next → Fitted bytes at entry exit next
  answer_fitted e = next_fitted (rw e at w)

-- two parts that fitted are one
pub fitted_behind : {xs ys first middle last : List ℕ} {at next end : ℕ} → Fitted xs at first middle next → Fitted ys next middle last end → Fitted (xs ++ ys) at first last end
fitted_behind {xs} {ys} {first} {middle} {last} {at} {next} {end} f g =
    record { room = rw sum fits; place = rw (g.place, f.place, sum); target = rw (g.target, f.target, f.place) (placed_append at xs ys first f.room) }
  where
    kept : length middle ≡ length first
    kept = rw f.target (placed_length at xs first f.room)

    sum : at + length (xs ++ ys) ≡ at + length xs + length ys
    sum = rw length-append (omega arith)

    fits : at + length xs + length ys ≤ length first
    fits = omega (arith, f.place, g.room, kept)
