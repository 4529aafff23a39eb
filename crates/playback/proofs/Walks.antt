-- A call that moves the tape's place on leaves only so many steps; and values inside of what is lent. Assumes nothing.
use Prim.Native.Nat.{ℕ, ◌+◌, ◌-◌, ◌*◌, ◌≤◌, ◌<◌, min}
use mathlib.Core.Path.{◌≡◌, refl, sym, ◌∙◌, ap}
use mathlib.Core.Bool.{true}
use mathlib.Core.List.{List}
use native.Mathlib.Omega.{arith}
use native.Mathlib.Nat.{mul-le-mul_right}
use lib.ListN.{length, take, drop, length-take, length-drop}
use lib.Seq.{drop-drop}
use Rattle.std.proofs.lemmas.List.{take_min, drop_min, drop-take}
use lib.Dec.{leb}
use lib.Ieee.{Float}
use borrow.Author.Tests.{leb-true}
use Rattle.model.specs.Bytes.{part}
use Rattle.model.proofs.BoolLaws.{second_of_both}
use Rattle.std.proofs.Common.{Result, Ok}
use Rattle.calls.specs.declared.Refusal.{Refusal}
use Rattle.receiver_state.specs.declared.Answer.{Answer}
use Rattle.receiver_state.specs.declared.Answer.TheVariants.{Row}
use Rattle.playback_parts.specs.declared.Doing.{Doing}
use Rattle.playback_parts.specs.declared.facts.Facts.{Facts}
use Rattle.receiver_state.specs.View.{numbered}
use Rattle.summary_lines.specs.Summaries.{RowHas}
use Rattle.playback.specs.Steps.{values_held, stage, RowStands, row_length}

-- ---- fewer steps are left

pub stage_few : (d : Doing) (fs samples : List Float) → values_held d fs samples ≡ true → stage d ≤ length fs + length samples + 5
stage_few (Doing.Samples from end) fs samples held = omega (arith, leb-true end (length samples) (second_of_both (leb from end) (leb end (length samples)) held))
stage_few (Doing.Values from end) fs samples held = omega (arith, leb-true end (length fs) (second_of_both (leb from end) (leb end (length fs)) held))
stage_few _ fs samples held = omega arith

pub moved_less : (words place next most few : ℕ) → place < next → next ≤ words → few ≤ most + 5 → (words - next) * (most + 6) + few < (words - place) * (most + 6) + 4
moved_less words place next most few further inside small =
    let more : (words - next + 1) * (most + 6) ≤ (words - place) * (most + 6) = mul-le-mul_right (most + 6) (omega arith) in
    let one : (words - next + 1) * (most + 6) ≡ (words - next) * (most + 6) + (most + 6) = one_more (words - next) (most + 6) in
    omega (arith, more, one)
  where
    one_more : (a k : ℕ) → (a + 1) * k ≡ a * k + k
    one_more a k = omega arith

-- ---- a row's values, cut to what is lent

pub part_inside : (place n : ℕ) (xs : List Float) → take n (drop place xs) ≡ part (min place (length xs)) (min place (length xs) + min n (length xs - min place (length xs)) - min place (length xs)) xs
part_inside place n xs =
    let from = min place (length xs) in
    let long : length (drop place xs) ≡ length xs - from = ap length (sym (drop_min place xs)) ∙ length-drop from xs in
    let count : from + min n (length xs - from) - from ≡ min n (length (drop place xs)) = rw long (omega arith) in
    rw (count, drop_min place xs) (sym (take_min n (drop place xs)))

-- so many values has a row, cut to what is lent
pub row_has : (a : Result Answer Refusal) (facts : Facts) (fs values : List Float) (count : ℕ) → count ≡ row_length a facts (length fs) → RowStands a facts fs values → RowHas (numbered a) values count
row_has (Ok (Row n)) facts fs values count is stands = rw (stands n refl, length-take n (drop facts.row fs), length-drop facts.row fs) (omega arith)
row_has _ facts fs values count is stands = tt

-- ---- a line's values from one place to another

-- those that are left behind so many
pub part_behind : (from end n : ℕ) (xs : List Float) → from + n ≤ end → drop n (part from (end - from) xs) ≡ part (from + n) (end - (from + n)) xs
part_behind from end n xs fits =
    let split : end - from ≡ n + (end - (from + n)) = omega (arith, fits) in
    rw split (drop-take n (end - (from + n)) (drop from xs) ∙ rw (drop-drop n from xs) refl)
