-- The tape's answers as numbers, for programs in other languages. Assumes nothing.
use Rattle.std.specs.Prelude.{ℕ, ◌-◌, Bool, true, false, List, [], ◌∷◌, ◌++◌, length, take, drop, Some, None, Result, Ok, Err}
use Rattle.calls.specs.Sides.{side_number}
use Rattle.calls.specs.Views.{size_numbers}
use Rattle.tape.specs.declared.Setup.{Setup}
use Rattle.tape.specs.declared.BadWord.{BadWord}
use Rattle.tape.specs.Answers.{Found}
use Rattle.tape.specs.declared.Call.{Call}
use Rattle.tape.specs.declared.Call.TheVariants as call
use Rattle.tape_writer.specs.declared.PutError.{PutError}
use Rattle.tape_writer.specs.declared.PutError.TheVariants as putError

-- ---- a lent slice

-- a slice with numbers at its front, as far as it goes: what stands behind them stays
abbrev pub handed : List ℕ → List ℕ → List ℕ
handed numbers out = take (length out) numbers ++ drop (length numbers) out

-- ---- fields

abbrev pub flag_number : Bool → ℕ
flag_number true = 1
flag_number false = 0

-- ---- what is read

-- the largest number of 64 bits
abbrev pub largest : ℕ
largest = 18446744073709551615

-- the place of the first bad word; the largest number where there is none
abbrev pub verdict_number : Result (Unit {0}) BadWord → ℕ
verdict_number (Ok tt) = largest
verdict_number (Err bad) = bad.place

-- the six sizes, then top, floor and range of A and of B
abbrev pub setup_numbers : Setup → List ℕ
setup_numbers x =
    size_numbers x.sizes ++ x.a.top ∷ x.a.floor ∷ x.a.range ∷ x.b.top ∷ x.b.floor ∷ x.b.range ∷ []

abbrev pub setup_number : Result Setup BadWord → ℕ
setup_number (Ok x) = largest
setup_number (Err bad) = bad.place

-- the slice that was lent for a setup: as it was where there is none
abbrev pub setup_out : Result Setup BadWord → List ℕ → List ℕ
setup_out (Ok x) out = handed (setup_numbers x) out
setup_out (Err bad) out = out

-- a call: which kind, the place after it, then the fields
abbrev pub call_numbers : Call → ℕ → List ℕ
call_numbers (call.Datagram at len) next = 1 ∷ next ∷ at ∷ len ∷ []
call_numbers (call.Play side samples) next = 2 ∷ next ∷ side_number side ∷ samples ∷ []
call_numbers (call.Reset side) next = 3 ∷ next ∷ side_number side ∷ 0 ∷ []
call_numbers (call.Set side x) next =
    4 ∷ next ∷ side_number side ∷ flag_number x.adaptive ∷ x.top ∷ x.range ∷ x.zoom ∷ x.smoothing ∷ []
call_numbers (call.Probe t) next = 5 ∷ next ∷ t.t1 ∷ t.t2 ∷ t.t3 ∷ t.t4 ∷ []
call_numbers (call.OneWay t) next = 6 ∷ next ∷ t.receive ∷ t.send ∷ []
call_numbers (call.Depth samples k) next =
    7 ∷ next ∷ samples ∷ k.conceals ∷ k.late ∷ k.overflow ∷ k.resyncs ∷ []
call_numbers (call.TransmitDepth samples) next = 8 ∷ next ∷ samples ∷ 0 ∷ []

-- the same of what stands at a place; the end and a bad word are kinds of their own
abbrev pub found_numbers : Found → List ℕ
found_numbers (Ok (Some placed)) = call_numbers placed.call placed.next
found_numbers (Ok None) = 9 ∷ 0 ∷ 0 ∷ 0 ∷ []
found_numbers (Err bad) = 10 ∷ bad.place ∷ 0 ∷ 0 ∷ []

-- ---- what is written

-- the place after what was written, or the largest number less the refusal's. The place of a refusal 11 is the one that the
-- caller gave.
abbrev pub put_number : Result ℕ PutError → ℕ
put_number (Ok next) = next
put_number (Err (putError.TooLarge place)) = largest - 11
put_number (Err putError.NoRoom) = largest - 2
