-- What a form of output prints, call by call: the text of a call's answer, then what follows it, and at the end the closing lines. Assumes nothing.
use Prim.Native.Nat.{ℕ}
use mathlib.Core.Path.{◌≡◌}
use mathlib.Core.List.{List, [], ◌∷◌, ◌++◌}
use Rattle.model.specs.Framing.{Side}
use Rattle.model.specs.Receiver.{Lent, Call, Answer, State}
use Rattle.model.specs.Questions.{opened, not_opened, set_up}
use Rattle.model.specs.Step.{step}
use Rattle.model.specs.Tape.{Tape, read_tape, bad_tape, read}
use Rattle.model.specs.Replay.{side_of, closing_lines, refused_line, bad_tape_line}

-- by what is printed of an answer, of the calls from a state on, and of a tape
pub record PrintedSteps (answer : Side → Answer → List ℕ) (from : Lent → List Call → State → List ℕ) (over : Lent → List ℕ → List ℕ) : Type 0 where
  pub printed_end : (lent : Lent) (s : State) → from lent [] s ≡ closing_lines s
  pub printed_step : (lent : Lent) (c : Call) (cs : List Call) (s : State)
      → from lent (c ∷ cs) s ≡ answer (side_of c) (step lent c s).answer ++ from lent cs (step lent c s).after
  -- a whole tape
  pub printed_of_bad_tape : (lent : Lent) (bytes : List ℕ) (place : ℕ) → read bytes ≡ bad_tape place → over lent bytes ≡ bad_tape_line place
  pub printed_of_refused_setup : (lent : Lent) (bytes : List ℕ) (t : Tape) (n : ℕ) → read bytes ≡ read_tape t → set_up lent t.setup ≡ not_opened n → over lent bytes ≡ refused_line n
  pub printed_of_session : (lent : Lent) (bytes : List ℕ) (t : Tape) (s : State) → read bytes ≡ read_tape t → set_up lent t.setup ≡ opened s → over lent bytes ≡ from lent t.calls s
