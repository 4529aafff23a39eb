-- An answer whose refusal is told by its number is the model's answer of it. Assumes nothing.
use mathlib.Core.Path.{◌≡◌, refl}
use mathlib.Core.List.{List}
use lib.Ieee.{Float}
use Rattle.std.proofs.Common.{Result, Ok, Err}
use Rattle.calls.specs.declared.Refusal.{Refusal}
use Rattle.receiver_state.specs.declared.Answer.{Answer}
use Rattle.receiver_state.specs.View.{answer_of, numbered, answer_numbered}

pub answer_of_numbered : (a : Result Answer Refusal) (values : List Float) → answer_numbered (numbered a) values ≡ answer_of a values
answer_of_numbered (Err why) values = refl
answer_of_numbered (Ok a) values = refl
