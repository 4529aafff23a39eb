-- Chains of calls: each link is what a call of the receiver promises, and starts where the link before it ended. Assumes nothing.
use Rattle.std.specs.Prelude.{Ok, List, [], ◌∷◌, Float, ℕ}
use Rattle.model.specs.Receiver.{Call, Answer, State, Lent}
use Rattle.model.specs.Step.{Event}
use Rattle.calls.specs.declared.Sizes.{Sizes}
use Rattle.calls.specs.declared.Estimates.{Estimates}
use Rattle.receiver_state.specs.declared.Receiver.{Receiver}
use Rattle.receiver_state.specs.View.{state_of, lent_of}
use Rattle.receiver_state.specs.Promises.{Called}
use Rattle.receiver_setup.specs.Promises.{SetupDone}

-- the receiver and the two lent areas between two calls
pub record Moment : Type 0 where
  pub receiver : Receiver
  pub floats : List Float
  pub words : List ℕ

-- the model's state at a moment, and the lengths of the areas
abbrev pub state_at : Moment → State
state_at m = state_of m.receiver m.floats m.words

abbrev pub lent_at : Moment → Lent
lent_at m = lent_of m.floats m.words

-- an accepted setup left the receiver and the areas so; `words` is the u32 area that it was lent
abbrev pub LeftBySetup : Sizes → Estimates → Estimates → List ℕ → Moment → Type 0
LeftBySetup z a b words m = SetupDone z a b m.floats words (Ok m.receiver) m.words

-- what a call that is made at one moment promises of the next one
abbrev pub CalledAt : Call → Moment → Answer → Moment → Type 0
CalledAt c before a after =
    Called c before.receiver before.floats before.words a after.receiver after.floats after.words

-- The calls from one moment to another, with their answers. Each call gets the receiver and the areas as the last one left them, and nobody else
-- writes them meanwhile. A refused call is a link like any other.
pub data Chain : Moment → List Event → Moment → Type 0 where
  end : {m : Moment} → Chain m [] m
  call : {before after last : Moment} {c : Call} {a : Answer} {events : List Event}
      → CalledAt c before a after → Chain after events last → Chain before (record { call = c; answer = a } ∷ events) last

-- the calls without their answers
unfoldable pub calls_of : List Event → List Call
calls_of [] = []
calls_of (e ∷ es) = e.call ∷ calls_of es
