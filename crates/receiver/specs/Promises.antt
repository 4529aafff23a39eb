-- What a play promises; the other calls promise `Called` alone. Assumes nothing.
use Rattle.std.specs.Prelude.{ℕ, ◌≡◌, Bool, true, false, cond, List, [], length, Float, Result}
use Rattle.std.proofs.Math.Option.{none, some}
use Rattle.model.specs.Clock.{Clock}
use Rattle.model.specs.Receiver as Model
use Rattle.model.specs.Receiver.{Call, is_accepted}
use Rattle.model.specs.Questions.{first_no, own_questions}
use Rattle.model.specs.Step.{on_clock, changes}
use Rattle.model.specs.WholeList.{CallBytes}
use Rattle.audio_metrics.specs.declared.AudioMetrics.{AudioMetrics}
use Rattle.audio_metrics.specs.Views.{clock_of}
use Rattle.calls.specs.declared.Refusal.{Refusal}
use Rattle.calls.specs.declared.Side.{Side}
use Rattle.calls.specs.Views.{model_side, sizes_of}
use Rattle.receiver_state.specs.declared.Receiver.{Receiver}
use Rattle.receiver_state.specs.declared.Answer.{Answer}
use Rattle.receiver_state.specs.declared.Answered.{Answered}
use Rattle.receiver_state.specs.Fields.{answered}
use Rattle.receiver_state.specs.Promises.{Called}
use Rattle.receiver_state.specs.View.{answer_of, state_of}

-- a call's work, or the question that refuses it, where both areas are left as they are
abbrev pub Worked : Call → Receiver → List Float → List ℕ → Result (Receiver × Answer) Refusal → Type 0
Worked c r fs us work = Called c r fs us (answer_of (answered r work).answer []) (answered r work).receiver fs us

-- what a call on the clock promises of its work, by what its closure promises: questions 1 to 4 first, then the range, then the model's call
abbrev pub ClockWorked : {F : Type 0} → (F → AudioMetrics → AudioMetrics → Type 0) → F → Bool → Receiver → List Float → List ℕ → Result (Receiver × Answer) Refusal → Type 0
ClockWorked post f in_range r fs us work =
    (c : Call) (g : Clock → Clock) → CallBytes c
    → first_no (own_questions (sizes_of r.sizes) c) ≡ cond in_range none (some 9)
    → changes c (state_of r fs us) ≡ on_clock g (state_of r fs us)
    → ((k : AudioMetrics) → in_range ≡ true → post f r.clock k → clock_of k ≡ g (clock_of r.clock))
    → Worked c r fs us work

-- a play's output is as long as it was, and unchanged where the play is refused
pub record OutputKept (a : Model.Answer) (out out' : List Float) : Type 0 where
  pub out_length : length out' ≡ length out
  pub out_refused : is_accepted a ≡ false → out' ≡ out

-- a play: its samples are the output's
pub record PlayedOut (side : Side) (r : Receiver) (fs : List Float) (us : List ℕ) (out : List Float) (v : Answered) (fs' : List Float) (us' : List ℕ) (out' : List Float) : Type 0 where
  pub called : Called (Model.play (model_side side) (length out)) r fs us (answer_of v.answer out') v.receiver fs' us'
  pub output : OutputKept (answer_of v.answer out') out out'
