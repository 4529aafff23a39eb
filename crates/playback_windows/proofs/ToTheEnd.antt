-- Windows that reach far enough bring a replay to its end: where a step that is to come finds a window that reaches, and room, the steps end with all of the
-- model's output printed. Assumes nothing.
use Prim.Native.Nat.{ℕ, zero, suc, ◌+◌, ◌<◌}
use mathlib.Core.Path.{◌≡◌, refl}
use mathlib.Core.Bool.{true}
use mathlib.Core.List.{List, [], ◌++◌, append_assoc}
use mathlib.Core.Logic.{◌⊎◌, inl, inr, ⊎_elim}
use native.Mathlib.Omega.{arith}
use lib.ListN.{take}
use lib.Ieee.{Float}
use Rattle.model.specs.Tape.{read}
use Rattle.tape.specs.declared.Setup.{Setup}
use Rattle.std.specs.Prelude.{Option, Some, None, Ok}
use Rattle.tape.specs.Answers.{setup_answer}
use Rattle.tape_windows.specs.Windows.{longest_call, reaches}
use Rattle.tape_windows.specs.Through.{WindowAt}
use Rattle.receiver_state.specs.View.{lent_of}
use Rattle.playback_parts.specs.declared.Form.{Form}
use Rattle.playback_parts.specs.declared.Doing.{Doing}
use Rattle.playback_parts.specs.declared.Playback.{Playback}
use Rattle.playback_parts.specs.Forms.{printed_over}
use Rattle.playback.specs.declared.Wrote.{Wrote}
use Rattle.playback.specs.Steps.{room_for, Step, steps_left}
use Rattle.playback_parts.specs.Doings.{makes_call}
use Rattle.playback.specs.Chains.{Moment}
use Rattle.playback_windows.specs.Promises.{wrote_from_start, BegunIn}
use Rattle.playback_windows.specs.Through.{SteppedBy, WroteBy, StepsBy, start, on}
use Rattle.playback_windows.proofs.WindowedReplay.{wrote_stands, IsWrittenIn, windowed, windowed_never_stuck}

-- ---- chains one behind the other

pub steps_behind : {form : Form} {whole : List ℕ} {m n last : Moment} {printed more : List ℕ} → StepsBy form whole m printed n → StepsBy form whole n more last
    → StepsBy form whole m (printed ++ more) last
steps_behind start others = others
steps_behind {more = more} (on {text' = text'} {printed = printed} {v = v} w behind steps) others = rw (append_assoc (take v.bytes text') printed more) (on w behind (steps_behind steps others))

is_done : (d : Doing) → (d ≡ Doing.Done) ⊎ (d ≡ Doing.Done → ⊥)
is_done Doing.Done = inl refl
is_done _ = inr (λ e. cc)

-- what a moment's next step finds, and what `step_in` answers
pub record Provided (form : Form) (whole : List ℕ) (m : Moment) : Type 0 where
  pub at : WindowAt whole m.playback.place
  pub far : makes_call m.playback.doing ≡ true → reaches at.window (at.place + longest_call) at.last ≡ true
  pub bytes : List ℕ
  pub room : room_for whole m.playback m.samples bytes ≡ true
  pub answer : Option Step
  pub after : Moment
  pub bytes' : List ℕ
  pub answered : SteppedBy form whole m at bytes answer after bytes'

module _ (form : Form) (whole : List ℕ) (s : Setup) (front : Ok s ≡ setup_answer (read whole))
    (fs : List Float) (us text us' text' : List ℕ) (w : Playback) (begun : BegunIn s fs us text (Ok w) us' text') (samples : List Float) where
  abbrev first : Moment
  first = record { playback = w; floats = fs; words = us'; samples = samples }

  -- steps that have come to their end
  pub record Ended : Type 0 where
    pub printed : List ℕ
    pub last : Moment
    pub steps : StepsBy form whole first printed last
    pub done : last.playback.doing ≡ Doing.Done

  abbrev left_at : Moment → ℕ
  left_at m = steps_left whole m.playback m.floats m.samples

  module _ (provide : (printed : List ℕ) (m : Moment) → StepsBy form whole first printed m → (m.playback.doing ≡ Doing.Done → ⊥) → Provided form whole m) where
    -- the step that is to come writes, and fewer are left behind it
    next : (m : Moment) (printed : List ℕ) → StepsBy form whole first printed m → (v : Option Step) (at : WindowAt whole m.playback.place) (bytes : List ℕ) (after : Moment) (bytes' : List ℕ)
        → IsWrittenIn v → SteppedBy form whole m at bytes v after bytes'
        → ((more : List ℕ) (n : Moment) → StepsBy form whole first more n → left_at n < left_at m → Ended) → Ended
    next m printed steps (Some (Ok (Some a))) at bytes after bytes' is answered further =
        let v : Wrote = wrote_from_start at.base a in
        let n : Moment = record { playback = v.playback; floats = after.floats; words = after.words; samples = after.samples } in
        let link : WroteBy form whole m bytes v n bytes' = record { at = at; answer = a; answered = answered; is = refl } in
        further (printed ++ (take v.bytes bytes' ++ [])) n (steps_behind steps (on link refl start)) (wrote_stands form whole link).less
    next m printed steps (Some (Ok None)) at bytes after bytes' is answered further = absurd is
    next m printed steps _ at bytes after bytes' is answered further = absurd is

    ends_from : (k : ℕ) (printed : List ℕ) (m : Moment) → StepsBy form whole first printed m → left_at m < k → Ended
    ends_from zero printed m steps few = absurd (omega (arith, few))
    ends_from (suc k) printed m steps few =
        ⊎_elim
        (λ done. record { printed = printed; last = m; steps = steps; done = done })
        (λ more.
        let p = provide printed m steps more in
        let writes = windowed_never_stuck form whole s front fs us text us' text' w begun samples printed m steps more p.at p.far p.bytes p.room p.after p.bytes' p.answer p.answered in
        next m printed steps p.answer p.at p.bytes p.after p.bytes' writes p.answered (λ others n chain less. ends_from k others n chain (omega (arith, less, few))))
        (is_done m.playback.doing)

    -- the steps come to their end, and what they printed is the model's output
    pub windows_print_it_all : (e : Ended) × (e.printed ≡ printed_over form (lent_of fs us) whole)
    windows_print_it_all =
        let e : Ended = ends_from (suc (left_at first)) [] first start (omega arith) in
        (e, windowed form whole s front fs us text us' text' w begun samples e.printed e.last e.steps e.done)
