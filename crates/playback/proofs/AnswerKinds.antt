-- What kind of answer a call can get: a play alone is answered with samples, and a datagram alone with a row; neither where question 1 says no. Assumes
-- nothing.
use mathlib.Core.Path.{◌≡◌, refl, sym, ◌∙◌, ap}
use mathlib.Core.Bool.{true}
use mathlib.Core.Option.{Option, none, some}
use mathlib.Core.List.{List}
use Prim.Native.Nat.{ℕ}
use lib.Ieee.{Float}
use Rattle.model.specs.Sizes.{Sizes, sizes_allowed}
use Rattle.model.specs.Framing.{Header, Side, A, B, Stream, audio, waterfall, other_stream, stream_in}
use Rattle.model.specs.Row.{Row}
use Rattle.model.specs.Receiver.{Lent, Call, datagram, play, reset, set, Channel, State, Answer, refused, accepted, played, row, StepResult}
use Rattle.model.specs.Questions.{first_no, questions}
use Rattle.model.specs.Step.{ChannelResult, play_channel, reset_channel, set_channel, audio_into, chunk_result, waterfall_into, on_side, on_clock, dispatch, take_datagram, changes, accept, decide, step}
use Rattle.model.proofs.BoolLaws.{by_test}

pub data Kind : Type 0 where
  refusal plain samples rows : Kind

abbrev pub answer_kind : Answer → Kind
answer_kind (refused n) = refusal
answer_kind accepted = plain
answer_kind (played p) = samples
answer_kind (row r) = rows

abbrev pub call_kind : Call → Kind
call_kind (datagram bytes) = rows
call_kind (play side n) = samples
call_kind _ = plain

side_kind : (side : Side) (f : Channel → ChannelResult) (s : State) (k : Kind) → ((c : Channel) → answer_kind (f c).answer ≡ k) → answer_kind (on_side side f s).answer ≡ k
unfolding on_side
side_kind A f s k is = is s.channel_a
side_kind B f s k is = is s.channel_b

chunk_kind : (z : Sizes) (c : Channel) (kept : Option Row) (o : Option (List Float)) → answer_kind (chunk_result z c kept o).answer ≡ rows
unfolding chunk_result
chunk_kind z c kept none = refl
chunk_kind z c kept (some values) = refl

waterfall_kind : (z : Sizes) (payload : List ℕ) (c : Channel) → answer_kind (waterfall_into z payload c).answer ≡ rows
unfolding waterfall_into
waterfall_kind z payload c = chunk_kind z c _ _

audio_kind : (z : Sizes) (sequence : ℕ) (payload : List ℕ) (c : Channel) → answer_kind (audio_into z sequence payload c).answer ≡ rows
unfolding audio_into
audio_kind z sequence payload c = refl

dispatch_kind : (h : Header) (bytes : List ℕ) (stream : Stream) (s : State) → answer_kind (dispatch h bytes stream s).answer ≡ rows
unfolding dispatch
dispatch_kind h bytes (audio side) s = side_kind side _ s rows (λ c. audio_kind _ _ _ c)
dispatch_kind h bytes (waterfall side) s = side_kind side _ s rows (λ c. waterfall_kind _ _ c)
dispatch_kind h bytes other_stream s = refl

accepted_kind : (c : Call) (s : State) → answer_kind (accept c s).answer ≡ call_kind c
unfolding accept changes take_datagram play_channel reset_channel set_channel on_clock
accepted_kind (datagram bytes) s = dispatch_kind _ bytes (stream_in bytes) _
accepted_kind (play side n) s = side_kind side _ s samples (λ c. refl)
accepted_kind (reset side) s = side_kind side _ s plain (λ c. refl)
accepted_kind (set side x) s = side_kind side _ s plain (λ c. refl)
accepted_kind _ s = refl

-- an answer that is no refusal
abbrev pub Answers : Kind → Type 0
Answers refusal = ⊥
Answers _ = Unit {0}

decided_kind : (o : Option ℕ) (c : Call) (s : State) → Answers (answer_kind (decide o c s).answer) → (o ≡ none) × (answer_kind (decide o c s).answer ≡ call_kind c)
unfolding decide
decided_kind none c s answers = (refl, accepted_kind c s)
decided_kind (some n) c s answers = absurd answers

module _ (lent : Lent) (c : Call) (s s' : State) (a : Answer) (steps : step lent c s ≡ record { after = s'; answer = a }) (answers : Answers (answer_kind a)) where
  answer_is : (step lent c s).answer ≡ a
  answer_is = ap (λ (r : StepResult). r.answer) steps

  decided : (first_no (questions lent s c) ≡ none) × (answer_kind (step lent c s).answer ≡ call_kind c)
  unfolding step
  decided = decided_kind (first_no (questions lent s c)) c s (rw (answer_is) answers)

  pub answer_kind_law : answer_kind a ≡ call_kind c
  answer_kind_law = sym (ap answer_kind answer_is) ∙ decided.1

  pub answer_allowed : sizes_allowed s.sizes ≡ true
  unfolding questions first_no
  answer_allowed = by_test (sizes_allowed s.sizes) (λ yes. yes) (λ no. let refuses : some 1 ≡ none = rw no at decided.0 in cc)
