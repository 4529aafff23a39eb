-- What a call promises, one record for the eight of them, over the model's call and answer; and what questions 1 to 4 and the work on one channel
-- ask and promise. Assumes nothing.
use Rattle.std.specs.Prelude.{ℕ, ◌+◌, ◌*◌, ◌≤◌, ◌<◌, ◌≡◌, Bool, true, false, ◌&&◌, Result, Ok, Err, List, [], ◌∷◌, length, drop, leb, ltb, Float}
use Rattle.std.proofs.Math.Option.{Option, none, some}
use Rattle.model.specs.Sizes as Sizing
use Rattle.model.specs.Sizes.{sizes_allowed, float_area, word_area}
use Rattle.model.specs.Receiver as Model
use Rattle.model.specs.Receiver.{Call, State, is_accepted}
use Rattle.model.specs.Questions.{Question, ask, most_calls, most_added, first_no, areas_long, held, channel_held, clock_held, stream_held}
use Rattle.model.specs.Step.{ChannelResult, step, on_side, waterfall_into}
use Rattle.model.specs.WholeList.{CallBytes}
use Rattle.model.proofs.HeldKept.{NextFits}
use Rattle.calls.specs.declared.Side.{Side}
use Rattle.calls.specs.declared.Refusal.{Refusal}
use Rattle.calls.specs.Views.{model_side, sizes_of}
use Rattle.calls.specs.Refusals.{refusal_number}
use Rattle.audio_metrics.specs.Views.{clock_of}
use Rattle.udp.specs.Views.{counts_of}
use Rattle.jitter_buffer.specs.View.{next_of}
use Rattle.reassembler.specs.Rows.{completed_of, CompletedInside}
use Rattle.channel.specs.View.{channel_in, Inside}
use Rattle.receiver_state.specs.declared.Receiver.{Receiver}
use Rattle.reassembler.specs.declared.Pushed.{Pushed}
use Rattle.receiver_state.specs.View.{state_of, lent_of, float_start, word_start, row_place, channel_at}

-- ---- the calls

-- what every call leaves of the two areas: their lengths, and all that lies behind the lengths that the sizes need
pub record AreasKept (z : Sizing.Sizes) (fs : List Float) (us : List ℕ) (fs' : List Float) (us' : List ℕ) : Type 0 where
  pub float_length : length fs' ≡ length fs
  pub word_length : length us' ≡ length us
  pub float_end : drop (float_area z) fs' ≡ drop (float_area z) fs
  pub word_end : drop (word_area z) us' ≡ drop (word_area z) us

-- A call c on a receiver r and its areas gives the answer a and leaves r' and the areas after it: the model's step of the view. A refusal leaves
-- everything as it was, free places too; an accepted call leaves a state that a receiver could hold, and one call more.
pub record Called (c : Call) (r : Receiver) (fs : List Float) (us : List ℕ) (a : Model.Answer) (r' : Receiver) (fs' : List Float) (us' : List ℕ) : Type 0 where
  pub steps : step (lent_of fs us) c (state_of r fs us) ≡ record { after = state_of r' fs' us'; answer = a }
  pub refused : is_accepted a ≡ false → (r' ≡ r) × (fs' ≡ fs) × (us' ≡ us)
  pub areas : AreasKept (sizes_of r.sizes) fs us fs' us'
  pub bytes : CallBytes c
  pub stays_held : is_accepted a ≡ true → held (state_of r' fs' us') ≡ true
  pub one_more : is_accepted a ≡ true → r'.calls ≡ r.calls + 1

-- ---- questions 1 to 4

abbrev pub early_questions : Model.Lent → State → List Question
early_questions lent s =
    ask 1 (sizes_allowed s.sizes) ∷ ask 2 (areas_long lent s.sizes) ∷ ask 3 (held s) ∷ ask 4 (ltb s.calls most_calls) ∷ []

-- the number of the first question that was answered with no, if one was
abbrev pub verdict_of : Result (Unit {0}) Refusal → Option ℕ
verdict_of (Ok _) = none
verdict_of (Err why) = some (refusal_number why)

-- what the four answers let a call take for granted
pub record Ready (r : Receiver) (fs : List Float) (us : List ℕ) : Type 0 where
  pub allowed : sizes_allowed (sizes_of r.sizes) ≡ true
  pub floats : float_area (sizes_of r.sizes) ≤ length fs
  pub words : word_area (sizes_of r.sizes) ≤ length us
  pub holds : held (state_of r fs us) ≡ true
  pub calls : r.calls < most_calls
  pub inside : (side : Side) → Inside r.sizes (channel_at side r)
  pub next : (side : Side) → NextFits (next_of (channel_at side r).jitter.next_sequence)

pub record EarlyAsked (r : Receiver) (fs : List Float) (us : List ℕ) (v : Result (Unit {0}) Refusal) : Type 0 where
  pub asked : verdict_of v ≡ first_no (early_questions (lent_of fs us) (state_of r fs us))
  pub ready : v ≡ Ok tt → Ready r fs us

-- question 3 of the clock and the counts
abbrev pub counts_held : Receiver → Bool
counts_held r =
    clock_held (clock_of r.clock)
    && (leb r.incoming (r.calls * most_added) && (stream_held (r.calls * most_added) (counts_of r.audio) && stream_held (r.calls * most_added) (counts_of r.waterfall)))

-- question 3: the answer is the model's, whatever floats stand in an area that is long enough; a yes tells the ranges of the fields
pub record StateAsked (r : Receiver) (us : List ℕ) (v : Bool) : Type 0 where
  pub asked : (fs : List Float) → float_area (sizes_of r.sizes) ≤ length fs → v ≡ held (state_of r fs us)
  pub inside : v ≡ true → (side : Side) → Inside r.sizes (channel_at side r)
  pub next : v ≡ true → (side : Side) → NextFits (next_of (channel_at side r).jitter.next_sequence)

-- ---- a call on one channel

-- both channels could be held, over areas that are long enough
pub record SidesReady (r : Receiver) (fs : List Float) (us : List ℕ) : Type 0 where
  pub allowed : sizes_allowed (sizes_of r.sizes) ≡ true
  pub floats : float_area (sizes_of r.sizes) ≤ length fs
  pub words : word_area (sizes_of r.sizes) ≤ length us
  pub channels : (side : Side)
      → channel_held (sizes_of r.sizes) (most_calls * most_added)
      (channel_in r.sizes (channel_at side r) (drop (float_start (sizes_of r.sizes) side) fs) (drop (word_start (sizes_of r.sizes) side) us))
      ≡ true
  pub inside : (side : Side) → Inside r.sizes (channel_at side r)
  pub next : (side : Side) → NextFits (next_of (channel_at side r).jitter.next_sequence)

-- the model's call f on that channel, before it is counted
pub record SideTaken (side : Side) (f : Model.Channel → ChannelResult) (r : Receiver) (fs : List Float) (us : List ℕ) (a : Model.Answer) (r' : Receiver) (fs' : List Float) (us' : List ℕ) : Type 0 where
  pub taken : on_side (model_side side) f (state_of r fs us) ≡ record { after = state_of r' fs' us'; answer = a }
  pub areas : AreasKept (sizes_of r.sizes) fs us fs' us'
  pub uncounted : r'.calls ≡ r.calls

-- a waterfall payload: the row that it completed stands at its channel's place, and has 1 to bins values
pub record RowsTaken (side : Side) (r : Receiver) (fs : List Float) (us payload : List ℕ) (v : Pushed Receiver) (fs' : List Float) (us' : List ℕ) : Type 0 where
  pub shown : SideTaken side (waterfall_into (sizes_of r.sizes) payload) r fs us (Model.row (completed_of v.completed (drop (row_place (sizes_of r.sizes) side) fs'))) v.state fs' us'
  pub completed : CompletedInside v.completed r.sizes.bins
