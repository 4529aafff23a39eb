-- The claim on every list of calls (demand 3), as a record with a field for each part, in the struct's own fields, the areas' own words and the
-- answers' own numbers. Its proof is `whole_list` of proofs/WholeList. Assumes nothing.
use Rattle.std.specs.Prelude.{◌≡◌, Some, List, ℕ, ◌+◌, ◌*◌, ◌≤◌, ◌<◌, get_or}
use Rattle.model.specs.Receiver.{Setup, Lent, fresh}
use Rattle.model.specs.Step.{Event, Run, run}
use Rattle.model.specs.Lines.{Line, only_calls, only_events, line_state, since_reset}
use Rattle.model.specs.WholeList.{All}
use Rattle.model.proofs.Refusals.{RefusedByOwn}
use Rattle.calls.specs.declared.Side.{Side}
use Rattle.calls.specs.declared.Sizes.{Sizes}
use Rattle.calls.specs.declared.Estimates.{Estimates}
use Rattle.calls.specs.Views.{model_side, sizes_of, model_setup}
use Rattle.jitter_buffer.specs.declared.JitterBuffer.{JitterBuffer}
use Rattle.receiver_state.specs.View.{channel_at, word_start}
use Rattle.histories.specs.Chains.{Moment, state_at, lent_at, calls_of}

-- ---- lines

-- the model's fresh receiver, given one line's calls only
abbrev pub alone_run : Lent → Setup → Line → List Event → Run
alone_run lent setup l events = run lent (only_calls l (calls_of events)) (fresh setup)

-- a line's answers in order, and its final state, are those of the same fresh receiver given that line's calls only
pub record LineAlone (lent : Lent) (setup : Setup) (l : Line) (events : List Event) (last : Moment) : Type 0 where
  pub answers : only_events l events ≡ (alone_run lent setup l events).events
  pub state : line_state l (state_at last) ≡ line_state l (alone_run lent setup l events).after

-- Two chains agree on a line: its calls in the first, with their answers, are all that the second has, and it ends in the same state in both.
pub record LineAgrees (l : Line) (events : List Event) (last : Moment) (alone : List Event) (lastAlone : Moment) : Type 0 where
  pub answers : only_events l events ≡ alone
  pub state : line_state l (state_at last) ≡ line_state l (state_at lastAlone)

-- ---- channels

-- a channel's jitter buffer
abbrev pub jitter_at : Side → Moment → JitterBuffer
jitter_at side m = (channel_at side m.receiver).jitter

-- word i of a channel's part of the u32 area, which begins with the waiting sequences; behind the area's end this reads as 0
abbrev pub sequence_at : Sizes → Side → Moment → ℕ → ℕ
sequence_at z side m i = get_or m.words (word_start (sizes_of z) side + i) 0

-- samples taken, dropped and short: sums over the answers of the channel's plays since its last reset, or setup
abbrev pub taken_since : Side → List Event → ℕ
taken_since side events = since_reset (model_side side) (λ p. p.taken) events

abbrev pub dropped_since : Side → List Event → ℕ
dropped_since side events = since_reset (model_side side) (λ p. p.dropped) events

abbrev pub short_since : Side → List Event → ℕ
short_since side events = since_reset (model_side side) (λ p. p.short) events

pub record ChannelAdds (z : Sizes) (side : Side) (events : List Event) (last : Moment) : Type 0 where
  -- packet × (inserted + concealed) = taken + dropped + queued + packet × waiting
  pub sum : z.packet * ((jitter_at side last).packets_inserted + (jitter_at side last).packets_missing_concealed)
      ≡ taken_since side events + dropped_since side events + (jitter_at side last).playout_len + z.packet * (jitter_at side last).pending_len
  -- filled = short total + packet × concealed
  pub filled : (jitter_at side last).filled ≡ short_since side events + z.packet * (jitter_at side last).packets_missing_concealed
  -- the queue is shorter than target + packet
  pub queue : (jitter_at side last).playout_len < z.target + z.packet
  -- in a started channel no waiting sequence is below the next one
  pub order : (next : ℕ) → (jitter_at side last).next_sequence ≡ Some next → (i : ℕ) → i < (jitter_at side last).pending_len → next ≤ sequence_at z side last i

-- ---- the whole list

pub record Histories (z : Sizes) (a b : Estimates) (start : Moment) (events : List Event) (last : Moment) : Type 0 where
  pub lines : (l : Line) → LineAlone (lent_at start) (model_setup z a b) l events last
  pub channels : (side : Side) → ChannelAdds z side events last
  -- no call is refused with 1, 2, 3 or 4
  pub refusals : All RefusedByOwn events
