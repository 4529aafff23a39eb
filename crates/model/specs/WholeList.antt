-- The claim on a whole list of calls (demand 3), as a record with a field for each part. Its proof is `whole_list` of proofs/WholeList. Assumes nothing.
use Rattle.std.specs.Prelude.{◌≡◌, true, List, [], ◌∷◌, ℕ, ◌+◌, ◌*◌, ◌≤◌, ◌<◌, length, ltb, Float}
use Rattle.std.proofs.Math.Option.{some}
use Rattle.model.specs.Framing.{Side}
use Rattle.model.specs.Sizes.{Sizes}
use Rattle.model.specs.JitterBuffer.{Buffer}
use Rattle.model.specs.Bytes.{all}
use Rattle.model.specs.Receiver.{Call, datagram, play, reset, set, probe, one_way, depth, transmit_depth, Lent, State, channel_of}
use Rattle.model.specs.Step.{Event, run}
use Rattle.model.specs.Lines.{Line, only_calls, only_events, line_state, since_reset}

-- every element has the property
abbrev pub All {ℓ} : {A : Type ℓ} → (A → Type 0) → List A → Type 0
All P [] = Unit {0}
All P (x ∷ xs) = P x × All P xs

-- a call is made of bytes: each is below 256
abbrev pub CallBytes : Call → Type 0
CallBytes (datagram bytes) = all (λ b. ltb b 256) bytes ≡ true
CallBytes (play side n) = Unit {0}
CallBytes (reset side) = Unit {0}
CallBytes (set side x) = Unit {0}
CallBytes (probe t1 t2 t3 t4) = Unit {0}
CallBytes (one_way receive send) = Unit {0}
CallBytes (depth samples counts) = Unit {0}
CallBytes (transmit_depth samples) = Unit {0}

-- a line's answers in order, and its final state, are those of the same fresh receiver given that line's calls only
pub record LineAlone (lent : Lent) (start : State) (calls : List Call) (l : Line) : Type 0 where
  pub answers : only_events l (run lent calls start).events ≡ (run lent (only_calls l calls) start).events
  pub state : line_state l (run lent calls start).after ≡ line_state l (run lent (only_calls l calls) start).after

-- what holds of a channel's buffer after the events since setup
pub record ChannelSound (z : Sizes) (side : Side) (events : List Event) (b : Buffer Float) : Type 0 where
  -- since its last reset: packet × (inserted + concealed) = taken + dropped + queued + packet × waiting
  pub sum : z.packet * (b.counters.inserted + b.counters.concealed)
      ≡ since_reset side (λ p. p.taken) events + since_reset side (λ p. p.dropped) events + length b.queue + z.packet * length b.waiting
  -- filled = short total + packet × concealed
  pub filled : b.counters.filled ≡ since_reset side (λ p. p.short) events + z.packet * b.counters.concealed
  -- the queue is shorter than target + packet
  pub queue : length b.queue < z.target + z.packet
  -- in a started channel no waiting sequence is below the next one
  pub order : (next : ℕ) → b.next ≡ some next → All (λ p. next ≤ p.sequence) b.waiting

pub record WholeList (lent : Lent) (start : State) (calls : List Call) : Type 0 where
  pub lines : (l : Line) → LineAlone lent start calls l
  pub channels : (side : Side) → ChannelSound start.sizes side (run lent calls start).events (channel_of side (run lent calls start).after).buffer
