-- What the functions of the crate ask, and what they promise; and what the calls on a buffer ask. Assumes nothing.
use Rattle.std.specs.Prelude.{◌≡◌, ℕ, ◌+◌, ◌*◌, ◌^◌, ◌<◌, ◌≤◌, true, Option, None, Some, List, length, ◌≢◌, Float}
use Rattle.model.specs.Floats.{f0}
use Rattle.model.specs.Sizes.{sizes_allowed, most_waiting}
use Rattle.model.specs.JitterBuffer.{buffered, step_due, after_step, stopped}
use Rattle.model.proofs.FillStep.{Loose}
use Rattle.model.specs.Questions.{most_calls, buffer_held}
use Rattle.calls.specs.declared.Sizes.{Sizes}
use Rattle.calls.specs.Views.{sizes_of}
use Rattle.sizes.specs.View.{queue_at}
use Rattle.jitter_buffer.specs.declared.JitterBuffer.{JitterBuffer}
use Rattle.jitter_buffer.specs.View.{view_from, view_of}

-- exactly the two parts are lent: no place of another part
pub record Lent (z : Sizes) (fs : List Float) (us : List ℕ) : Type 0 where
  pub floats : queue_at (sizes_of z) + (z.target + z.packet) ≡ length fs
  pub words : most_waiting (sizes_of z) ≡ length us

-- both lent parts are as long as they were
pub record AsLong (fs : List Float) (us : List ℕ) (fs' : List Float) (us' : List ℕ) : Type 0 where
  pub floats : length fs' ≡ length fs
  pub words : length us' ≡ length us

-- allowed sizes, a state that a receiver could hold, and exactly its parts
pub record Ready (z : Sizes) (j : JitterBuffer) (fs : List Float) (us : List ℕ) : Type 0 where
  pub allowed : sizes_allowed (sizes_of z) ≡ true
  pub held : buffer_held (sizes_of z) (most_calls * most_calls) (view_of z j fs us) ≡ true
  pub lent : Lent z fs us

-- ---- amounts

-- the lengths are in range
pub record Sized (z : Sizes) (j : JitterBuffer) : Type 0 where
  pub allowed : sizes_allowed (sizes_of z) ≡ true
  pub waiting : j.pending_len ≤ most_waiting (sizes_of z)
  pub queue : j.playout_len < z.target + z.packet

-- the buffered amount, as a number of the fields and as the model's
pub record BufferedAmount (z : Sizes) (j : JitterBuffer) (r : ℕ) : Type 0 where
  pub amount : r ≡ j.playout_len + z.packet * j.pending_len
  pub model : (fs : List Float) (us : List ℕ) → Lent z fs us → r ≡ buffered (sizes_of z) (view_of z j fs us)

-- ---- fill

-- a packet may go to the end of a queue that is below target, in a part of so many floats
pub record QueueOpen (z : Sizes) (j : JitterBuffer) (floats : ℕ) : Type 0 where
  pub fits : queue_at (sizes_of z) + (z.target + z.packet) ≤ floats
  pub queue : j.playout_len < z.target

-- a filler packet may be counted
pub record CanConceal (z : Sizes) (j : JitterBuffer) : Type 0 where
  pub run : j.consecutive_conceals ≤ 2
  pub concealed : j.packets_missing_concealed + 1 < 2 ^ 64
  pub filled : j.filled + z.packet < 2 ^ 64
  pub resyncs : j.resync_count + 1 < 2 ^ 64

-- a fill is under way, and has taken the packets before a place
pub record Filling (z : Sizes) (j : JitterBuffer) (fs : List Float) (us : List ℕ) (taken : ℕ) : Type 0 where
  pub lent : Lent z fs us
  pub loose : Loose (sizes_of z) (view_from taken z j fs us)
  pub waiting : j.pending_len ≤ most_waiting (sizes_of z)
  pub place : taken ≤ j.pending_len
  pub counts : CanConceal z j

-- what one turn of a fill leaves: the step that it took, or a fill that stopped
abbrev pub TurnTaken : Sizes → JitterBuffer → List Float → List ℕ → ℕ → List Float → Option (JitterBuffer × ℕ) → Type 0
TurnTaken z j fs us taken fs' (Some (b, t)) =
    (view_from t z b fs' us ≡ after_step f0 (sizes_of z) (step_due (sizes_of z) (view_from taken z j fs us)) (view_from taken z j fs us))
    × (step_due (sizes_of z) (view_from taken z j fs us) ≢ stopped)
    × (b.pending_len ≡ j.pending_len)
    × (t ≤ j.pending_len)
TurnTaken z j fs us taken fs' None = (step_due (sizes_of z) (view_from taken z j fs us) ≡ stopped) × (fs' ≡ fs)

-- each counter of a fill stays in range
pub record FillCounts (j : JitterBuffer) : Type 0 where
  pub concealed : j.packets_missing_concealed + 140000 < 2 ^ 64
  pub filled : j.filled + 140000 < 2 ^ 64
  pub resyncs : j.resync_count + 140000 < 2 ^ 64

-- a fill may begin
pub record CanFill (z : Sizes) (j : JitterBuffer) (fs : List Float) (us : List ℕ) : Type 0 where
  pub lent : Lent z fs us
  pub loose : Loose (sizes_of z) (view_of z j fs us)
  pub waiting : j.pending_len ≤ most_waiting (sizes_of z)
  pub counts : FillCounts j

-- the packets before a place may go
pub record Closing (z : Sizes) (j : JitterBuffer) (fs : List Float) (us : List ℕ) (taken : ℕ) : Type 0 where
  pub lent : Lent z fs us
  pub waiting : j.pending_len ≤ most_waiting (sizes_of z)
  pub place : taken ≤ j.pending_len
  pub queue : j.playout_len < z.target + z.packet
