-- What the readings of a receiver answer, on any sizes and any state. Assumes nothing.
use Rattle.std.specs.Prelude.{ℕ, ◌+◌, ◌*◌, Bool, ◌&&◌, cond, leb, ltb, Option, None, Some, Result, Ok, Err}
use Rattle.model.specs.Sizes as Sizing
use Rattle.model.specs.Sizes.{sizes_allowed, most_waiting}
use Rattle.calls.specs.declared.Side.{Side}
use Rattle.calls.specs.declared.Sizes.{Sizes}
use Rattle.calls.specs.declared.Refusal.{Refusal}
use Rattle.calls.specs.Views.{sizes_of}
use Rattle.jitter_buffer.specs.declared.JitterBuffer.{JitterBuffer}
use Rattle.receiver_state.specs.View.{word_start}

-- where a channel's picture begins in the u32 area: behind its waiting sequences
abbrev pub picture_place : Sizing.Sizes → Side → ℕ
picture_place z side = word_start z side + most_waiting z

-- a place, where the sizes are allowed
abbrev pub place_in : Sizes → ℕ → Option ℕ
place_in z at = cond (sizes_allowed (sizes_of z)) (Some at) None

-- what waits and what is queued lie inside their sections
abbrev pub lengths_inside : Sizes → JitterBuffer → Bool
lengths_inside z j = leb j.pending_len (most_waiting (sizes_of z)) && ltb j.playout_len (z.target + z.packet)

-- the samples that a channel buffers: queued, and in waiting packets; or the question that refuses the state
abbrev pub buffered_in : Sizes → JitterBuffer → Result ℕ Refusal
buffered_in z j =
    cond (sizes_allowed (sizes_of z)) (cond (lengths_inside z j) (Ok (j.playout_len + z.packet * j.pending_len)) (Err Refusal.NotHeld)) (Err Refusal.Sizes)
