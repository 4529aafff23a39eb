-- What the functions of the crate ask, and what they promise. Assumes nothing.
use Rattle.std.specs.Prelude.{ℕ, ◌+◌, ◌-◌, ◌^◌, ◌≤◌, ◌<◌, min, ◌≡◌, List, length, replicate, Float}
use Rattle.model.specs.Bytes.{part, placed}
use Rattle.model.specs.Floats.{f0}
use Rattle.areas.specs.Parts.{moved}
use Rattle.model.specs.JitterBuffer.{PlayResult, play}
use Rattle.calls.specs.declared.Sizes.{Sizes}
use Rattle.calls.specs.Views.{sizes_of}
use Rattle.sizes.specs.View.{queue_at}
use Rattle.jitter_buffer.specs.declared.JitterBuffer.{JitterBuffer}
use Rattle.jitter_pop.specs.declared.Popped.{Popped}
use Rattle.jitter_buffer.specs.View.{view_of}
use Rattle.jitter_buffer.specs.Promises.{AsLong, CanFill}
use Rattle.jitter_pop.specs.Fields.{played_fields}

-- a play may drop so many samples, and give so many
pub record CanHandOut (z : Sizes) (j : JitterBuffer) (floats n dropped : ℕ) : Type 0 where
  pub fits : queue_at (sizes_of z) + (z.target + z.packet) ≤ floats
  pub queue : j.playout_len < z.target + z.packet
  pub in_queue : dropped ≤ j.playout_len
  pub filled : j.filled + n < 2 ^ 64

-- what a play leaves, field by field and list by list, where it takes so many samples of the queue
pub record HandedOut (z : Sizes) (j : JitterBuffer) (fs out : List Float) (dropped : ℕ) (r : Popped) (fs' out' : List Float) : Type 0 where
  pub took : r.played.taken ≡ min (length out) (j.playout_len - dropped)
  pub drops : r.played.dropped ≡ dropped
  pub lacks : r.played.short ≡ length out - r.played.taken
  pub buffer : r.buffer ≡ played_fields (j.playout_len - dropped - r.played.taken) r.played.short j
  pub floats : fs' ≡ moved (queue_at (sizes_of z) + dropped + r.played.taken) (queue_at (sizes_of z)) (j.playout_len - dropped - r.played.taken) fs
  pub samples : out' ≡ placed r.played.taken (replicate r.played.short f0) (placed 0 (part (queue_at (sizes_of z) + dropped) r.played.taken fs) out)

-- a play of so many samples may fill, and count what is short
pub record CanPlay (z : Sizes) (j : JitterBuffer) (fs : List Float) (us : List ℕ) (n : ℕ) : Type 0 where
  pub fill : CanFill z j fs us
  pub few : n ≤ 65535

-- what is left and answered, as one result of the model's
pub record PlayedAs (z : Sizes) (model : PlayResult Float) (r : Popped) (fs' : List Float) (us' : List ℕ) (out' : List Float) : Type 0 where
  pub view : view_of z r.buffer fs' us' ≡ model.after
  pub samples : out' ≡ model.answer.samples
  pub took : r.played.taken ≡ model.answer.taken
  pub drops : r.played.dropped ≡ model.answer.dropped
  pub lacks : r.played.short ≡ model.answer.short

-- a play: the buffer and the answer are the model's
pub record PopDone (z : Sizes) (j : JitterBuffer) (fs : List Float) (us : List ℕ) (out : List Float) (r : Popped) (fs' : List Float) (us' : List ℕ) (out' : List Float) : Type 0 where
  pub played : PlayedAs z (play f0 (sizes_of z) (length out) (view_of z j fs us)) r fs' us' out'
  pub lent : AsLong fs us fs' us'
