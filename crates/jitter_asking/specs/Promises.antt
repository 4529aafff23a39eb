-- What the functions of the crate ask, and what they promise. Assumes nothing.
use Rattle.std.specs.Prelude.{ℕ, ◌+◌, ◌*◌, ◌≤◌, ◌≡◌, Bool, true, ◌&&◌, List, length, eqb, Float}
use Rattle.model.specs.Sizes.{sizes_allowed, most_waiting}
use Rattle.model.proofs.HeldKept.{NextFits}
use Rattle.model.specs.Questions.{most_calls, buffer_held}
use Rattle.calls.specs.declared.Sizes.{Sizes}
use Rattle.calls.specs.Views.{sizes_of}
use Rattle.sizes.specs.View.{queue_at}
use Rattle.jitter_buffer.specs.declared.JitterBuffer.{JitterBuffer}
use Rattle.jitter_buffer.specs.View.{next_of, view_of}
use Rattle.jitter_asking.specs.Fields.{start_asked}

-- where the f32 part is long enough, the answer is the model's for allowed sizes and exactly the u32 part, whatever the samples are, and else no
abbrev pub HeldAsked : Sizes → JitterBuffer → List Float → List ℕ → ℕ → Bool → Type 0
HeldAsked z j fs us calls r =
    queue_at (sizes_of z) + (z.target + z.packet) ≤ length fs
    → r ≡ sizes_allowed (sizes_of z) && (eqb (most_waiting (sizes_of z)) (length us) && buffer_held (sizes_of z) (calls * most_calls) (view_of z j fs us))

-- the test of next, and what is known of next itself
pub record StartTold (z : Sizes) (j : JitterBuffer) (us : List ℕ) (r : Bool) : Type 0 where
  pub asked : r ≡ start_asked z j us
  pub next : NextFits (next_of j.next_sequence)

pub record HeldTold (z : Sizes) (j : JitterBuffer) (us : List ℕ) (calls : ℕ) (r : Bool) : Type 0 where
  pub asked : (fs : List Float) → HeldAsked z j fs us calls r
  pub next : r ≡ true → NextFits (next_of j.next_sequence)
