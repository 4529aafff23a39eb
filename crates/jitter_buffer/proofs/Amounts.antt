-- The waiting packets and the buffered amount of the fields are the model's. Assumes nothing.
use Rattle.std.proofs.Common.{◌≡◌, ℕ, ◌+◌, ◌-◌, ◌*◌, ◌<◌, List, length, ◌∙◌, arith}
use native.Mathlib.Nat.{sub-zero}
use lib.Ieee.{Float}
use Rattle.model.specs.JitterBuffer.{buffered}
use Rattle.calls.specs.declared.Sizes.{Sizes}
use Rattle.calls.specs.Views.{sizes_of}
use Rattle.jitter_buffer.specs.declared.JitterBuffer.{JitterBuffer}
use Rattle.jitter_buffer.specs.View.{view_of}
use Rattle.jitter_buffer.specs.Promises.{Lent}
use Rattle.jitter_buffer.proofs.Places.{packets_length}
use Rattle.jitter_buffer.proofs.FillView.{queue_length}

pub waiting_count : (z : Sizes) (j : JitterBuffer) (fs : List Float) (us : List ℕ) → length (view_of z j fs us).waiting ≡ j.pending_len
waiting_count z j fs us = packets_length z.packet 0 (j.pending_len - 0) fs us ∙ sub-zero j.pending_len

pub amount_is : (z : Sizes) (j : JitterBuffer) (fs : List Float) (us : List ℕ) → Lent z fs us → j.playout_len < z.target + z.packet
    → j.playout_len + z.packet * j.pending_len ≡ buffered (sizes_of z) (view_of z j fs us)
unfolding buffered
amount_is z j fs us lent fits =
    rw (queue_length z j fs us 0 (omega (arith, lent.floats)), waiting_count z j fs us)
