-- What question 3 asks of the fields. Assumes nothing.
use Rattle.std.specs.Prelude.{ℕ, ◌*◌, max, Bool, true, false, cond, Option, None, Some, List, get_or, ltb, leb, eqb}
use Rattle.model.specs.JitterBuffer.{Counters}
use Rattle.calls.specs.declared.Sizes.{Sizes}
use Rattle.jitter_buffer.specs.declared.JitterBuffer.{JitterBuffer}

-- the largest of the eight counters
abbrev pub largest_counter : Counters → ℕ
largest_counter k =
    max (max (max k.received k.inserted) (max k.concealed k.late))
    (max (max k.overflow k.invalid_size) (max k.resyncs k.filled))

-- question 3's test of next, on the fields: in rising order none is below next where the first is not
unfoldable pub next_asked : Sizes → JitterBuffer → List ℕ → Option ℕ → Bool
next_asked z j us None = cond (eqb j.playout_len 0) (ltb (z.packet * j.pending_len) z.target) false
next_asked z j us (Some s) = cond (eqb j.pending_len 0) true (leb s (get_or us 0 0))

abbrev pub start_asked : Sizes → JitterBuffer → List ℕ → Bool
start_asked z j us = next_asked z j us j.next_sequence
