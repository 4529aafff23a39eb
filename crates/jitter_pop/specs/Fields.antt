-- What a play makes of the struct, field by field. Assumes nothing.
use Rattle.std.specs.Prelude.{ℕ, ◌+◌}
use Rattle.jitter_buffer.specs.declared.JitterBuffer.{JitterBuffer}
use Rattle.jitter_pop.specs.declared.Popped.{Popped}

-- so many samples are queued, and so many more were made up
abbrev pub played_fields : ℕ → ℕ → JitterBuffer → JitterBuffer
played_fields queued short j = record j { playout_len = queued; filled = j.filled + short }

-- a play of so many samples before the start
abbrev pub silence_popped : ℕ → JitterBuffer → Popped
silence_popped n j = record { buffer = played_fields j.playout_len n j; played = record { taken = 0; dropped = 0; short = n } }
