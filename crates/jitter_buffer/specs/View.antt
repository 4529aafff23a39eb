-- The model's buffer that the struct and its two lent parts hold: the waiting samples and the queue in the f32 part, the waiting sequences in the u32 part. Assumes nothing.
use Rattle.std.specs.Prelude.{ℕ, zero, suc, ◌-◌, ◌*◌, Option, None, Some, List, [], ◌∷◌, slice_index, Float}
use Rattle.std.proofs.Math.Option as Maybe
use Rattle.std.proofs.Math.Option.{none, some}
use Rattle.model.specs.Bytes.{part}
use Rattle.model.specs.Samples.{samples_of}
use Rattle.model.specs.JitterBuffer as Model
use Rattle.model.specs.JitterBuffer.{Counters, Packet, Buffer, Step}
use Rattle.calls.specs.declared.Sizes.{Sizes}
use Rattle.calls.specs.Views.{sizes_of}
use Rattle.sizes.specs.View.{queue_at}
use Rattle.jitter_buffer.specs.declared.JitterBuffer.{JitterBuffer}
use Rattle.jitter_buffer.specs.declared.FillStep.{FillStep}
use Rattle.jitter_buffer.specs.declared.FillStep.TheVariants.{Moved, Concealed, Stopped}

abbrev pub next_of : Option ℕ → Maybe.Option ℕ
next_of None = none
next_of (Some s) = some s

abbrev pub step_of : FillStep → Step
step_of (Moved s) = Model.moved s
step_of (Concealed s) = Model.concealed s
step_of Stopped = Model.stopped

-- the n waiting packets from place k on: sequence i at place i, its samples at i × packet
unfoldable pub packets_from : {X : Type 0} → ℕ → ℕ → ℕ → List X → List ℕ → List (Packet X)
packets_from packet k zero fs us = []
packets_from packet k (suc n) fs us =
    record { sequence = slice_index us k; samples = part (k * packet) packet fs } ∷ packets_from packet (suc k) n fs us

abbrev pub counters_of : JitterBuffer → Counters
counters_of j =
    record {
      received = j.packets_received;
      inserted = j.packets_inserted;
      concealed = j.packets_missing_concealed;
      late = j.packets_dropped_late;
      overflow = j.packets_dropped_overflow;
      invalid_size = j.packets_dropped_invalid_size;
      resyncs = j.resync_count;
      filled = j.filled;
    }

-- the buffer while a fill has taken the first packets: those from place `taken` on still wait
abbrev pub view_from : ℕ → Sizes → JitterBuffer → List Float → List ℕ → Buffer Float
view_from taken z j fs us =
    record {
      next = next_of j.next_sequence;
      waiting = packets_from z.packet taken (j.pending_len - taken) fs us;
      queue = part (queue_at (sizes_of z)) j.playout_len fs;
      run = j.consecutive_conceals;
      largest = j.max_observed_buffered_samples;
      counters = counters_of j;
    }

-- the buffer between calls
abbrev pub view_of : Sizes → JitterBuffer → List Float → List ℕ → Buffer Float
view_of z j fs us = view_from 0 z j fs us

-- the packet that a sequence and a payload are
abbrev pub packet_of : ℕ → List ℕ → Packet Float
packet_of s payload = record { sequence = s; samples = samples_of payload }
