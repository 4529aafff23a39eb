-- What the functions promise that have more than one thing to say. Assumes nothing.
use Rattle.std.specs.Prelude.{◌≡◌, ◌≤◌, ℕ, true, false, List, ◌∷◌, ◌++◌, length, Result, Ok, Err}
use Rattle.std.proofs.Math.Option.{Option, none, some}
use Rattle.model.specs.Bytes.{big_endian_bytes, written_into}
use Rattle.model.specs.Framing.{magic_number, header_fields, time_packet}
use Rattle.model.specs.Clock.{probe_offset, probe_round_trip}
use Rattle.calls.specs.declared.ProbeTimes.{ProbeTimes}
use Rattle.calls.specs.declared.Refusal.{Refusal}
use Rattle.calls.specs.declared.Refusal.TheVariants.{NotTimePacket}
use Rattle.udp_framing.specs.declared.MediaHeader.{MediaHeader}
use Rattle.udp_framing.specs.declared.OffsetRtt.{OffsetRtt}
use Rattle.udp_framing.specs.Views.{Answer, accepted, refused, header_of, built_answer}

-- ---- packets that are built

-- the header of a packet of version 2
unfoldable pub header_bytes : ℕ → ℕ → ℕ → List ℕ
header_bytes type sequence timestamp =
    big_endian_bytes 2 magic_number ++ (2 ∷ type ∷ big_endian_bytes 4 sequence ++ big_endian_bytes 8 timestamp)

-- the size of what was written, or where nothing was written refusal 2
abbrev pub size_or_refusal : ℕ → Option (List ℕ) → Answer ℕ
size_or_refusal size none = refused 2
size_or_refusal size (some bytes) = accepted size

-- what was written, or where nothing was written what stood there
abbrev pub or_unchanged : List ℕ → Option (List ℕ) → List ℕ
or_unchanged entry none = entry
or_unchanged entry (some bytes) = bytes

-- a packet was built at the front of a target, or refused and the target left as it was
pub record BuiltAs (packet entry exit : List ℕ) (answer : Result ℕ Refusal) : Type 0 where
  pub answered : built_answer answer ≡ size_or_refusal (length packet) (written_into 0 packet entry)
  pub bytes : exit ≡ or_unchanged entry (written_into 0 packet entry)

-- ---- packets that are read

-- the header of a time-sync packet of a type and so many bytes or more, or question 10's refusal
abbrev pub TimePacketAsked : ℕ → ℕ → List ℕ → Result MediaHeader Refusal → Type 0
TimePacketAsked type size bytes (Ok h) = (time_packet type size bytes ≡ true) × (header_of h ≡ header_fields bytes) × (size ≤ length bytes)
TimePacketAsked type size bytes (Err e) = (time_packet type size bytes ≡ false) × (e ≡ NotTimePacket)

-- ---- the clock

-- what the four times of a probe come to
pub record Measured (t : ProbeTimes) (r : OffsetRtt) : Type 0 where
  pub offset : r.offset ≡ probe_offset t.t1 t.t2 t.t3 t.t4
  pub rtt : r.rtt ≡ probe_round_trip t.t1 t.t2 t.t3 t.t4
