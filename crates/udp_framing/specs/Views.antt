-- What the crate's values stand for: the model's header, times and time packets, sums, and the numbers of the refusals. Assumes nothing.
use Rattle.std.specs.Prelude.{ℕ, ◌+◌, ◌*◌, ◌^◌, Bool, Option, None, Some, Result, Ok, Err}
use Rattle.std.specs.Int.{from_bool}
use Rattle.std.proofs.Math.Option as Maybe
use Rattle.std.proofs.Math.Option.{none, some}
use Rattle.model.specs.Framing.{Header, TimeRequest, TimeResponse}
use Rattle.udp_framing.specs.declared.MediaHeader.{MediaHeader}
use Rattle.udp_framing.specs.declared.TimeSyncRequest.{TimeSyncRequest}
use Rattle.udp_framing.specs.declared.TimeSyncResponse.{TimeSyncResponse}
use Rattle.calls.specs.declared.Refusal.{Refusal}
use Rattle.calls.specs.Refusals.{refusal_number}

-- ---- what may be missing

abbrev pub header_of : MediaHeader → Header
header_of h =
    record {
      magic = h.magic;
      version = h.version;
      stream_type = h.stream_type;
      sequence = h.sequence;
      timestamp = h.timestamp;
    }

-- the header that was found, if the datagram has one
abbrev pub header_found : Option MediaHeader → Maybe.Option Header
header_found (Some h) = some (header_of h)
header_found None = none

-- the send time that was found, if the datagram has one
abbrev pub send_time_found : Option ℕ → Maybe.Option ℕ
send_time_found (Some n) = some n
send_time_found None = none

-- ---- time packets

abbrev pub request_of : TimeSyncRequest → TimeRequest
request_of q = record { probe = q.probe_id; t1 = q.t1_ns }

abbrev pub response_of : TimeSyncResponse → TimeResponse
response_of q = record { probe = q.probe_id; t1 = q.t1_ns; t2 = q.t2_ns; t3 = q.t3_ns }

-- ---- what may be refused

-- a value, or a refusal's number
pub data Answer (A : Type 0) : Type 0 where
  accepted : A → Answer A
  refused : ℕ → Answer A

-- a value, or where there is none the refusal of that number
abbrev pub or_refusal : {A : Type 0} → ℕ → Maybe.Option A → Answer A
or_refusal number none = refused number
or_refusal number (some a) = accepted a

-- what a result's value stands for, or its refusal's number
abbrev pub answer_of : {A B : Type 0} → (A → B) → Result A Refusal → Answer B
answer_of f (Ok a) = accepted (f a)
answer_of f (Err e) = refused (refusal_number e)

-- the number of bytes that were written
abbrev pub built_answer : Result ℕ Refusal → Answer ℕ
built_answer r = answer_of (λ n. n) r

-- ---- words

-- the number that a low word and a carry are
abbrev pub sum_of : ℕ × Bool → ℕ
sum_of s = from_bool s.1 * 2 ^ 64 + s.0
