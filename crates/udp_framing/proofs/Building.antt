-- Packets that are built: a header from its five fields, and what a target that is long enough or too short comes to. Assumes nothing.
use Rattle.std.proofs.Common.{◌≡◌, ℕ, ◌+◌, ◌/◌, ◌%◌, ◌<◌, ◌≤◌, List, ◌++◌, length, refl, append_assoc, arith, le-leb}
use mathlib.Core.Option.{none, some}
use borrow.Author.Tests.{lt-leb}
use Rattle.model.specs.Bytes.{big_endian_bytes, placed, written_into}
use Rattle.model.specs.Framing.{magic_number, time_header, request_type, response_type, TimeRequest, TimeResponse, build_request, build_response}
use Rattle.model.proofs.ByteParts.{Front}
use Rattle.udp_framing.specs.Promises.{header_bytes, BuiltAs}
use Rattle.std.specs.Prelude.{Ok, Err}
use Rattle.calls.specs.declared.Refusal.TheVariants.{NoRoom}

pub header_of_fields : (type sequence timestamp : ℕ) → type < 256
    → (((big_endian_bytes 2 magic_number ++ big_endian_bytes 1 2) ++ big_endian_bytes 1 type) ++ big_endian_bytes 4 sequence) ++ big_endian_bytes 8 timestamp
    ≡ header_bytes type sequence timestamp
unfolding header_bytes big_endian_bytes
header_of_fields type sequence timestamp byte =
    let same : type / 1 % 256 ≡ type = omega arith in
    rw same

-- the header of a time packet, written at the front
pub header_front : (type probe : ℕ) {target now : List ℕ} → now ≡ placed 0 (header_bytes type probe 0) target → Front (time_header type probe) target now 16
unfolding header_bytes time_header big_endian_bytes
header_front type probe e = record { place = refl; bytes = e }

pub request_of_parts : (r : TimeRequest) → time_header request_type r.probe ++ big_endian_bytes 8 r.t1 ≡ build_request r
unfolding build_request
request_of_parts r = refl

pub response_of_parts : (r : TimeResponse)
    → ((time_header response_type r.probe ++ big_endian_bytes 8 r.t1) ++ big_endian_bytes 8 r.t2) ++ big_endian_bytes 8 r.t3 ≡ build_response r
unfolding build_response
response_of_parts r = simp append_assoc

module _ (size : ℕ) (packet entry : List ℕ) (long : length packet ≡ size) where
  pub nothing_written : length entry < size → written_into 0 packet entry ≡ none
  unfolding written_into
  nothing_written short = rw (lt-leb (0 + length packet) (length entry) (omega arith))

  pub all_written : size ≤ length entry → written_into 0 packet entry ≡ some (placed 0 packet entry)
  unfolding written_into
  all_written fits = rw (le-leb (0 + length packet) (length entry) (omega arith))

  pub built_refused : length entry < size → BuiltAs packet entry entry (Err NoRoom)
  built_refused short = record { answered = rw (nothing_written short); bytes = rw (nothing_written short) }

  pub built_written : {exit : List ℕ} → size ≤ length entry → exit ≡ placed 0 packet entry → BuiltAs packet entry exit (Ok size)
  built_written fits e = record { answered = rw (all_written fits, long); bytes = rw (all_written fits) e }
