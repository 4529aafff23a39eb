-- Time-sync packets: what the tests of a packet come to once its header is parsed, and the law that a packet that is built parses to what it was
-- built from. Assumes nothing.
use Prim.Native.Nat.{ℕ, ◌^◌, ◌≤◌, ◌<◌}
use native.Mathlib.Omega.{arith}
use mathlib.Core.Path.{◌≡◌, refl, sym, ap, ◌∙◌}
use mathlib.Core.Bool.{Bool, true, false, cond, and-false}
use mathlib.Core.Option.{none, some}
use mathlib.Core.List.{List, [], ◌++◌, append-nil}
use lib.ListN.{length, length-append}
use lib.Dec.{leb, ltb}
use borrow.Author.Tests.{ltb-true, le-leb, lt-leb, eq-eqb, ne_eqb}
use Rattle.model.specs.Bytes.{big_endian, big_endian_at, big_endian_bytes}
use Rattle.model.specs.Framing.{Header, header_length, header_fields, parse_header, TimeRequest, TimeResponse, request_type, response_type, time_header, build_request, build_response, time_packet, parse_request, parse_response}
use Rattle.model.proofs.BytesLaws.{number_of_bytes}
use Rattle.model.proofs.BoolLaws.{by_test, both_and}

-- a header that parses is the datagram's fields
pub header_found_law : (bytes : List ℕ) {h : Header} → some h ≡ parse_header bytes → h ≡ header_fields bytes
unfolding parse_header
header_found_law bytes {h} e = by_cases (ltb (length bytes) header_length) e
  where
    by_cases : (b : Bool) → some h ≡ cond b none (some (header_fields bytes)) → h ≡ header_fields bytes
    by_cases true e = cc
    by_cases false e = cc

pub header_missing : (bytes : List ℕ) → none ≡ parse_header bytes → length bytes < header_length
unfolding parse_header
header_missing bytes e =
    by_test (ltb (length bytes) header_length) (λ short. ltb-true (length bytes) header_length short) (λ long. cc)

module _ (type size : ℕ) (bytes : List ℕ) where
  pub short_no_time_packet : length bytes < size → time_packet type size bytes ≡ false
  unfolding time_packet
  short_no_time_packet short = simp (lt-leb size (length bytes) short)

  pub no_header_no_time_packet : header_length ≤ size → none ≡ parse_header bytes → time_packet type size bytes ≡ false
  no_header_no_time_packet fits missing = short_no_time_packet (omega (arith, header_missing bytes missing))

  pub other_type_no_time_packet : {h : Header} → some h ≡ parse_header bytes → (h.stream_type ≡ type → ⊥)
      → time_packet type size bytes ≡ false
  unfolding time_packet
  other_type_no_time_packet {h} found other =
      let otherField : (header_fields bytes).stream_type ≡ type → ⊥ =
      λ e. other (ap (λ (g : Header). g.stream_type) (header_found_law bytes found) ∙ e)
      in
      rw (ne_eqb (header_fields bytes).stream_type type otherField) (and-false (leb size (length bytes)))

  pub time_packet_found : {h : Header} → some h ≡ parse_header bytes → h.stream_type ≡ type → size ≤ length bytes
      → time_packet type size bytes ≡ true
  unfolding time_packet
  time_packet_found {h} found same long =
      both_and (le-leb size (length bytes) long)
      (eq-eqb (header_fields bytes).stream_type type (ap (λ (g : Header). g.stream_type) (sym (header_found_law bytes found)) ∙ same))

-- ---- sizes of what is built

pub request_length : (r : TimeRequest) → length (build_request r) ≡ 24
unfolding build_request time_header big_endian_bytes
request_length r = refl

pub response_length : (r : TimeResponse) → length (build_response r) ≡ 40
unfolding build_response time_header big_endian_bytes
response_length r = refl

-- ---- what is built parses to what it was built from, also where more bytes follow

-- bytes that follow do not make a packet too short
long_enough : (size : ℕ) (packet rest : List ℕ) → length packet ≡ size → leb size (length (packet ++ rest)) ≡ true
long_enough size packet rest e = le-leb size (length (packet ++ rest)) (omega (arith, length-append packet rest))

module _ (r : TimeRequest) (rest : List ℕ) where
  request_type_at : (header_fields (build_request r ++ rest)).stream_type ≡ request_type
  unfolding header_fields build_request time_header big_endian_bytes big_endian
  request_type_at = refl

  request_probe_at : r.probe < 2 ^ 32 → (header_fields (build_request r ++ rest)).sequence ≡ r.probe
  unfolding header_fields build_request time_header big_endian_bytes
  request_probe_at h = number_of_bytes 4 r.probe h

  request_t1_at : r.t1 < 2 ^ 64 → big_endian_at 16 8 (build_request r ++ rest) ≡ r.t1
  unfolding build_request time_header big_endian_bytes
  request_t1_at h = number_of_bytes 8 r.t1 h

  built_is_request : time_packet request_type 24 (build_request r ++ rest) ≡ true
  unfolding time_packet
  built_is_request = rw (long_enough 24 (build_request r) rest (request_length r), request_type_at)

  pub parse_built_request_and_more : r.probe < 2 ^ 32 → r.t1 < 2 ^ 64 → parse_request (build_request r ++ rest) ≡ some r
  unfolding parse_request
  parse_built_request_and_more p h1 = rw (built_is_request, request_probe_at p, request_t1_at h1)

module _ (r : TimeResponse) (rest : List ℕ) where
  response_type_at : (header_fields (build_response r ++ rest)).stream_type ≡ response_type
  unfolding header_fields build_response time_header big_endian_bytes big_endian
  response_type_at = refl

  response_probe_at : r.probe < 2 ^ 32 → (header_fields (build_response r ++ rest)).sequence ≡ r.probe
  unfolding header_fields build_response time_header big_endian_bytes
  response_probe_at h = number_of_bytes 4 r.probe h

  response_t1_at : r.t1 < 2 ^ 64 → big_endian_at 16 8 (build_response r ++ rest) ≡ r.t1
  unfolding build_response time_header big_endian_bytes
  response_t1_at h = number_of_bytes 8 r.t1 h

  response_t2_at : r.t2 < 2 ^ 64 → big_endian_at 24 8 (build_response r ++ rest) ≡ r.t2
  unfolding build_response time_header big_endian_bytes
  response_t2_at h = number_of_bytes 8 r.t2 h

  response_t3_at : r.t3 < 2 ^ 64 → big_endian_at 32 8 (build_response r ++ rest) ≡ r.t3
  unfolding build_response time_header big_endian_bytes
  response_t3_at h = number_of_bytes 8 r.t3 h

  built_is_response : time_packet response_type 40 (build_response r ++ rest) ≡ true
  unfolding time_packet
  built_is_response = rw (long_enough 40 (build_response r) rest (response_length r), response_type_at)

  pub parse_built_response_and_more : r.probe < 2 ^ 32 → r.t1 < 2 ^ 64 → r.t2 < 2 ^ 64 → r.t3 < 2 ^ 64
      → parse_response (build_response r ++ rest) ≡ some r
  unfolding parse_response
  parse_built_response_and_more p h1 h2 h3 =
      rw (built_is_response, response_probe_at p, response_t1_at h1, response_t2_at h2, response_t3_at h3)

pub parse_built_request : (r : TimeRequest) → r.probe < 2 ^ 32 → r.t1 < 2 ^ 64 → parse_request (build_request r) ≡ some r
parse_built_request r p h1 = rw append-nil at (parse_built_request_and_more r [] p h1)

pub parse_built_response : (r : TimeResponse) → r.probe < 2 ^ 32 → r.t1 < 2 ^ 64 → r.t2 < 2 ^ 64 → r.t3 < 2 ^ 64
    → parse_response (build_response r) ≡ some r
parse_built_response r p h1 h2 h3 = rw append-nil at (parse_built_response_and_more r [] p h1 h2 h3)
