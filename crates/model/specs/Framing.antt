-- Framing: the header of a datagram, the streams, and the time-sync packets. All numbers are big-endian. Assumes nothing.
use Rattle.std.specs.Prelude.{ℕ, ◌+◌, ◌%◌, ◌^◌, Bool, ◌&&◌, cond, List, ◌∷◌, ◌++◌, length, leb, ltb, eqb}
use Rattle.std.proofs.Math.Option.{Option, none, some}
use Rattle.model.specs.Bytes.{big_endian_at, big_endian_bytes}
use Rattle.model.specs.Sizes.{between}

-- ---- header

-- magic (2 bytes), version (1), stream type (1), sequence (4), timestamp (8): 16 bytes
pub record Header : Type 0 where
  pub magic : ℕ
  pub version : ℕ
  pub stream_type : ℕ
  pub sequence : ℕ
  pub timestamp : ℕ

abbrev pub header_length : ℕ
header_length = 16

-- the fields of a datagram that is long enough to have them
unfoldable pub header_fields : List ℕ → Header
header_fields bytes =
    record {
      magic = big_endian_at 0 2 bytes;
      version = big_endian_at 2 1 bytes;
      stream_type = big_endian_at 3 1 bytes;
      sequence = big_endian_at 4 4 bytes;
      timestamp = big_endian_at 8 8 bytes;
    }

-- a datagram of under 16 bytes has no header
unfoldable pub parse_header : List ℕ → Option Header
parse_header bytes = cond (ltb (length bytes) header_length) none (some (header_fields bytes))

abbrev pub magic_number : ℕ
magic_number = 0x5253

-- question 7, the one place where a header is judged: magic right, version 1 or 2
unfoldable pub valid_header : Header → Bool
valid_header h = eqb h.magic magic_number && between 1 2 h.version

-- the sequence after s, modulo 2^32
unfoldable pub next_sequence : ℕ → ℕ
next_sequence s = (s + 1) % 2 ^ 32

-- ---- streams

-- the two channels
pub data Side : Type 0 where
  A B : Side

pub data Stream : Type 0 where
  audio : Side → Stream
  waterfall : Side → Stream
  -- a valid type that no channel takes
  other_stream : Stream

-- 1 audio A, 2 waterfall A, 3 audio B, 4 waterfall B
unfoldable pub stream_of : ℕ → Stream
stream_of t =
    cond (eqb t 1) (audio A)
    (cond (eqb t 2) (waterfall A)
    (cond (eqb t 3) (audio B)
    (cond (eqb t 4) (waterfall B) other_stream)))

-- the stream of a datagram that has a header
unfoldable pub stream_in : List ℕ → Stream
stream_in bytes = stream_of (header_fields bytes).stream_type

-- audio samples start at byte 16 in version 1 and at 24 in version 2
unfoldable pub audio_start : ℕ → ℕ
audio_start version = cond (leb 2 version) 24 header_length

-- the server's send time, which only an audio datagram of version 2 has, between its header and its samples
unfoldable pub audio_send_time : Header → List ℕ → Option ℕ
audio_send_time h bytes = cond (leb 2 h.version && leb 24 (length bytes)) (some (big_endian_at 16 8 bytes)) none

-- ---- time-sync packets: built with version 2, parsed whatever their magic and version

pub record TimeRequest : Type 0 where
  pub probe : ℕ
  pub t1 : ℕ

pub record TimeResponse : Type 0 where
  pub probe : ℕ
  pub t1 : ℕ
  pub t2 : ℕ
  pub t3 : ℕ

abbrev pub request_type : ℕ
request_type = 12

abbrev pub response_type : ℕ
response_type = 13

-- the header of a time-sync packet: its timestamp is 0
unfoldable pub time_header : ℕ → ℕ → List ℕ
time_header type probe = big_endian_bytes 2 magic_number ++ (2 ∷ type ∷ big_endian_bytes 4 probe ++ big_endian_bytes 8 0)

-- 24 bytes
unfoldable pub build_request : TimeRequest → List ℕ
build_request r = time_header request_type r.probe ++ big_endian_bytes 8 r.t1

-- 40 bytes
unfoldable pub build_response : TimeResponse → List ℕ
build_response r =
    time_header response_type r.probe ++ (big_endian_bytes 8 r.t1 ++ (big_endian_bytes 8 r.t2 ++ big_endian_bytes 8 r.t3))

-- question 10 of a packet: the type, and the length at least
unfoldable pub time_packet : ℕ → ℕ → List ℕ → Bool
time_packet type size bytes = leb size (length bytes) && eqb (header_fields bytes).stream_type type

-- none is refusal 10
unfoldable pub parse_request : List ℕ → Option TimeRequest
parse_request bytes =
    cond (time_packet request_type 24 bytes)
    (some (record { probe = (header_fields bytes).sequence; t1 = big_endian_at 16 8 bytes }))
    none

unfoldable pub parse_response : List ℕ → Option TimeResponse
parse_response bytes =
    cond (time_packet response_type 40 bytes)
    (some (record {
      probe = (header_fields bytes).sequence;
      t1 = big_endian_at 16 8 bytes;
      t2 = big_endian_at 24 8 bytes;
      t3 = big_endian_at 32 8 bytes;
    }))
    none
