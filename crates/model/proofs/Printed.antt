-- A replay with a different number in each place of its A, B and I lines, rows of both channels and four refusals, computed. What it prints
-- was worked out apart from the definitions. Assumes nothing.
use Rattle.std.specs.Prelude.{◌≡◌, refl, ℕ, ◌^◌, true, cond, List, [], ◌∷◌, ◌++◌, replicate, eqb}
use Rattle.model.specs.Bytes.{big_endian_bytes}
use Rattle.model.specs.Text.{ascii, lines}
use Rattle.model.specs.Framing.{Side, A, B}
use Rattle.model.specs.Receiver.{Call, datagram, play, set, probe, one_way}
use Rattle.model.specs.Tape.{Tape, Written, written, too_large, write}
use Rattle.model.specs.Replay.{replay}
use Rattle.model.proofs.Computes.{computes}

-- ---- calls

-- the header of a datagram with a version, a type and a sequence
header : ℕ → ℕ → ℕ → List ℕ
header version type sequence = 0x52 ∷ 0x53 ∷ version ∷ type ∷ big_endian_bytes 4 sequence ++ replicate 8 0

-- one sample: 32767 of A, −32767 of B
sample_bytes : Side → List ℕ
sample_bytes A = 0xff ∷ 0x7f ∷ []
sample_bytes B = 0x01 ∷ 0x80 ∷ []

audio_type : Side → ℕ
audio_type A = 1
audio_type B = 3

row_type : Side → ℕ
row_type A = 2
row_type B = 4

-- a packet of one sample, in version 1, or with the send time 0 in version 2
one : Side → ℕ → ℕ → Call
one side version sequence =
    datagram (header version (audio_type side) sequence ++ (cond (eqb version 2) (replicate 8 0) [] ++ sample_bytes side))

-- one of two samples, which is the wrong count
two : Side → ℕ → ℕ → Call
two side version sequence =
    datagram (header version (audio_type side) sequence ++ (cond (eqb version 2) (replicate 8 0) [] ++ (sample_bytes side ++ sample_bytes side)))

-- a chunk of a row: number, total, first bin, and a value as its four bytes
chunk : Side → ℕ → ℕ → ℕ → ℕ → List ℕ → Call
chunk side sequence number total first value =
    datagram (header 1 (row_type side) sequence ++ (0 ∷ number ∷ 0 ∷ total ∷ 0 ∷ first ∷ value))

-- packet 1, target 1, max 2, rows of at most 2 bins
pub tape : Tape
tape =
    record {
      setup = record {
        sizes = record { packet = 1; target = 1; max = 2; bins = 2; width = 1; height = 1 };
        estimates_a = record { top = 0; floor = 0; range = 0 };
        estimates_b = record { top = 0; floor = 0; range = 0 };
      };
      calls =
          one A 1 8 ∷ play A 2 ∷ two A 2 5 ∷ one A 1 20 ∷ play A 3 ∷ two A 2 7 ∷ one A 1 5 ∷ two A 2 3
          ∷ two A 1 12 ∷ two A 2 12 ∷ one A 1 3 ∷ one A 2 21 ∷ one A 1 7 ∷ one A 2 21 ∷ one A 1 4 ∷ two A 2 2
          ∷ one B 1 7 ∷ one B 2 1 ∷ play B 3 ∷ two B 1 7 ∷ one B 2 21 ∷ two B 1 20 ∷ two B 2 21 ∷ one B 1 1 ∷ play B 2
          ∷ play B 3 ∷ one B 2 1 ∷ one B 1 6 ∷ one B 2 7 ∷ one B 1 21 ∷ two B 2 9
          -- a row of A in two chunks, one of 3 bins that is refused, a row of B, and the first half of another of A
          ∷ chunk A 3 1 2 0 (0 ∷ 0 ∷ 0x80 ∷ 0x3f ∷ [])
          ∷ chunk A 10 1 2 1 (0 ∷ 0 ∷ 0x20 ∷ 0xc0 ∷ [])
          ∷ chunk A 40 1 3 0 []
          ∷ chunk B 1 1 1 0 (0 ∷ 0 ∷ 0x20 ∷ 0xc2 ∷ [])
          ∷ chunk A 9 2 2 0 (0 ∷ 0 ∷ 0 ∷ 0x3f ∷ [])
          -- two streams that no channel takes, an empty datagram, a setting that is no number
          ∷ datagram (header 1 12 5) ∷ datagram (header 1 0 6) ∷ datagram []
          ∷ set B (record { adaptive = true; top = 0x7fc00000; range = 0; zoom = 0; smoothing = 0 })
          -- a probe, one out of range, and a one-way of 100 before the offset
          ∷ probe 10 5 5 11 ∷ probe 0 (2 ^ 62) (2 ^ 62) 0 ∷ one_way 1000 900
          ∷ [];
    }

-- the bytes of what was written
pub tape_bytes : Written → List ℕ
tape_bytes (written bytes) = bytes
tape_bytes (too_large place) = []

pub prints : replay (tape_bytes (write tape))
    ≡ lines
    ("P A 1 0 1 3f800000 00000000"
    ∷ "P A 1 0 2 00000000 00000000 00000000"
    ∷ "P B 1 0 2 bf800000 00000000 00000000"
    ∷ "P B 1 0 1 00000000 00000000"
    ∷ "P B 1 0 2 00000000 00000000 00000000"
    ∷ "W A 3f800000 c0200000"
    ∷ "X 8"
    ∷ "W B c2200000"
    ∷ "X 6"
    ∷ "X 5"
    ∷ "X 9"
    ∷ "A 14 3 2 4 1 6 0 5"
    ∷ "B 12 2 3 5 0 4 1 8"
    ∷ "I 32 14 3 52 6 9 1"
    ∷ "C -5 1 95"
    ∷ [])
unfolding computes ascii lines header sample_bytes audio_type row_type one two chunk tape tape_bytes
prints = refl
