-- Samples of an audio datagram. Assumes nothing.
use Rattle.std.specs.Prelude.{ℕ, ◌%◌, Bool, ◌&&◌, List, [], ◌∷◌, length, drop, leb, eqb, Float}
use Rattle.model.specs.Floats.{sample}
use Rattle.model.specs.Framing.{audio_start}

-- the bytes behind the header and, in version 2, the send time: a datagram of version 2 with 16 to 23 bytes has none
unfoldable pub audio_payload : ℕ → List ℕ → List ℕ
audio_payload version bytes = drop (audio_start version) bytes

-- a payload under 2 bytes or of odd length stops after the counts
unfoldable pub holds_samples : List ℕ → Bool
holds_samples payload = leb 2 (length payload) && eqb (length payload % 2) 0

-- a sample for each two bytes
unfoldable pub samples_of : List ℕ → List Float
samples_of [] = []
samples_of (lo ∷ []) = []
samples_of (lo ∷ hi ∷ rest) = sample lo hi ∷ samples_of rest
