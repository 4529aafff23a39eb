-- The numbers of the stream types. Assumes nothing.
use Rattle.std.specs.Prelude.{◌≡◌, ℕ, Result, MatchResult}
use Rattle.udp_framing.specs.declared.StreamType.{StreamType}
use Rattle.udp_framing.specs.declared.StreamType.TheVariants.{Audio, Waterfall, AudioVfoB, WaterfallVfoB, RegisterAudio, MicAudio, TimeSyncRequest, TimeSyncResponse}
use Rattle.udp_framing.specs.declared.UnknownStreamType.{UnknownStreamType}

abbrev pub stream_number : StreamType → ℕ
stream_number Audio = 1
stream_number Waterfall = 2
stream_number AudioVfoB = 3
stream_number WaterfallVfoB = 4
stream_number RegisterAudio = 10
stream_number MicAudio = 11
stream_number TimeSyncRequest = 12
stream_number TimeSyncResponse = 13

-- a result is the type of that number, or an error with the number, which no type has
abbrev pub Numbered : ℕ → Result StreamType UnknownStreamType → Type 0
Numbered n r = MatchResult r (λ t. stream_number t ≡ n) (λ e. (e.0 ≡ n) × ((t : StreamType) → stream_number t ≡ n → ⊥))
