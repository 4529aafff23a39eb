-- What a datagram promises. Assumes nothing.
use Rattle.std.specs.Prelude.{ℕ, ◌≤◌, ◌≡◌, true, List, [], ◌∷◌, drop, Float, Result, Ok}
use Rattle.model.specs.Sizes as Sizing
use Rattle.model.specs.Framing as Framing
use Rattle.model.specs.Counts as Counts
use Rattle.model.specs.Framing.{header_fields, valid_header, stream_in}
use Rattle.model.specs.Receiver as Model
use Rattle.model.specs.Questions.{length_allowed, Question, ask, stream_allowed}
use Rattle.calls.specs.declared.Refusal.{Refusal}
use Rattle.calls.specs.declared.Side.{Side}
use Rattle.calls.specs.declared.Side.TheVariants.{A, B}
use Rattle.calls.specs.Views.{model_side, sizes_of}
use Rattle.udp_framing.specs.declared.MediaHeader.{MediaHeader}
use Rattle.udp_framing.specs.Views.{header_of}
use Rattle.receiver_state.specs.declared.Receiver.{Receiver}
use Rattle.receiver_state.specs.declared.Answer.{Answer}
use Rattle.receiver_state.specs.declared.Answer.TheVariants.{Row}
use Rattle.receiver_state.specs.declared.Answered.{Answered}
use Rattle.receiver_datagrams.specs.declared.Stream.{Stream}
use Rattle.receiver_datagrams.specs.declared.Stream.TheVariants as Streams
use Rattle.receiver_state.specs.Promises.{Called, Ready}
use Rattle.receiver_state.specs.View.{answer_of, stream_place}

-- a datagram's stream
abbrev pub model_stream : Stream → Framing.Stream
model_stream (Streams.Audio side) = Framing.audio (model_side side)
model_stream (Streams.Waterfall side) = Framing.waterfall (model_side side)
model_stream Streams.Other = Framing.other_stream

-- the counts of a stream after one datagram more: only channel A's streams are counted
abbrev pub counted_on : Side → ℕ → Counts.StreamCounts → Counts.StreamCounts
counted_on A sequence c = Counts.counted sequence c
counted_on B sequence c = c

-- a completed row has 1 to bins values
abbrev pub RowBins : Result Answer Refusal → ℕ → Type 0
RowBins (Ok (Row n)) bins = (1 ≤ n) × (n ≤ bins)
RowBins _ bins = Unit {0}

-- questions 7 and 8, in their order
abbrev pub header_questions : Sizing.Sizes → Framing.Header → Framing.Stream → List ℕ → List Question
header_questions z h stream bytes = ask 7 (valid_header h) ∷ ask 8 (stream_allowed z bytes stream) ∷ []

-- its header is found, and all questions let it through
pub record HeaderReady (r : Receiver) (fs : List Float) (us bytes : List ℕ) (h : MediaHeader) : Type 0 where
  pub ready : Ready r fs us
  pub length_asked : length_allowed bytes ≡ true
  pub fields : header_of h ≡ header_fields bytes
  pub header_asked : valid_header (header_fields bytes) ≡ true
  pub stream_asked : stream_allowed (sizes_of r.sizes) bytes (stream_in bytes) ≡ true

-- a row's values stand at the place of its stream's channel
abbrev pub rows_at : Receiver → List ℕ → List Float → List Float
rows_at r bytes fs = drop (stream_place (sizes_of r.sizes) (stream_in bytes)) fs

pub record DatagramTaken (r : Receiver) (fs : List Float) (us bytes : List ℕ) (v : Answered) (fs' : List Float) (us' : List ℕ) : Type 0 where
  pub called : Called (Model.datagram bytes) r fs us (answer_of v.answer (rows_at r bytes fs')) v.receiver fs' us'
  pub row_bins : RowBins v.answer r.sizes.bins
