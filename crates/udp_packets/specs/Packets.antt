-- What the functions of a datagram's payload promise: what they leave is what the model's step leaves of the channel. Assumes nothing.
use Rattle.std.specs.Prelude.{◌≡◌, Bool, true, ◌&&◌, Option, None, Some, List, ℕ, ◌*◌, ◌≤◌, length, take, drop, leb, ltb, Float}
use Rattle.std.specs.Bool.{beq}
use Rattle.std.proofs.Math.Option.{none}
use Rattle.model.specs.Bytes.{part}
use Rattle.model.specs.Floats.{from_bits}
use Rattle.model.specs.Sizes.{sizes_allowed}
use Rattle.model.specs.JitterBuffer.{Buffer}
use Rattle.model.specs.Receiver.{Channel, Estimates, fresh_display, row}
use Rattle.model.specs.Step.{with_buffer, audio_into, shown_row, waterfall_into}
use Rattle.calls.specs.declared.Sizes.{Sizes}
use Rattle.calls.specs.Views.{sizes_of}
use Rattle.jitter_buffer.specs.declared.JitterBuffer.{JitterBuffer}
use Rattle.jitter_buffer.specs.View.{view_of}
use Rattle.jitter_buffer.specs.Promises.{AsLong}
use Rattle.reassembler.specs.declared.OpenRow.{OpenRow}
use Rattle.reassembler.specs.declared.Pushed.{Pushed}
use Rattle.udp_packets.specs.declared.Screen.{Screen}
use Rattle.reassembler.specs.Rows.{row_of, completed_of, CompletedInside}
use Rattle.udp.specs.Views.{display_of}

-- an audio payload: the channel's buffer is the model's, whatever else the channel holds
pub record AudioHandled (z : Sizes) (j : JitterBuffer) (fs : List Float) (us : List ℕ) (s : ℕ) (payload : List ℕ) (r : JitterBuffer) (fs' : List Float) (us' : List ℕ) : Type 0 where
  pub step : (c : Channel) → audio_into (sizes_of z) s payload (with_buffer (view_of z j fs us) c) ≡ record { after = with_buffer (view_of z r fs' us') c; answer = row none }
  pub lent : AsLong fs us fs' us'

-- ---- question 3, of the numbers alone

-- a row: total ≤ bins, filled bins < 2 × total, and done exactly when filled ≥ total
unfoldable pub row_asked : ℕ → Option OpenRow → Bool
row_asked bins None = true
row_asked bins (Some r) =
    leb r.total_bins bins
    && (ltb r.filled (2 * r.total_bins)
    && beq r.done (leb r.total_bins r.filled))

-- spectrum and smoothing lengths ≤ bins, too
unfoldable pub screen_asked : ℕ → Screen → Bool
screen_asked bins s = row_asked bins s.row && (leb s.spectrum_len bins && leb s.smooth_len bins)

-- ---- a waterfall payload

-- a screen before the first payload: no row, nothing shown, and the settings that a receiver starts with
pub record FreshScreen (top floor range : Float) (r : Screen) : Type 0 where
  pub no_row : r.row ≡ None
  pub no_spectrum : r.spectrum_len ≡ 0
  pub no_smoothing : r.smooth_len ≡ 0
  pub display : (e : Estimates) → top ≡ from_bits e.top → floor ≡ from_bits e.floor → range ≡ from_bits e.range → display_of r.display ≡ fresh_display e

-- the channel whose values stand in lent memory: `rows` begins with the row, the spectrum stands from bins on and smoothing from 2 × bins on
abbrev pub channel_of : Sizes → Buffer Float → Screen → List Float → List ℕ → Channel
channel_of z b s rows picture =
    record {
      buffer = b;
      row = row_of s.row rows;
      spectrum = part z.bins s.spectrum_len rows;
      smoothing = part (2 * z.bins) s.smooth_len rows;
      picture = picture;
      display = display_of s.display;
    }

-- allowed sizes, a screen that could be held, room for the rows and for a sort, and a whole picture
pub record ScreenReady (z : Sizes) (s : Screen) (rows sorting picture : ℕ) : Type 0 where
  pub allowed : sizes_allowed (sizes_of z) ≡ true
  pub held : screen_asked z.bins s ≡ true
  pub fits : 3 * z.bins ≤ rows
  pub room : z.bins ≤ sorting
  pub whole : picture ≡ z.width * z.height

-- the row of n bins in front is shown; it stays, and so does what lies behind the rows
pub record RowShown (z : Sizes) (s : Screen) (rows : List Float) (n : ℕ) (picture : List ℕ) (r : Screen) (rows' : List Float) (picture' : List ℕ) : Type 0 where
  pub step : (b : Buffer Float) → shown_row (sizes_of z) (row_of s.row rows) (take n rows) (channel_of z b s rows picture) ≡ channel_of z b r rows' picture'
  pub front : take z.bins rows' ≡ take z.bins rows
  pub behind : drop (3 * z.bins) rows' ≡ drop (3 * z.bins) rows
  pub held : screen_asked z.bins r ≡ true

-- a waterfall payload: the channel and the answer are the model's, whatever waits in the jitter buffer; a completed row has 1 to bins values
pub record WaterfallHandled (z : Sizes) (s : Screen) (rows : List Float) (picture payload : List ℕ) (r : Pushed Screen) (rows' : List Float) (picture' : List ℕ) : Type 0 where
  pub step : (b : Buffer Float)
      → waterfall_into (sizes_of z) payload (channel_of z b s rows picture)
      ≡ record { after = channel_of z b r.state rows' picture'; answer = row (completed_of r.completed rows') }
  pub inside : CompletedInside r.completed z.bins
  pub behind : drop (3 * z.bins) rows' ≡ drop (3 * z.bins) rows
  pub held : screen_asked z.bins r.state ≡ true
  pub rows_as_long : length rows' ≡ length rows
  pub picture_as_long : length picture' ≡ length picture
