-- What the functions of a channel ask, and what they promise: what they leave is what the model's step leaves of the channel, and nothing behind the
-- channel's sections changes. Assumes nothing.
use Rattle.std.specs.Prelude.{ℕ, ◌+◌, ◌*◌, ◌≤◌, ◌≡◌, Bool, true, List, length, drop, replicate, Float}
use Rattle.std.proofs.Math.Option.{none}
use Rattle.model.specs.Bytes.{part}
use Rattle.model.specs.Sizes.{most_waiting, float_section, word_section}
use Rattle.model.specs.Receiver.{accepted, played, row, fresh_channel}
use Rattle.model.specs.Questions.{most_calls, most_added, channel_held, total_allowed}
use Rattle.model.specs.Step.{play_channel, reset_channel, set_channel, audio_into, waterfall_into}
use Rattle.model.proofs.HeldKept.{NextFits}
use Rattle.calls.specs.declared.Sizes.{Sizes}
use Rattle.calls.specs.declared.Estimates.{Estimates}
use Rattle.calls.specs.declared.Settings.{Settings}
use Rattle.calls.specs.Views.{sizes_of, model_estimates, model_settings, model_played}
use Rattle.jitter_buffer.specs.View.{next_of}
use Rattle.udp_packets.specs.Packets.{screen_asked}
use Rattle.reassembler.specs.declared.Pushed.{Pushed}
use Rattle.reassembler.specs.Rows.{completed_of, CompletedInside}
use Rattle.channel.specs.declared.Channel.{Channel}
use Rattle.channel.specs.declared.Played.{Played}
use Rattle.channel.specs.View.{row_at, channel_in, Inside}

-- ---- before the first call

-- over a picture of zeros it is the model's fresh channel, whatever else the areas hold
abbrev pub FreshChannel : Estimates → Channel → Type 0
FreshChannel e c =
    (z : Sizes) (fs : List Float) (us : List ℕ)
    → part (most_waiting (sizes_of z)) (z.width * z.height) us ≡ replicate (z.width * z.height) 0
    → channel_in z c fs us ≡ fresh_channel (sizes_of z) (model_estimates e)

-- ---- question 3

-- the answer is the model's, whatever floats stand in an area that holds the section and the work section; a yes tells the ranges of the fields
pub record ChannelAsked (z : Sizes) (c : Channel) (us : List ℕ) (calls : ℕ) (r : Bool) : Type 0 where
  pub asked : (fs : List Float) → float_section (sizes_of z) + z.bins ≤ length fs → r ≡ channel_held (sizes_of z) (calls * most_added) (channel_in z c fs us)
  pub inside : r ≡ true → Inside z c
  pub next : r ≡ true → NextFits (next_of c.jitter.next_sequence)

-- ---- the calls

-- areas that hold the sections and the work section, and a channel that a receiver could hold
pub record Ready (z : Sizes) (c : Channel) (fs : List Float) (us : List ℕ) : Type 0 where
  pub floats : float_section (sizes_of z) + z.bins ≤ length fs
  pub words : word_section (sizes_of z) ≤ length us
  pub held : channel_held (sizes_of z) (most_calls * most_added) (channel_in z c fs us) ≡ true
  pub next : NextFits (next_of c.jitter.next_sequence)

-- what a call on sound leaves alone: all behind the queue, and all behind the waiting sequences
pub record BehindKept (z : Sizes) (fs : List Float) (us : List ℕ) (fs' : List Float) (us' : List ℕ) : Type 0 where
  pub floats : drop (row_at (sizes_of z)) fs' ≡ drop (row_at (sizes_of z)) fs
  pub words : drop (most_waiting (sizes_of z)) us' ≡ drop (most_waiting (sizes_of z)) us
  pub float_length : length fs' ≡ length fs
  pub word_length : length us' ≡ length us

pub record AudioTaken (z : Sizes) (c : Channel) (fs : List Float) (us : List ℕ) (s : ℕ) (payload : List ℕ) (r : Channel) (fs' : List Float) (us' : List ℕ) : Type 0 where
  pub step : audio_into (sizes_of z) s payload (channel_in z c fs us) ≡ record { after = channel_in z r fs' us'; answer = row none }
  pub behind : BehindKept z fs us fs' us'

pub record ChannelPlayed (z : Sizes) (c : Channel) (fs : List Float) (us : List ℕ) (out : List Float) (r : Played) (fs' : List Float) (us' : List ℕ) (out' : List Float) : Type 0 where
  pub step : play_channel (sizes_of z) (length out) (channel_in z c fs us)
      ≡ record {
        after = channel_in z r.channel fs' us';
        answer = played (model_played r.samples out');
      }
  pub behind : BehindKept z fs us fs' us'

abbrev pub ResetDone : Sizes → Channel → List Float → List ℕ → Channel → Type 0
ResetDone z c fs us r = reset_channel (channel_in z c fs us) ≡ record { after = channel_in z r fs us; answer = accepted }

abbrev pub SettingsTaken : Sizes → Settings → Channel → List Float → List ℕ → Channel → Type 0
SettingsTaken z x c fs us r = set_channel (model_settings x) (channel_in z c fs us) ≡ record { after = channel_in z r fs us; answer = accepted }

-- a waterfall payload: areas that hold the sections, a channel whose numbers lie inside them, question 8, and room for a sort
pub record RowReady (z : Sizes) (c : Channel) (fs : List Float) (us : List ℕ) (work : ℕ) (payload : List ℕ) : Type 0 where
  pub floats : float_section (sizes_of z) ≤ length fs
  pub words : word_section (sizes_of z) ≤ length us
  pub inside : Inside z c
  pub total : total_allowed (sizes_of z) payload ≡ true
  pub room : z.bins ≤ work

-- what lies behind the channel's sections stays
pub record RowTaken (z : Sizes) (c : Channel) (fs : List Float) (us payload : List ℕ) (r : Pushed Channel) (fs' : List Float) (us' : List ℕ) : Type 0 where
  pub step : waterfall_into (sizes_of z) payload (channel_in z c fs us)
      ≡ record { after = channel_in z r.state fs' us'; answer = row (completed_of r.completed (drop (row_at (sizes_of z)) fs')) }
  pub completed : CompletedInside r.completed z.bins
  -- the jitter buffer is the same, and what is shown lies inside its sections
  pub buffer : r.state.jitter ≡ c.jitter
  pub shown : screen_asked z.bins r.state.screen ≡ true
  pub floats : drop (float_section (sizes_of z)) fs' ≡ drop (float_section (sizes_of z)) fs
  pub words : drop (word_section (sizes_of z)) us' ≡ drop (word_section (sizes_of z)) us
  pub float_length : length fs' ≡ length fs
  pub word_length : length us' ≡ length us
