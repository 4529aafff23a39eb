-- What each call keeps of a channel, and what it moves in its buffer. Assumes nothing.
use mathlib.Core.Path.{◌≡◌, refl}
use mathlib.Core.Bool.{true}
use mathlib.Core.List.{List}
use mathlib.Core.Option.{Option, none, some}
use Prim.Native.Nat.{ℕ, ◌+◌, ◌*◌, ◌^◌, ◌≤◌, ◌<◌}
use native.Mathlib.Omega.{arith}
use lib.ListN.{length-replicate}
use lib.Ieee.{Float}
use Rattle.model.specs.Floats.{f0}
use Rattle.model.specs.Sizes.{Sizes}
use Rattle.model.specs.JitterBuffer.{Packet, Buffer, Played, push}
use Rattle.model.specs.Row.{Row}
use Rattle.model.specs.Samples.{holds_samples, samples_of}
use Rattle.model.specs.Receiver.{Estimates, Settings, Channel, fresh_channel}
use Rattle.model.specs.Questions.{most_added, total_allowed}
use Rattle.model.specs.Step.{ChannelResult, with_buffer, play_channel, reset_channel, set_channel, audio_into, waterfall_into, chunk_result}
use Rattle.model.specs.Lines.{of_play}
use Rattle.model.proofs.BoolLaws.{cond_keeps}
use Rattle.model.proofs.SizeLaws.{Allowed}
use Rattle.model.proofs.BufferKept.{Kept, Moves, fresh_kept, reset_kept}
use Rattle.model.proofs.Push.{push_keeps, push_moves}
use Rattle.model.proofs.Play.{play_keeps, play_moves}
use Rattle.model.proofs.PictureLaws.{ScreenKept, waterfall_keeps, waterfall_keeps_buffer}

pub record ChannelKept (z : Sizes) (c : Channel) : Type 0 where
  pub buffer : Kept z c.buffer
  pub screen : ScreenKept z c

-- a call other than reset keeps the channel, and what leaves its buffer is in its answer
pub record Acts (z : Sizes) (c : Channel) (r : ChannelResult) : Type 0 where
  pub kept : ChannelKept z r.after
  pub moves : Moves z most_added c.buffer r.after.buffer (of_play (λ p. p.taken) r.answer + of_play (λ p. p.dropped) r.answer) (of_play (λ p. p.short) r.answer)

moves_none : (z : Sizes) (b : Buffer Float) → Moves z most_added b b 0 0
moves_none z b = omega arith

-- the screen does not look at the buffer
buffer_screen : (z : Sizes) (b : Buffer Float) (c : Channel) → ScreenKept z c → ScreenKept z (with_buffer b c)
unfolding with_buffer
buffer_screen z b c s = record { row = s.row; spectrum = s.spectrum; smoothing = s.smoothing; picture = s.picture }

pub fresh_channel_kept : (z : Sizes) (e : Estimates) → Allowed z → ChannelKept z (fresh_channel z e)
unfolding fresh_channel
fresh_channel_kept z e a =
    record {
      buffer = fresh_kept z a.packet a.target;
      screen = record { row = tt; spectrum = omega arith; smoothing = omega arith; picture = length-replicate (z.width * z.height) 0 };
    }

pub play_acts : (z : Sizes) (n : ℕ) (c : Channel) → Allowed z → n ≤ 65535 → ChannelKept z c → Acts z c (play_channel z n c)
unfolding play_channel with_buffer of_play
play_acts z n c a h k =
    let m = play_moves f0 z n c.buffer a k.buffer in
    record {
      kept = record {
        buffer = play_keeps f0 z n c.buffer a k.buffer;
        screen = buffer_screen z _ c k.screen;
      };
      moves = omega arith;
    }

pub reset_acts : (z : Sizes) (c : Channel) → Allowed z → ChannelKept z c → ChannelKept z (reset_channel c).after
unfolding reset_channel with_buffer
reset_acts z c a k =
    record { buffer = reset_kept z c.buffer a.packet a.target k.buffer; screen = buffer_screen z _ c k.screen }

pub set_acts : (z : Sizes) (x : Settings) (c : Channel) → ChannelKept z c → Acts z c (set_channel x c)
unfolding set_channel of_play
set_acts z x c k =
    let s = k.screen in
    record {
      kept = record {
        buffer = k.buffer;
        screen = record { row = s.row; spectrum = s.spectrum; smoothing = s.smoothing; picture = s.picture };
      };
      moves = moves_none z c.buffer;
    }

pub audio_acts : (z : Sizes) (sequence : ℕ) (payload : List ℕ) (c : Channel) → Allowed z → sequence < 2 ^ 32 → ChannelKept z c
    → Acts z c (audio_into z sequence payload c)
unfolding audio_into with_buffer of_play
audio_acts z sequence payload c a fits k =
    let new : Packet Float = record { sequence = sequence; samples = samples_of payload } in
    let m = push_moves f0 z new c.buffer a fits k.buffer in
    record {
      kept =
          cond_keeps (ChannelKept z) (holds_samples payload) (with_buffer (push f0 z new c.buffer) c) c
          (λ e. record { buffer = push_keeps f0 z new c.buffer a fits k.buffer; screen = buffer_screen z _ c k.screen })
          (λ e. k);
      moves =
          cond_keeps (λ (d : Channel). Moves z most_added c.buffer d.buffer 0 0) (holds_samples payload) (with_buffer (push f0 z new c.buffer) c) c
          (λ e. omega arith)
          (λ e. moves_none z c.buffer);
    }

chunk_plays_none : (f : Played Float → ℕ) (z : Sizes) (c : Channel) (kept : Option Row) (completed : Option (List Float))
    → of_play f (chunk_result z c kept completed).answer ≡ 0
unfolding chunk_result of_play
chunk_plays_none f z c kept none = refl
chunk_plays_none f z c kept (some values) = refl

pub waterfall_plays_none : (f : Played Float → ℕ) (z : Sizes) (payload : List ℕ) (c : Channel) → of_play f (waterfall_into z payload c).answer ≡ 0
unfolding waterfall_into
waterfall_plays_none f z payload c = chunk_plays_none f z c _ _

pub waterfall_acts : (z : Sizes) (payload : List ℕ) (c : Channel) → Allowed z → total_allowed z payload ≡ true → ChannelKept z c
    → Acts z c (waterfall_into z payload c)
waterfall_acts z payload c a t k =
    let same = waterfall_keeps_buffer z payload c in
    record {
      kept = record { buffer = rw same k.buffer; screen = waterfall_keeps z payload c t a.height k.screen };
      moves =
          rw (same, waterfall_plays_none (λ p. p.taken) z payload c, waterfall_plays_none (λ p. p.dropped) z payload c, waterfall_plays_none (λ p. p.short) z payload c)
          (moves_none z c.buffer);
    }
