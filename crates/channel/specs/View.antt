-- The model's channel that the struct and the two areas hold. Both lists begin where the channel's sections begin and may go on behind them:
-- so a length that is too large for its section shows as too large. Assumes nothing.
use Rattle.std.specs.Prelude.{ℕ, ◌+◌, ◌*◌, ◌≤◌, ◌<◌, ◌≡◌, true, List, drop, Float}
use Rattle.model.specs.Bytes.{part}
use Rattle.model.specs.Sizes as Sizing
use Rattle.model.specs.Sizes.{most_waiting}
use Rattle.model.specs.Receiver as Receiver
use Rattle.calls.specs.declared.Sizes.{Sizes}
use Rattle.calls.specs.Views.{sizes_of}
use Rattle.sizes.specs.View.{queue_at}
use Rattle.jitter_buffer.specs.View.{view_of}
use Rattle.udp_packets.specs.Packets.{channel_of, screen_asked}
use Rattle.channel.specs.declared.Channel.{Channel}

-- where the row begins in the f32 section: behind the waiting samples and the queue
abbrev pub row_at : Sizing.Sizes → ℕ
row_at z = queue_at z + (z.target + z.packet)

abbrev pub channel_in : Sizes → Channel → List Float → List ℕ → Receiver.Channel
channel_in z c fs us =
    channel_of z (view_of z c.jitter fs us) c.screen (drop (row_at (sizes_of z)) fs) (part (most_waiting (sizes_of z)) (z.width * z.height) us)

-- the numbers of a channel lie inside its sections
pub record Inside (z : Sizes) (c : Channel) : Type 0 where
  pub waiting : c.jitter.pending_len ≤ most_waiting (sizes_of z)
  pub queue : c.jitter.playout_len < z.target + z.packet
  pub screen : screen_asked z.bins c.screen ≡ true
