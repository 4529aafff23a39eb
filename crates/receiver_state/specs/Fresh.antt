-- The receiver that setup makes. Assumes nothing.
use Rattle.std.specs.Prelude.{◌≡◌}
use Rattle.model.specs.Counts.{fresh_counts}
use Rattle.model.specs.Clock.{fresh_clock}
use Rattle.calls.specs.declared.Sizes.{Sizes}
use Rattle.calls.specs.declared.Estimates.{Estimates}
use Rattle.audio_metrics.specs.Views.{clock_of}
use Rattle.udp.specs.Views.{counts_of}
use Rattle.channel.specs.Promises.{FreshChannel}
use Rattle.receiver_state.specs.declared.Receiver.{Receiver}

-- no call was accepted, nothing was counted, nothing waits and nothing is shown
pub record FreshReceiver (z : Sizes) (a b : Estimates) (r : Receiver) : Type 0 where
  pub sizes : r.sizes ≡ z
  pub calls : r.calls ≡ 0
  pub incoming : r.incoming ≡ 0
  pub audio : counts_of r.audio ≡ fresh_counts
  pub waterfall : counts_of r.waterfall ≡ fresh_counts
  pub channel_a : FreshChannel a r.a
  pub channel_b : FreshChannel b r.b
  pub clock : clock_of r.clock ≡ fresh_clock
