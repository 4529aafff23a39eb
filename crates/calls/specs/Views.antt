-- What a setup, a call or a play carries, in the model's terms. Assumes nothing.
use Rattle.std.specs.Prelude.{ℕ, List, [], ◌∷◌, Float}
use Rattle.model.specs.Sizes as Sizing
use Rattle.model.specs.Framing as Framing
use Rattle.model.specs.Clock as Clock
use Rattle.model.specs.JitterBuffer.{Played}
use Rattle.model.specs.Receiver as Receiver
use Rattle.calls.specs.declared.Side.{Side}
use Rattle.calls.specs.declared.Side.TheVariants.{A, B}
use Rattle.calls.specs.declared.Sizes.{Sizes}
use Rattle.calls.specs.declared.Estimates.{Estimates}
use Rattle.calls.specs.declared.Settings.{Settings}
use Rattle.calls.specs.declared.DepthCounts.{DepthCounts}
use Rattle.calls.specs.declared.PlayedSamples.{PlayedSamples}

abbrev pub model_side : Side → Framing.Side
model_side A = Framing.A
model_side B = Framing.B

abbrev pub sizes_of : Sizes → Sizing.Sizes
sizes_of z =
    record {
      packet = z.packet;
      target = z.target;
      max = z.max;
      bins = z.bins;
      width = z.width;
      height = z.height;
    }

-- the six sizes, in the order of the fields
abbrev pub size_numbers : Sizes → List ℕ
size_numbers z = z.packet ∷ z.target ∷ z.max ∷ z.bins ∷ z.width ∷ z.height ∷ []

abbrev pub model_estimates : Estimates → Receiver.Estimates
model_estimates e = record { top = e.top; floor = e.floor; range = e.range }

abbrev pub model_setup : Sizes → Estimates → Estimates → Receiver.Setup
model_setup z a b = record { sizes = sizes_of z; estimates_a = model_estimates a; estimates_b = model_estimates b }

abbrev pub model_settings : Settings → Receiver.Settings
model_settings x =
    record { adaptive = x.adaptive; top = x.top; range = x.range; zoom = x.zoom; smoothing = x.smoothing }

abbrev pub model_counts : DepthCounts → Clock.DepthCounts
model_counts k = record { conceals = k.conceals; late = k.late; overflow = k.overflow; resyncs = k.resyncs }

abbrev pub model_played : PlayedSamples → List Float → Played Float
model_played p samples = record { samples = samples; taken = p.taken; dropped = p.dropped; short = p.short }

-- a play's numbers, in the order in which they are told
abbrev pub play_words : PlayedSamples → List ℕ
play_words p = p.taken ∷ p.dropped ∷ p.short ∷ []
