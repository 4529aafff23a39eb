-- The model's counts and display, read out of the crate's values. Assumes nothing.
use Rattle.std.specs.Prelude.{ℕ, Option, None, Some}
use Rattle.std.proofs.Math.Option as Maybe
use Rattle.std.proofs.Math.Option.{none, some}
use Rattle.model.specs.Counts as Counts
use Rattle.model.specs.Scaling as Scaling
use Rattle.udp.specs.declared.StreamCounts.{StreamCounts}
use Rattle.udp.specs.declared.Display.{Display}

abbrev pub last_of : Option ℕ → Maybe.Option ℕ
last_of None = none
last_of (Some s) = some s

abbrev pub counts_of : StreamCounts → Counts.StreamCounts
counts_of c = record { packets = c.packets; dropped = c.dropped; late = c.late; last = last_of c.last }

abbrev pub display_of : Display → Scaling.Display
display_of d =
    record {
      adaptive = d.adaptive;
      top = d.top;
      range = d.range;
      zoom = d.zoom;
      smoothing = d.smoothing;
      top_estimate = d.top_estimate;
      floor_estimate = d.floor_estimate;
      range_estimate = d.range_estimate;
    }
