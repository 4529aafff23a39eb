-- `receiver_datagrams::stream_of` meets its contract: a number that no type has is none of the four. Assumes nothing.
use mathlib.Core.Path.{sym}
use borrow.Author.Tests.{ne_eqb}
use Rattle.model.specs.Framing.{stream_of}
use Rattle.udp_framing.specs.declared.StreamType.TheVariants.{Audio, Waterfall, AudioVfoB, WaterfallVfoB}
use Rattle.receiver_datagrams.proofs.stream_of.Goals as goal

pub returns-in_default-2 : goal.returns-in_default-2
unfolding stream_of
returns-in_default-2 c = let unknown = (rw c.in_default.is at c.try_from.ensures).1 in
    let n = c.args.stream_type in
    rw (ne_eqb n 1 (λ e. unknown Audio (sym e)), ne_eqb n 2 (λ e. unknown Waterfall (sym e)), ne_eqb n 3 (λ e. unknown AudioVfoB (sym e)), ne_eqb n 4 (λ e. unknown WaterfallVfoB (sym e)))
