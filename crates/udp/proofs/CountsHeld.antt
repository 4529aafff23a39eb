-- Before the last call that is accepted, counts that could be held fit after one datagram more. Assumes nothing.
use Rattle.std.proofs.Common.{◌≡◌, ℕ, ◌+◌, ◌*◌, ◌^◌, ◌<◌, true, leb, arith, leb-true}
use mathlib.Core.Bool.{and-eq-true_iff}
use Rattle.model.specs.Counts.{StreamCounts}
use Rattle.model.specs.Bytes.{all}
use Rattle.model.specs.Questions.{most_calls, stream_held}
use Rattle.udp.specs.Requires.{CountsFit}

pub held_counts_fit : (calls : ℕ) (c : StreamCounts) → calls < most_calls → stream_held (calls * most_calls) c ≡ true → CountsFit c
unfolding stream_held all
held_counts_fit calls c few held =
    let packets = (and-eq-true_iff (leb c.packets (calls * most_calls)) _).0 held in
    let dropped = (and-eq-true_iff (leb c.dropped (calls * most_calls)) _).0 packets.1 in
    let late = (and-eq-true_iff (leb c.late (calls * most_calls)) _).0 dropped.1 in
    record {
      packets = omega (arith, leb-true c.packets (calls * most_calls) packets.0);
      dropped = omega (arith, leb-true c.dropped (calls * most_calls) dropped.0);
      late = omega (arith, leb-true c.late (calls * most_calls) late.0);
    }

pub held_incoming_fits : (calls incoming : ℕ) → calls < most_calls → leb incoming (calls * most_calls) ≡ true → incoming + 1 < 2 ^ 64
held_incoming_fits calls incoming few held = omega (arith, leb-true incoming (calls * most_calls) held)
