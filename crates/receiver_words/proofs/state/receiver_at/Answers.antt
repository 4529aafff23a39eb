-- `receiver_words::state::receiver_at` meets its contract: each part is its words. Assumes nothing.
use Rattle.receiver_words.specs.State.{receiver_at}
use Rattle.receiver_words.proofs.ClockBack.{clock_read}
use Rattle.numbers.proofs.Stored.{rest_is}
use Rattle.receiver_words.proofs.state.receiver_at.Goals as goal

pub returns : goal.returns
unfolding receiver_at
returns c = let w = c.args.w.now in
    let clock = clock_read c.clock_from.result c.clock_from.ensures in
    rw (c.sizes_from.ensures, c.counts_from.ensures, c.counts_from-2.ensures, c.channel_from.ensures, c.channel_from-2.ensures, clock, rest_is w 8, rest_is w 13, rest_is w 18, rest_is w 47, rest_is w 76)
