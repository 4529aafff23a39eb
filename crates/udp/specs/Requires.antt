-- What counting takes: what held counts leave. Assumes nothing.
use Rattle.std.specs.Prelude.{◌≤◌}
use Rattle.model.specs.Counts.{StreamCounts}

-- each counter is at most 2^64 − 2^32, so that it fits after one datagram more
pub record CountsFit (c : StreamCounts) : Type 0 where
  pub packets : c.packets ≤ 18446744069414584320
  pub dropped : c.dropped ≤ 18446744069414584320
  pub late : c.late ≤ 18446744069414584320
