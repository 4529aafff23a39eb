-- `udp_vectors::payload::with_room` meets its contract. Assumes nothing.
use Rattle.std.proofs.Common.{arith}
use Rattle.udp_vectors.proofs.Counting.{counts}
use Rattle.udp_vectors.proofs.payload.with_room.Goals as goal

pub returns : goal.returns
returns c = counts _ _ (omega arith)
