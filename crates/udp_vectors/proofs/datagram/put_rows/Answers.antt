-- `udp_vectors::datagram::put_rows` meets its contract: the payload counts bytes of what lies behind the header. Assumes nothing.
use Rattle.std.proofs.Common.{arith, length-append, length-take}
use Rattle.udp_vectors.proofs.Counting.{counts}
use Rattle.udp_vectors.proofs.datagram.put_rows.Goals as goal

pub returns : goal.returns
returns c = counts _ _ (simp (length-append, length-take) (omega arith))
