-- `udp_framing::push_header` meets its contract: five numbers are written one behind the other, and they are the header. Assumes nothing.
use Rattle.std.proofs.Common.{arith}
use Rattle.model.specs.Framing.{magic_number}
use Rattle.model.proofs.ByteParts.{number_first, number_next}
use Rattle.udp_framing.specs.StreamTypes.{stream_number}
use Rattle.udp_framing.proofs.Building.{header_of_fields}
use Rattle.udp_framing.proofs.push_header.Goals as goal

pub returns : goal.returns
returns c = let g = c.args in
    let front2 = number_first 2 magic_number c.write_to.ensures in
    let front3 = number_next 1 2 front2 (omega arith) c.write_to-2.ensures in
    let front4 = number_next 1 (stream_number g.stream_type) front3 (omega arith) (rw c.from.ensures at c.write_to-3.ensures) in
    let front8 = number_next 4 g.sequence front4 (omega arith) c.write_to-4.ensures in
    let front16 = number_next 8 g.timestamp front8 (omega arith) c.write_to-5.ensures in
    rw (← header_of_fields (stream_number g.stream_type) g.sequence g.timestamp (omega arith)) front16.bytes
