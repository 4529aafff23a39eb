-- `udp_framing::build_time_sync_response` meets its contract: the header and the times are written one behind the other, and they are the packet. Assumes nothing.
use Rattle.std.proofs.Common.{arith}
use Rattle.model.specs.Framing.{build_response}
use Rattle.model.proofs.ByteParts.{number_next}
use Rattle.model.proofs.TimePackets.{response_length}
use Rattle.udp_framing.specs.Views.{response_of}
use Rattle.udp_framing.proofs.Building.{header_front, response_of_parts, built_refused, built_written}
use Rattle.udp_framing.proofs.build_time_sync_response.Goals as goal

pub returns-then-target : goal.returns-then-target
returns-then-target c = let g = c.args in
    let r = response_of g.response in
    built_refused 40 (build_response r) g.target.now (response_length r) c.if-target.true

pub returns : goal.returns
returns c = let g = c.args in
    let r = response_of g.response in
    let front16 = header_front 13 r.probe c.push_header.ensures in
    let front24 = number_next 8 r.t1 front16 (omega arith) c.write_to.ensures in
    let front32 = number_next 8 r.t2 front24 (omega arith) c.write_to-2.ensures in
    let front40 = number_next 8 r.t3 front32 (omega arith) c.write_to-3.ensures in
    built_written 40 (build_response r) g.target.now (response_length r) c.if-target.false (rw (← response_of_parts r) front40.bytes)
