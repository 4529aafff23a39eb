-- `udp_framing::build_time_sync_request` meets its contract: the header and the times are written one behind the other, and they are the packet. Assumes nothing.
use Rattle.std.proofs.Common.{arith}
use Rattle.model.specs.Framing.{build_request}
use Rattle.model.proofs.ByteParts.{number_next}
use Rattle.model.proofs.TimePackets.{request_length}
use Rattle.udp_framing.specs.Views.{request_of}
use Rattle.udp_framing.proofs.Building.{header_front, request_of_parts, built_refused, built_written}
use Rattle.udp_framing.proofs.build_time_sync_request.Goals as goal

pub returns-then-target : goal.returns-then-target
returns-then-target c = let g = c.args in
    let r = request_of g.request in
    built_refused 24 (build_request r) g.target.now (request_length r) c.if-target.true

pub returns : goal.returns
returns c = let g = c.args in
    let r = request_of g.request in
    let front16 = header_front 12 r.probe c.push_header.ensures in
    let front24 = number_next 8 r.t1 front16 (omega arith) c.write_to.ensures in
    built_written 24 (build_request r) g.target.now (request_length r) c.if-target.false (rw (← request_of_parts r) front24.bytes)
