-- `receiver_datagrams::received` meets its contract: questions 1 to 8, and then the stream. Assumes nothing.
use mathlib.Core.Path.{◌≡◌, refl}
use Rattle.std.proofs.lemmas.Result.{err_from_is_err_and}
use Rattle.model.specs.Receiver.{datagram}
use Rattle.model.proofs.TimePackets.{header_missing}
use Rattle.model.proofs.BytesLaws.{slice_are_bytes}
use Rattle.calls.specs.declared.Refusal.TheVariants.{Length}
use Rattle.receiver_state.proofs.CallLaws.{asked_refused}
use Rattle.receiver_datagrams.specs.Promises.{rows_at}
use Rattle.receiver_datagrams.proofs.DatagramCalls.{too_short_law, too_long_law, header_refused, headers_told, length_asked, header_found_law, stream_found}
use Rattle.receiver_datagrams.proofs.received.Goals as goal

pub returns-in_err-asked : goal.returns-in_err-asked
returns-in_err-asked c = let g = c.args in
    let is = err_from_is_err_and c.from_residual.result c.from_residual.ensures.1 in
    record {
      called = asked_refused g.r g.fs.now g.us.now (datagram g.bytes.now) (slice_are_bytes g.bytes.now c.type_inv.bytes) (rows_at g.r g.bytes.now g.fs.now) _ c.from_residual.ensures.1 c.in_err-asked.ensures;
      row_bins = rw is.1 tt;
    }

pub returns-in_err-header : goal.returns-in_err-header
returns-in_err-header c = let g = c.args in
    let is = err_from_is_err_and c.from_residual-in_err-header.result c.from_residual-in_err-header.ensures.1 in
    let told = rw c.in_err-header.ensures.ok_part at c.in_err-header.ensures.value in
    let why : c.in_err-header.field-0.0 ≡ Length = cc in
    rw (is.1, is.2, why)
    (too_short_law g.r g.fs.now g.us.now g.bytes.now (c.in_ok-asked.ensures.ready refl) (slice_are_bytes g.bytes.now c.type_inv.bytes) (header_missing g.bytes.now (rw c.in_err-header.ensures.ok_part at c.parse_media_header.ensures)))

pub returns-then-bytes-gt65535 : goal.returns-then-bytes-gt65535
returns-then-bytes-gt65535 c = let g = c.args in
    let found = header_found_law g.bytes.now c.in_ok-header.header (rw c.in_ok-header.ensures.ok_part at c.parse_media_header.ensures) in
    too_long_law g.r g.fs.now g.us.now g.bytes.now (c.in_ok-asked.ensures.ready refl) (slice_are_bytes g.bytes.now c.type_inv.bytes) found.0 c.if-bytes-gt65535.true

pub header_asked-requires : goal.header_asked-requires
header_asked-requires c = let g = c.args in
    (header_found_law g.bytes.now c.in_ok-header.header (rw c.in_ok-header.ensures.ok_part at c.parse_media_header.ensures)).0

pub returns-in_err-header_asked : goal.returns-in_err-header_asked
returns-in_err-header_asked c = let g = c.args in
    let found = header_found_law g.bytes.now c.in_ok-header.header (rw c.in_ok-header.ensures.ok_part at c.parse_media_header.ensures) in
    let stream = stream_found g.bytes.now c.in_ok-header.header c.stream_of-stream.result found.1 c.stream_of-stream.ensures in
    let is = err_from_is_err_and c.from_residual-in_err-header_asked.result c.from_residual-in_err-header_asked.ensures.1 in
    rw (is.1, is.2) (header_refused g.r g.fs.now g.us.now g.bytes.now (c.in_ok-asked.ensures.ready refl) (slice_are_bytes g.bytes.now c.type_inv.bytes) _ _ _ (length_asked g.bytes.now found.0 c.if-bytes-gt65535.false) found.1 stream c.in_err-header_asked.ensures)

pub dispatched-requires : goal.dispatched-requires
dispatched-requires c = let g = c.args in
    let found = header_found_law g.bytes.now c.in_ok-header.header (rw c.in_ok-header.ensures.ok_part at c.parse_media_header.ensures) in
    let stream = stream_found g.bytes.now c.in_ok-header.header c.stream_of-stream.result found.1 c.stream_of-stream.ensures in
    let told = headers_told _ _ _ g.bytes.now c.in_ok-header_asked.ensures in
    (record { ready = c.in_ok-asked.ensures.ready refl; length_asked = length_asked g.bytes.now found.0 c.if-bytes-gt65535.false; fields = found.1; header_asked = rw found.1 at told.0; stream_asked = rw stream told.1 }, stream)
