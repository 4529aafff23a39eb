-- `udp_packets::handle_waterfall_packet` meets its contract: its chunk, and where that completes a row what showing it leaves. Assumes nothing.
use mathlib.Core.Path.{◌≡◌, ◌∙◌}
use native.Mathlib.Omega.{arith}
use lib.ListN.{length, take}
use lib.Seq.{length-take-le}
use Rattle.udp_packets.proofs.ChunkHandled.{push_fits, ready_after, completed_inside, chunk_completes_none, chunk_completes_one}
use Rattle.udp_packets.proofs.handle_waterfall_packet.Goals as goal

pub push_chunk-pushed-requires : goal.push_chunk-pushed-requires
push_chunk-pushed-requires c = let g = c.args in
    push_fits g.z g.screen g.payload.now (take g.z.bins g.rows.now) c.requires.0.held c.requires.1 (length-take-le g.z.bins g.rows.now (omega (arith, c.requires.0.fits)))

pub returns-in_default : goal.returns-in_default
returns-in_default c = let g = c.args in
    let long : length c.push_chunk-pushed.new.buf ≡ g.z.bins = c.push_chunk-pushed.auto.buf ∙ length-take-le g.z.bins g.rows.now (omega (arith, c.requires.0.fits)) in
    chunk_completes_none g.z g.screen (length g.sorting.now) g.rows.now g.picture.now g.payload.now c.requires.0 c.requires.1 c.push_chunk-pushed.result c.push_chunk-pushed.new.buf long c.push_chunk-pushed.ensures c.in_default.is

pub show_row-shown-requires : goal.show_row-shown-requires
show_row-shown-requires c = let g = c.args in
    let long : length c.push_chunk-pushed.new.buf ≡ g.z.bins = c.push_chunk-pushed.auto.buf ∙ length-take-le g.z.bins g.rows.now (omega (arith, c.requires.0.fits)) in
    let inside = completed_inside g.z g.screen (length g.sorting.now) g.rows.now g.picture.now g.payload.now c.requires.0 c.requires.1 c.push_chunk-pushed.result c.push_chunk-pushed.new.buf long c.push_chunk-pushed.ensures c.in-Some.n c.in-Some.is in
    (ready_after g.z g.screen (length g.sorting.now) g.rows.now g.picture.now g.payload.now c.requires.0 c.requires.1 c.push_chunk-pushed.result c.push_chunk-pushed.new.buf long c.push_chunk-pushed.ensures, inside.0, inside.1)

pub returns : goal.returns
returns c = let g = c.args in
    let long : length c.push_chunk-pushed.new.buf ≡ g.z.bins = c.push_chunk-pushed.auto.buf ∙ length-take-le g.z.bins g.rows.now (omega (arith, c.requires.0.fits)) in
    chunk_completes_one g.z g.screen (length g.sorting.now) g.rows.now g.picture.now g.payload.now c.requires.0 c.requires.1 c.push_chunk-pushed.result c.push_chunk-pushed.new.buf long c.push_chunk-pushed.ensures c.in-Some.n c.show_row-shown.result c.show_row-shown.new.rows _ c.in-Some.is c.show_row-shown.ensures c.show_row-shown.auto.rows c.show_row-shown.auto.picture
