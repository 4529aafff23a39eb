-- `receiver_datagrams::dispatched` meets its contract: the header is counted, and then the stream's work is done. Assumes nothing.
use Rattle.std.proofs.Common.{rules}
use mathlib.Core.Path.{◌≡◌, ◌∙◌}
use Rattle.std.proofs.lemmas.List.{take_rest}
use Rattle.model.proofs.BytesLaws.{slice_are_bytes}
use Rattle.model.specs.Framing.{stream_in, audio, waterfall, other_stream}
use Rattle.calls.specs.Views.{model_side}
use Rattle.jitter_buffer.proofs.HeldKept.{WordsFit}
use Rattle.receiver_datagrams.proofs.DatagramCalls.{payload_taken, begun_ready, heard_called, total_asked, row_answered, passed_called}
use Rattle.receiver_datagrams.proofs.dispatched.Goals as goal

-- ---- sound

pub audio_on-taken-requires : goal.audio_on-taken-requires
audio_on-taken-requires c = let g = c.args in
    rw c.count_header-begun.ensures (begun_ready g.r g.fs.now g.us.now c.requires.0.ready _ _)

pub returns-in-Audio : goal.returns-in-Audio
returns-in-Audio c = let g = c.args in
    let words : WordsFit g.us.now = λ i. (c.slice_known-2-1.given i).fits in
    let stream : stream_in g.bytes.now ≡ audio (model_side c.in-Audio.side) = c.requires.1 ∙ rw c.in-Audio.is in
    let told = rw c.count_header-begun.ensures at c.audio_on-taken.ensures in
    let payload = payload_taken _ _ g.header.version g.bytes.now c.min-from.ensures c.audio_samples_offset-start.ensures in
    rw c.count_call.ensures (heard_called g.r g.fs.now g.us.now g.bytes.now g.header c.requires.0 words (slice_are_bytes g.bytes.now c.type_inv.bytes) c.in-Audio.side stream c.counted_on-counts.result c.counted_on-counts.ensures _ payload c.audio_on-taken.result c.audio_on-taken.new.fs c.audio_on-taken.new.us told)

-- ---- rows

pub waterfall_on-shown-requires : goal.waterfall_on-shown-requires
waterfall_on-shown-requires c = let g = c.args in
    let words : WordsFit g.us.now = λ i. (c.slice_known-2-1.given i).fits in
    let stream : stream_in g.bytes.now ≡ waterfall (model_side c.in-Waterfall.side) = c.requires.1 ∙ rw c.in-Waterfall.is in
    let total = total_asked g.r g.fs.now g.us.now g.bytes.now g.header c.requires.0 words (slice_are_bytes g.bytes.now c.type_inv.bytes) c.in-Waterfall.side stream in
    (rw c.count_header-begun-in-Waterfall.ensures (begun_ready g.r g.fs.now g.us.now c.requires.0.ready _ _), rw (c.count_header-begun-in-Waterfall.ensures, take_rest g.bytes.now 16) total)

pub returns-in-Waterfall : goal.returns-in-Waterfall
returns-in-Waterfall c = let g = c.args in
    let words : WordsFit g.us.now = λ i. (c.slice_known-2-1.given i).fits in
    let stream : stream_in g.bytes.now ≡ waterfall (model_side c.in-Waterfall.side) = c.requires.1 ∙ rw c.in-Waterfall.is in
    let taken = rw (c.count_header-begun-in-Waterfall.ensures, take_rest g.bytes.now 16) at c.waterfall_on-shown.ensures in
    rw c.count_call-after.ensures (row_answered g.r g.fs.now g.us.now g.bytes.now g.header c.requires.0 words (slice_are_bytes g.bytes.now c.type_inv.bytes) c.in-Waterfall.side stream c.counted_on-counts-in-Waterfall.result c.counted_on-counts-in-Waterfall.ensures c.waterfall_on-shown.result c.waterfall_on-shown.new.fs c.waterfall_on-shown.new.us taken c.map_or.result (search rules))

-- ---- a stream that no channel takes

pub returns-in-Other : goal.returns-in-Other
returns-in-Other c = let g = c.args in
    let stream : stream_in g.bytes.now ≡ other_stream = c.requires.1 ∙ rw c.in-Other.is in
    passed_called g.r g.fs.now g.us.now g.bytes.now g.header c.requires.0 (λ i. (c.type_inv.us i).fits) (slice_are_bytes g.bytes.now c.type_inv.bytes) _ _ stream c.count_header-begun-in-Other.ensures c.count_call-in-Other.ensures
