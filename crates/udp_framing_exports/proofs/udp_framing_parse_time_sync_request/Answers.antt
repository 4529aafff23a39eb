-- `udp_framing_exports::udp_framing_parse_time_sync_request` meets its contract. Assumes nothing.
use mathlib.Core.Path.{ap, ◌∙◌}
use Rattle.udp_framing_exports.specs.Handing.{request_numbers}
use Rattle.udp_framing.specs.Views.{request_of}
use Rattle.udp_framing_exports.proofs.HandedOver.{viewed, viewed_ok, handed_as}
use Rattle.udp_framing_exports.proofs.udp_framing_parse_time_sync_request.Goals as goal

pub returns : goal.returns
returns c =
    let answer = c.parse_time_sync_request.result in
    handed_as request_numbers request_of c.ok-request.result c.map-fields.result c.map-fields.ensures.cases
    (ap (viewed request_of) c.ok-request.ensures.value ∙ viewed_ok request_of answer 10 _ c.parse_time_sync_request.ensures) c.handed.ensures
