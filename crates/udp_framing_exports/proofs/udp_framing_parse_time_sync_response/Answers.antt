-- `udp_framing_exports::udp_framing_parse_time_sync_response` meets its contract. Assumes nothing.
use mathlib.Core.Path.{ap, ◌∙◌}
use Rattle.udp_framing_exports.specs.Handing.{response_numbers}
use Rattle.udp_framing.specs.Views.{response_of}
use Rattle.udp_framing_exports.proofs.HandedOver.{viewed, viewed_ok, handed_as}
use Rattle.udp_framing_exports.proofs.udp_framing_parse_time_sync_response.Goals as goal

pub returns : goal.returns
returns c =
    let answer = c.parse_time_sync_response.result in
    handed_as response_numbers response_of c.ok-response.result c.map-fields.result c.map-fields.ensures.cases
    (ap (viewed response_of) c.ok-response.ensures.value ∙ viewed_ok response_of answer 10 _ c.parse_time_sync_response.ensures) c.handed.ensures
