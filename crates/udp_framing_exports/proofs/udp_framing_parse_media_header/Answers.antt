-- `udp_framing_exports::udp_framing_parse_media_header` meets its contract. Assumes nothing.
use mathlib.Core.Path.{◌≡◌, refl, ◌∙◌}
use Rattle.std.specs.Prelude.{Option, None, Some}
use Rattle.udp_framing.specs.declared.MediaHeader.{MediaHeader}
use Rattle.udp_framing.specs.Views.{header_of, header_found}
use Rattle.udp_framing_exports.specs.Handing.{header_numbers}
use Rattle.udp_framing_exports.proofs.HandedOver.{viewed, handed_as}
use Rattle.udp_framing_exports.proofs.udp_framing_parse_media_header.Goals as goal

seen : (h : Option MediaHeader) → viewed header_of h ≡ header_found h
seen None = refl
seen (Some h) = refl

pub returns : goal.returns
returns c =
    let found = c.parse_media_header-header.result in
    handed_as header_numbers header_of found c.map-fields.result c.map-fields.ensures.cases (seen found ∙ c.parse_media_header-header.ensures) c.handed.ensures
