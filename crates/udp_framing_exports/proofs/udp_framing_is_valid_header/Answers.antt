-- `udp_framing_exports::udp_framing_is_valid_header` meets its contract: the header has the two numbers. Assumes nothing.
use mathlib.Core.Path.{ap, ◌∙◌}
use Rattle.model.specs.Framing.{valid_header}
use Rattle.udp_framing_exports.proofs.udp_framing_is_valid_header.Goals as goal

pub returns : goal.returns
returns c = c.is_valid_header.ensures ∙ ap valid_header c.header_with.ensures
