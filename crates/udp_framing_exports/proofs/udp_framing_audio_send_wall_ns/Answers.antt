-- `udp_framing_exports::udp_framing_audio_send_wall_ns` meets its contract. Assumes nothing.
use Prim.Native.Nat.{ℕ}
use mathlib.Core.Path.{◌≡◌, refl, ap, ◌∙◌}
use Rattle.std.specs.Prelude.{Option, None, Some}
use Rattle.model.specs.Framing.{audio_send_time, Header}
use Rattle.udp_framing.specs.Views.{send_time_found}
use Rattle.udp_framing_exports.specs.Handing.{time_numbers}
use Rattle.udp_framing_exports.proofs.HandedOver.{viewed, handed_as}
use Rattle.udp_framing_exports.proofs.udp_framing_audio_send_wall_ns.Goals as goal

seen : (t : Option ℕ) → viewed (λ n. n) t ≡ send_time_found t
seen None = refl
seen (Some n) = refl

pub returns : goal.returns
returns c =
    let found = c.audio_send_wall_ns-time.result in
    handed_as time_numbers (λ n. n) found c.map-fields.result c.map-fields.ensures.cases
    (seen found ∙ c.audio_send_wall_ns-time.ensures ∙ ap (λ (h : Header). audio_send_time h c.args.packet.now) c.header_with.ensures)
    c.handed.ensures
