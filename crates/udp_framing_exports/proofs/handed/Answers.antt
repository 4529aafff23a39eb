-- `udp_framing_exports::handed` meets its contract. Assumes nothing.
use mathlib.Core.Path.{sym, ap}
use Rattle.udp_framing_exports.specs.Handing.{numbers_found}
use Rattle.udp_framing_exports.proofs.HandedOver.{nothing_handed, all_handed}
use Rattle.udp_framing_exports.proofs.handed.Goals as goal

pub returns-in_default : goal.returns-in_default
returns-in_default g c = nothing_handed (λ l. l) c.args.numbers.now (sym (ap numbers_found c.in_default.is))

pub returns : goal.returns
returns g c = all_handed (λ l. l) (sym (ap numbers_found c.in-Some.is)) c.put.ensures
