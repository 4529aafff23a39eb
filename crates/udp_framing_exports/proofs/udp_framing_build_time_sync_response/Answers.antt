-- `udp_framing_exports::udp_framing_build_time_sync_response` meets its contract: the size is the one that was written. Assumes nothing.
use Rattle.udp_framing_exports.proofs.HandedOver.{size_of_built}
use Rattle.udp_framing_exports.proofs.udp_framing_build_time_sync_response.Goals as goal

pub returns : goal.returns
returns c = size_of_built c.build_time_sync_response.result c.unwrap_or.ensures c.build_time_sync_response.ensures
