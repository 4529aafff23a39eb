-- `playback_parts::facts::stream_in` meets its contract. Assumes nothing.
use Rattle.std.proofs.Common.{rules}
use Rattle.receiver_datagrams.specs.Promises.{model_stream}
use Rattle.playback_parts.proofs.Streams.{stream_looked}
use Rattle.playback_parts.proofs.facts.stream_in.Goals as goal

pub returns : goal.returns
returns c = stream_looked c.args.bytes.now c.get.result (model_stream c.map_or.result) (c.get.ensures.lookup.4 (search rules) 0) (search rules) (search rules)
