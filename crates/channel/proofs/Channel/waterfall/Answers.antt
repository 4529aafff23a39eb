-- `channel::Channel::waterfall` meets its contract: its rows and its picture are lent, and put back. Assumes nothing.
use Rattle.channel.proofs.Rows.{screen_ready, row_taken}
use Rattle.channel.proofs.Channel.waterfall.Goals as goal

pub handle_waterfall_packet-handled-requires : goal.handle_waterfall_packet-handled-requires
handle_waterfall_packet-handled-requires c =
    (screen_ready c.args.z.allowed c.requires c.section_offsets-offsets.ensures, c.requires.total)

pub returns : goal.returns
returns c =
    row_taken c.args.z.allowed c.requires c.section_offsets-offsets.ensures c.handle_waterfall_packet-handled.result c.handle_waterfall_packet-handled.new.rows c.handle_waterfall_packet-handled.new.picture c.handle_waterfall_packet-handled.ensures
