-- `jitter_buffer::fill_once` meets its contract: each way through it is a step of the model. Assumes nothing.
use Rattle.std.proofs.Common.{sym, ◌∙◌}
use Rattle.jitter_buffer.proofs.Turns.{turn_moved, turn_concealed, turn_resynced}
use Rattle.jitter_buffer.proofs.fill_once.Goals as goal

pub returns-then-b-ge3 : goal.returns-then-b-ge3
returns-then-b-ge3 c = let b = c.conceal_packet-b in
    turn_resynced _ _ _ _ _ c.requires _ _ _ _ (sym c.fill_step-step.ensures ∙ c.in-Concealed.is) b.ensures.0 b.ensures.1 c.if-b-ge3.true c.resync_to_earliest_pending-c.ensures

pub returns-in-Moved : goal.returns-in-Moved
returns-in-Moved c = let b = c.move_packet-b in
    turn_moved _ _ _ _ _ c.requires _ _ _ (sym c.fill_step-step.ensures ∙ c.in-Moved.is) b.ensures.0 b.ensures.1

pub returns-else-b-ge3 : goal.returns-else-b-ge3
returns-else-b-ge3 c = let b = c.conceal_packet-b in
    turn_concealed _ _ _ _ _ c.requires _ _ _ (sym c.fill_step-step.ensures ∙ c.in-Concealed.is) b.ensures.0 b.ensures.1 c.if-b-ge3.false
