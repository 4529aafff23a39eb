-- A receiver's report stands for the closing lines of the state that it holds, whatever is in its areas. Assumes nothing.
use Prim.Native.Nat.{ℕ}
use mathlib.Core.Path.{◌≡◌, refl}
use mathlib.Core.List.{List}
use lib.Ieee.{Float}
use Rattle.model.specs.Replay.{incoming_line, clock_line, closing_lines}
use Rattle.receiver_state.specs.declared.Receiver.{Receiver}
use Rattle.receiver_state.specs.View.{state_of}
use Rattle.receiver_state.specs.Report.{report_of, report_lines}

pub closing_lines_reported : (r : Receiver) (fs : List Float) (us : List ℕ) → closing_lines (state_of r fs us) ≡ report_lines (report_of r)
unfolding closing_lines incoming_line clock_line report_lines
closing_lines_reported r fs us = refl
