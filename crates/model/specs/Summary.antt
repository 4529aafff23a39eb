-- The summary of a replay: the lines of replay without their values. A play's line has its three numbers alone, and a row's the row's length.
-- Refusals and the closing lines are as they are. Assumes nothing.
use Rattle.std.specs.Prelude.{ℕ, List, [], ◌∷◌, ◌++◌, length, Float}
use Rattle.std.proofs.Math.Option.{none, some}
use Rattle.model.specs.Framing.{Side}
use Rattle.model.specs.JitterBuffer.{Played}
use Rattle.model.specs.Receiver.{Lent, Call, Answer, refused, accepted, played, row}
use Rattle.model.specs.Questions.{Opened, opened, not_opened, set_up}
use Rattle.model.specs.Step.{Event, run}
use Rattle.model.specs.Tape.{TapeRead, read_tape, bad_tape, read}
use Rattle.model.specs.Replay.{decimal, line, side_letter, side_of, refused_line, bad_tape_line, closing_lines}

-- P: channel, taken, dropped, short
unfoldable pub play_summary : Side → Played Float → List ℕ
play_summary side p =
    line 80 ((side_letter side ∷ []) ∷ decimal p.taken ∷ decimal p.dropped ∷ decimal p.short ∷ [])

-- W: channel, the row's length
unfoldable pub row_summary : Side → List Float → List ℕ
row_summary side values = line 87 ((side_letter side ∷ []) ∷ decimal (length values) ∷ [])

unfoldable pub answer_summary : Side → Answer → List ℕ
answer_summary side (refused n) = refused_line n
answer_summary side accepted = []
answer_summary side (played p) = play_summary side p
answer_summary side (row none) = []
answer_summary side (row (some values)) = row_summary side values

unfoldable pub event_summaries : List Event → List ℕ
event_summaries [] = []
event_summaries (e ∷ es) = answer_summary (side_of e.call) e.answer ++ event_summaries es

-- ---- a tape

-- a session's calls and then the closing lines, or the X line of a refused setup
unfoldable pub session_summary : Lent → List Call → Opened → List ℕ
session_summary lent calls (not_opened n) = refused_line n
session_summary lent calls (opened s) =
    let r = run lent calls s in
    event_summaries r.events ++ closing_lines r.after

unfoldable pub summary_lines : Lent → TapeRead → List ℕ
summary_lines lent (bad_tape place) = bad_tape_line place
summary_lines lent (read_tape t) = session_summary lent t.calls (set_up lent t.setup)

-- a tape of any length
unfoldable pub summary_over : Lent → List ℕ → List ℕ
summary_over lent bytes = summary_lines lent (read bytes)
