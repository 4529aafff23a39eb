-- What is still to be printed of a replay in either form, and what a step promises. Assumes nothing.
use Rattle.std.specs.Prelude.{ℕ, ◌+◌, ◌-◌, ◌*◌, ◌≤◌, ◌<◌, min, ◌≡◌, Bool, true, false, ◌&&◌, List, [], ◌∷◌, ◌++◌, map, length, drop, leb, Float, Option, Some, None, Result, Ok, Err}
use Rattle.model.specs.Bytes.{part}
use Rattle.model.specs.Framing.{B}
use Rattle.model.specs.Receiver.{Lent, Call, State, Answer}
use Rattle.model.specs.Tape as Tape
use Rattle.model.specs.Tape.{words_of, call_at, found_call, found_bad}
use Rattle.model.specs.Replay.{decimal, line, channel_line, incoming_line, clock_line}
use Rattle.calls.specs.declared.Refusal.{Refusal}
use Rattle.calls.specs.Views.{model_side, sizes_of}
use Rattle.tape.specs.Answers.{Found, IsFound}
use Rattle.receiver_state.specs.declared.Receiver.{Receiver}
use Rattle.receiver_state.specs.declared.Answer as Code
use Rattle.receiver_state.specs.declared.Answer.TheVariants as Codes
use Rattle.receiver_state.specs.declared.Answered.{Answered}
use Rattle.receiver_state.specs.declared.report.Report.{Report}
use Rattle.receiver_state.specs.View.{state_of, lent_of, answer_of}
use Rattle.receiver_state.specs.Promises.{Called}
use Rattle.receiver_state.specs.Report.{incoming_numbers, clock_words}
use Rattle.replaying.specs.declared.printing.Left.{Left}
use Rattle.replaying.specs.Acting.{samples_asked, Unchanged}
use Rattle.replaying.specs.Printing.{left_of, left_behind}
use Rattle.playback_parts.specs.declared.Form.{Form}
use Rattle.playback_parts.specs.declared.Doing.{Doing}
use Rattle.playback_parts.specs.declared.Playback.{Playback}
use Rattle.playback_parts.specs.Doings.{makes_call}
use Rattle.playback.specs.declared.Wrote.{Wrote}
use Rattle.playback.specs.declared.StepError.{StepError}
use Rattle.playback_parts.specs.declared.facts.Facts.{Facts}
use Rattle.playback_parts.specs.Facts.{FactsOf}
use Rattle.playback_parts.specs.declared.parts.Part.{Part}
use Rattle.playback_parts.specs.Parts.{part_ended, TextPut, PartPut}
use Rattle.playback_parts.specs.Forms.{answer_as, printed_from}

-- ---- what is still to be printed

-- from a state on, with these calls to come: what is printed next, and all that follows it
unfoldable pub remaining : Form → Lent → Doing → List Float → List Float → List Call → State → List ℕ
remaining form lent Doing.Call fs samples cs s = printed_from form lent cs s
remaining form lent (Doing.Samples from end) fs samples cs s = part_ended from end samples ++ printed_from form lent cs s
remaining form lent (Doing.Values from end) fs samples cs s = part_ended from end fs ++ printed_from form lent cs s
remaining form lent Doing.LineB fs samples cs s = channel_line B s.channel_b.buffer.counters ++ (incoming_line s ++ clock_line s.clock)
remaining form lent Doing.LineI fs samples cs s = incoming_line s ++ clock_line s.clock
remaining form lent Doing.LineC fs samples cs s = clock_line s.clock
remaining form lent Doing.Done fs samples cs s = []

abbrev pub remaining_of : Form → Playback → List Float → List ℕ → List Float → List Call → List ℕ
remaining_of form w fs us samples cs = remaining form (lent_of fs us) w.doing fs samples cs (state_of w.receiver fs us)

-- ---- what a step may ask for

-- values from one place to another lie inside of what is lent
abbrev pub values_held : Doing → List Float → List Float → Bool
values_held (Doing.Samples from end) fs samples = leb from end && leb end (length samples)
values_held (Doing.Values from end) fs samples = leb from end && leb end (length fs)
values_held _ fs samples = true

-- the samples that the next call asks for
abbrev pub asked_in : Tape.Found → ℕ
asked_in (Tape.found_call c next) = samples_asked c
asked_in Tape.found_end = 0
asked_in (Tape.found_bad place) = 0

abbrev pub asked_next : Doing → Tape.Found → ℕ
asked_next Doing.Call f = asked_in f
asked_next _ f = 0

-- the text has room for a piece, and the samples for those that the next call asks for
abbrev pub room_for : List ℕ → Playback → List Float → List ℕ → Bool
room_for tape w samples text = leb 170 (length text) && leb (asked_next w.doing (call_at tape w.place)) (length samples)

-- ---- how many steps are left, at most

abbrev pub stage : Doing → ℕ
stage Doing.Done = 0
stage Doing.LineC = 1
stage Doing.LineI = 2
stage Doing.LineB = 3
stage Doing.Call = 4
stage (Doing.Samples from end) = 5 + (end - from)
stage (Doing.Values from end) = 5 + (end - from)

-- a call takes words of the tape, and the values of its line are lent
unfoldable pub steps_left : List ℕ → Playback → List Float → List Float → ℕ
steps_left tape w fs samples = (length (words_of tape) - w.place) * (length fs + length samples + 6) + stage w.doing

-- ---- a step

-- the calls to come, of those behind what stands at the place: a call there comes first, and where the tape ends none comes
abbrev pub calls_now : Doing → Tape.Found → List Call → List Call
calls_now Doing.Call (Tape.found_call c next) cs = c ∷ cs
calls_now Doing.Call Tape.found_end cs = []
calls_now _ _ cs = cs

-- the place behind a call that was made
abbrev pub place_next : Doing → Tape.Found → ℕ → ℕ
place_next Doing.Call (Tape.found_call c next) place = next
place_next _ _ place = place

-- a call was made on the receiver
pub record CallDone (c : Call) (r : Receiver) (fs : List Float) (us : List ℕ) (r' : Receiver) (fs' : List Float) (us' : List ℕ) : Type 0 where
  pub answer : Answer
  pub called : Called c r fs us answer r' fs' us'

-- Whatever calls follow, what was to be printed is the piece and what is still to be printed. The receiver is changed by the call at the place
-- alone, and what is lent by nothing else.
pub record WrittenAs (form : Form) (tape : List ℕ) (w : Playback) (fs : List Float) (us : List ℕ) (samples : List Float) (text : List ℕ) (v : Wrote) (fs' : List Float) (us' : List ℕ) (samples' : List Float) (text' : List ℕ) : Type 0 where
  pub piece : List ℕ
  pub put : TextPut piece text text' v.bytes
  pub float_length : length fs' ≡ length fs
  pub word_length : length us' ≡ length us
  pub sample_length : length samples' ≡ length samples
  pub only_calls_law : makes_call w.doing ≡ false → Unchanged fs us samples fs' us' samples'
  pub made : (c : Call) (next : ℕ) → makes_call w.doing ≡ true → call_at tape w.place ≡ found_call c next → CallDone c w.receiver fs us v.playback.receiver fs' us'
  pub next_place : v.playback.place ≡ place_next w.doing (call_at tape w.place) w.place
  pub lines : (cs : List Call) → remaining_of form w fs us samples (calls_now w.doing (call_at tape w.place) cs) ≡ piece ++ remaining_of form v.playback fs' us' samples' cs
  pub held : values_held v.playback.doing fs' samples' ≡ true
  pub less : steps_left tape v.playback fs' samples' < steps_left tape w fs samples

abbrev pub AllUnchanged : List Float → List ℕ → List Float → List ℕ → List Float → List ℕ → List Float → List ℕ → Type 0
AllUnchanged fs us samples text fs' us' samples' text' = Unchanged fs us samples fs' us' samples' × (text' ≡ text)

-- what a step answers
abbrev pub Step : Type 0
Step = Result (Option Wrote) StepError

abbrev pub DoneAs : Form → List ℕ → Playback → List Float → List ℕ → List Float → List ℕ → Step → List Float → List ℕ → List Float → List ℕ → Type 0
DoneAs form tape w fs us samples text (Ok (Some v)) fs' us' samples' text' = WrittenAs form tape w fs us samples text v fs' us' samples' text'
DoneAs form tape w fs us samples text (Err StepError.NoRoom) fs' us' samples' text' = (room_for tape w samples text ≡ false) × AllUnchanged fs us samples text fs' us' samples' text'
DoneAs form tape w fs us samples text (Err StepError.NotHeld) fs' us' samples' text' = (values_held w.doing fs samples ≡ false) × AllUnchanged fs us samples text fs' us' samples' text'
DoneAs form tape w fs us samples text (Err (StepError.Bad bad)) fs' us' samples' text' = (w.doing ≡ Doing.Call) × (call_at tape w.place ≡ found_bad bad.place) × AllUnchanged fs us samples text fs' us' samples' text'
DoneAs form tape w fs us samples text (Ok None) fs' us' samples' text' = (w.doing ≡ Doing.Done) × AllUnchanged fs us samples text fs' us' samples' text'

-- with every line whole
abbrev pub StepWritten : List ℕ → Playback → List Float → List ℕ → List Float → List ℕ → Wrote → List Float → List ℕ → List Float → List ℕ → Type 0
StepWritten tape w fs us samples text v fs' us' samples' text' = WrittenAs Form.Full tape w fs us samples text v fs' us' samples' text'

abbrev pub StepDone : List ℕ → Playback → List Float → List ℕ → List Float → List ℕ → Step → List Float → List ℕ → List Float → List ℕ → Type 0
StepDone tape w fs us samples text v fs' us' samples' text' = DoneAs Form.Full tape w fs us samples text v fs' us' samples' text'

-- ---- the parts of a step

-- what is printed behind the beginning of a call's line; a row's values are cut to what is lent
abbrev pub doing_after : Left → Facts → ℕ → Doing
doing_after Left.Nothing facts floats = Doing.Call
doing_after Left.Samples facts floats = Doing.Samples 0 facts.samples
doing_after (Left.Values n) facts floats = Doing.Values (min facts.row floats) (min facts.row floats + min n (floats - min facts.row floats))

-- what is left of a call's line: of a summary's nothing is
abbrev pub left_as : Form → Result Code.Answer Refusal → Left
left_as Form.Full a = left_behind a
left_as Form.Summary a = Left.Nothing

-- a row's values stand from their place on
abbrev pub RowStands : Result Code.Answer Refusal → Facts → List Float → List Float → Type 0
RowStands a facts fs values = (n : ℕ) → a ≡ Ok (Codes.Row n) → values ≡ drop facts.row fs

pub record CallBegun (form : Form) (v : Answered) (facts : Facts) (fs : List Float) (text text' : List ℕ) (w : Wrote) : Type 0 where
  pub piece : List ℕ
  pub put : TextPut piece text text' w.bytes
  pub line_is : (values : List Float) → RowStands v.answer facts fs values → answer_as form (model_side facts.side) (answer_of v.answer values) ≡ piece ++ left_of (left_as form v.answer) values
  pub behind : w.playback ≡ record { receiver = v.receiver; place = facts.next; doing = doing_after (left_as form v.answer) facts (length fs) }

-- how many values of a row lie inside of what is lent
abbrev pub row_length : Result Code.Answer Refusal → Facts → ℕ → ℕ
row_length (Ok (Codes.Row n)) facts floats = min n (floats - min facts.row floats)
row_length _ facts floats = 0

-- a line was printed, and another thing comes next
pub record Printed (w : Playback) (piece : List ℕ) (doing : Doing) (text text' : List ℕ) (v : Wrote) : Type 0 where
  pub put : TextPut piece text text' v.bytes
  pub behind : v.playback ≡ record { receiver = w.receiver; place = w.place; doing = doing }

abbrev pub incoming_of : Report → List ℕ
incoming_of r = line 73 (map decimal (incoming_numbers r))

abbrev pub clock_of : Report → List ℕ
clock_of r = line 67 (clock_words r)

-- what comes after some of a line's values, which stand at a place
abbrev pub behind_part : ℕ → Option ℕ → (ℕ → Doing) → Doing
behind_part from None again = Doing.Call
behind_part from (Some n) again = again (from + n)

-- a part of a line's values was printed, and what comes behind it is told by each function that tells what is made of a place
pub record PartWritten (made : ℕ → Doing → Type 0) (w : Playback) (xs : List Float) (from end : ℕ) (text text' : List ℕ) (v : Wrote) : Type 0 where
  pub printed : Part
  pub put : PartPut (part from (end - from) xs) text text' printed
  pub order : from ≤ end
  pub inside : end ≤ length xs
  pub behind : (again : ℕ → Doing) → ((k : ℕ) (d : Doing) → made k d → d ≡ again k)
      → v ≡ record { playback = record { receiver = w.receiver; place = w.place; doing = behind_part from printed.next again }; bytes = printed.bytes }

abbrev pub PartDone : (ℕ → Doing → Type 0) → Playback → List Float → ℕ → ℕ → List ℕ → Step → List ℕ → Type 0
PartDone made w xs from end text (Ok (Some v)) text' = PartWritten made w xs from end text text' v
PartDone made w xs from end text (Err StepError.NotHeld) text' = ((leb from end && leb end (length xs)) ≡ false) × (text' ≡ text)
PartDone made w xs from end text _ text' = ⊥

-- a call was found at the place, and there is room for the beginning of its line
pub record MakeReady (tape : List ℕ) (w : Playback) (found : Found) (facts : Facts) (text : List ℕ) : Type 0 where
  pub doing : w.doing ≡ Doing.Call
  pub room : 170 ≤ length text
  pub found_is : IsFound tape (call_at tape w.place) found
  pub facts_are : FactsOf (sizes_of w.receiver.sizes) (call_at tape w.place) (Ok (Some facts))
