-- How a replay begins. Assumes nothing.
use Rattle.std.specs.Prelude.{ℕ, ◌<◌, ◌≡◌, List, length, Float, Result, Ok, Err}
use Rattle.model.specs.Receiver as Model
use Rattle.model.specs.Receiver.{Call}
use Rattle.model.specs.Questions.{set_up, opened, not_opened}
use Rattle.model.specs.Replay.{refused_line, bad_tape_line}
use Rattle.model.proofs.TapeWalk.{CallsAt}
use Rattle.receiver_state.specs.View.{state_of, lent_of}
use Rattle.playback_parts.specs.declared.Form.{Form}
use Rattle.playback_parts.specs.declared.Doing.TheVariants as Doing
use Rattle.playback_parts.specs.declared.Playback.{Playback}
use Rattle.playback_parts.specs.Forms.{printed_from}
use Rattle.playback_parts.specs.Parts.{TextPut}
use Rattle.playback_opening.specs.declared.NotBegun.{NotBegun}

-- a replay, or why it does not begin
abbrev pub Beginning : Type 0
Beginning = Result Playback NotBegun

-- of a tape that is refused at a place
abbrev pub RefusedAt : ℕ → List ℕ → NotBegun → List ℕ → Type 0
RefusedAt place text NotBegun.NoRoom text' = (length text < 170) × (text' ≡ text)
RefusedAt place text (NotBegun.Refused n) text' = TextPut (bad_tape_line place) text text' n

-- a receiver was set up, and the first call comes next
pub record SetUp (setup : Model.Setup) (fs : List Float) (us text : List ℕ) (w : Playback) (us' text' : List ℕ) : Type 0 where
  pub opens : set_up (lent_of fs us) setup ≡ opened (state_of w.receiver fs us')
  pub first_place_law : w.place ≡ 13
  pub doing : w.doing ≡ Doing.Call
  pub word_length : length us' ≡ length us
  pub text_kept : text' ≡ text

-- a refused setup prints its line alone
pub record SetupRefused (setup : Model.Setup) (fs : List Float) (us text : List ℕ) (bytes : ℕ) (us' text' : List ℕ) : Type 0 where
  pub number : ℕ
  pub refuses : set_up (lent_of fs us) setup ≡ not_opened number
  pub put : TextPut (refused_line number) text text' bytes
  pub words_kept : us' ≡ us

abbrev pub SetupBegun : Model.Setup → List Float → List ℕ → List ℕ → Beginning → List ℕ → List ℕ → Type 0
SetupBegun setup fs us text (Err NotBegun.NoRoom) us' text' = (length text < 170) × (us' ≡ us) × (text' ≡ text)
SetupBegun setup fs us text (Err (NotBegun.Refused n)) us' text' = SetupRefused setup fs us text n us' text'
SetupBegun setup fs us text (Ok w) us' text' = SetUp setup fs us text w us' text'

-- the calls of the tape come, and what they print in this form is the whole output
pub record Plays (form : Form) (out tape : List ℕ) (fs : List Float) (us text : List ℕ) (w : Playback) (us' text' : List ℕ) : Type 0 where
  pub calls : List Call
  pub met : CallsAt tape w.place calls
  pub doing : w.doing ≡ Doing.Call
  pub prints : printed_from form (lent_of fs us') calls (state_of w.receiver fs us') ≡ out
  pub word_length : length us' ≡ length us
  pub text_kept : text' ≡ text

-- a replay of which all is printed, or that begins
abbrev pub BegunAs : Form → List ℕ → List ℕ → List Float → List ℕ → List ℕ → Beginning → List ℕ → List ℕ → Type 0
BegunAs form out tape fs us text (Err NotBegun.NoRoom) us' text' = (length text < 170) × (us' ≡ us) × (text' ≡ text)
BegunAs form out tape fs us text (Err (NotBegun.Refused n)) us' text' = TextPut out text text' n × (us' ≡ us)
BegunAs form out tape fs us text (Ok w) us' text' = Plays form out tape fs us text w us' text'

-- with every line whole
abbrev pub BegunTo : List ℕ → List ℕ → List Float → List ℕ → List ℕ → Beginning → List ℕ → List ℕ → Type 0
BegunTo out tape fs us text v us' text' = BegunAs Form.Full out tape fs us text v us' text'
