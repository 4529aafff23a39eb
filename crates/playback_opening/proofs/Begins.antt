-- How a replay begins, by what the tape's front and setup say. Assumes nothing.
use Prim.Native.Nat.{ℕ, ◌*◌}
use mathlib.Core.Path.{◌≡◌, refl, sym, ap}
use mathlib.Core.Bool.{true, false}
use mathlib.Core.List.{List}
use lib.ListN.{length}
use lib.Dec.{leb}
use lib.Ieee.{Float}
use Rattle.model.specs.Tape.{Tape, TapeRead, read_tape, bad_tape, read}
use Rattle.model.specs.Replay.{replay_over, replay_within}
use Rattle.model.proofs.TapeWalk.{walk}
use Rattle.tape.specs.declared.Setup.{Setup}
use Rattle.std.specs.Prelude.{Ok, Err}
use Rattle.tape.specs.declared.BadWord.{BadWord}
use Rattle.tape.specs.Answers.{bad_at, numbers_of, setup_answer}
use Rattle.calls.specs.Views.{model_setup}
use Rattle.receiver_state.specs.View.{lent_of}
use Rattle.playback_parts.specs.declared.Form.{Form}
use Rattle.playback_parts.specs.Forms.{printed_over}
use Rattle.playback_parts.proofs.FormLaws.{steps_of}
use Rattle.playback_opening.specs.declared.NotBegun.{NotBegun}
use Rattle.playback_opening.specs.Beginnings.{Beginning, RefusedAt, SetupBegun, BegunAs, BegunTo}

module _ (form : Form) (tape : List ℕ) (fs : List Float) (us text : List ℕ) where
  -- a refused tape
  bad_read : (r : TapeRead) (place : ℕ) → Err (bad_at place) ≡ setup_answer r → r ≡ bad_tape place
  bad_read (read_tape t) place is = cc
  bad_read (bad_tape at) place is = let same : bad_at at ≡ bad_at place = cc in ap (λ (b : BadWord). bad_tape b.place) same

  pub bad_begun : (place : ℕ) (v : NotBegun) (text' : List ℕ) → Err (bad_at place) ≡ setup_answer (read tape) → RefusedAt place text v text'
      → BegunAs form (printed_over form (lent_of fs us) tape) tape fs us text (Err v) us text'
  bad_begun place NotBegun.NoRoom text' is refused = (refused.0, refl, refused.1)
  bad_begun place (NotBegun.Refused n) text' is put = (rw ((steps_of form).printed_of_bad_tape (lent_of fs us) tape place (bad_read (read tape) place is)) put, refl)

  -- an accepted tape, and its setup
  record FrontFound (x : Setup) : Type 0 where
    whole : Tape
    is : read tape ≡ read_tape whole
    setup : model_setup x.sizes x.a x.b ≡ whole.setup

  front_found : (r : TapeRead) (x : Setup) → read tape ≡ r → Ok x ≡ setup_answer r → FrontFound x
  front_found (read_tape t) x same is =
      let numbers : x ≡ numbers_of t.setup = cc in
      record { whole = t; is = same; setup = ap (λ (y : Setup). model_setup y.sizes y.a y.b) numbers }
  front_found (bad_tape place) x same is = cc

  pub setup_begun : (x : Setup) (v : Beginning) (us' text' : List ℕ) → Ok x ≡ setup_answer (read tape)
      → SetupBegun (model_setup x.sizes x.a x.b) fs us text v us' text' → BegunAs form (printed_over form (lent_of fs us) tape) tape fs us text v us' text'
  setup_begun x (Err NotBegun.NoRoom) us' text' is begun = begun
  setup_begun x (Err (NotBegun.Refused n)) us' text' is begun =
      let front = front_found (read tape) x refl is in
      (rw ((steps_of form).printed_of_refused_setup (lent_of fs us) tape front.whole begun.number front.is (rw (← front.setup) begun.refuses)) begun.put, begun.words_kept)
  setup_begun x (Ok w) us' text' is begun =
      let front = front_found (read tape) x refl is in
      record {
        calls = front.whole.calls;
        met = rw begun.first_place_law (walk tape front.whole front.is);
        doing = begun.doing;
        prints = rw begun.word_length (sym ((steps_of form).printed_of_session (lent_of fs us) tape front.whole _ front.is (rw (← front.setup) begun.opens)));
        word_length = begun.word_length;
        text_kept = begun.text_kept;
      }

-- ---- within a limit

module _ (tape : List ℕ) (fs : List Float) (us text : List ℕ) where
  pub too_long_begun : (words : ℕ) (v : NotBegun) (text' : List ℕ) → leb (length tape) (4 * words) ≡ false → RefusedAt words text v text'
      → BegunTo (replay_within (lent_of fs us) words tape) tape fs us text (Err v) us text'
  unfolding replay_within
  too_long_begun words NotBegun.NoRoom text' longer refused = (refused.0, refl, refused.1)
  too_long_begun words (NotBegun.Refused n) text' longer put = (rw longer put, refl)

  pub short_begun : (words : ℕ) (v : Beginning) (us' text' : List ℕ) → leb (length tape) (4 * words) ≡ true → BegunTo (replay_over (lent_of fs us) tape) tape fs us text v us' text'
      → BegunTo (replay_within (lent_of fs us) words tape) tape fs us text v us' text'
  unfolding replay_within
  short_begun words v us' text' fits begun = rw fits begun
