-- A step through a window is a step through the tape: a step asks the tape for the call at its place and for the number of its words alone. The call is the
-- tape's where the window reaches it, and as many words lie behind it in the tape as in the window, and those behind the window. Assumes nothing.
use Prim.Native.Nat.{ℕ, ◌+◌, ◌-◌, ◌*◌, ◌≤◌, ◌<◌}
use mathlib.Core.Path.{◌≡◌, refl, sym, ap, ◌∙◌}
use mathlib.Core.Bool.{Bool, true}
use mathlib.Core.List.{List}
use native.Mathlib.Omega.{arith}
use native.Mathlib.Nat.{add-mul}
use Rattle.std.specs.Prelude.{Some, None, Ok, Err}
use lib.ListN.{length}
use lib.Ieee.{Float}
use Rattle.model.specs.Receiver.{Call}
use Rattle.model.specs.Tape as Tape
use Rattle.model.specs.Tape.{words_of, call_at, found_call, found_end, found_bad, from_start}
use Rattle.model.proofs.BytesLaws.{length_words_of}
use Rattle.tape_windows.specs.Windows.{WindowOf, longest_call, reaches}
use Rattle.tape_windows.proofs.WindowLaws.{window_has_the_call}
use Rattle.tape_windows.proofs.CheckLaws.{places_inside}
use Rattle.playback_parts.specs.declared.Form.{Form}
use Rattle.playback_parts.specs.declared.Doing.{Doing}
use Rattle.playback_parts.specs.declared.Playback.{Playback}
use Rattle.playback.specs.declared.Wrote.{Wrote}
use Rattle.playback.specs.declared.StepError.{StepError}
use Rattle.playback.specs.Steps.{remaining_of, asked_next, asked_in, calls_now, place_next, stage, steps_left, CallDone, WrittenAs, Step, DoneAs}
use Rattle.playback_parts.specs.Doings.{makes_call}
use Rattle.playback_windows.specs.Promises.{playback_from_start, wrote_from_start, step_from_start}

-- ---- what a step asks of what stands at its place

module _ (base : ℕ) where
  call_is_moved : (f : Tape.Found) (cs : List Call) → calls_now Doing.Call (from_start base f) cs ≡ calls_now Doing.Call f cs
  unfolding from_start
  call_is_moved (found_call c next) cs = refl
  call_is_moved _ cs = refl

  place_is_moved : (f : Tape.Found) (p : ℕ) → place_next Doing.Call (from_start base f) (base + p) ≡ base + place_next Doing.Call f p
  unfolding from_start
  place_is_moved (found_call c next) p = refl
  place_is_moved _ p = refl

  asked_is_moved : (f : Tape.Found) → asked_in (from_start base f) ≡ asked_in f
  unfolding from_start
  asked_is_moved (found_call c next) = refl
  asked_is_moved _ = refl

  module _ (f g : Tape.Found) where
    -- where a call is made, what stands in the tape is what stands in the window
    abbrev pub Alike : Doing → Type 0
    Alike d = makes_call d ≡ true → g ≡ from_start base f

    calls_alike : (d : Doing) (cs : List Call) → Alike d → calls_now d g cs ≡ calls_now d f cs
    calls_alike Doing.Call cs alike = rw (alike refl) (call_is_moved f cs)
    calls_alike _ cs alike = refl

    place_alike : (d : Doing) (p : ℕ) → Alike d → place_next d g (base + p) ≡ base + place_next d f p
    place_alike Doing.Call p alike = rw (alike refl) (place_is_moved f p)
    place_alike _ p alike = refl

    asked_alike : (d : Doing) → Alike d → asked_next d g ≡ asked_next d f
    asked_alike Doing.Call alike = rw (alike refl) (asked_is_moved f)
    asked_alike _ alike = refl

-- the call of the tape is the window's
call_of_law : (base : ℕ) (f : Tape.Found) (c : Call) (next : ℕ) → from_start base f ≡ found_call c next → (n : ℕ) × (f ≡ found_call c n)
unfolding from_start
call_of_law base (found_call d n) c next is = let same : d ≡ c = cc in (n, rw same)
call_of_law base found_end c next is = cc
call_of_law base (found_bad n) c next is = cc

-- ---- fewer steps are left of the tape too

-- a place is no further than the words, or is not left
more_words : (words more p q k few few' : ℕ)
    → p ≤ words
    → q ≤ words
    → (words - q) * k + few' < (words - p) * k + few
    → (words + more - q) * k + few' < (words + more - p) * k + few
more_words words more p q k few few' inside inside' less =
    let from-p : words + more - p ≡ words - p + more = omega arith in
    let from-q : words + more - q ≡ words - q + more = omega arith in
    rw (from-p, from-q, add-mul (words - p) more k, add-mul (words - q) more k) (omega arith)

module _ {whole : List ℕ} {base : ℕ} {window : List ℕ} {last : Bool} (win : WindowOf whole base window last) (w : Playback)
    (far : makes_call w.doing ≡ true → reaches window (w.place + longest_call) last ≡ true) where
  abbrev here : Tape.Found
  here = call_at window w.place

  abbrev there : Tape.Found
  there = call_at whole (base + w.place)

  same_call : Alike base here there w.doing
  same_call calls = window_has_the_call win w.place (far calls)

  -- where the place moves, it moves inside the window
  data Moves (next : ℕ) : Type 0 where
    stays : next ≡ w.place → Moves next
    goes : w.place < next → next ≤ length (words_of window) → Moves next

  moves : (d : Doing) (f : Tape.Found) → here ≡ f → Moves (place_next d f w.place)
  moves Doing.Call (found_call c next) is = let inside = rw is at (places_inside window w.place) in goes inside.0 (omega (arith, inside.1, length_words_of window))
  moves _ _ is = stays refl

  -- the words of the tape are those before the window, its own and those behind it
  words_behind : (more : ℕ) × (length (words_of whole) ≡ base + (length (words_of window) + more))
  words_behind =
      let fits : base + length (words_of window) ≤ length (words_of whole) = omega (arith, length_words_of whole, length_words_of window, win.inside) in
      (length (words_of whole) - (base + length (words_of window)), omega arith)

  fewer : (next few few' k : ℕ) → Moves next → (length (words_of window) - next) * k + few' < (length (words_of window) - w.place) * k + few
      → (length (words_of whole) - (base + next)) * k + few' < (length (words_of whole) - (base + w.place)) * k + few
  fewer next few few' k (stays is) less = rw is (omega (arith, rw is at less))
  fewer next few few' k (goes further inside) less =
      let rest = words_behind in
      let to-next : length (words_of whole) - (base + next) ≡ length (words_of window) + rest.0 - next = omega (arith, rest.1) in
      let to-place : length (words_of whole) - (base + w.place) ≡ length (words_of window) + rest.0 - w.place = omega (arith, rest.1) in
      rw (to-next, to-place) (more_words (length (words_of window)) rest.0 w.place next k few few' (omega arith) inside less)

  -- ---- a step

  module _ (form : Form) (fs : List Float) (us : List ℕ) (samples : List Float) (text : List ℕ) (fs' : List Float) (us' : List ℕ) (samples' : List Float) (text' : List ℕ) where
    written_in_the_tape : (v : Wrote) → WrittenAs form window w fs us samples text v fs' us' samples' text'
        → WrittenAs form whole (playback_from_start base w) fs us samples text (wrote_from_start base v) fs' us' samples' text'
    unfolding steps_left
    written_in_the_tape v step =
        record {
          piece = step.piece;
          put = step.put;
          float_length = step.float_length;
          word_length = step.word_length;
          sample_length = step.sample_length;
          only_calls_law = step.only_calls_law;
          made = made;
          next_place = ap (λ (p : ℕ). base + p) step.next_place ∙ sym (place_alike base here there w.doing w.place same_call);
          lines = λ cs. ap (λ (ds : List Call). remaining_of form w fs us samples ds) (calls_alike base here there w.doing cs same_call) ∙ step.lines cs;
          held = step.held;
          less = less;
        }
      where
        made : (c : Call) (next : ℕ) → makes_call w.doing ≡ true → there ≡ found_call c next → CallDone c w.receiver fs us v.playback.receiver fs' us'
        made c next calls is =
            let found = call_of_law base here c next (sym (same_call calls) ∙ is) in
            step.made c found.0 calls found.1

        less : steps_left whole (playback_from_start base v.playback) fs' samples' < steps_left whole (playback_from_start base w) fs samples
        less =
            let moved : Moves v.playback.place = rw step.next_place (moves w.doing here refl) in
            let k : length fs' + length samples' + 6 ≡ length fs + length samples + 6 = omega (arith, step.float_length, step.sample_length) in
            rw k (fewer v.playback.place (stage w.doing) (stage v.playback.doing) (length fs + length samples + 6) moved (rw k at step.less))

    -- whatever a step through the window answers, a step through the tape answers too
    pub step_of_the_tape : (v : Step) → DoneAs form window w fs us samples text v fs' us' samples' text'
        → DoneAs form whole (playback_from_start base w) fs us samples text (step_from_start base v) fs' us' samples' text'
    unfolding from_start
    step_of_the_tape (Ok (Some v)) done = written_in_the_tape v done
    step_of_the_tape (Err StepError.NoRoom) done = (rw (asked_alike base here there w.doing same_call) done.0, done.1)
    step_of_the_tape (Err StepError.NotHeld) done = done
    step_of_the_tape (Err (StepError.Bad bad)) done = (done.0, stands, done.2)
      where
        stands : there ≡ found_bad (base + bad.place)
        stands = same_call (rw done.0) ∙ rw done.1
    step_of_the_tape (Ok None) done = done
