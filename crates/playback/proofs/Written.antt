-- Each way in which a step goes on: a call and the beginning of its line, values of a line, and the closing lines. Assumes nothing.
use Prim.Native.Nat.{ℕ, ◌+◌, ◌-◌, ◌≤◌, ◌<◌, min}
use mathlib.Core.Path.{◌≡◌, refl, sym, ◌∙◌, ap}
use mathlib.Core.Bool.{true, false, ◌&&◌, true≢false}
use Rattle.std.proofs.Common.{Option, Some, None, Result, Ok, Err}
use Rattle.std.specs.Prelude.{IfSome}
use mathlib.Core.List.{List, ◌++◌, append_assoc, append-nil}
use native.Mathlib.Omega.{arith}
use lib.ListN.{length, take, drop, length-take, length-drop}
use lib.Ieee.{Float}
use lib.Dec.{leb}
use borrow.Author.Tests.{le-leb}
use Rattle.model.specs.Bytes.{all, part}
use Rattle.model.specs.Framing as Framing
use Rattle.model.specs.Receiver as Model
use Rattle.model.specs.Receiver.{Call, State}
use Rattle.model.specs.Sizes.{sizes_allowed}
use Rattle.model.specs.Step.{step}
use Rattle.model.specs.Tape.{words_of, call_at, found_call, found_end}
use Rattle.model.specs.Replay.{side_of, channel_line, incoming_line, clock_line, closing_lines}
use Rattle.model.proofs.BoolLaws.{both_and}
use Rattle.model.proofs.BytesLaws.{is_byte}
use Rattle.calls.specs.Views.{sizes_of}
use Rattle.receiver_state.specs.declared.Receiver.{Receiver}
use Rattle.calls.specs.declared.PlayedSamples.{PlayedSamples}
use Rattle.calls.specs.declared.Refusal.{Refusal}
use Rattle.receiver_state.specs.declared.Answer.{Answer}
use Rattle.receiver_state.specs.declared.Answer.TheVariants.{Played, Row}
use Rattle.receiver_state.specs.declared.Answered.{Answered}
use Rattle.receiver_state.specs.View.{state_of, lent_of, answer_of}
use Rattle.receiver_state.specs.Report.{counters_in, report_of}
use Rattle.replaying.specs.declared.printing.Left.{Left}
use Rattle.replaying.specs.Acting.{samples_asked, values_of, CallMade}
use Rattle.replaying.specs.Printing.{left_of, left_behind}
use Rattle.playback_parts.specs.declared.Form.{Form}
use Rattle.playback_parts.specs.declared.Doing.{Doing}
use Rattle.playback_parts.specs.declared.Playback.{Playback}
use Rattle.playback.specs.declared.Wrote.{Wrote}
use Rattle.playback.specs.declared.StepError.{StepError}
use Rattle.playback_parts.specs.declared.facts.Facts.{Facts}
use Rattle.playback_parts.specs.declared.parts.Part.{Part}
use Rattle.playback_parts.specs.Facts.{place_of, CallFacts}
use Rattle.playback_parts.specs.Parts.{part_ended, part_left, PartPut}
use Rattle.playback_parts.specs.Forms.{answer_as, printed_from}
use Rattle.playback_parts.proofs.FormLaws.{steps_of}
use Rattle.playback.specs.Steps.{remaining, remaining_of, values_held, stage, steps_left, calls_now, place_next, CallDone, WrittenAs, doing_after, left_as, RowStands, CallBegun, Printed, incoming_of, clock_of, behind_part, Step, PartDone, DoneAs}
use Rattle.playback_parts.specs.Doings.{makes_call}
use Rattle.playback.proofs.AnswerKinds.{rows, samples, call_kind, answer_kind_law, answer_allowed}
use Rattle.model.proofs.TapeCall.{call_goes_on}
use Rattle.playback.proofs.Walks.{stage_few, moved_less, part_inside, part_behind}

-- ---- a call

record PlayIs (c : Call) : Type 0 where
  side : Framing.Side
  count : ℕ
  is : c ≡ Model.play side count

play_is : (c : Call) → samples ≡ call_kind c → PlayIs c
play_is (Model.play side n) e = record { side = side; count = n; is = refl }
play_is _ e = cc

record DatagramIs (c : Call) : Type 0 where
  bytes : List ℕ
  is : c ≡ Model.datagram bytes

datagram_is : (c : Call) → rows ≡ call_kind c → DatagramIs c
datagram_is (Model.datagram bytes) e = record { bytes = bytes; is = refl }
datagram_is _ e = cc

module _ (c : Call) (r : Receiver) (fs : List Float) (us : List ℕ) (lent : List Float) (v : Answered) (fs' : List Float) (us' : List ℕ) (lent' : List Float)
    (made : CallMade c r fs us lent v fs' us' lent') (next : ℕ) (facts : Facts) (known : CallFacts (sizes_of r.sizes) c next facts) where
  abbrev values : List Float
  values = values_of r c fs' lent'

  -- what is left of the line is what comes next, and it lies inside of what is lent
  record Behind (form : Form) (left : Left) (d : Doing) : Type 0 where
    text : (lines : List ℕ) (cs : List Call) (s : State) → lines ≡ printed_from form (lent_of fs' us') cs s → left_of left values ++ lines ≡ remaining form (lent_of fs' us') d fs' lent' cs s
    inside : values_held d fs' lent' ≡ true

  nothing_behind : (form : Form) → Behind form Left.Nothing Doing.Call
  unfolding remaining
  nothing_behind form = record { text = λ lines cs s e. e; inside = refl }

  samples_behind : (form : Form) (p : PlayedSamples) → v.answer ≡ Ok (Played p) → Behind form Left.Samples (Doing.Samples 0 facts.samples)
  unfolding remaining
  samples_behind form p is =
      let play = play_is c (rw is at (answer_kind_law (lent_of fs us) c (state_of r fs us) (state_of v.receiver fs' us') (answer_of v.answer values) made.called.steps (rw is tt))) in
      let asked : facts.samples - 0 ≡ play.count = omega (arith, known.samples, ap samples_asked play.is) in
      let are : values ≡ part 0 (facts.samples - 0) lent' = ap (λ (d : Call). values_of r d fs' lent') play.is ∙ rw asked in
      record {
        text = λ lines cs s e. rw (are, e);
        inside = both_and (le-leb 0 facts.samples (omega arith)) (le-leb facts.samples (length lent') (omega (arith, known.samples, made.room, made.sample_length)));
      }

  -- a row's values stand from their place on
  row_stands : RowStands v.answer facts fs' values
  row_stands n is =
      let datagram = datagram_is c (rw is at (answer_kind_law (lent_of fs us) c (state_of r fs us) (state_of v.receiver fs' us') (answer_of v.answer values) made.called.steps (rw is tt))) in
      let allowed : sizes_allowed (sizes_of r.sizes) ≡ true = answer_allowed (lent_of fs us) c (state_of r fs us) (state_of v.receiver fs' us') (answer_of v.answer values) made.called.steps (rw is tt) in
      let place : facts.row ≡ place_of (sizes_of r.sizes) c = known.row allowed in
      let from_place : values ≡ drop (place_of (sizes_of r.sizes) c) fs' = rw datagram.is in
      rw place from_place

  row_behind : (form : Form) (n : ℕ) → v.answer ≡ Ok (Row n) → Behind form (Left.Values n) (doing_after (Left.Values n) facts (length fs'))
  unfolding remaining
  row_behind form n is =
      let are : take n values ≡ part (min facts.row (length fs')) (min facts.row (length fs') + min n (length fs' - min facts.row (length fs')) - min facts.row (length fs')) fs' =
      rw (row_stands n is) (part_inside facts.row n fs') in
      record {
        text = λ lines cs s e. rw (are, e);
        inside =
            both_and (le-leb (min facts.row (length fs')) (min facts.row (length fs') + min n (length fs' - min facts.row (length fs'))) (omega arith))
            (le-leb (min facts.row (length fs') + min n (length fs' - min facts.row (length fs'))) (length fs') (omega arith));
      }

  full_behind : (form : Form) (a : Result Answer Refusal) → v.answer ≡ a → Behind form (left_behind a) (doing_after (left_behind a) facts (length fs'))
  full_behind form (Ok (Played p)) is = samples_behind form p is
  full_behind form (Ok (Row n)) is = row_behind form n is
  full_behind form _ is = nothing_behind form

  behind : (form : Form) → Behind form (left_as form v.answer) (doing_after (left_as form v.answer) facts (length fs'))
  behind Form.Full = full_behind Form.Full v.answer refl
  behind Form.Summary = nothing_behind Form.Summary

  -- ---- the step

  module _ (form : Form) (tape : List ℕ) (are : all is_byte tape ≡ true) (place : ℕ) (found : call_at tape place ≡ found_call c next) (text text' : List ℕ) (w : Wrote)
      (begun : CallBegun form v facts fs' text text' w) where
    abbrev at : Playback
    at = record { receiver = r; place = place; doing = Doing.Call }

    abbrev after : Doing
    after = doing_after (left_as form v.answer) facts (length fs')

    abbrev lines_behind : Behind form (left_as form v.answer) after
    lines_behind = behind form

    goes : (cs : List Call) → remaining_of form at fs us lent (calls_now Doing.Call (call_at tape place) cs) ≡ begun.piece ++ remaining_of form w.playback fs' us' lent' cs
    unfolding remaining
    goes cs =
        let s = state_of r fs us in
        let s' = state_of v.receiver fs' us' in
        let left = left_of (left_as form v.answer) values in
        let rest = printed_from form (lent_of fs us) cs s' in
        let first : printed_from form (lent_of fs us) (calls_now Doing.Call (call_at tape place) cs) s ≡ answer_as form (side_of c) (step (lent_of fs us) c s).answer ++ printed_from form (lent_of fs us) cs (step (lent_of fs us) c s).after =
        rw found ((steps_of form).printed_step (lent_of fs us) c cs s) in
        let second : answer_as form (side_of c) (step (lent_of fs us) c s).answer ++ printed_from form (lent_of fs us) cs (step (lent_of fs us) c s).after ≡ (begun.piece ++ left) ++ rest =
        rw (made.called.steps, ← known.side, begun.line_is values row_stands) in
        let same : rest ≡ printed_from form (lent_of fs' us') cs s' = rw (made.called.areas.float_length, made.called.areas.word_length) in
        let third : left ++ rest ≡ remaining_of form w.playback fs' us' lent' cs = rw begun.behind (lines_behind.text rest cs s' same) in
        first ∙ second ∙ append_assoc begun.piece left rest ∙ ap (λ (xs : List ℕ). begun.piece ++ xs) third

    done : (d : Call) (n : ℕ) → call_at tape place ≡ found_call d n → CallDone d r fs us w.playback.receiver fs' us'
    done d n is =
        let same : c ≡ d = cc in
        rw (← same, begun.behind) (record { answer = answer_of v.answer values; called = made.called })

    fewer : steps_left tape w.playback fs' lent' < steps_left tape at fs lent
    unfolding steps_left
    fewer =
        let moves = call_goes_on tape place next c found in
        rw (begun.behind, ← made.called.areas.float_length, ← made.sample_length)
        (moved_less (length (words_of tape)) place facts.next (length fs' + length lent') (stage after) (rw known.next_place moves.0) (rw known.next_place moves.1)
        (stage_few after fs' lent' lines_behind.inside))

    pub call_written : WrittenAs form tape at fs us lent text w fs' us' lent' text'
    call_written =
        record {
          piece = begun.piece;
          put = begun.put;
          float_length = made.called.areas.float_length;
          word_length = made.called.areas.word_length;
          sample_length = made.sample_length;
          only_calls_law = λ no. cc;
          made = λ d n is there. done d n there;
          next_place = rw (begun.behind, found) known.next_place;
          lines = goes;
          held = rw begun.behind lines_behind.inside;
          less = fewer;
        }

-- ---- other pieces: the receiver and what is lent stay

module _ (form : Form) (tape : List ℕ) (w : Playback) (fs : List Float) (us : List ℕ) (lent : List Float) (text text' : List ℕ) where
  abbrev from_here : Doing → List Call → List ℕ
  from_here d cs = remaining form (lent_of fs us) d fs lent cs (state_of w.receiver fs us)

  pub printed_written : (piece : List ℕ) (d : Doing) (v : Wrote) → Printed w piece d text text' v
      → ((c : Call) (next : ℕ) → makes_call w.doing ≡ true → call_at tape w.place ≡ found_call c next → ⊥)
      → place_next w.doing (call_at tape w.place) w.place ≡ w.place
      → ((cs : List Call) → from_here w.doing (calls_now w.doing (call_at tape w.place) cs) ≡ piece ++ from_here d cs)
      → values_held d fs lent ≡ true → stage d < stage w.doing → WrittenAs form tape w fs us lent text v fs us lent text'
  unfolding steps_left
  printed_written piece d v printed no_call stays goes held few =
      record {
        piece = piece;
        put = printed.put;
        float_length = refl;
        word_length = refl;
        sample_length = refl;
        only_calls_law = λ none_made. (refl, refl, refl);
        made = λ c next is there. absurd (no_call c next is there);
        next_place = rw (printed.behind, stays);
        lines = λ cs. rw printed.behind (goes cs);
        held = rw printed.behind held;
        less = rw printed.behind (omega (arith, few));
      }

  -- ---- the closing lines

  pub line_a_written : (v : Wrote) → w.doing ≡ Doing.Call → call_at tape w.place ≡ found_end → Printed w (channel_line Framing.A (counters_in (report_of w.receiver).a)) Doing.LineB text text' v
      → WrittenAs form tape w fs us lent text v fs us lent text'
  unfolding remaining closing_lines
  line_a_written v doing found printed =
      printed_written _ Doing.LineB v printed (λ c next is there. cc) (rw (doing, found)) (λ cs. rw (doing, found) ((steps_of form).printed_end (lent_of fs us) (state_of w.receiver fs us))) refl (rw doing (omega arith))

  -- what prints makes no call
  prints_only : (d : Doing) → makes_call d ≡ false → w.doing ≡ d → (c : Call) (next : ℕ) → makes_call w.doing ≡ true → call_at tape w.place ≡ found_call c next → ⊥
  prints_only d quiet doing c next is there = true≢false (sym is ∙ rw doing quiet)

  pub line_b_written : (v : Wrote) → w.doing ≡ Doing.LineB → Printed w (channel_line Framing.B (counters_in (report_of w.receiver).b)) Doing.LineI text text' v
      → WrittenAs form tape w fs us lent text v fs us lent text'
  unfolding remaining
  line_b_written v doing printed = printed_written _ Doing.LineI v printed (prints_only Doing.LineB refl doing) (rw doing) (λ cs. rw doing) refl (rw doing (omega arith))

  pub line_i_written : (v : Wrote) → w.doing ≡ Doing.LineI → Printed w (incoming_of (report_of w.receiver)) Doing.LineC text text' v
      → WrittenAs form tape w fs us lent text v fs us lent text'
  unfolding remaining incoming_line
  line_i_written v doing printed = printed_written _ Doing.LineC v printed (prints_only Doing.LineI refl doing) (rw doing) (λ cs. rw doing) refl (rw doing (omega arith))

  pub line_c_written : (v : Wrote) → w.doing ≡ Doing.LineC → Printed w (clock_of (report_of w.receiver)) Doing.Done text text' v
      → WrittenAs form tape w fs us lent text v fs us lent text'
  unfolding remaining clock_line
  line_c_written v doing printed = printed_written _ Doing.Done v printed (prints_only Doing.LineC refl doing) (rw doing) (λ cs. rw doing (sym (append-nil _))) refl (rw doing (omega arith))

  -- ---- values of a line

  abbrev left_by : ℕ → Part → (ℕ → Doing) → Wrote
  left_by from p again = record { playback = record { receiver = w.receiver; place = w.place; doing = behind_part from p.next again }; bytes = p.bytes }

  -- a line's values are printed from a place on, up to `end`, and then the line's end
  record PrintsValues (end : ℕ) (xs : List Float) (again : ℕ → Doing) : Type 0 where
    quiet : (from : ℕ) → makes_call (again from) ≡ false
    calls : (from : ℕ) (cs : List Call) → calls_now (again from) (call_at tape w.place) cs ≡ cs
    stays : (from : ℕ) → place_next (again from) (call_at tape w.place) w.place ≡ w.place
    lines : (from : ℕ) (cs : List Call) → from_here (again from) cs ≡ part_ended from end xs ++ printed_from form (lent_of fs us) cs (state_of w.receiver fs us)
    held : (from : ℕ) → values_held (again from) fs lent ≡ (leb from end && leb end (length xs))
    stages : (from : ℕ) → stage (again from) ≡ 5 + (end - from)

  module _ (end : ℕ) (xs : List Float) (again : ℕ → Doing) (prints : PrintsValues end xs again) (from : ℕ) where
    abbrev here : List Float
    here = part from (end - from) xs

    -- what comes behind a part, and the values that are left then
    record BehindPart (next : Option ℕ) : Type 0 where
      lines : (cs : List Call) → from_here (behind_part from next again) cs ≡ part_left next here ++ printed_from form (lent_of fs us) cs (state_of w.receiver fs us)
      held : values_held (behind_part from next again) fs lent ≡ true
      few : stage (behind_part from next again) < 5 + (end - from)

    behind_a_part : (next : Option ℕ) → from ≤ end → end ≤ length xs → IfSome next (λ n. n ≤ length here) → IfSome next (λ n. 0 < n) → BehindPart next
    unfolding remaining
    behind_a_part None order inside low further = record { lines = λ cs. refl; held = refl; few = omega arith }
    behind_a_part (Some n) order inside low further =
        let count : length here ≡ end - from = simp (length-take, length-drop) (omega arith) in
        record {
          lines = λ cs. prints.lines (from + n) cs ∙ rw (part_behind from end n xs (omega (arith, low, count))) refl;
          held = rw (prints.held (from + n)) (both_and (le-leb (from + n) end (omega (arith, low, count))) (le-leb end (length xs) inside));
          few = rw (prints.stages (from + n)) (omega (arith, low, further, count));
        }

    part_written : (p : Part) → w.doing ≡ again from → from ≤ end → end ≤ length xs → PartPut here text text' p → WrittenAs form tape w fs us lent text (left_by from p again) fs us lent text'
    part_written p doing order inside put =
        let behind = behind_a_part p.next order inside put.inside put.further in
        printed_written put.text (behind_part from p.next again) (left_by from p again) (record { put = put.put; behind = refl }) (prints_only (again from) (prints.quiet from) doing) (rw doing (prints.stays from))
        (λ cs. rw (doing, prints.calls from cs, prints.lines from cs, put.line, behind.lines cs) (append_assoc put.text (part_left p.next here) (printed_from form (lent_of fs us) cs (state_of w.receiver fs us))))
        behind.held (rw (doing, prints.stages from) behind.few)

    part_done : (made : ℕ → Doing → Type 0) → ((k : ℕ) (d : Doing) → made k d → d ≡ again k) → w.doing ≡ again from → (r : Step)
        → PartDone made w xs from end text r text' → DoneAs form tape w fs us lent text r fs us lent text'
    part_done made tells doing (Ok (Some v)) put = rw (put.behind again tells) (part_written put.printed doing put.order put.inside put.put)
    part_done made tells doing (Err StepError.NotHeld) refused = (rw doing (prints.held from ∙ refused.0), ((refl, refl, refl), refused.1))
    part_done made tells doing _ never = absurd never

  module _ (from end : ℕ) (made : ℕ → Doing → Type 0) where
    pub samples_done : ((k : ℕ) (d : Doing) → made k d → d ≡ Doing.Samples k end) → w.doing ≡ Doing.Samples from end → (r : Step)
        → PartDone made w lent from end text r text' → DoneAs form tape w fs us lent text r fs us lent text'
    unfolding remaining
    samples_done =
        part_done end lent (λ k. Doing.Samples k end) (record { quiet = λ k. refl; calls = λ k cs. refl; stays = λ k. refl; lines = λ k cs. refl; held = λ k. refl; stages = λ k. refl }) from made

    pub values_done : ((k : ℕ) (d : Doing) → made k d → d ≡ Doing.Values k end) → w.doing ≡ Doing.Values from end → (r : Step)
        → PartDone made w fs from end text r text' → DoneAs form tape w fs us lent text r fs us lent text'
    unfolding remaining
    values_done =
        part_done end fs (λ k. Doing.Values k end) (record { quiet = λ k. refl; calls = λ k cs. refl; stays = λ k. refl; lines = λ k cs. refl; held = λ k. refl; stages = λ k. refl }) from made
