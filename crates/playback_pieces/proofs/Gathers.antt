-- A step more: its piece stands behind those that are there, and the steps are one more. Assumes nothing.
use Prim.Native.Nat.{ℕ, ◌+◌, ◌-◌, ◌≤◌}
use mathlib.Core.Path.{◌≡◌, refl, sym, ◌∙◌, ap}
use mathlib.Core.Bool.{true}
use mathlib.Core.List.{List, [], ◌++◌, append_assoc, append-nil}
use native.Mathlib.Omega.{arith}
use lib.ListN.{length, take, drop, length-append, length-drop, take-append-drop}
use lib.Seq.{take_all, drop_at, drop-drop, drop-length}
use lib.Ieee.{Float}
use Rattle.std.specs.Prelude.{Option, Some, None, Ok, Err}
use Rattle.std.specs.Result.{result_ok}
use borrow.Rule.Slice.PartMut.{put_mid, post_of}
use Rattle.model.specs.Bytes.{placed}
use Rattle.playback_parts.specs.declared.Form.{Form}
use Rattle.playback_parts.specs.Parts.{TextPut}
use Rattle.playback_parts.proofs.Texts.{put_front, put_inside}
use Rattle.playback.specs.declared.Wrote.{Wrote}
use Rattle.playback.specs.declared.StepError.{StepError}
use Rattle.playback.specs.Steps.{Step, DoneAs}
use Rattle.playback.specs.Chains.{Moment, WroteAs, StepsAs}
use Rattle.playback.specs.Chains as Chains
use Rattle.playback_pieces.specs.Gathered.{comes_before, StepsBefore, here, wrote, moment, WritesNothing, WroteBehind, Further, Gathering}

-- ---- the steps

-- one at the end
steps_and_one : (form : Form) (until : Option ℕ) (tape : List ℕ) {m n k : Moment} {printed text text' : List ℕ} {v : Wrote} → StepsBefore form until tape m printed n
    → comes_before n.playback until ≡ true
    → WroteAs form tape n text v k text'
    → k.playback ≡ v.playback
    → StepsBefore form until tape m (printed ++ take v.bytes text') k
steps_and_one form until tape {text' = text'} {v = v} here before step same = rw (← append-nil (take v.bytes text')) (wrote before step same here)
steps_and_one form until tape {text' = text'} {v = v} (wrote {text' = first} {printed = rest} {v = u} b s e steps) before step same =
    rw (append_assoc (take u.bytes first) rest (take v.bytes text')) (wrote b s e (steps_and_one form until tape steps before step same))

-- however far they may go, they are the steps of a replay
pub steps_before_are_steps : {form : Form} {until : Option ℕ} {tape : List ℕ} {m n : Moment} {printed : List ℕ} → StepsBefore form until tape m printed n → StepsAs form tape m printed n
steps_before_are_steps here = Chains.here
steps_before_are_steps (wrote before step same steps) = Chains.wrote step same (steps_before_are_steps steps)

-- what was gathered and what is gathered then
pub steps_and_then : {form : Form} {tape : List ℕ} {m n last : Moment} {first second : List ℕ} → StepsAs form tape m first n → StepsAs form tape n second last
    → StepsAs form tape m (first ++ second) last
steps_and_then Chains.here more = more
steps_and_then {second = second} (Chains.wrote {text' = text'} {printed = rest} {v = v} step same steps) more =
    rw (append_assoc (take v.bytes text') rest second) (Chains.wrote step same (steps_and_then steps more))

-- ---- the text

put_rest : (piece entry exit : List ℕ) (n : ℕ) → TextPut piece entry exit n → drop n exit ≡ drop n entry
unfolding placed
put_rest piece entry exit n put =
    let same : 0 + length piece ≡ length piece = omega arith in
    rw (put.target, put.length_is) (drop_at piece (drop (0 + length piece) entry) (length piece) refl ∙ ap (λ (i : ℕ). drop i entry) same)

put_nothing : (text : List ℕ) → TextPut [] text text 0
unfolding placed
put_nothing text = record { length_is = refl; target = refl }

-- a piece behind another
put_behind : (first second text text' text'' behind : List ℕ) (n k : ℕ) → TextPut first text text' n → TextPut second (drop n text') behind k → text'' ≡ take n text' ++ behind
    → TextPut (first ++ second) text text'' (n + k)
unfolding placed
put_behind first second text text' text'' behind n k one two is =
    let long : length (first ++ second) ≡ length first + length second = length-append first second in
    let start : take n text' ≡ first = put_front first text text' n one in
    let rest : drop n text' ≡ drop n text = put_rest first text text' n one in
    let both : n + (0 + length second) ≡ 0 + length (first ++ second) = omega (arith, long, one.length_is) in
    let ends : drop (0 + length second) (drop n text') ≡ drop (0 + length (first ++ second)) text =
    rw rest (drop-drop (0 + length second) n text ∙ ap (λ (i : ℕ). drop i text) both)
    in
    record {
      length_is = omega (arith, long, one.length_is, two.length_is);
      target = is ∙ rw (start, two.target) (ap (λ (xs : List ℕ). first ++ (second ++ xs)) ends ∙ sym (append_assoc first second (drop (0 + length (first ++ second)) text)));
    }

-- ---- the end of a text, lent and put back

lent_end : (at : ℕ) (text : List ℕ) → take (length text - at) (drop at text) ≡ drop at text
lent_end at text = take_all (length text - at) (drop at text) (simp length-drop (omega arith))

end_back : (at : ℕ) (text behind : List ℕ) → put_mid at (length text - at) text behind ≡ take at text ++ behind
end_back at text behind =
    let nothing : post_of at (length text - at) text ≡ [] = ap (λ (n : ℕ). drop n (drop at text)) (sym (length-drop at text)) ∙ drop-length (drop at text) in
    ap (λ (xs : List ℕ). take at text ++ (behind ++ xs)) nothing ∙ ap (λ (xs : List ℕ). take at text ++ xs) (append-nil behind)

module _ (form : Form) (tape : List ℕ) (p : Wrote) (fs : List Float) (us : List ℕ) (samples : List Float) (text : List ℕ) (fs' : List Float) (us' : List ℕ) (samples' : List Float) (behind : List ℕ) where
  abbrev EndStepped : Step → Type 0
  EndStepped v = DoneAs form tape p.playback fs us samples (take (length text - p.bytes) (drop p.bytes text)) v fs' us' samples' behind

  abbrev back : List ℕ
  back = put_mid p.bytes (length text - p.bytes) text behind

  -- the bytes of a step at the end of a text lie inside the text
  pub wrote_inside : length behind ≡ length (take (length text - p.bytes) (drop p.bytes text)) → p.bytes ≤ length text → (v : Wrote) → EndStepped (Ok (Some v))
      → p.bytes + v.bytes ≤ length text
  wrote_inside as_long inside v done =
      let fits = put_inside done.piece _ behind v.bytes done.put in
      let long : length (take (length text - p.bytes) (drop p.bytes text)) ≡ length text - p.bytes = rw (lent_end p.bytes text) (length-drop p.bytes text) in
      omega (arith, fits, as_long, long)

  kept : behind ≡ take (length text - p.bytes) (drop p.bytes text) → back ≡ text
  kept same = end_back p.bytes text behind ∙ rw (same, lent_end p.bytes text) (take-append-drop p.bytes text)

  -- one that did not write
  pub ended_there : (v : Step) → WritesNothing v → EndStepped v → Further form tape p fs us samples text None fs' us' samples' back
  ended_there (Ok (Some v)) none done = absurd none
  ended_there (Ok None) none done =
      let u = done.1 in
      (record { step = Ok None; writes_nothing = tt; done = (done.0, ((refl, refl, refl), refl)) }, u.0.0, u.0.1, u.0.2, kept u.1)
  ended_there (Err StepError.NoRoom) none done =
      let u = done.1 in
      (record { step = Err StepError.NoRoom; writes_nothing = tt; done = (rw (lent_end p.bytes text) at done.0, ((refl, refl, refl), refl)) }, u.0.0, u.0.1, u.0.2, kept u.1)
  ended_there (Err StepError.NotHeld) none done =
      let u = done.1 in
      (record { step = Err StepError.NotHeld; writes_nothing = tt; done = (done.0, ((refl, refl, refl), refl)) }, u.0.0, u.0.1, u.0.2, kept u.1)
  ended_there (Err (StepError.Bad bad)) none done =
      let u = done.2 in
      (record { step = Err (StepError.Bad bad); writes_nothing = tt; done = (done.0, done.1, ((refl, refl, refl), refl)) }, u.0.0, u.0.1, u.0.2, kept u.1)

-- by what is left of a step behind `ok`: a step that wrote, or one that writes nothing
pub step_wrote : (r : Step) (v : Wrote) → result_ok r ≡ Some (Some v) → r ≡ Ok (Some v)
step_wrote (Ok o) v is = cc
step_wrote (Err why) v is = absurd (cc)

pub step_quiet : (r : Step) → ((v : Wrote) → result_ok r ≡ Some (Some v) → ⊥) → WritesNothing r
step_quiet (Ok (Some v)) never = never v refl
step_quiet (Ok None) never = tt
step_quiet (Err why) never = tt

-- ---- both together

pub gathers_nothing : (form : Form) (tape : List ℕ) (until : Option ℕ) (m : Moment) (text : List ℕ) → Gathering form tape until m text m 0 text
gathers_nothing form tape until m text =
    record {
      printed = [];
      put = put_nothing text;
      inside = omega arith;
      steps = here;
      float_length = refl;
      word_length = refl;
      sample_length = refl;
      no_more = omega arith;
      less = λ some. absurd (omega arith);
    }

module _ (form : Form) (tape : List ℕ) (until : Option ℕ) (m : Moment) (text : List ℕ) (p : Wrote) (fs : List Float) (us : List ℕ) (samples : List Float) (text' : List ℕ) where
  abbrev there : Moment
  there = moment p.playback fs us samples

  -- a step that came before `until` wrote behind what was there
  pub gathers_one_more : (q : Wrote) (fs' : List Float) (us' : List ℕ) (samples' : List Float) (text'' : List ℕ)
      → Gathering form tape until m text there p.bytes text'
      → comes_before p.playback until ≡ true
      → length text'' ≡ length text
      → WroteBehind form tape p fs us samples text' q fs' us' samples' text''
      → Gathering form tape until m text (moment q.playback fs' us' samples') q.bytes text''
  gathers_one_more q fs' us' samples' text'' g before as_long w =
      let s = w.step in
      let front : take w.wrote.bytes w.behind ≡ s.piece = put_front s.piece (drop p.bytes text') w.behind w.wrote.bytes s.put in
      let put : TextPut (g.printed ++ take w.wrote.bytes w.behind) text text'' q.bytes =
      rw (front, w.bytes_is) (put_behind g.printed s.piece text text' text'' w.behind p.bytes w.wrote.bytes g.put s.put w.target)
      in
      record {
        printed = g.printed ++ take w.wrote.bytes w.behind;
        put = put;
        inside = omega (arith, put_inside _ text text'' q.bytes put, as_long);
        steps = steps_and_one form until tape g.steps before s w.playback_is;
        float_length = s.float_length ∙ g.float_length;
        word_length = s.word_length ∙ g.word_length;
        sample_length = s.sample_length ∙ g.sample_length;
        no_more = rw w.playback_is (omega (arith, s.less, g.no_more));
        less = λ some. rw w.playback_is (omega (arith, s.less, g.no_more));
      }
