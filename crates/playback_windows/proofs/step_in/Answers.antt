-- `playback_windows::step_in` meets its contract: where the window reaches past the longest call, or no call comes next, the step is one of the tape.
-- Assumes nothing.
use Prim.Native.Nat.{◌+◌}
use mathlib.Core.Path.{◌≡◌, refl, sym, ◌∙◌}
use mathlib.Core.Bool.{true, true≢false}
use borrow.Author.Tests.{not-true, not-false}
use Rattle.tape_windows.specs.Windows.{longest_call, reaches}
use Rattle.tape_windows.proofs.WindowLaws.{ends_before}
use Rattle.playback_parts.specs.Doings.{makes_call}
use Rattle.playback_windows.proofs.WindowSteps.{step_of_the_tape}
use Rattle.playback_windows.proofs.Moving.{step_stays_inside}
use Rattle.playback_windows.proofs.step_in.Goals as goal
use Rattle.playback_windows.proofs.step_in.Goals.{else-is_call-via-then-is_call+else-not-has_words, else-is_call-via-else-is_call}

pub returns-then-not-has_words : goal.returns-then-not-has_words
returns-then-not-has_words c = let g = c.args in
    record {
      calls = sym c.is_call.ensures ∙ c.if-is_call.true;
      ends = ends_before g.window.bytes.now (g.w.place + longest_call) g.window.last (sym c.has_words.ensures ∙ not-true _ c.if-not-has_words.true-raw);
      kept = ((refl, refl, refl), refl);
    }

pub returns : goal.returns
returns c = let g = c.args in
    let far : makes_call g.w.doing ≡ true → reaches g.window.bytes.now (g.w.place + longest_call) g.window.last ≡ true =
    elim c.else-is_call.branch [ else-is_call-via-then-is_call+else-not-has_words t ↦ λ calls. sym t.has_words.ensures ∙ not-false _ t.if-not-has_words.false-raw | else-is_call-via-else-is_call e ↦ λ calls. absurd (true≢false (sym calls ∙ sym c.is_call.ensures ∙ e.if-is_call.false)) ] in
    record {
      stands = λ whole base window. step_of_the_tape window g.w far g.form g.fs.now g.us.now g.samples.now g.text.now _ _ _ _ c.step_as.result c.step_as.ensures;
      inside = step_stays_inside g.form g.window.bytes.now g.w g.fs.now g.us.now g.samples.now g.text.now _ _ _ _ c.step_as.result c.step_as.ensures;
    }
