-- What makes a call's promise: a refusal by an early or by an own question, and an accepted call whose view is the model's. Assumes nothing.
use mathlib.Core.Path.{◌≡◌, refl, sym, ◌∙◌, ap}
use mathlib.Core.Bool.{true, true≢false}
use mathlib.Core.Option.{none, some}
use mathlib.Core.List.{List}
use Prim.Native.Nat.{ℕ, ◌+◌, ◌*◌, ◌≤◌}
use native.Mathlib.Omega.{arith}
use lib.ListN.{drop, length-drop}
use lib.Dec.{ltb}
use lib.Seq.{get_or-drop}
use lib.Ieee.{Float}
use borrow.Author.Tests.{le-leb, lt-ltb}
use Rattle.std.specs.Prelude.{Result, Err, IsErrAnd}
use Rattle.std.proofs.lemmas.Result.{err_from_is_err_and}
use Rattle.model.specs.Sizes as Sizing
use Rattle.model.specs.Sizes.{sizes_allowed, most_waiting}
use Rattle.model.specs.Receiver as Model
use Rattle.model.specs.Receiver.{Call, State, StepResult, is_accepted}
use Rattle.model.specs.Questions.{most_calls, most_added, first_no, areas_long, own_questions, questions, channel_held, held}
use Rattle.model.specs.Step.{accept, decide, step}
use Rattle.model.specs.WholeList.{CallBytes}
use Rattle.model.proofs.BoolLaws.{by_test, first_of_both, second_of_both}
use Rattle.model.proofs.HeldKept.{ChannelShaped, StateShaped, channel_held_more, accept_stays_held}
use Rattle.model.proofs.Reachable.{accept_one_more}
use Rattle.model.proofs.PlacedLaws.{part_length}
use Rattle.calls.specs.declared.Refusal.{Refusal}
use Rattle.calls.specs.declared.Side.{Side}
use Rattle.calls.specs.declared.Side.TheVariants.{A, B}
use Rattle.calls.specs.Views.{sizes_of}
use Rattle.jitter_buffer.proofs.HeldKept.{WordsFit, view_shaped}
use Rattle.channel.specs.View.{row_at, channel_in}
use Rattle.channel.proofs.Sections.{float_section_is, word_section_is}
use Rattle.channel.proofs.Sound.{row_shaped}
use Rattle.receiver_state.specs.declared.Receiver.{Receiver}
use Rattle.receiver_state.specs.declared.Answer.{Answer}
use Rattle.receiver_state.specs.View.{float_start, word_start, channel_at, state_of, lent_of, answer_of}
use Rattle.receiver_state.specs.Fields.{answered}
use Rattle.receiver_state.specs.Promises.{AreasKept, Called, early_questions, Ready, EarlyAsked, SidesReady}
use Rattle.receiver_state.proofs.StateQuestions.{float_area_is, word_area_is, float_start_few, word_start_few}

-- ---- the order of the questions

early_refusal : (lent : Model.Lent) (s : State) (c : Call) (n : ℕ) → some n ≡ first_no (early_questions lent s)
    → first_no (questions lent s c) ≡ some n
unfolding questions first_no
early_refusal lent s c n e =
    by_test (sizes_allowed s.sizes)
    (λ one. by_test (areas_long lent s.sizes)
    (λ two. by_test (held s)
    (λ three. by_test (ltb s.calls most_calls)
    (λ four. let no : some n ≡ none = rw (one, two, three, four) at e in cc)
    (λ four. rw (one, two, three, four) (sym (rw (one, two, three, four) at e))))
    (λ three. rw (one, two, three) (sym (rw (one, two, three) at e))))
    (λ two. rw (one, two) (sym (rw (one, two) at e))))
    (λ one. rw one (sym (rw one at e)))

-- areas that nothing was written to
pub areas_same : (z : Sizing.Sizes) (fs : List Float) (us : List ℕ) → AreasKept z fs us fs us
areas_same z fs us = record { float_length = refl; word_length = refl; float_end = refl; word_end = refl }

module _ (r : Receiver) (fs : List Float) (us : List ℕ) where
  -- ---- refusals

  refusal_called : (c : Call) (n : ℕ) → CallBytes c → first_no (questions (lent_of fs us) (state_of r fs us) c) ≡ some n
      → Called c r fs us (Model.refused n) r fs us
  unfolding step decide is_accepted
  refusal_called c n bytes e =
      record {
        steps = rw e;
        refused = λ no. (refl, refl, refl);
        areas = areas_same (sizes_of r.sizes) fs us;
        bytes = bytes;
        stays_held = λ yes. cc;
        one_more = λ yes. cc;
      }

  -- by one of questions 1 to 4
  pub early_refused : (c : Call) (n : ℕ) → CallBytes c → some n ≡ first_no (early_questions (lent_of fs us) (state_of r fs us)) → Called c r fs us (Model.refused n) r fs us
  early_refused c n bytes e = refusal_called c n bytes (early_refusal (lent_of fs us) (state_of r fs us) c n e)

  -- where the work ends by the `?` of the early questions
  pub asked_refused : (c : Call) → CallBytes c → (values : List Float) (work : Result (Receiver × Answer) Refusal) {why : Refusal} → IsErrAnd work (λ y. y ≡ why)
      → EarlyAsked r fs us (Err why) → Called c r fs us (answer_of (answered r work).answer values) (answered r work).receiver fs us
  asked_refused c bytes values work ends early =
      let is = err_from_is_err_and work ends in
      rw (is.1, is.2) (early_refused c _ bytes early.asked)

  module _ (ready : Ready r fs us) where
    early_passed : (c : Call) → first_no (questions (lent_of fs us) (state_of r fs us) c) ≡ first_no (own_questions (sizes_of r.sizes) c)
    unfolding questions first_no areas_long
    early_passed c = rw (ready.allowed, le-leb _ _ ready.floats, le-leb _ _ ready.words, ready.holds, lt-ltb r.calls most_calls ready.calls)

    -- by one of the call's own
    pub own_refused : (c : Call) (n : ℕ) → CallBytes c → first_no (own_questions (sizes_of r.sizes) c) ≡ some n → Called c r fs us (Model.refused n) r fs us
    own_refused c n bytes e = refusal_called c n bytes (early_passed c ∙ e)

    -- ---- what memory gives the state

    module _ (words : WordsFit us) where
      channel_shaped : (side : Side) → ChannelShaped (sizes_of r.sizes) (channel_in r.sizes (channel_at side r) (drop (float_start (sizes_of r.sizes) side) fs) (drop (word_start (sizes_of r.sizes) side) us))
      channel_shaped side =
          let z = sizes_of r.sizes in
          let f = float_section_is z in
          let w = word_section_is z in
          let fa = float_area_is z in
          let wa = word_area_is z in
          let few = float_start_few z side in
          let fewer = word_start_few z side in
          record {
            buffer = view_shaped r.sizes (channel_at side r).jitter _ _ (ready.next side) (λ i. rw (get_or-drop (word_start z side) us i 0) (words (word_start z side + i)))
                (simp length-drop (omega (arith, f, fa, few, ready.floats)));
            row = row_shaped r.sizes (channel_at side r).screen (drop (row_at z) (drop (float_start z side) fs)) (simp length-drop (omega (arith, f, fa, few, ready.floats)));
            picture = part_length (most_waiting z) (r.sizes.width * r.sizes.height) (drop (word_start z side) us) (simp length-drop (omega (arith, w, wa, fewer, ready.words)));
          }

      state_shaped : StateShaped (state_of r fs us)
      state_shaped = record { channel_a = channel_shaped A; channel_b = channel_shaped B }

      -- ---- an accepted call

      pub accepted_called : (c : Call) (a : Model.Answer) (r' : Receiver) (fs' : List Float) (us' : List ℕ) → CallBytes c
          → first_no (own_questions (sizes_of r.sizes) c) ≡ none → is_accepted a ≡ true
          → accept c (state_of r fs us) ≡ record { after = state_of r' fs' us'; answer = a }
          → AreasKept (sizes_of r.sizes) fs us fs' us' → Called c r fs us a r' fs' us'
      unfolding step decide
      accepted_called c a r' fs' us' bytes own accepts is areas =
          record {
            steps = rw (early_passed c, own) is;
            refused = λ no. absurd (true≢false (sym accepts ∙ no));
            areas = areas;
            bytes = bytes;
            stays_held = λ _. ap (λ (x : StepResult). held x.after) (sym is) ∙ accept_stays_held c (state_of r fs us) bytes ready.allowed state_shaped ready.holds own;
            one_more = λ _. ap (λ (x : StepResult). x.after.calls) (sym is) ∙ (accept_one_more c (state_of r fs us)).calls;
          }

    -- ---- both channels could be held at the largest bound

    few_counted : r.calls * most_added ≤ most_calls * most_added
    few_counted = omega (arith, ready.calls)

    a_held : channel_held (sizes_of r.sizes) (r.calls * most_added) (state_of r fs us).channel_a ≡ true
    unfolding held
    a_held = first_of_both (channel_held (sizes_of r.sizes) (r.calls * most_added) (state_of r fs us).channel_a) _ ready.holds

    b_held : channel_held (sizes_of r.sizes) (r.calls * most_added) (state_of r fs us).channel_b ≡ true
    unfolding held
    b_held =
        first_of_both (channel_held (sizes_of r.sizes) (r.calls * most_added) (state_of r fs us).channel_b) _
        (second_of_both (channel_held (sizes_of r.sizes) (r.calls * most_added) (state_of r fs us).channel_a) _ ready.holds)

    pub sides_ready : SidesReady r fs us
    sides_ready =
        record { allowed = ready.allowed; floats = ready.floats; words = ready.words; channels = at_most; inside = ready.inside; next = ready.next }
      where
        at_most : (side : Side)
            → channel_held (sizes_of r.sizes) (most_calls * most_added)
            (channel_in r.sizes (channel_at side r) (drop (float_start (sizes_of r.sizes) side) fs) (drop (word_start (sizes_of r.sizes) side) us))
            ≡ true
        at_most A = channel_held_more (sizes_of r.sizes) (r.calls * most_added) (most_calls * most_added) _ few_counted a_held
        at_most B = channel_held_more (sizes_of r.sizes) (r.calls * most_added) (most_calls * most_added) _ few_counted b_held
