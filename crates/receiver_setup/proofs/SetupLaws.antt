-- Setup: its questions in their order, both pictures zeroed, and a view that is the model's fresh receiver. Assumes nothing.
use mathlib.Core.Path.{◌≡◌, refl, ◌∙◌, ap}
use mathlib.Core.Bool.{true, false, ◌&&◌}
use mathlib.Core.Option.{none, some}
use mathlib.Core.List.{List}
use Rattle.std.specs.Prelude.{Ok, Err}
use Prim.Native.Nat.{ℕ, ◌+◌, ◌*◌, ◌≤◌}
use native.Mathlib.Nat.{add-zero}
use native.Mathlib.Omega.{arith}
use lib.ListN.{length, take, drop, replicate, length-replicate}
use lib.Seq.{take_all, drop-drop}
use lib.Dec.{leb}
use lib.Ieee.{Float}
use borrow.Author.Tests.{leb-true}
use Rattle.model.specs.Bytes.{part, placed}
use Rattle.model.specs.Sizes.{sizes_allowed, most_waiting, float_section, word_section, float_area, word_area}
use Rattle.model.specs.Receiver.{fresh}
use Rattle.model.specs.Questions.{first_no, areas_long, estimates_finite, setup_questions, set_up, opened_unless, not_opened}
use Rattle.model.proofs.BoolLaws.{second_of_both}
use Rattle.model.proofs.ListLaws.{placed_length}
use Rattle.calls.specs.declared.Sizes.{Sizes}
use Rattle.calls.specs.declared.Estimates.{Estimates}
use Rattle.calls.specs.declared.Refusal.{Refusal}
use Rattle.calls.specs.Views.{sizes_of, model_estimates, model_setup}
use Rattle.calls.specs.Refusals.{refusal_number}
use Rattle.areas.proofs.Placed.{part_before, part_within}
use Rattle.channel.proofs.Sections.{word_section_is}
use Rattle.receiver_state.specs.declared.Receiver.{Receiver}
use Rattle.receiver_state.specs.Fresh.{FreshReceiver}
use Rattle.receiver_state.specs.View.{state_of, lent_of}
use Rattle.receiver_setup.specs.Promises.{pictures_zeroed, SetupAccepted}
use Rattle.receiver_setup.specs.Setup.{SetupAsked}
use Rattle.receiver_state.proofs.StateQuestions.{word_area_is}

-- ---- questions 1, 2 and 5

module _ (z : Sizes) (a b : Estimates) (fs : List Float) (us : List ℕ) where
  no_asked : (why : Refusal) → some (refusal_number why) ≡ first_no (setup_questions (lent_of fs us) (model_setup z a b)) → SetupAsked z a b fs us (Err why)
  no_asked why is = record { asked = is; ready = λ yes. cc }

  pub setup_sizes_refused : sizes_allowed (sizes_of z) ≡ false → SetupAsked z a b fs us (Err Refusal.Sizes)
  unfolding setup_questions first_no
  setup_sizes_refused one = no_asked Refusal.Sizes (rw one)

  module _ (one : sizes_allowed (sizes_of z) ≡ true) where
    pub setup_areas_refused : areas_long (lent_of fs us) (sizes_of z) ≡ false → SetupAsked z a b fs us (Err Refusal.NoRoom)
    unfolding setup_questions first_no
    setup_areas_refused two = no_asked Refusal.NoRoom (rw (one, two))

    module _ (two : areas_long (lent_of fs us) (sizes_of z) ≡ true) where
      pub setup_estimates_refused : estimates_finite (model_estimates a) && estimates_finite (model_estimates b) ≡ false → SetupAsked z a b fs us (Err Refusal.NotFinite)
      unfolding setup_questions first_no
      setup_estimates_refused five = no_asked Refusal.NotFinite (rw (one, two, five))

      words_long : word_area (sizes_of z) ≤ length us
      unfolding areas_long
      words_long = leb-true _ _ (second_of_both (leb (float_area (sizes_of z)) (length fs)) (leb (word_area (sizes_of z)) (length us)) two)

      pub setup_all_yes : estimates_finite (model_estimates a) && estimates_finite (model_estimates b) ≡ true → SetupAsked z a b fs us (Ok tt)
      unfolding setup_questions first_no
      setup_all_yes five = record { asked = rw (one, two, five); ready = λ yes. words_long }

-- ---- the pictures

module _ (z : Sizes) (us : List ℕ) (ready : word_area (sizes_of z) ≤ length us) where
  abbrev pixels : ℕ
  pixels = z.width * z.height

  abbrev zeros : List ℕ
  zeros = replicate pixels 0

  abbrev first_zeroed : List ℕ
  first_zeroed = placed (most_waiting (sizes_of z)) zeros us

  zeros_length : length zeros ≡ pixels
  zeros_length = length-replicate {A = ℕ} pixels 0

  first_fits : most_waiting (sizes_of z) + z.width * z.height ≤ length us
  first_fits = omega (arith, ready, word_area_is (sizes_of z), word_section_is (sizes_of z))

  first_length : length first_zeroed ≡ length us
  first_length = placed_length (most_waiting (sizes_of z)) zeros us (rw zeros_length first_fits)

  second_fits : word_section (sizes_of z) + most_waiting (sizes_of z) + z.width * z.height ≤ length first_zeroed
  second_fits = omega (arith, first_length, ready, word_area_is (sizes_of z), word_section_is (sizes_of z))

  zeroed_length : length (pictures_zeroed z us) ≡ length us
  zeroed_length = placed_length (word_section (sizes_of z) + most_waiting (sizes_of z)) zeros first_zeroed (rw zeros_length second_fits) ∙ first_length

  -- the two writes, one after the other
  pub both_zeroed : (start at : ℕ) (us₁ us₂ : List ℕ) → start ≡ word_section (sizes_of z) → at ≡ most_waiting (sizes_of z)
      → us₁ ≡ placed at (replicate (z.width * z.height) 0) us
      → us₂ ≡ placed (start + at) (replicate (z.width * z.height) 0) us₁
      → us₂ ≡ pictures_zeroed z us
  both_zeroed start at us₁ us₂ s a first second = rw (second, first, s, a)

  -- what was written is read back
  written : (at : ℕ) (xs : List ℕ) → at + pixels ≤ length xs → part at pixels (placed at zeros xs) ≡ zeros
  written at xs fits =
      let read : part (at + 0) pixels (placed at zeros xs) ≡ take pixels zeros = part_within 0 at zeros xs 0 pixels (omega (arith, zeros_length, fits)) (omega (arith, zeros_length)) in
      rw (add-zero at) at read ∙ take_all pixels zeros (omega (arith, zeros_length))

  a_zeroed : part (most_waiting (sizes_of z)) (z.width * z.height) (pictures_zeroed z us) ≡ replicate (z.width * z.height) 0
  a_zeroed =
      part_before 0 (word_section (sizes_of z) + most_waiting (sizes_of z)) zeros first_zeroed (most_waiting (sizes_of z)) pixels (omega (arith, zeros_length, second_fits))
      (omega (arith, word_section_is (sizes_of z)))
      ∙ written (most_waiting (sizes_of z)) us first_fits

  b_zeroed : part (most_waiting (sizes_of z)) (z.width * z.height) (drop (word_section (sizes_of z)) (pictures_zeroed z us)) ≡ replicate (z.width * z.height) 0
  b_zeroed =
      ap (take pixels) (drop-drop (most_waiting (sizes_of z)) (word_section (sizes_of z)) (pictures_zeroed z us))
      ∙ written (word_section (sizes_of z) + most_waiting (sizes_of z)) first_zeroed second_fits

  -- ---- the view

  module _ (a b : Estimates) (fs : List Float) (r : Receiver) (made : FreshReceiver z a b r) where
    state_fresh : state_of r fs (pictures_zeroed z us) ≡ fresh (model_setup z a b)
    unfolding fresh
    state_fresh =
        rw (
          made.sizes,
          made.calls,
          made.incoming,
          made.audio,
          made.waterfall,
          made.clock,
          made.channel_a z fs (pictures_zeroed z us) a_zeroed,
          made.channel_b z (drop (float_section (sizes_of z)) fs) (drop (word_section (sizes_of z)) (pictures_zeroed z us)) b_zeroed,
        )

    pub setup_opened : none ≡ first_no (setup_questions (lent_of fs us) (model_setup z a b))
        → SetupAccepted z a b fs us r (pictures_zeroed z us)
    unfolding set_up opened_unless
    setup_opened none-refuse = record { opens = rw (← none-refuse, state_fresh); is_fresh = state_fresh; words = refl; word_length = zeroed_length }

pub setup_refused : (z : Sizes) (a b : Estimates) (fs : List Float) (us : List ℕ) (n : ℕ)
    → some n ≡ first_no (setup_questions (lent_of fs us) (model_setup z a b)) → set_up (lent_of fs us) (model_setup z a b) ≡ not_opened n
unfolding set_up opened_unless
setup_refused z a b fs us n refuses = rw (← refuses)
