-- Questions 1 to 4, asked of the fields and the areas, are the model's of the state that they hold. Assumes nothing.
use mathlib.Core.Path.{◌≡◌, refl, sym}
use mathlib.Core.Bool.{Bool, true, false, false≢true}
use mathlib.Core.Option.{some}
use mathlib.Core.List.{List}
use Rattle.std.specs.Prelude.{Ok, Err}
use Prim.Native.Nat.{ℕ, ◌+◌, ◌-◌, ◌*◌, ◌≤◌, ◌<◌}
use native.Mathlib.Omega.{arith}
use lib.ListN.{length, take, drop, length-drop}
use lib.Seq.{take_all}
use lib.Dec.{leb}
use lib.Ieee.{Float}
use borrow.Author.Tests.{leb-true, lt-ltb, le-ltb}
use Rattle.model.specs.Sizes as Sizing
use Rattle.model.specs.Sizes.{sizes_allowed, float_section, word_section, float_area, word_area}
use Rattle.model.specs.Questions.{most_calls, most_added, first_no, areas_long, channel_held, held}
use Rattle.model.proofs.BoolLaws.{first_of_both, second_of_both}
use Rattle.model.proofs.HeldKept.{NextFits}
use Rattle.calls.specs.declared.Side.{Side}
use Rattle.calls.specs.declared.Side.TheVariants.{A, B}
use Rattle.calls.specs.declared.Refusal.{Refusal}
use Rattle.calls.specs.Views.{sizes_of}
use Rattle.calls.specs.Refusals.{refusal_number}
use Rattle.jitter_buffer.specs.View.{next_of}
use Rattle.channel.specs.View.{channel_in, Inside}
use Rattle.channel.specs.Promises.{ChannelAsked}
use Rattle.receiver_state.specs.declared.Receiver.{Receiver}
use Rattle.receiver_state.specs.View.{float_start, word_start, channel_at, state_of, lent_of}
use Rattle.receiver_state.specs.Promises.{early_questions, counts_held, StateAsked, EarlyAsked}

pub float_area_is : (z : Sizing.Sizes) → float_area z ≡ 2 * float_section z + z.bins
unfolding float_area
float_area_is z = refl

pub word_area_is : (z : Sizing.Sizes) → word_area z ≡ 2 * word_section z
unfolding word_area
word_area_is z = refl

-- each channel's sections begin within the first one or at its end
pub float_start_few : (z : Sizing.Sizes) (side : Side) → float_start z side ≤ float_section z
float_start_few z A = omega arith
float_start_few z B = omega arith

pub word_start_few : (z : Sizing.Sizes) (side : Side) → word_start z side ≤ word_section z
word_start_few z A = omega arith
word_start_few z B = omega arith

-- where sections begin and end, for what is lent of an area
pub ruleset section_bounds = (float_area_is, word_area_is, float_start_few, word_start_few)

module _ (r : Receiver) (us : List ℕ) (words : word_area (sizes_of r.sizes) ≤ length us) where
  pub section_inside : word_section (sizes_of r.sizes) ≤ length us
  section_inside = omega (arith, words, word_area_is (sizes_of r.sizes))

  pub rest_is : take (length us - word_section (sizes_of r.sizes)) (drop (word_section (sizes_of r.sizes)) us) ≡ drop (word_section (sizes_of r.sizes)) us
  rest_is = take_all (length us - word_section (sizes_of r.sizes)) (drop (word_section (sizes_of r.sizes)) us) (simp length-drop (omega arith))

  pub section_behind : word_section (sizes_of r.sizes) ≤ length (drop (word_section (sizes_of r.sizes)) us)
  section_behind = simp length-drop (omega (arith, words, word_area_is (sizes_of r.sizes)))

  abbrev second : List ℕ
  second = drop (word_section (sizes_of r.sizes)) us

  -- the two channels' answers, over any floats
  a_is : (v : Bool) → ChannelAsked r.sizes r.a us r.calls v → (fs : List Float) → float_area (sizes_of r.sizes) ≤ length fs
      → v ≡ channel_held (sizes_of r.sizes) (r.calls * most_added) (channel_in r.sizes r.a fs us)
  a_is v told fs long = told.asked fs (omega (arith, long, float_area_is (sizes_of r.sizes)))

  b_is : (v : Bool) → ChannelAsked r.sizes r.b second r.calls v → (fs : List Float) → float_area (sizes_of r.sizes) ≤ length fs
      → v ≡ channel_held (sizes_of r.sizes) (r.calls * most_added) (channel_in r.sizes r.b (drop (float_section (sizes_of r.sizes)) fs) second)
  b_is v told fs long = told.asked (drop (float_section (sizes_of r.sizes)) fs) (simp length-drop (omega (arith, long, float_area_is (sizes_of r.sizes))))

  -- an answer of no tells nothing of the fields
  refusing : ((fs : List Float) → float_area (sizes_of r.sizes) ≤ length fs → false ≡ held (state_of r fs us)) → StateAsked r us false
  refusing refused = record { asked = refused; inside = λ yes. absurd (false≢true yes); next = λ yes. absurd (false≢true yes) }

  pub a_refused : ChannelAsked r.sizes r.a us r.calls false → StateAsked r us false
  unfolding held
  a_refused a = refusing (λ fs long. rw (← a_is false a fs long))

  module _ (a : ChannelAsked r.sizes r.a us r.calls true) where
    pub b_refused : ChannelAsked r.sizes r.b second r.calls false → StateAsked r us false
    unfolding held
    b_refused b = refusing (λ fs long. rw (← a_is true a fs long, ← b_is false b fs long))

    pub counts_left : ChannelAsked r.sizes r.b second r.calls true → (v : Bool) → v ≡ counts_held r → StateAsked r us v
    unfolding held
    counts_left b v is =
        record {
          asked = λ fs long. rw (← a_is true a fs long, ← b_is true b fs long) is;
          inside = λ yes. both_inside;
          next = λ yes. both_next;
        }
      where
        both_inside : (side : Side) → Inside r.sizes (channel_at side r)
        both_inside A = a.inside refl
        both_inside B = b.inside refl

        both_next : (side : Side) → NextFits (next_of (channel_at side r).jitter.next_sequence)
        both_next A = a.next refl
        both_next B = b.next refl

-- ---- questions 1 to 4

module _ (r : Receiver) (fs : List Float) (us : List ℕ) where
  no_verdict : (why : Refusal) → some (refusal_number why) ≡ first_no (early_questions (lent_of fs us) (state_of r fs us)) → EarlyAsked r fs us (Err why)
  no_verdict why is = record { asked = is; ready = λ yes. cc }

  pub sizes_refused : false ≡ sizes_allowed (sizes_of r.sizes) → EarlyAsked r fs us (Err Refusal.Sizes)
  unfolding first_no
  sizes_refused one = no_verdict Refusal.Sizes (rw (← one))

  module _ (one : true ≡ sizes_allowed (sizes_of r.sizes)) where
    pub areas_refused : false ≡ areas_long (lent_of fs us) (sizes_of r.sizes) → EarlyAsked r fs us (Err Refusal.NoRoom)
    unfolding first_no
    areas_refused two = no_verdict Refusal.NoRoom (rw (← one, ← two))

    module _ (two : true ≡ areas_long (lent_of fs us) (sizes_of r.sizes)) where
      floats_long : float_area (sizes_of r.sizes) ≤ length fs
      unfolding areas_long
      floats_long = leb-true _ _ (first_of_both (leb (float_area (sizes_of r.sizes)) (length fs)) _ (sym two))

      pub words_long : word_area (sizes_of r.sizes) ≤ length us
      unfolding areas_long
      words_long = leb-true _ _ (second_of_both (leb (float_area (sizes_of r.sizes)) (length fs)) _ (sym two))

      pub state_refused : StateAsked r us false → EarlyAsked r fs us (Err Refusal.NotHeld)
      unfolding first_no
      state_refused told = no_verdict Refusal.NotHeld (rw (← one, ← two, ← told.asked fs floats_long))

      module _ (told : StateAsked r us true) where
        pub calls_refused : most_calls ≤ r.calls → EarlyAsked r fs us (Err Refusal.TooManyCalls)
        unfolding first_no
        calls_refused full = no_verdict Refusal.TooManyCalls (rw (← one, ← two, ← told.asked fs floats_long, le-ltb r.calls most_calls full))

        pub all_yes : r.calls < most_calls → EarlyAsked r fs us (Ok tt)
        unfolding first_no
        all_yes few =
            record {
              asked = rw (← one, ← two, ← told.asked fs floats_long, lt-ltb r.calls most_calls few);
              ready = λ yes.
                  record {
                    allowed = sym one;
                    floats = floats_long;
                    words = words_long;
                    holds = sym (told.asked fs floats_long);
                    calls = few;
                    inside = told.inside refl;
                    next = told.next refl;
                  };
            }
