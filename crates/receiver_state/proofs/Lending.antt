-- The areas from where a channel's sections begin are lent on, and put back: the channel is ready there, and the other channel is read as before. Assumes nothing.
use mathlib.Core.Path.{◌≡◌, sym, ◌∙◌, ap}
use mathlib.Core.List.{List, ◌++◌, append-nil}
use Prim.Native.Nat.{ℕ, ◌+◌, ◌-◌, ◌≤◌}
use native.Mathlib.Omega.{arith}
use lib.ListN.{length, take, drop, length-drop}
use lib.Seq.{drop_at, drop-drop, drop-length, length-take-le}
use lib.Ieee.{Float}
use borrow.Rule.Slice.PartMut.{put_mid, post_of, take_put, same_len_mid}
use Rattle.std.proofs.lemmas.List.{take_rest}
use Rattle.model.specs.Sizes.{most_waiting, float_section, word_section, float_area, word_area}
use Rattle.model.specs.Receiver as Model
use Rattle.model.specs.Step.{ChannelResult}
use Rattle.calls.specs.declared.Side.{Side}
use Rattle.calls.specs.declared.Side.TheVariants.{A, B}
use Rattle.calls.specs.Views.{sizes_of}
use Rattle.channel.specs.declared.Channel.{Channel}
use Rattle.channel.specs.View.{row_at, channel_in}
use Rattle.channel.specs.Promises as Channel
use Rattle.channel.specs.Promises.{BehindKept}
use Rattle.channel.proofs.Sections.{float_section_is, word_section_is, channel_reads}
use Rattle.receiver_state.specs.declared.Receiver.{Receiver}
use Rattle.receiver_state.specs.View.{float_start, word_start, channel_at}
use Rattle.receiver_state.specs.Fields.{channel_set}
use Rattle.receiver_state.specs.Promises.{SidesReady, SideTaken}
use Rattle.receiver_state.proofs.StateQuestions.{float_area_is, word_area_is, float_start_few, word_start_few}
use Rattle.receiver_state.proofs.SideCalls.{other_side, channel_on, side_step, channel_uncounted}

-- ---- the end of a list, lent and put back

pub end_put : {X : Type 0} (at : ℕ) (xs ys : List X) → at ≤ length xs → drop at (put_mid at (length xs - at) xs ys) ≡ ys
end_put {X} at xs ys inside =
    drop_at (take at xs) (ys ++ post_of at (length xs - at) xs) at (length-take-le at xs inside)
    ∙ ap (λ (l : List X). ys ++ l) (ap (λ (n : ℕ). drop n (drop at xs)) (sym (length-drop at xs)) ∙ drop-length (drop at xs))
    ∙ append-nil ys

-- what stays behind a place stays behind a later one
pub behind_later : {X : Type 0} (at n : ℕ) (xs ys : List X) → at ≤ n → drop at xs ≡ drop at ys → drop n xs ≡ drop n ys
behind_later {X} at n xs ys le same =
    let e : n ≡ at + (n - at) = omega arith in
    rw e (sym (drop-drop (n - at) at xs) ∙ ap (drop (n - at)) same ∙ drop-drop (n - at) at ys)

-- an end that stays behind a place of what was lent stays behind a later place of the whole
pub end_stays : {X : Type 0} (at k n : ℕ) (xs ys : List X) → at ≤ length xs → at + k ≤ n → drop k ys ≡ drop k (drop at xs)
    → drop n (put_mid at (length xs - at) xs ys) ≡ drop n xs
end_stays {X} at k n xs ys inside later same =
    let e : n ≡ at + (n - at) = omega arith in
    let put = put_mid at (length xs - at) xs ys in
    rw e
    (sym (drop-drop (n - at) at put)
    ∙ ap (drop (n - at)) (end_put at xs ys inside)
    ∙ behind_later k (n - at) ys (drop at xs) (omega arith) same
    ∙ drop-drop (n - at) at xs)

-- ---- before

module _ (r : Receiver) (fs : List Float) (us : List ℕ) (ready : SidesReady r fs us) where
  pub floats_inside : (side : Side) → float_start (sizes_of r.sizes) side ≤ length fs
  floats_inside side = omega (arith, float_start_few (sizes_of r.sizes) side, float_area_is (sizes_of r.sizes), ready.floats)

  pub words_inside : (side : Side) → word_start (sizes_of r.sizes) side ≤ length us
  words_inside side = omega (arith, word_start_few (sizes_of r.sizes) side, word_area_is (sizes_of r.sizes), ready.words)

  pub channel_ready : (side : Side)
      → Channel.Ready r.sizes (channel_at side r) (take (length fs - float_start (sizes_of r.sizes) side) (drop (float_start (sizes_of r.sizes) side) fs))
      (take (length us - word_start (sizes_of r.sizes) side) (drop (word_start (sizes_of r.sizes) side) us))
  channel_ready side =
      rw (take_rest fs (float_start (sizes_of r.sizes) side), take_rest us (word_start (sizes_of r.sizes) side))
      (record {
        floats = simp length-drop (omega (arith, float_start_few (sizes_of r.sizes) side, float_area_is (sizes_of r.sizes), ready.floats));
        words = simp length-drop (omega (arith, word_start_few (sizes_of r.sizes) side, word_area_is (sizes_of r.sizes), ready.words));
        held = ready.channels side;
        next = ready.next side;
      })

  -- ---- after a call on sound

  module _ (side : Side) (ys : List Float) (vs : List ℕ) where
    abbrev pub floats_put : List Float
    floats_put = put_mid (float_start (sizes_of r.sizes) side) (length fs - float_start (sizes_of r.sizes) side) fs ys

    abbrev pub words_put : List ℕ
    words_put = put_mid (word_start (sizes_of r.sizes) side) (length us - word_start (sizes_of r.sizes) side) us vs

  other_kept : (side : Side) (ys : List Float) (vs : List ℕ)
      → BehindKept r.sizes (drop (float_start (sizes_of r.sizes) side) fs) (drop (word_start (sizes_of r.sizes) side) us) ys vs
      → channel_on (other_side side) r fs us ≡ channel_on (other_side side) r (floats_put side ys vs) (words_put side ys vs)
  other_kept A ys vs behind =
      let z = sizes_of r.sizes in
      let floats : drop (float_section z) fs ≡ drop (float_section z) (floats_put A ys vs) =
      sym (behind_later (row_at z) (float_section z) ys fs (omega (arith, float_section_is z)) behind.floats) ∙ ap (drop (float_section z)) (sym (end_put 0 fs ys (omega arith))) in
      let words : drop (word_section z) us ≡ drop (word_section z) (words_put A ys vs) =
      sym (behind_later (most_waiting z) (word_section z) vs us (omega (arith, word_section_is z)) behind.words) ∙ ap (drop (word_section z)) (sym (end_put 0 us vs (omega arith))) in
      rw (← floats, ← words)
  other_kept B ys vs behind =
      channel_reads r.sizes r.a (ready.inside A) fs (floats_put B ys vs) us (words_put B ys vs)
      (sym (take_put (float_section (sizes_of r.sizes)) (length fs - float_section (sizes_of r.sizes)) fs ys (floats_inside B)))
      (sym (take_put (word_section (sizes_of r.sizes)) (length us - word_section (sizes_of r.sizes)) us vs (words_inside B)))

  -- a call on sound of one side, before it is counted
  pub sound_taken : (side : Side) (f : Model.Channel → ChannelResult) (c : Channel) (a : Model.Answer) (ys : List Float) (vs : List ℕ)
      → f (channel_in r.sizes (channel_at side r) (take (length fs - float_start (sizes_of r.sizes) side) (drop (float_start (sizes_of r.sizes) side) fs))
      (take (length us - word_start (sizes_of r.sizes) side) (drop (word_start (sizes_of r.sizes) side) us)))
      ≡ record { after = channel_in r.sizes c ys vs; answer = a }
      → BehindKept r.sizes (take (length fs - float_start (sizes_of r.sizes) side) (drop (float_start (sizes_of r.sizes) side) fs))
      (take (length us - word_start (sizes_of r.sizes) side) (drop (word_start (sizes_of r.sizes) side) us)) ys vs
      → SideTaken side f r fs us a (channel_set side c r) (floats_put side ys vs) (words_put side ys vs)
  sound_taken side f c a ys vs step behind =
      let z = sizes_of r.sizes in
      let floats = take_rest fs (float_start z side) in
      let words = take_rest us (word_start z side) in
      let kept = rw (floats, words) at behind in
      record {
        taken =
            side_step side f r c fs (floats_put side ys vs) us (words_put side ys vs) a
            (rw (end_put (float_start z side) fs ys (floats_inside side), end_put (word_start z side) us vs (words_inside side)) (rw (floats, words) at step))
            (other_kept side ys vs kept);
        areas = record {
          float_length = same_len_mid (float_start z side) (length fs - float_start z side) fs ys behind.float_length;
          word_length = same_len_mid (word_start z side) (length us - word_start z side) us vs behind.word_length;
          float_end =
              end_stays (float_start z side) (row_at z) (float_area z) fs ys (floats_inside side)
              (omega (arith, float_start_few z side, float_area_is z, float_section_is z)) kept.floats;
          word_end =
              end_stays (word_start z side) (most_waiting z) (word_area z) us vs (words_inside side)
              (omega (arith, word_start_few z side, word_area_is z, word_section_is z)) kept.words;
        };
        uncounted = channel_uncounted side c r;
      }
