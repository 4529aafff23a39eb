-- A waterfall payload at the receiver: the sections are lent from where the channel's begin, the work section is lent by itself, and both are put back. Assumes nothing.
use Rattle.std.proofs.Common.{Option, None, Some}
use Rattle.std.proofs.lemmas.List.{take_rest}
use mathlib.Core.Path.{◌≡◌, refl, sym, ◌∙◌, ap}
use mathlib.Core.Bool.{true}
use mathlib.Core.Option.{some}
use mathlib.Core.List.{List, ◌++◌}
use Prim.Native.Nat.{ℕ, ◌+◌, ◌-◌, ◌*◌, ◌≤◌}
use native.Mathlib.Omega.{arith}
use lib.ListN.{length, take, drop, length-append, length-drop}
use lib.Seq.{take-take, drop-drop, drop_at, drop-append-le, take-append-le, length-take-le, length_front}
use lib.Ieee.{Float}
use borrow.Rule.Slice.PartMut.{put_mid, take_put, same_len_mid}
use Rattle.model.specs.Bytes.{part}
use Rattle.model.specs.Sizes.{float_section, word_section, float_area, word_area}
use Rattle.model.specs.Receiver as Model
use Rattle.model.specs.Questions.{total_allowed}
use Rattle.model.specs.Step.{waterfall_into}
use Rattle.model.proofs.ListLaws.{alike_shorter}
use Rattle.calls.specs.declared.Side.{Side}
use Rattle.calls.specs.declared.Side.TheVariants.{A, B}
use Rattle.calls.specs.Views.{sizes_of}
use Rattle.reassembler.specs.Rows.{completed_of, CompletedInside}
use Rattle.channel.specs.declared.Channel.{Channel}
use Rattle.reassembler.specs.declared.Pushed.{Pushed}
use Rattle.channel.specs.View.{row_at, channel_in, Inside}
use Rattle.channel.specs.Promises.{RowReady, RowTaken}
use Rattle.channel.proofs.Sections.{alike_part, float_section_is, channel_reads}
use Rattle.receiver_state.specs.declared.Receiver.{Receiver}
use Rattle.receiver_state.specs.View.{float_start, word_start, row_place, channel_at}
use Rattle.receiver_state.specs.Fields.{channel_set}
use Rattle.receiver_state.specs.Promises.{SidesReady, RowsTaken}
use Rattle.receiver_state.proofs.StateQuestions.{float_area_is, word_area_is, float_start_few, word_start_few}
use Rattle.receiver_state.proofs.SideCalls.{other_side, channel_on, side_step, channel_uncounted}
use Rattle.receiver_state.proofs.Lending.{end_put, end_stays, words_inside}

module _ (r : Receiver) (fs : List Float) (us payload : List ℕ) (ready : SidesReady r fs us) (total : total_allowed (sizes_of r.sizes) payload ≡ true)
    (sections work : List Float) (sections_are : sections ≡ take (2 * float_section (sizes_of r.sizes)) fs) (work_is : work ≡ drop (2 * float_section (sizes_of r.sizes)) fs) where
  -- where the work section begins in the area
  abbrev twice : ℕ
  twice = 2 * float_section (sizes_of r.sizes)

  area_inside : twice + r.sizes.bins ≤ length fs
  area_inside = omega (arith, float_area_is (sizes_of r.sizes), ready.floats)

  sections_long : length sections ≡ twice
  sections_long = rw sections_are (length-take-le twice fs (omega (arith, area_inside)))

  sections_alike : take twice sections ≡ take twice fs
  sections_alike = rw sections_are (take-take twice twice fs (omega arith))

  work_long : length work ≡ length fs - twice
  work_long = rw work_is (length-drop twice fs)

  pub work_bins : r.sizes.bins ≡ length (take r.sizes.bins work)
  work_bins = sym (length-take-le r.sizes.bins work (omega (arith, work_long, area_inside)))

  module _ (side : Side) where
    abbrev f : ℕ
    f = float_start (sizes_of r.sizes) side

    abbrev w : ℕ
    w = word_start (sizes_of r.sizes) side

    start_few : f ≤ float_section (sizes_of r.sizes)
    start_few = float_start_few (sizes_of r.sizes) side

    start_inside : f ≤ length sections
    start_inside = omega (arith, sections_long, start_few)

    abbrev lent : List Float
    lent = take (length sections - f) (drop f sections)

    abbrev lent_words : List ℕ
    lent_words = take (length us - w) (drop w us)

    lent_is : lent ≡ drop f sections
    lent_is = take_rest sections f

    lent_length : length lent ≡ length sections - f
    lent_length = rw lent_is (length-drop f sections)

    words_lent : lent_words ≡ drop w us
    words_lent = take_rest us w

    -- the channel is read from what is lent
    channel_lent : channel_in r.sizes (channel_at side r) lent lent_words ≡ channel_on side r fs us
    channel_lent =
        channel_reads r.sizes (channel_at side r) (ready.inside side) lent (drop f fs) lent_words (drop w us)
        (ap (take (float_section (sizes_of r.sizes))) lent_is
        ∙ alike_part twice f (float_section (sizes_of r.sizes)) sections fs (omega (arith, start_few)) sections_alike) (ap (take (word_section (sizes_of r.sizes))) words_lent)

    pub row_ready : RowReady r.sizes (channel_at side r) lent lent_words (length (take r.sizes.bins work)) payload
    row_ready =
        record {
          floats = omega (arith, lent_length, sections_long, start_few);
          words = rw words_lent (simp length-drop (omega (arith, word_start_few (sizes_of r.sizes) side, word_area_is (sizes_of r.sizes), ready.words)));
          inside = ready.inside side;
          total = total;
          room = omega (arith, work_bins);
        }

    -- ---- put back

    module _ (shown : Pushed Channel) (ys : List Float) (vs : List ℕ) (sorted : List Float) (h : RowTaken r.sizes (channel_at side r) lent lent_words payload shown ys vs)
        (as_long : length sorted ≡ length (take r.sizes.bins work)) where
      abbrev sections_put : List Float
      sections_put = put_mid f (length sections - f) sections ys

      abbrev work_put : List Float
      work_put = sorted ++ drop r.sizes.bins work

      abbrev pub rows_put : List Float
      rows_put = sections_put ++ work_put

      abbrev pub words_back : List ℕ
      words_back = put_mid w (length us - w) us vs

      ys_length : length ys ≡ twice - f
      ys_length = omega (arith, h.float_length, lent_length, sections_long)

      sections_put_long : length sections_put ≡ twice
      sections_put_long = same_len_mid f (length sections - f) sections ys h.float_length ∙ sections_long

      -- what was put back begins with what was left, and so does the channel's section
      rows_from : drop f rows_put ≡ ys ++ work_put
      rows_from =
          drop-append-le f sections_put work_put (omega (arith, sections_put_long, start_few))
          ∙ ap (λ (l : List Float). l ++ work_put) (end_put f sections ys start_inside)

      section_put : take (float_section (sizes_of r.sizes)) (drop f rows_put) ≡ take (float_section (sizes_of r.sizes)) ys
      section_put = ap (take (float_section (sizes_of r.sizes))) rows_from ∙ take-append-le (float_section (sizes_of r.sizes)) ys work_put (omega (arith, ys_length, start_few))

      rows_as_long : length rows_put ≡ length fs
      rows_as_long =
          rw (length-append sections_put work_put) (omega (arith, sections_put_long, length_front work sorted r.sizes.bins as_long, work_long, area_inside))

      floats_behind : drop (float_area (sizes_of r.sizes)) rows_put ≡ drop (float_area (sizes_of r.sizes)) fs
      floats_behind =
          let e : float_area (sizes_of r.sizes) ≡ twice + r.sizes.bins = omega (arith, float_area_is (sizes_of r.sizes)) in
          rw e
          (sym (drop-drop r.sizes.bins twice rows_put)
          ∙ ap (drop r.sizes.bins) (drop_at sections_put work_put twice sections_put_long)
          ∙ drop_at sorted (drop r.sizes.bins work) r.sizes.bins (as_long ∙ sym work_bins)
          ∙ ap (drop r.sizes.bins) work_is
          ∙ drop-drop r.sizes.bins twice fs)

      words_put_law : drop w words_back ≡ vs
      words_put_law = end_put w us vs (words_inside r fs us ready side)

      channel_inside : Inside r.sizes shown.state
      channel_inside =
          let before = ready.inside side in
          record { waiting = rw h.buffer before.waiting; queue = rw h.buffer before.queue; screen = h.shown }

      channel_put : channel_in r.sizes shown.state ys vs ≡ channel_in r.sizes shown.state (drop f rows_put) (drop w words_back)
      channel_put =
          channel_reads r.sizes shown.state channel_inside ys (drop f rows_put) vs (drop w words_back) (sym section_put) (ap (take (word_section (sizes_of r.sizes))) (sym words_put_law))

      -- the completed row stands at its place
      completed_put : (x : Option ℕ) → CompletedInside x r.sizes.bins → completed_of x (drop (row_at (sizes_of r.sizes)) ys) ≡ completed_of x (drop (row_place (sizes_of r.sizes) side) rows_put)
      completed_put None inside = refl
      completed_put (Some n) inside =
          ap some
          (alike_part (float_section (sizes_of r.sizes)) (row_at (sizes_of r.sizes)) n ys (drop f rows_put) (omega (arith, float_section_is (sizes_of r.sizes), inside.1)) (sym section_put)
          ∙ ap (take n) (drop-drop (row_at (sizes_of r.sizes)) f rows_put))

  -- ---- the other channel

  rows_other : (side : Side) (shown : Pushed Channel) (ys : List Float) (vs : List ℕ) (sorted : List Float) (h : RowTaken r.sizes (channel_at side r) (lent side) (lent_words side) payload shown ys vs)
      (as_long : length sorted ≡ length (take r.sizes.bins work))
      → channel_on (other_side side) r fs us ≡ channel_on (other_side side) r (rows_put side shown ys vs sorted h as_long) (words_back side shown ys vs sorted h as_long)
  rows_other A shown ys vs sorted h as_long =
      let F = float_section (sizes_of r.sizes) in
      let W = word_section (sizes_of r.sizes) in
      let rows = rows_put A shown ys vs sorted h as_long in
      let back = work_put A shown ys vs sorted h as_long in
      let before : part F F (lent A) ≡ part F F fs = ap (part F F) (lent_is A) ∙ alike_part twice F F sections fs (omega arith) sections_alike in
      let size : length (drop F ys) ≡ F = simp length-drop (omega (arith, ys_length A shown ys vs sorted h as_long)) in
      let after : part F F rows ≡ take F (drop F ys) =
      ap (part F F) (rows_from A shown ys vs sorted h as_long)
      ∙ ap (take F) (drop-append-le F ys back (omega (arith, ys_length A shown ys vs sorted h as_long)))
      ∙ take-append-le F (drop F ys) back (omega (arith, size)) in
      let words : drop W us ≡ drop W (words_back A shown ys vs sorted h as_long) =
      sym (ap (drop W) (words_put_law A shown ys vs sorted h as_long) ∙ h.words ∙ ap (drop W) (words_lent A)) in
      channel_reads r.sizes r.b (ready.inside B) (drop F fs) (drop F rows) (drop W us) (drop W (words_back A shown ys vs sorted h as_long))
      (sym (after ∙ ap (take F) h.floats ∙ before)) (ap (take W) words)
  rows_other B shown ys vs sorted h as_long =
      let F = float_section (sizes_of r.sizes) in
      let W = word_section (sizes_of r.sizes) in
      channel_reads r.sizes r.a (ready.inside A) fs (rows_put B shown ys vs sorted h as_long) us (words_back B shown ys vs sorted h as_long)
      (sym
      (take-append-le F (sections_put B shown ys vs sorted h as_long) _ (omega (arith, sections_put_long B shown ys vs sorted h as_long))
      ∙ take_put F (length sections - F) sections ys (start_inside B)
      ∙ alike_shorter F twice sections fs (omega arith) sections_alike))
      (sym (take_put W (length us - W) us vs (words_inside r fs us ready B)))

  -- ---- the payload's promise

  pub rows_taken : (side : Side) (shown : Pushed Channel) (ys : List Float) (vs : List ℕ) (sorted : List Float) (h : RowTaken r.sizes (channel_at side r) (lent side) (lent_words side) payload shown ys vs)
      (as_long : length sorted ≡ length (take r.sizes.bins work))
      → RowsTaken side r fs us payload (record { state = channel_set side shown.state r; completed = shown.completed })
      (rows_put side shown ys vs sorted h as_long) (words_back side shown ys vs sorted h as_long)
  rows_taken side shown ys vs sorted h as_long =
      let z = sizes_of r.sizes in
      let put = rows_put side shown ys vs sorted h as_long in
      let back = words_back side shown ys vs sorted h as_long in
      let answer = completed_put side shown ys vs sorted h as_long shown.completed h.completed in
      record {
        shown = record {
          taken =
              side_step side (waterfall_into z payload) r shown.state fs put us back (Model.row (completed_of shown.completed (drop (row_place z side) put)))
              (ap (waterfall_into z payload) (sym (channel_lent side)) ∙ h.step ∙ rw (← answer, channel_put side shown ys vs sorted h as_long))
              (rows_other side shown ys vs sorted h as_long);
          areas = record {
            float_length = rows_as_long side shown ys vs sorted h as_long;
            word_length = same_len_mid (word_start z side) (length us - word_start z side) us vs h.word_length;
            float_end = floats_behind side shown ys vs sorted h as_long;
            word_end =
                end_stays (word_start z side) (word_section z) (word_area z) us vs (words_inside r fs us ready side)
                (omega (arith, word_start_few z side, word_area_is z)) (h.words ∙ ap (drop (word_section z)) (words_lent side));
          };
          uncounted = channel_uncounted side shown.state r;
        };
        completed = h.completed;
      }
