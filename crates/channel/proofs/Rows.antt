-- A waterfall payload of a channel: its rows are lent from the row on, its picture by itself, and both are put back. Assumes nothing.
use mathlib.Core.Path.{◌≡◌, refl, sym, ◌∙◌, ap}
use mathlib.Core.Bool.{true}
use mathlib.Core.List.{List, ◌++◌, append-nil}
use Prim.Native.Nat.{ℕ, ◌+◌, ◌-◌, ◌*◌, ◌≤◌}
use native.Mathlib.Omega.{arith}
use lib.ListN.{length, take, drop, length-take, length-drop}
use lib.Seq.{take_at, drop_at, drop-length, drop-drop, length-take-le}
use lib.Ieee.{Float}
use borrow.Rule.Slice.PartMut.{put_mid, post_of, take_put, drop_put, same_len_mid}
use Rattle.std.proofs.lemmas.List.{take_rest}
use Rattle.model.specs.Bytes.{part}
use Rattle.model.specs.Sizes.{sizes_allowed, most_waiting, float_section, word_section}
use Rattle.model.specs.Receiver as Receiver
use Rattle.model.specs.Step.{waterfall_into}
use Rattle.calls.specs.declared.Sizes.{Sizes}
use Rattle.calls.specs.Views.{sizes_of}
use Rattle.sizes.specs.declared.Offsets.{Offsets}
use Rattle.sizes.specs.View.{offsets_of}
use Rattle.jitter_buffer.specs.View.{view_of}
use Rattle.udp_packets.specs.declared.Screen.{Screen}
use Rattle.reassembler.specs.declared.Pushed.{Pushed}
use Rattle.reassembler.specs.Rows.{completed_of}
use Rattle.udp_packets.specs.Packets.{channel_of, ScreenReady, WaterfallHandled}
use Rattle.channel.specs.declared.Channel.{Channel}
use Rattle.channel.specs.View.{row_at, channel_in}
use Rattle.channel.specs.Promises.{RowReady, RowTaken}
use Rattle.channel.proofs.Sections.{buffer_reads, float_section_is, word_section_is}

module _ {z : Sizes} {c : Channel} {fs : List Float} {us payload : List ℕ} {work : ℕ} (one : sizes_allowed (sizes_of z) ≡ true) (asked : RowReady z c fs us work payload)
    {o : Offsets} (offsets : o ≡ offsets_of (sizes_of z)) where
  abbrev row : ℕ
  row = o.row

  row_is : row ≡ row_at (sizes_of z)
  row_is = ap (λ (x : Offsets). x.row) offsets

  abbrev picture : ℕ
  picture = o.picture

  picture_is : picture ≡ most_waiting (sizes_of z)
  picture_is = ap (λ (x : Offsets). x.picture) offsets

  -- ---- numbers

  row_inside : row + 3 * z.bins ≤ length fs
  row_inside = omega (arith, row_is, float_section_is (sizes_of z), asked.floats)

  picture_inside : picture + z.width * z.height ≤ length us
  picture_inside = omega (arith, picture_is, word_section_is (sizes_of z), asked.words)

  -- ---- what is lent

  abbrev rows : List Float
  rows = take (length fs - row) (drop row fs)

  abbrev pixels : List ℕ
  pixels = take (picture + z.width * z.height - picture) (drop picture us)

  rows_are : rows ≡ drop row fs
  rows_are = take_rest fs row

  rows_long : length rows ≡ length fs - row
  rows_long = rw rows_are (length-drop row fs)

  pixels_are : pixels ≡ part picture (z.width * z.height) us
  pixels_are = let same : picture + z.width * z.height - picture ≡ z.width * z.height = omega arith in ap (λ (n : ℕ). take n (drop picture us)) same

  pixels_long : length pixels ≡ z.width * z.height
  pixels_long = simp (length-take, length-drop) (omega (arith, picture_inside))

  pub screen_ready : ScreenReady z c.screen (length rows) work (length pixels)
  screen_ready =
      record {
        allowed = one;
        held = asked.inside.screen;
        fits = omega (arith, rows_long, row_inside);
        room = asked.room;
        whole = pixels_long;
      }

  -- ---- what was left, put back

  module _ (h : Pushed Screen) (rows' : List Float) (pixels' : List ℕ) (handled : WaterfallHandled z c.screen rows pixels payload h rows' pixels') where
    abbrev fs' : List Float
    fs' = put_mid row (length fs - row) fs rows'

    abbrev us' : List ℕ
    us' = put_mid picture (picture + z.width * z.height - picture) us pixels'

    front_stays : take row fs' ≡ take row fs
    front_stays = take_put row (length fs - row) fs rows' (omega (arith, row_inside))

    rows_put_law : drop row fs' ≡ rows'
    rows_put_law =
        drop_at (take row fs) (rows' ++ post_of row (length fs - row) fs) row (length-take-le row fs (omega (arith, row_inside)))
        ∙ ap (λ (l : List Float). rows' ++ l) (ap (λ (n : ℕ). drop n (drop row fs)) (sym (length-drop row fs)) ∙ drop-length (drop row fs))
        ∙ append-nil rows'

    sequences_stay : take picture us' ≡ take picture us
    sequences_stay = take_put picture (picture + z.width * z.height - picture) us pixels' (omega (arith, picture_inside))

    pixels_long' : length pixels' ≡ z.width * z.height
    pixels_long' = handled.picture_as_long ∙ pixels_long

    pixels_put : part picture (z.width * z.height) us' ≡ pixels'
    pixels_put =
        ap (take (z.width * z.height)) (drop_at (take picture us) (pixels' ++ post_of picture (picture + z.width * z.height - picture) us) picture (length-take-le picture us (omega (arith, picture_inside))))
        ∙ take_at pixels' (post_of picture (picture + z.width * z.height - picture) us) (z.width * z.height) pixels_long'

    buffer_stays : view_of z c.jitter fs us ≡ view_of z c.jitter fs' us'
    buffer_stays =
        buffer_reads z c.jitter asked.inside.waiting (omega (arith, asked.inside.queue)) fs fs' us us' (rw (← row_is) (sym front_stays)) (rw (← picture_is) (sym sequences_stay))

    floats_stay : drop (float_section (sizes_of z)) fs' ≡ drop (float_section (sizes_of z)) fs
    floats_stay =
        let at : float_section (sizes_of z) ≡ row + 3 * z.bins = omega (arith, row_is, float_section_is (sizes_of z)) in
        rw at
        (sym (drop-drop (3 * z.bins) row fs')
        ∙ ap (drop (3 * z.bins)) rows_put_law
        ∙ handled.behind
        ∙ ap (drop (3 * z.bins)) rows_are
        ∙ drop-drop (3 * z.bins) row fs)

    words_stay : drop (word_section (sizes_of z)) us' ≡ drop (word_section (sizes_of z)) us
    words_stay =
        let at : word_section (sizes_of z) ≡ picture + z.width * z.height = omega (arith, picture_is, word_section_is (sizes_of z)) in
        rw at (drop_put picture (picture + z.width * z.height) us pixels' (omega arith) picture_inside (omega (arith, pixels_long')))

    step_taken : waterfall_into (sizes_of z) payload (channel_in z c fs us)
        ≡ record { after = channel_in z (record { jitter = c.jitter; screen = h.state }) fs' us'; answer = Receiver.row (completed_of h.completed (drop (row_at (sizes_of z)) fs')) }
    step_taken =
        rw (← row_is, ← picture_is)
        (ap (waterfall_into (sizes_of z) payload)
        (ap (λ (l : List Float). channel_of z (view_of z c.jitter fs us) c.screen l (part picture (z.width * z.height) us)) (sym rows_are)
        ∙ ap (channel_of z (view_of z c.jitter fs us) c.screen rows) (sym pixels_are))
        ∙ handled.step (view_of z c.jitter fs us)
        ∙ rw (buffer_stays, rows_put_law, pixels_put))

    pub row_taken : RowTaken z c fs us payload (record { state = record { jitter = c.jitter; screen = h.state }; completed = h.completed }) fs' us'
    row_taken =
        record {
          step = step_taken;
          completed = handled.inside;
          buffer = refl;
          shown = handled.held;
          floats = floats_stay;
          words = words_stay;
          float_length = same_len_mid row (length fs - row) fs rows' handled.rows_as_long;
          word_length = same_len_mid picture (picture + z.width * z.height - picture) us pixels' handled.picture_as_long;
        }
