-- Question 3 of a channel, asked of its numbers and its waiting sequences, is the model's question of the channel that they and the areas hold. Assumes nothing.
use mathlib.Core.Path.{◌≡◌, refl, sym, ◌∙◌, ap}
use mathlib.Core.Bool.{Bool, true, false, and-eq-true_iff}
use mathlib.Core.List.{List}
use Prim.Native.Nat.{ℕ, ◌+◌, ◌-◌, ◌*◌, ◌≤◌, ◌<◌}
use native.Mathlib.Omega.{arith}
use lib.ListN.{length, take, drop, length-take, length-drop, replicate, length-replicate}
use lib.Seq.{take-take, length-take-le}
use lib.Dec.{leb, ltb}
use lib.Ieee.{Float}
use borrow.Author.Tests.{leb-true, leb-false, ltb-true, eq-eqb}
use Rattle.model.specs.Bytes.{part}
use Rattle.model.specs.Floats.{f0}
use Rattle.model.specs.Sizes.{sizes_allowed, most_waiting, float_section, word_section}
use Rattle.model.specs.Questions.{most_calls, sequences, strictly_rising, buffer_held, channel_held}
use Rattle.model.proofs.BoolLaws.{by_test}
use Rattle.model.proofs.SizeLaws.{allowed}
use Rattle.calls.specs.declared.Sizes.{Sizes}
use Rattle.calls.specs.Views.{sizes_of}
use Rattle.jitter_buffer.specs.declared.JitterBuffer.{JitterBuffer}
use Rattle.jitter_buffer.specs.View.{view_of}
use Rattle.jitter_asking.specs.Promises.{HeldAsked, HeldTold}
use Rattle.jitter_buffer.proofs.Places.{packets_length}
use Rattle.udp_packets.specs.Packets.{screen_asked}
use Rattle.udp_packets.proofs.Asked.{screen_asked_is}
use Rattle.channel.specs.declared.Channel.{Channel}
use Rattle.channel.specs.View.{row_at}
use Rattle.channel.specs.Promises.{ChannelAsked}
use Rattle.channel.proofs.Sections.{buffer_reads, float_section_is, word_section_is}

-- ---- the numbers of a held buffer

module _ (z : Sizes) (j : JitterBuffer) (fs : List Float) (us : List ℕ) (limit : ℕ) (held : buffer_held (sizes_of z) limit (view_of z j fs us) ≡ true) where
  waiting_asked : length (view_of z j fs us).waiting ≤ most_waiting (sizes_of z)
  unfolding buffer_held
  waiting_asked = leb-true _ _ ((and-eq-true_iff (leb (length (view_of z j fs us).waiting) (most_waiting (sizes_of z))) _).0 held).0

  queue_asked : length (view_of z j fs us).queue < z.target + z.packet
  unfolding buffer_held
  queue_asked =
      let w = (and-eq-true_iff (leb (length (view_of z j fs us).waiting) (most_waiting (sizes_of z))) _).0 held in
      let r = (and-eq-true_iff (strictly_rising (sequences (view_of z j fs us).waiting)) _).0 w.1 in
      ltb-true _ _ ((and-eq-true_iff (ltb (length (view_of z j fs us).queue) (z.target + z.packet)) _).0 r.1).0

  pub few_waiting : j.pending_len ≤ most_waiting (sizes_of z)
  few_waiting = omega (arith, waiting_asked, packets_length z.packet 0 (j.pending_len - 0) fs us)

  -- a queue that is too long would show in a list that holds the longest
  pub short_queue : row_at (sizes_of z) ≤ length fs → j.playout_len < z.target + z.packet
  short_queue long =
      let shown = simp (length-take, length-drop) at queue_asked in
      omega (arith, shown, long)

-- ---- the words behind the section do not count

module _ (z : Sizes) (j : JitterBuffer) (fs : List Float) (us : List ℕ) (limit : ℕ) where
  too_many : (ws : List ℕ) → leb (j.pending_len - 0) (most_waiting (sizes_of z)) ≡ false → buffer_held (sizes_of z) limit (view_of z j fs ws) ≡ false
  unfolding buffer_held
  too_many ws many = rw (packets_length z.packet 0 (j.pending_len - 0) fs ws, many)

  pub words_reads : row_at (sizes_of z) ≤ length fs
      → buffer_held (sizes_of z) limit (view_of z j fs (take (most_waiting (sizes_of z)) us)) ≡ buffer_held (sizes_of z) limit (view_of z j fs us)
  words_reads long =
      by_test (leb (j.pending_len - 0) (most_waiting (sizes_of z)))
      (λ few.
      by_test (leb j.playout_len (z.target + z.packet))
      (λ short.
      ap (buffer_held (sizes_of z) limit)
      (buffer_reads z j (omega (arith, leb-true (j.pending_len - 0) (most_waiting (sizes_of z)) few)) (leb-true _ _ short) fs fs (take (most_waiting (sizes_of z)) us) us refl
      (take-take (most_waiting (sizes_of z)) (most_waiting (sizes_of z)) us (omega arith))))
      (λ over.
      too_long_law (take (most_waiting (sizes_of z)) us) long (leb-false _ _ over) ∙ sym (too_long_law us long (leb-false _ _ over))))
      (λ many. too_many (take (most_waiting (sizes_of z)) us) many ∙ sym (too_many us many))
    where
      too_long_law : (ws : List ℕ) → row_at (sizes_of z) ≤ length fs → z.target + z.packet < j.playout_len → buffer_held (sizes_of z) limit (view_of z j fs ws) ≡ false
      too_long_law ws long over =
          by_test (buffer_held (sizes_of z) limit (view_of z j fs ws))
          (λ yes. absurd (omega (arith, short_queue z j fs ws limit yes long)))
          (λ no. no)

-- ---- the answers

module _ (z : Sizes) (c : Channel) (us : List ℕ) (calls : ℕ) (allowed-sizes : sizes_allowed (sizes_of z) ≡ true)
    (words : word_section (sizes_of z) ≤ length us) where
  -- what the jitter buffer's answer says
  buffer_asked : (r : Bool) (fs : List Float) → row_at (sizes_of z) ≤ length fs → HeldAsked z c.jitter fs (take (most_waiting (sizes_of z)) us) calls r
      → r ≡ buffer_held (sizes_of z) (calls * most_calls) (view_of z c.jitter fs us)
  buffer_asked r fs long asked =
      let most : most_waiting (sizes_of z) ≡ length (take (most_waiting (sizes_of z)) us) = sym (length-take-le (most_waiting (sizes_of z)) us (omega (arith, words, word_section_is (sizes_of z)))) in
      rw (allowed-sizes, eq-eqb _ _ most, words_reads z c.jitter fs us (calls * most_calls) long) at (asked long)

  pub buffer_refused : HeldTold z c.jitter (take (most_waiting (sizes_of z)) us) calls false → ChannelAsked z c us calls false
  unfolding channel_held
  buffer_refused told =
      record {
        asked = λ fs long.
            let no = buffer_asked false fs (omega (arith, long, float_section_is (sizes_of z))) (told.asked fs) in
            rw (← no);
        inside = λ yes. cc;
        next = λ yes. cc;
      }

  -- floats enough to ask of
  abbrev silence : List Float
  silence = replicate (float_section (sizes_of z) + z.bins) f0

  pub screen_left : HeldTold z c.jitter (take (most_waiting (sizes_of z)) us) calls true → (r : Bool) → r ≡ screen_asked z.bins c.screen
      → ChannelAsked z c us calls r
  unfolding channel_held
  screen_left told r is =
      let some_bins = (allowed (sizes_of z) allowed-sizes).bins in
      let f = float_section_is (sizes_of z) in
      record {
        asked = λ fs long.
            let yes = buffer_asked true fs (omega (arith, long, f)) (told.asked fs) in
            let room : 4 * z.bins ≤ length (drop (row_at (sizes_of z)) fs) = simp length-drop (omega (arith, long, f)) in
            is
            ∙ screen_asked_is z c.screen (view_of z c.jitter fs us) (drop (row_at (sizes_of z)) fs) (part (most_waiting (sizes_of z)) (z.width * z.height) us) some_bins room
            ∙ rw (← yes);
        inside = λ yes.
            let long : float_section (sizes_of z) + z.bins ≤ length silence = omega (arith, length-replicate (float_section (sizes_of z) + z.bins) f0) in
            let held = sym (buffer_asked true silence (omega (arith, long, f)) (told.asked silence)) in
            record {
              waiting = few_waiting z c.jitter silence us (calls * most_calls) held;
              queue = short_queue z c.jitter silence us (calls * most_calls) held (omega (arith, long, f));
              screen = sym is ∙ yes;
            };
        next = λ yes. told.next refl;
      }
