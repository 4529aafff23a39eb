-- A call on a channel's sound: the jitter buffer gets the front of the channel's sections, and what it left is put back in front of the rest. Assumes nothing.
use Rattle.std.proofs.Common.{Option, None, Some}
use mathlib.Core.Path.{◌≡◌, sym, ◌∙◌, ap}
use mathlib.Core.Bool.{true}
use mathlib.Core.Option.{none}
use mathlib.Core.List.{List, ◌++◌}
use Prim.Native.Nat.{ℕ, ◌+◌, ◌-◌, ◌*◌, ◌^◌, ◌≤◌, ◌<◌}
use native.Mathlib.Omega.{arith}
use lib.ListN.{length, take, drop, length-append, length-drop, length-take}
use lib.Seq.{take_at, drop_at, take_all, length-take-le}
use lib.Ieee.{Float}
use Rattle.model.specs.Floats.{f0}
use Rattle.model.specs.Sizes.{sizes_allowed, most_waiting}
use Rattle.model.specs.JitterBuffer.{Buffer, Played, play}
use Rattle.model.specs.Receiver as Receiver
use Rattle.model.specs.Receiver.{played}
use Rattle.model.specs.Questions.{most_calls, most_added, buffer_held, channel_held}
use Rattle.model.specs.Step.{ChannelResult, with_buffer, play_channel, audio_into}
use Rattle.model.proofs.BoolLaws.{first_of_both}
use Rattle.model.proofs.SizeLaws.{allowed}
use Rattle.model.proofs.BufferKept.{Kept}
use Rattle.model.proofs.Play.{play_keeps}
use Rattle.model.proofs.HeldKept.{RowShaped, ChannelShaped, channel_kept}
use Rattle.model.proofs.ChannelKept.{ChannelKept, audio_acts}
use Rattle.calls.specs.declared.Sizes.{Sizes}
use Rattle.sizes.specs.declared.Offsets.{Offsets}
use Rattle.sizes.specs.View.{offsets_of}
use Rattle.calls.specs.Views.{sizes_of, model_played}
use Rattle.model.proofs.PlacedLaws.{part_length}
use Rattle.jitter_buffer.specs.declared.JitterBuffer.{JitterBuffer}
use Rattle.jitter_pop.specs.declared.Popped.{Popped}
use Rattle.jitter_buffer.specs.View.{view_of}
use Rattle.jitter_buffer.specs.Promises as Jitter
use Rattle.jitter_buffer.specs.Promises.{AsLong}
use Rattle.jitter_pop.specs.Promises.{PopDone}
use Rattle.jitter_buffer.proofs.HeldKept.{WordsFit, view_shaped}
use Rattle.jitter_buffer.proofs.Places.{packets_length}
use Rattle.udp_packets.specs.declared.Screen.{Screen}
use Rattle.reassembler.specs.declared.OpenRow.{OpenRow}
use Rattle.reassembler.specs.Rows.{row_of}
use Rattle.udp_packets.specs.Packets.{AudioHandled}
use Rattle.channel.specs.declared.Channel.{Channel}
use Rattle.channel.specs.View.{row_at, channel_in}
use Rattle.channel.specs.Promises.{Ready, BehindKept, AudioTaken, ChannelPlayed}
use Rattle.channel.proofs.Sections.{buffer_reads, float_section_is, word_section_is}
use Rattle.channel.proofs.Asking.{few_waiting, short_queue}

-- a row that fits its section has its values there
pub row_shaped : (z : Sizes) (s : Screen) (rows : List Float) → z.bins ≤ length rows → RowShaped (sizes_of z) (row_of s.row rows)
row_shaped z s rows long = shaped s.row
  where
    shaped : (r : Option OpenRow) → RowShaped (sizes_of z) (row_of r rows)
    shaped None = tt
    shaped (Some r) = λ fits. length-take-le r.total_bins rows (omega arith)

module _ {z : Sizes} {c : Channel} {fs : List Float} {us : List ℕ} (ready : Ready z c fs us)
    {o : Offsets} (offsets : o ≡ offsets_of (sizes_of z)) where
  abbrev row : ℕ
  row = o.row

  row_is : row ≡ row_at (sizes_of z)
  row_is = ap (λ (x : Offsets). x.row) offsets

  abbrev most : ℕ
  most = o.picture

  most-is : most ≡ most_waiting (sizes_of z)
  most-is = ap (λ (x : Offsets). x.picture) offsets

  row_inside : row ≤ length fs
  row_inside = omega (arith, ready.floats, float_section_is (sizes_of z), row_is)

  most_inside : most ≤ length us
  most_inside = omega (arith, ready.words, word_section_is (sizes_of z), most-is)

  row_taken : length (take row fs) ≡ row
  row_taken = length-take-le row fs row_inside

  most_taken : length (take most us) ≡ most
  most_taken = length-take-le most us most_inside

  module _ (one : sizes_allowed (sizes_of z) ≡ true) (words : WordsFit us) where
    buffer_held_law : buffer_held (sizes_of z) (most_calls * most_added) (view_of z c.jitter fs us) ≡ true
    unfolding channel_held
    buffer_held_law = first_of_both (buffer_held (sizes_of z) (most_calls * most_added) (view_of z c.jitter fs us)) _ ready.held

    front_alike : take (row_at (sizes_of z)) (take row fs) ≡ take (row_at (sizes_of z)) fs
    front_alike = rw (← row_is) (take_all row (take row fs) (omega (arith, row_taken)))

    words_alike : take (most_waiting (sizes_of z)) (take most us) ≡ take (most_waiting (sizes_of z)) us
    words_alike = rw (← most-is) (take_all most (take most us) (omega (arith, most_taken)))

    view_lent : view_of z c.jitter (take row fs) (take most us) ≡ view_of z c.jitter fs us
    view_lent =
        buffer_reads z c.jitter (few_waiting z c.jitter fs us (most_calls * most_added) buffer_held_law)
        (omega (arith, short_queue z c.jitter fs us (most_calls * most_added) buffer_held_law (omega (arith, row_inside, row_is))))
        (take row fs) fs (take most us) us front_alike words_alike

    pub lent_ready : Jitter.Ready z c.jitter (take row fs) (take most us)
    lent_ready =
        record {
          allowed = one;
          held = rw view_lent buffer_held_law;
          lent = record { floats = omega (arith, row_taken, row_is); words = omega (arith, most_taken, most-is) };
        }

    -- ---- what was left, put back

    module _ (j : JitterBuffer) (front : List Float) (sequences : List ℕ) (as_long : AsLong (take row fs) (take most us) front sequences) where
      front_long : length front ≡ row
      front_long = as_long.floats ∙ row_taken

      sequences_long : length sequences ≡ most
      sequences_long = as_long.words ∙ most_taken

      pub put_behind : BehindKept z fs us (front ++ drop row fs) (sequences ++ drop most us)
      put_behind =
          record {
            floats = rw (← row_is) (drop_at front (drop row fs) row front_long);
            words = rw (← most-is) (drop_at sequences (drop most us) most sequences_long);
            float_length = simp (length-append, length-drop) (omega (arith, front_long, row_inside));
            word_length = simp (length-append, length-drop) (omega (arith, sequences_long, most_inside));
          }

      module _ (kept : Kept (sizes_of z) (view_of z j front sequences)) where
        queue_inside : j.playout_len ≤ z.target + z.packet
        queue_inside =
            let shown = simp (length-take, length-drop) at kept.loose.queue in
            omega (arith, shown, front_long, row_is)

        pub view_put : view_of z j front sequences ≡ view_of z j (front ++ drop row fs) (sequences ++ drop most us)
        view_put =
            buffer_reads z j (omega (arith, kept.waiting, packets_length z.packet 0 (j.pending_len - 0) front sequences)) queue_inside
            front (front ++ drop row fs) sequences (sequences ++ drop most us)
            (rw (← row_is) (take_all row front (omega (arith, front_long)) ∙ sym (take_at front (drop row fs) row front_long)))
            (rw (← most-is) (take_all most sequences (omega (arith, sequences_long)) ∙ sym (take_at sequences (drop most us) most sequences_long)))

        -- the channel with that buffer
        pub channel_put : with_buffer (view_of z j front sequences) (channel_in z c fs us)
            ≡ channel_in z (record { jitter = j; screen = c.screen }) (front ++ drop row fs) (sequences ++ drop most us)
        unfolding with_buffer
        channel_put = rw (view_put, ← put_behind.floats, ← put_behind.words)

    -- ---- the calls

    channel_shaped : ChannelShaped (sizes_of z) (channel_in z c fs us)
    channel_shaped =
        record {
          buffer = view_shaped z c.jitter fs us ready.next words (omega (arith, row_inside, row_is));
          row = row_shaped z c.screen (drop (row_at (sizes_of z)) fs) (simp length-drop (omega (arith, ready.floats, float_section_is (sizes_of z))));
          picture = part_length (most_waiting (sizes_of z)) (z.width * z.height) us (omega (arith, ready.words, word_section_is (sizes_of z)));
        }

    pub ready_kept : ChannelKept (sizes_of z) (channel_in z c fs us)
    ready_kept = (channel_kept (sizes_of z) (most_calls * most_added) (channel_in z c fs us) channel_shaped ready.held).kept

    lent_is : with_buffer (view_of z c.jitter (take row fs) (take most us)) (channel_in z c fs us) ≡ channel_in z c fs us
    unfolding with_buffer
    lent_is = rw view_lent

    pub audio_taken : (s : ℕ) (payload : List ℕ) (j : JitterBuffer) (front : List Float) (sequences : List ℕ) → s < 2 ^ 32
        → AudioHandled z c.jitter (take row fs) (take most us) s payload j front sequences
        → AudioTaken z c fs us s payload (record { jitter = j; screen = c.screen }) (front ++ drop row fs) (sequences ++ drop most us)
    unfolding with_buffer
    audio_taken s payload j front sequences fits h =
        let step : audio_into (sizes_of z) s payload (channel_in z c fs us) ≡ record { after = with_buffer (view_of z j front sequences) (channel_in z c fs us); answer = Receiver.row none } =
        rw lent_is at (h.step (channel_in z c fs us)) in
        let acts = audio_acts (sizes_of z) s payload (channel_in z c fs us) (allowed (sizes_of z) one) fits ready_kept in
        let kept : Kept (sizes_of z) (view_of z j front sequences) = (rw step at acts.kept).buffer in
        record {
          step = step ∙ rw (channel_put j front sequences h.lent kept);
          behind = put_behind j front sequences h.lent;
        }

    pub channel_played : (out : List Float) (p : Popped) (front : List Float) (sequences : List ℕ) (out' : List Float)
        → PopDone z c.jitter (take row fs) (take most us) out p front sequences out'
        → ChannelPlayed z c fs us out (record { channel = record { jitter = p.buffer; screen = c.screen }; samples = p.played })
        (front ++ drop row fs) (sequences ++ drop most us) out'
    unfolding play_channel
    channel_played out p front sequences out' h =
        let before : view_of z c.jitter (take row fs) (take most us) ≡ (channel_in z c fs us).buffer = view_lent in
        let kept : Kept (sizes_of z) (view_of z p.buffer front sequences) =
        rw (h.played.view, before) (play_keeps f0 (sizes_of z) (length out) (channel_in z c fs us).buffer (allowed (sizes_of z) one) ready_kept.buffer) in
        let lent = play f0 (sizes_of z) (length out) (view_of z c.jitter (take row fs) (take most us)) in
        let answer_is : lent.answer ≡ model_played p.played out' =
        rw (h.played.samples, h.played.took, h.played.drops, h.played.lacks) in
        record {
          step =
              ap (λ (b : Buffer Float). left (play f0 (sizes_of z) (length out) b).after (play f0 (sizes_of z) (length out) b).answer) (sym before)
              ∙ ap (λ (b : Buffer Float). left b lent.answer) (sym h.played.view)
              ∙ ap (left (view_of z p.buffer front sequences)) answer_is
              ∙ ap (λ (x : Receiver.Channel). record { after = x; answer = played (model_played p.played out') }) (channel_put p.buffer front sequences h.lent kept);
          behind = put_behind p.buffer front sequences h.lent;
        }
      where
        left : Buffer Float → Played Float → ChannelResult
        left b a = record { after = with_buffer b (channel_in z c fs us); answer = played a }
