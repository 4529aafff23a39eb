-- A channel whose numbers lie inside its sections is read from these alone: what stands behind them does not show. Assumes nothing.
use mathlib.Core.Path.{◌≡◌, refl, sym, ◌∙◌, ap}
use mathlib.Core.Bool.{true}
use mathlib.Core.List.{List}
use Prim.Native.Nat.{ℕ, ◌+◌, ◌-◌, ◌*◌, ◌≤◌, ◌<◌}
use native.Mathlib.Nat.{zero-add}
use native.Mathlib.Omega.{arith}
use lib.ListN.{take, drop, get_or}
use lib.Seq.{get_or-take}
use lib.Ieee.{Float}
use Rattle.model.specs.Bytes.{part}
use Rattle.model.specs.Sizes as Sizing
use Rattle.model.specs.Sizes.{most_waiting, float_section, word_section}
use Rattle.model.specs.JitterBuffer.{Buffer}
use Rattle.model.proofs.BoolLaws.{first_of_both}
use Rattle.model.proofs.ListLaws.{alike_shorter, alike_behind}
use Rattle.calls.specs.declared.Sizes.{Sizes}
use Rattle.calls.specs.Views.{sizes_of}
use Rattle.sizes.specs.View.{queue_at}
use Rattle.jitter_buffer.specs.declared.JitterBuffer.{JitterBuffer}
use Rattle.jitter_buffer.specs.View.{view_of}
use Rattle.jitter_buffer.proofs.Places.{place_ends, SamePacket, same_packets}
use Rattle.udp_packets.specs.declared.Screen.{Screen}
use Rattle.udp_packets.specs.Packets.{channel_of, screen_asked, row_asked}
use Rattle.udp_packets.proofs.Screens.{row_in_front, asked_lengths}
use Rattle.channel.specs.declared.Channel.{Channel}
use Rattle.channel.specs.View.{row_at, channel_in, Inside}

module _ {ℓ} {A : Type ℓ} where
  -- lists that are alike up to a place are alike in each part before it
  pub alike_part : (n at k : ℕ) (xs ys : List A) → at + k ≤ n → take n xs ≡ take n ys → part at k xs ≡ part at k ys
  alike_part n at k xs ys inside alike = alike_behind at k xs ys (alike_shorter (at + k) n xs ys inside alike)

  pub alike_at : (n i : ℕ) (d : A) (xs ys : List A) → i < n → take n xs ≡ take n ys → get_or xs i d ≡ get_or ys i d
  alike_at n i d xs ys inside alike =
      sym (get_or-take n xs i d inside) ∙ ap (λ (l : List A). get_or l i d) alike ∙ get_or-take n ys i d inside

-- ---- the buffer

module _ (z : Sizes) (j : JitterBuffer) (waiting : j.pending_len ≤ most_waiting (sizes_of z)) (queue : j.playout_len ≤ z.target + z.packet)
    (fs fs' : List Float) (us us' : List ℕ) (floats : take (row_at (sizes_of z)) fs ≡ take (row_at (sizes_of z)) fs')
    (words : take (most_waiting (sizes_of z)) us ≡ take (most_waiting (sizes_of z)) us') where
  same_packet : (i : ℕ) → i < j.pending_len - 0 → SamePacket z.packet fs us (0 + i) fs' us' (0 + i)
  same_packet i h =
      let few : i < most_waiting (sizes_of z) = omega (arith, h, waiting) in
      rw (zero-add i)
      (record {
        sequence = alike_at (most_waiting (sizes_of z)) i 0 us us' few words;
        samples = alike_part (row_at (sizes_of z)) (i * z.packet) z.packet fs fs' (omega (arith, place_ends (sizes_of z) i few)) floats;
      })

  pub buffer_reads : view_of z j fs us ≡ view_of z j fs' us'
  buffer_reads =
      rw (
        same_packets z.packet (j.pending_len - 0) fs us 0 fs' us' 0 same_packet,
        alike_part (row_at (sizes_of z)) (queue_at (sizes_of z)) j.playout_len fs fs' (omega (arith, queue)) floats,
      )

-- ---- what is shown

row_asked_law : (bins : ℕ) (s : Screen) → screen_asked bins s ≡ true → row_asked bins s.row ≡ true
unfolding screen_asked
row_asked_law bins s asked = first_of_both (row_asked bins s.row) _ asked

module _ (z : Sizes) (s : Screen) (asked : screen_asked z.bins s ≡ true) (rows rows' : List Float)
    (alike : take (3 * z.bins) rows ≡ take (3 * z.bins) rows') where
  pub screen_reads : (b : Buffer Float) (picture : List ℕ) → channel_of z b s rows picture ≡ channel_of z b s rows' picture
  screen_reads b picture =
      let lengths = asked_lengths z.bins s asked in
      rw (
        row_in_front z.bins s.row rows rows' (row_asked_law z.bins s asked) (alike_shorter z.bins (3 * z.bins) rows rows' (omega arith) alike),
        alike_part (3 * z.bins) z.bins s.spectrum_len rows rows' (omega (arith, lengths.0)) alike,
        alike_part (3 * z.bins) (2 * z.bins) s.smooth_len rows rows' (omega (arith, lengths.1)) alike,
      )

-- ---- the channel

pub float_section_is : (z : Sizing.Sizes) → row_at z + 3 * z.bins ≡ float_section z
unfolding float_section queue_at
float_section_is z = refl

pub word_section_is : (z : Sizing.Sizes) → most_waiting z + z.width * z.height ≡ word_section z
unfolding word_section
word_section_is z = refl

module _ (z : Sizes) (c : Channel) (inside : Inside z c) (fs fs' : List Float) (us us' : List ℕ)
    (floats : take (float_section (sizes_of z)) fs ≡ take (float_section (sizes_of z)) fs')
    (words : take (word_section (sizes_of z)) us ≡ take (word_section (sizes_of z)) us') where
  pub channel_reads : channel_in z c fs us ≡ channel_in z c fs' us'
  channel_reads =
      let f = float_section_is (sizes_of z) in
      let w = word_section_is (sizes_of z) in
      let row = row_at (sizes_of z) in
      let most = most_waiting (sizes_of z) in
      let buffer =
      buffer_reads z c.jitter inside.waiting (omega (arith, inside.queue)) fs fs' us us'
      (alike_shorter row (float_section (sizes_of z)) fs fs' (omega (arith, f)) floats)
      (alike_shorter most (word_section (sizes_of z)) us us' (omega (arith, w)) words) in
      let behind : take (3 * z.bins) (drop row fs) ≡ take (3 * z.bins) (drop row fs') = alike_behind row (3 * z.bins) fs fs' (rw f floats) in
      let picture : part most (z.width * z.height) us ≡ part most (z.width * z.height) us' = alike_behind most (z.width * z.height) us us' (rw w words) in
      ap (λ (b : Buffer Float). channel_of z b c.screen (drop row fs) (part most (z.width * z.height) us)) buffer
      ∙ screen_reads z c.screen inside.screen (drop row fs) (drop row fs') behind _ _
      ∙ ap (λ (p : List ℕ). channel_of z (view_of z c.jitter fs' us') c.screen (drop row fs') p) picture
