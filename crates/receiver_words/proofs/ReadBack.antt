-- The words that a receiver was written to are read back as that receiver, where its numbers are of the widths that the structs have. Assumes nothing.
use Rattle.std.proofs.Common.{Option, None, Some}
use Prim.Native.Nat.{ℕ, ◌^◌, ◌≤◌, ◌<◌}
use native.Mathlib.Nat.{mod-eq_of_lt}
use native.Mathlib.Omega.{arith}
use mathlib.Core.Path.{◌≡◌, refl, ◌∙◌, ap}
use mathlib.Core.Bool.{Bool, true, false, not}
use mathlib.Core.List.{List, ◌++◌}
use lib.ListN.{length, drop}
use lib.Seq.{sets, sets-eq}
use lib.Dec.{T, eqb}
use lib.Ieee.{binary32, fits}
use Rattle.audio_metrics.specs.declared.AudioMetrics.{AudioMetrics}
use Rattle.audio_metrics.specs.Views.{clock_of}
use Rattle.audio_metrics_words.specs.Words.{clock_in, clock_words}
use Rattle.audio_metrics_words.proofs.ReadBack as Clock
use Rattle.audio_metrics_words.proofs.ReadBack.{float_read_back, words_read_back}
use Rattle.jitter_buffer.specs.declared.JitterBuffer.{JitterBuffer}
use Rattle.udp.specs.declared.Display.{Display}
use Rattle.udp.specs.declared.StreamCounts.{StreamCounts}
use Rattle.udp_packets.specs.declared.Screen.{Screen}
use Rattle.reassembler.specs.declared.OpenRow.{OpenRow}
use Rattle.channel.specs.declared.Channel.{Channel}
use Rattle.receiver_state.specs.declared.Receiver.{Receiver}
use Rattle.receiver_words.specs.Words.{sequence_in, counts_in, buffer_in, row_in, display_in, screen_in, flag_word, known_word, sequence_word, count_words, buffer_words, row_words, screen_words}
use Rattle.receiver_words.specs.State.{clock_back, channel_read, receiver_at, channel_words, receiver_words}
use Rattle.receiver_words.proofs.ClockBack.{clock_back_law}

-- ---- the widths of the structs' fields

abbrev pub SequenceWide : Option ℕ → Type 0
SequenceWide None = Unit {0}
SequenceWide (Some s) = s < 2 ^ 32

abbrev pub RowWide : Option OpenRow → Type 0
RowWide None = Unit {0}
RowWide (Some r) = r.row_seq < 2 ^ 16

pub record DisplayWide (d : Display) : Type 0 where
  pub top : T (fits binary32 d.top)
  pub range : T (fits binary32 d.range)
  pub zoom : T (fits binary32 d.zoom)
  pub smoothing : T (fits binary32 d.smoothing)
  pub top_estimate_law : T (fits binary32 d.top_estimate)
  pub floor_estimate_law : T (fits binary32 d.floor_estimate)
  pub range_estimate_law : T (fits binary32 d.range_estimate)

pub record ChannelWide (c : Channel) : Type 0 where
  pub next : SequenceWide c.jitter.next_sequence
  pub row : RowWide c.screen.row
  pub display : DisplayWide c.screen.display

pub record Wide (r : Receiver) : Type 0 where
  pub audio : SequenceWide r.audio.last
  pub waterfall : SequenceWide r.waterfall.last
  pub a : ChannelWide r.a
  pub b : ChannelWide r.b
  pub clock : Clock.Wide (clock_of r.clock)

-- ---- parts, with anything behind their words

flag_back : (b : Bool) → not (eqb (flag_word b) 0) ≡ b
flag_back false = refl
flag_back true = refl

sequence_back : (s : Option ℕ) → SequenceWide s → sequence_in (known_word s) (sequence_word s) ≡ s
unfolding sequence_in
sequence_back None wide = refl
sequence_back (Some s) wide = ap Some (mod-eq_of_lt wide)

counts_back : (c : StreamCounts) (rest : List ℕ) → SequenceWide c.last → counts_in (count_words c ++ rest) ≡ c
counts_back c rest wide = rw (sequence_back c.last wide)

buffer_back : (j : JitterBuffer) (rest : List ℕ) → SequenceWide j.next_sequence → buffer_in (buffer_words j ++ rest) ≡ j
buffer_back j rest wide = rw (sequence_back j.next_sequence wide)

row_back : (s : Screen) (rest : List ℕ) → RowWide s.row → row_in (screen_words s ++ rest) ≡ s.row
unfolding row_in screen_words
row_back s rest wide = row_of s.row wide
  where
    row_of : (r : Option OpenRow) → RowWide r → row_in (row_words r) ≡ r
    row_of None w = refl
    row_of (Some o) w = rw (mod-eq_of_lt w, flag_back o.done)

display_back : (s : Screen) (rest : List ℕ) → DisplayWide s.display → display_in (screen_words s ++ rest) ≡ s.display
unfolding screen_words
display_back s rest wide =
    let d = s.display in
    rw (flag_back d.adaptive, float_read_back d.top wide.top, float_read_back d.range wide.range, float_read_back d.zoom wide.zoom, float_read_back d.smoothing wide.smoothing, float_read_back d.top_estimate wide.top_estimate_law, float_read_back d.floor_estimate wide.floor_estimate_law, float_read_back d.range_estimate wide.range_estimate_law)

abbrev screen_made : Screen → Option OpenRow → Display → Screen
screen_made s row display = record { row = row; spectrum_len = s.spectrum_len; smooth_len = s.smooth_len; display = display }

screen_back : (s : Screen) (rest : List ℕ) → RowWide s.row → DisplayWide s.display → screen_in (screen_words s ++ rest) ≡ s
unfolding screen_words
screen_back s rest row-wide wide =
    let row = row_back s rest row-wide in
    let display = display_back s rest wide in
    ap (λ (x : Option OpenRow). screen_made s x (display_in (screen_words s ++ rest))) row ∙ ap (λ (x : Display). screen_made s s.row x) display

channel_back : (c : Channel) (rest : List ℕ) → ChannelWide c → channel_read (channel_words c ++ rest) ≡ c
unfolding channel_read channel_words
channel_back c rest wide =
    ap (λ (x : JitterBuffer). record { jitter = x; screen = screen_in (screen_words c.screen ++ rest) }) (buffer_back c.jitter (screen_words c.screen ++ rest) wide.next)
    ∙ ap (λ (x : Screen). record { jitter = c.jitter; screen = x }) (screen_back c.screen rest wide.row wide.display)

-- ---- the receiver

abbrev made : Receiver → StreamCounts → StreamCounts → Channel → Channel → AudioMetrics → Receiver
made r audio waterfall a b clock =
    record { sizes = r.sizes; calls = r.calls; incoming = r.incoming; audio = audio; waterfall = waterfall; a = a; b = b; clock = clock }

same_parts : (r : Receiver) {audio waterfall : StreamCounts} {a b : Channel} {clock : AudioMetrics} → audio ≡ r.audio → waterfall ≡ r.waterfall → a ≡ r.a
    → b ≡ r.b → clock ≡ r.clock → made r audio waterfall a b clock ≡ r
same_parts r e f g h k = rw (e, f, g, h, k)

clock_words_back : (m : AudioMetrics) (rest : List ℕ) → Clock.Wide (clock_of m) → clock_back (clock_in (clock_words (clock_of m) ++ rest)) ≡ m
unfolding clock_in clock_words
clock_words_back m rest wide = ap clock_back (words_read_back (clock_of m) wide) ∙ clock_back_law m

pub receiver_read_back : (w : List ℕ) (r : Receiver) → 90 ≤ length w → Wide r → receiver_at (sets w 0 (receiver_words r)) ≡ r
unfolding receiver_at receiver_words channel_words screen_words clock_words
receiver_read_back w r long wide =
    let rest = drop 90 w in
    let clock = clock_words (clock_of r.clock) ++ rest in
    let b = channel_words r.b ++ clock in
    let a = channel_words r.a ++ b in
    let waterfall = count_words r.waterfall ++ a in
    ap receiver_at (sets-eq (receiver_words r) w 0 (omega arith))
    ∙ same_parts r
    (counts_back r.audio waterfall wide.audio)
    (counts_back r.waterfall a wide.waterfall)
    (channel_back r.a b wide.a)
    (channel_back r.b clock wide.b)
    (clock_words_back r.clock rest wide.clock)
