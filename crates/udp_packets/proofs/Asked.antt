-- Question 3 of what a channel shows is the model's question of the channel. Assumes nothing.
use Rattle.std.proofs.Common.{Option, None, Some}
use mathlib.Core.Path.{◌≡◌, refl, sym}
use mathlib.Core.Bool.{◌&&◌}
use mathlib.Core.List.{List}
use Prim.Native.Nat.{ℕ, ◌+◌, ◌*◌, ◌≤◌}
use native.Mathlib.Omega.{arith}
use lib.ListN.{length, length-take, length-drop}
use lib.Dec.{leb}
use lib.Ieee.{Float}
use borrow.Author.Tests.{leb-true, leb-false, le-leb, lt-leb}
use Rattle.model.specs.Bytes.{part}
use Rattle.model.specs.JitterBuffer.{Buffer}
use Rattle.model.specs.Questions.{row_held}
use Rattle.model.proofs.BoolLaws.{by_test}
use Rattle.calls.specs.declared.Sizes.{Sizes}
use Rattle.calls.specs.Views.{sizes_of}
use Rattle.reassembler.specs.declared.OpenRow.{OpenRow}
use Rattle.udp_packets.specs.declared.Screen.{Screen}
use Rattle.reassembler.specs.Rows.{row_of}
use Rattle.udp_packets.specs.Packets.{row_asked, screen_asked, channel_of}

-- ---- the model's question of the channel

row_asked_is : (z : Sizes) (r : Option OpenRow) (xs : List Float) → row_asked z.bins r ≡ row_held (sizes_of z) (row_of r xs)
unfolding row_asked row_held
row_asked_is z None xs = refl
row_asked_is z (Some r) xs = refl

-- a part that is longer than bins shows as longer, where there is room for one more
length_asked : (bins at n : ℕ) (xs : List Float) → at + bins + 1 ≤ length xs → leb n bins ≡ leb (length (part at n xs)) bins
length_asked bins at n xs room =
    by_test (leb n bins)
    (λ fits. let few = leb-true n bins fits in rw fits (sym (le-leb (length (part at n xs)) bins (simp (length-take, length-drop) (omega arith)))))
    (λ long. let many = leb-false n bins long in rw long (sym (lt-leb (length (part at n xs)) bins (simp (length-take, length-drop) (omega arith)))))

-- question 3 of the row and of the two lengths, of the channel whose values stand in lent memory
pub screen_asked_is : (z : Sizes) (s : Screen) (b : Buffer Float) (rows : List Float) (picture : List ℕ) → 1 ≤ z.bins → 4 * z.bins ≤ length rows
    → (let c = channel_of z b s rows picture in
    screen_asked z.bins s
    ≡ row_held (sizes_of z) c.row && (leb (length c.spectrum) z.bins && leb (length c.smoothing) z.bins))
unfolding screen_asked
screen_asked_is z s b rows picture some_bins room =
    rw (
      row_asked_is z s.row rows,
      length_asked z.bins z.bins s.spectrum_len rows (omega arith),
      length_asked z.bins (2 * z.bins) s.smooth_len rows (omega arith),
    )
