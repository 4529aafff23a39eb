-- The sizes that question 1 allows, as facts; and when a packet more is among the most that wait. Assumes nothing.
use mathlib.Core.Path.{◌≡◌}
use mathlib.Core.Bool.{true, and-eq-true_iff}
use Prim.Native.Nat.{ℕ, ◌+◌, ◌-◌, ◌*◌, ◌≤◌, ◌<◌}
use native.Mathlib.Omega.{arith}
use native.Mathlib.Nat.{le-div_iff_mul-le, mul_comm}
use lib.Dec.{leb}
use borrow.Author.Tests.{leb-true}
use Rattle.model.specs.Sizes.{Sizes, between, sizes_allowed, most_waiting}

pub between_facts : (low high n : ℕ) → between low high n ≡ true → (low ≤ n) × (n ≤ high)
between_facts low high n h =
    let t = (and-eq-true_iff (leb low n) (leb n high)).0 h in
    (leb-true low n t.0, leb-true n high t.1)

pub record Allowed (z : Sizes) : Type 0 where
  pub packet : 1 ≤ z.packet
  pub packet_most : z.packet ≤ 4096
  pub target : z.packet ≤ z.target
  pub target_most : z.target ≤ 65536
  pub max : z.target ≤ z.max
  pub max_most : z.max ≤ 131072
  pub bins : 1 ≤ z.bins
  pub bins_most : z.bins ≤ 65535
  pub width : 1 ≤ z.width
  pub width_most : z.width ≤ 4096
  pub height : 1 ≤ z.height
  pub height_most : z.height ≤ 4096

pub allowed : (z : Sizes) → sizes_allowed z ≡ true → Allowed z
unfolding sizes_allowed
allowed z h =
    let p = (and-eq-true_iff (between 1 4096 z.packet) _).0 h in
    let t = (and-eq-true_iff (between z.packet 65536 z.target) _).0 p.1 in
    let m = (and-eq-true_iff (between z.target 131072 z.max) _).0 t.1 in
    let b = (and-eq-true_iff (between 1 65535 z.bins) _).0 m.1 in
    let w = (and-eq-true_iff (between 1 4096 z.width) _).0 b.1 in
    let packet = between_facts 1 4096 z.packet p.0 in
    let target = between_facts z.packet 65536 z.target t.0 in
    let max = between_facts z.target 131072 z.max m.0 in
    let bins = between_facts 1 65535 z.bins b.0 in
    let width = between_facts 1 4096 z.width w.0 in
    let height = between_facts 1 4096 z.height w.1 in
    omega arith

-- where so many packets leave room below max, one more is still among the most
pub room_for_one : (z : Sizes) (n : ℕ) → 1 ≤ z.packet → z.packet * n < z.max → n + 1 ≤ most_waiting z
unfolding most_waiting
room_for_one z n p h =
    (le-div_iff_mul-le {k = z.packet} {x = n + 1} {y = z.max + z.packet - 1} p).1 (omega (arith, mul_comm z.packet n))
