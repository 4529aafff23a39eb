-- The clock stays as question 3 wants it, whatever a probe, a one-way time or a depth records. A step keeps the range of its two ends, and a least of round trips that are 1 or more is 1 or more. Assumes nothing.
use Prim.Native.Nat.{ℕ, zero, suc, ◌+◌, ◌/◌, ◌≤◌, min}
use native.Mathlib.Omega.{arith}
use mathlib.Core.Path.{◌≡◌, refl}
use mathlib.Core.Bool.{Bool, true, false, cond, and-eq-true_iff}
use mathlib.Core.Option.{Option, none, some}
use lib.IntN.{ℤ, pos, negsuc}
use lib.Dec.{leb}
use borrow.Author.Tests.{le-leb}
use Rattle.model.specs.Sizes.{between}
use Rattle.model.specs.Clock.{Timing, DepthCounts, Clock, step_toward, least_after, passes_gate, timing_after, probed, record_probe, one_way_in_range, one_way_of, one_way_after, one_way_updated, record_one_way, record_depth, record_transmit}
use Rattle.model.specs.Questions.{clock_bound, offset_allowed, timing_held, one_way_held, clock_held, probe_allowed}
use Rattle.model.proofs.BoolLaws.{both_and, cond_keeps}
use Rattle.model.proofs.SizeLaws.{between_facts}
use Rattle.model.proofs.StepLaws.{step_within}

-- ---- timing

offset_step_allowed : (n : ℕ) (old new : ℤ) → offset_allowed old ≡ true → offset_allowed new ≡ true
    → offset_allowed (step_toward n old new) ≡ true
unfolding offset_allowed
offset_step_allowed n old new h k = step_within (negsuc 4611686018427387902) (pos clock_bound) n old new h k

-- the offset after a probe, whether or not it passes the gate
gated_offset_allowed : (b : Bool) (n : ℕ) (old new : ℤ) → offset_allowed old ≡ true → offset_allowed new ≡ true
    → offset_allowed (cond b (step_toward n old new) old) ≡ true
gated_offset_allowed true n old new h k = offset_step_allowed n old new h k
gated_offset_allowed false n old new h k = h

both_between : (low high n : ℕ) → low ≤ n → n ≤ high → between low high n ≡ true
both_between low high n h k = both_and (le-leb low n h) (le-leb n high k)

least_between : (high round_trip least : ℕ) → between 1 high round_trip ≡ true → between 1 high least ≡ true
    → between 1 high (least_after round_trip least) ≡ true
unfolding least_after
least_between high round_trip least h k =
    let new = between_facts 1 high round_trip h in
    let old = between_facts 1 high least k in
    both_between 1 high (min round_trip (least + least / 64)) (omega arith) (omega arith)

timing_after_held : (offset : ℤ) (round_trip : ℕ) (t : Option Timing)
    → offset_allowed offset ≡ true → between 1 clock_bound round_trip ≡ true
    → timing_held t ≡ true → timing_held (some (timing_after offset round_trip t)) ≡ true
unfolding timing_held timing_after
timing_after_held offset round_trip none allowed trip h = both_and allowed (both_and trip trip)
timing_after_held offset round_trip (some t) allowed trip h =
    let was = (and-eq-true_iff (offset_allowed t.offset) _).0 h in
    let trips = (and-eq-true_iff (between 1 clock_bound t.round_trip) (between 1 clock_bound t.least)).0 was.1 in
    both_and (gated_offset_allowed (passes_gate round_trip (least_after round_trip t.least)) 4 t.offset offset was.0 allowed)
    (both_and trip (least_between clock_bound round_trip t.least trip trips.1))

-- a one-way delay that is held is held with any timing that is there
one_way_held_after : (old : Option Timing) (new : Timing) (one_way : Option ℤ)
    → one_way_held old one_way ≡ true → one_way_held (some new) one_way ≡ true
unfolding one_way_held
one_way_held_after old new none h = refl
one_way_held_after none new (some n) h = cc
one_way_held_after (some t) new (some n) h = h

-- ---- one-way

one_way_after_held : (t : Timing) (new : ℤ) (old : Option ℤ) → one_way_in_range new ≡ true
    → one_way_held (some t) old ≡ true → one_way_held (some t) (one_way_after new old) ≡ true
unfolding one_way_held one_way_after one_way_in_range
one_way_after_held t new none fits h = fits
one_way_after_held t new (some old) fits h = step_within (negsuc 999999999) (pos 5000000000) 8 old new h fits

one_wayed_held : (receive send : ℕ) (t : Option Timing) (old : Option ℤ) → one_way_held t old ≡ true
    → one_way_held t (one_way_updated receive send t old) ≡ true
unfolding one_way_updated
one_wayed_held receive send none old h = h
one_wayed_held receive send (some t) old h =
    let new = one_way_of receive send t.offset in
    cond_keeps (λ w. one_way_held (some t) w ≡ true) (one_way_in_range new) (one_way_after new old) old
    (λ fits. one_way_after_held t new old fits h) (λ outside. h)

-- ---- laws

pub probe_keeps : (offset round_trip : ℤ) (k : Clock) → probe_allowed offset round_trip ≡ true
    → clock_held k ≡ true → clock_held (record_probe offset round_trip k) ≡ true
unfolding clock_held record_probe probed probe_allowed
probe_keeps offset (pos zero) k allowed h = h
probe_keeps offset (negsuc n) k allowed h = h
probe_keeps offset (pos (suc n)) k allowed h =
    let tests = (and-eq-true_iff (offset_allowed offset) (leb (suc n) clock_bound)).0 allowed in
    let was = (and-eq-true_iff (timing_held k.timing) (one_way_held k.timing k.one_way)).0 h in
    let trip = both_and (le-leb 1 (suc n) (omega arith)) tests.1 in
    both_and (timing_after_held offset (suc n) k.timing tests.0 trip was.0)
    (one_way_held_after k.timing (timing_after offset (suc n) k.timing) k.one_way was.1)

pub one_way_keeps : (receive send : ℕ) (k : Clock) → clock_held k ≡ true → clock_held (record_one_way receive send k) ≡ true
unfolding clock_held record_one_way
one_way_keeps receive send k h =
    let was = (and-eq-true_iff (timing_held k.timing) (one_way_held k.timing k.one_way)).0 h in
    both_and was.0 (one_wayed_held receive send k.timing k.one_way was.1)

pub depth_keeps : (samples : ℕ) (counts : DepthCounts) (k : Clock) → clock_held k ≡ true
    → clock_held (record_depth samples counts k) ≡ true
unfolding clock_held record_depth
depth_keeps samples counts k h = h

pub transmit_keeps : (samples : ℕ) (k : Clock) → clock_held k ≡ true → clock_held (record_transmit samples k) ≡ true
unfolding clock_held record_transmit
transmit_keeps samples k h = h
