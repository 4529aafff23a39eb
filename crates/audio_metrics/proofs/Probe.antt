-- What a probe does by the sign of its round trip, and the ranges that a held clock and question 9 give. Assumes nothing.
use Rattle.std.proofs.Common.{◌≡◌, zero, suc, ◌^◌, ◌<◌, true, false, T, leb, ℤ, pos, negsuc, nat_abs, refl, true≢false, arith, ltb-true, lt-ltb, leb-false, leb-true}
use mathlib.Core.Bool.{false≢true}
use mathlib.Core.Option.{Option, none, some}
use lib.Signed.{mag, le_z, lt_z, non_neg}
use Rattle.model.specs.Sizes.{between}
use Rattle.model.specs.Clock.{Timing, Clock, timing_after, probed}
use Rattle.model.specs.Questions.{offset_allowed, timing_held, clock_held, probe_allowed, clock_bound}
use Rattle.model.proofs.BoolLaws.{first_of_both, second_of_both}
use Rattle.model.proofs.SizeLaws.{between_facts}
use Rattle.audio_metrics.specs.Requires.{TimingFits}

-- ---- the sign of the round trip

pub above_zero : (n : ℤ) → le_z n (pos 0) ≡ false → lt_z (pos 0) n ≡ true
above_zero (pos n) h = lt-ltb 0 n (leb-false n 0 h)
above_zero (negsuc n) h = absurd (true≢false h)

pub not_above_ignored : (offset round_trip : ℤ) (t : Option Timing) → le_z round_trip (pos 0) ≡ true → probed offset round_trip t ≡ t
unfolding probed
not_above_ignored offset (pos zero) t h = refl
not_above_ignored offset (pos (suc n)) t h = absurd (omega (arith, leb-true (suc n) 0 h))
not_above_ignored offset (negsuc n) t h = refl

pub above_taken : (offset round_trip : ℤ) (t : Option Timing) → lt_z (pos 0) round_trip ≡ true → probed offset round_trip t ≡ some (timing_after offset (nat_abs round_trip) t)
unfolding probed
above_taken offset (pos zero) t h = absurd (omega (arith, ltb-true 0 0 h))
above_taken offset (pos (suc n)) t h = refl
above_taken offset (negsuc n) t h = absurd (false≢true h)

pub above_not_negative : (n : ℤ) → lt_z (pos 0) n ≡ true → T (non_neg n)
above_not_negative (pos n) h = tt
above_not_negative (negsuc n) h = absurd (false≢true h)

-- ---- ranges

pub offset_below : (n : ℤ) → offset_allowed n ≡ true → mag n < 2 ^ 62
unfolding offset_allowed
offset_below (pos n) h = omega (arith, leb-true n clock_bound h)
offset_below (negsuc n) h = omega (arith, leb-true n 4611686018427387902 (first_of_both (leb n 4611686018427387902) true h))

-- of a round trip above 0
pub round_trip_below : (n : ℤ) → lt_z (pos 0) n ≡ true → le_z n (pos clock_bound) ≡ true → nat_abs n < 2 ^ 62
round_trip_below (pos n) p h = omega (arith, leb-true n clock_bound h)
round_trip_below (negsuc n) p h = absurd (false≢true p)

pub timing_below : (t : Option Timing) → timing_held t ≡ true → TimingFits t
unfolding timing_held
timing_below none h = tt
timing_below (some t) h =
    let rest = second_of_both (offset_allowed t.offset) _ h in
    let least = between_facts 1 clock_bound t.least (second_of_both (between 1 clock_bound t.round_trip) _ rest) in
    (offset_below t.offset (first_of_both (offset_allowed t.offset) _ h), omega (arith, least.1))

pub clock_timing_below : (k : Clock) → clock_held k ≡ true → TimingFits k.timing
unfolding clock_held
clock_timing_below k h = timing_below k.timing (first_of_both (timing_held k.timing) _ h)

-- the two parts of question 9
pub probe_offset_below : (offset round_trip : ℤ) → probe_allowed offset round_trip ≡ true → mag offset < 2 ^ 62
unfolding probe_allowed
probe_offset_below offset round_trip h = offset_below offset (first_of_both (offset_allowed offset) _ h)

pub probe_round_trip_below : (offset round_trip : ℤ) → probe_allowed offset round_trip ≡ true → lt_z (pos 0) round_trip ≡ true → nat_abs round_trip < 2 ^ 62
unfolding probe_allowed
probe_round_trip_below offset round_trip h p = round_trip_below round_trip p (second_of_both (offset_allowed offset) _ h)
