-- A rounded value with the sign put on afterwards is the value rounded with its sign. Assumes nothing.
use Rattle.std.proofs.Common.{◌≡◌, ℕ, zero, suc, ◌+◌, ◌*◌, ◌^◌, Bool, true, false, cond, ltb, sym, refl, ap, ◌∙◌}
use lib.Ieee.{inf, Format, prec, emax, low, odd, units, round, neg}
use lib.Ieee.Fits.{round_is}

neg_odd : (d q k l : ℕ) → neg (odd d false q k l) ≡ odd d true q k l
unfolding neg odd
neg_odd d zero k l = refl
neg_odd d (suc q) k l = refl

neg_units : (f : Format) (q k : ℕ) → neg (units f false q k) ≡ units f true q k
unfolding units neg
neg_units f q k = go (ltb (q * 2 ^ k) (2 ^ (low f + suc (emax f))))
  where
    go : (b : Bool) → neg (cond b (odd (suc (prec f)) false q k (low f)) (inf false)) ≡ cond b (odd (suc (prec f)) true q k (low f)) (inf true)
    go true = neg_odd (suc (prec f)) q k (low f)
    go false = refl

pub neg_round : (f : Format) (num den : ℕ) → neg (round f false num den) ≡ round f true num den
neg_round f num den = ap neg (round_is f false num den) ∙ neg_units f _ _ ∙ sym (round_is f true num den)
