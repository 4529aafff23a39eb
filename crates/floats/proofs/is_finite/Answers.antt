-- `floats::is_finite` meets its contract. The finite values are those that lie between the infinities, and 1.0 / 0.0 is one of these.
-- Assumes nothing.
use Rattle.std.proofs.Common.{◌≡◌, true, false, sym, refl, ◌∙◌}
use lib.Ieee.{Float, nan, inf, fin, binary32, div, neg, lt, of_bits}
use Rattle.model.specs.Floats.{finite}
use Rattle.floats.proofs.is_finite.Goals as goal

-- the source's `top` as MIR has it, with 1.0 and 0.0 by their bit patterns
abbrev top : Float
top = div binary32 (of_bits binary32 0x3f80_0000) (of_bits binary32 0)

below_top : (x : Float) → lt x top ≡ true → lt (neg top) x ≡ finite x
unfolding finite lt div neg of_bits
below_top nan h = refl
below_top (inf true) h = refl
below_top (inf false) h = sym h
below_top (fin s m e) h = refl

not_below_top : (x : Float) → lt x top ≡ false → false ≡ finite x
unfolding finite lt div of_bits
not_below_top nan h = refl
not_below_top (inf s) h = refl
not_below_top (fin s m e) h = sym h

pub returns-then-x-top : goal.returns-then-x-top
returns-then-x-top c = below_top c.args.x c.if-x-top.true

pub returns-else-x-top : goal.returns-else-x-top
returns-else-x-top c = c.if-x-top.false ∙ not_below_top c.args.x c.if-x-top.false
