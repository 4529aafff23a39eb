-- A fill is the fill of what a step leaves, until a step stops. Assumes nothing.
use Rattle.std.proofs.Common.{◌≡◌, suc, ◌≤◌, sym, refl, ◌∙◌, add-one}
use Rattle.model.specs.Sizes.{Sizes}
use Rattle.model.specs.JitterBuffer.{Buffer, Step, moved, concealed, stopped, step_due, after_step, unless_stopped, fill_steps, fill}
use Rattle.model.proofs.FillStep.{Loose}
use Rattle.model.proofs.Fill.{fill_needs_no_more, stopped_stays}

module _ {X : Type 0} (filler : X) (z : Sizes) where
  goes_on : (d : Step) (b rest : Buffer X) → (d ≡ stopped → ⊥) → unless_stopped d b rest ≡ rest
  goes_on (moved s) b rest n = refl
  goes_on (concealed s) b rest n = refl
  goes_on stopped b rest n = absurd (n refl)

  pub fill_goes_on : (b : Buffer X) → 1 ≤ z.packet → Loose z b → (step_due z b ≡ stopped → ⊥)
      → fill filler z (after_step filler z (step_due z b) b) ≡ fill filler z b
  unfolding fill fill_steps
  fill_goes_on b p l n =
      let more : fill_steps filler z (suc z.target) b ≡ fill filler z b = rw add-one at (fill_needs_no_more filler z 1 b p l) in
      sym (goes_on (step_due z b) b (fill_steps filler z z.target (after_step filler z (step_due z b) b)) n) ∙ more

  pub fill_stopped : (b : Buffer X) → step_due z b ≡ stopped → fill filler z b ≡ b
  unfolding fill
  fill_stopped b e = stopped_stays filler z z.target b e
