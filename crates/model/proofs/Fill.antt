-- Fill: what it keeps and what it moves, as its steps do; and that it ends. Assumes nothing.
use mathlib.Core.Path.{◌≡◌, refl}
use Prim.Native.Nat.{ℕ, zero, suc, ◌+◌, ◌≤◌}
use native.Mathlib.Omega.{arith}
use native.Mathlib.Nat.{zero-add, suc-add}
use lib.ListN.{length}
use borrow.Author.Tests.{le-ltb}
use Rattle.model.specs.Sizes.{Sizes}
use Rattle.model.specs.JitterBuffer.{Buffer, Step, moved, concealed, stopped, step_due, after_step, unless_stopped, fill_steps, fill}
use Rattle.model.proofs.FillStep.{Loose, Flow, flow_none, flow_then, step_keeps, step_flows, moved_queues, concealed_queues}

module _ {X : Type 0} (filler : X) (z : Sizes) where
  pub unless_stopped_keeps : (P : Buffer X → Type 0) (d : Step) (b rest : Buffer X) → P b → P rest → P (unless_stopped d b rest)
  unless_stopped_keeps P (moved s) b rest p q = q
  unless_stopped_keeps P (concealed s) b rest p q = q
  unless_stopped_keeps P stopped b rest p q = p

  -- the loop keeps and moves what its steps do
  steps_keep : (n : ℕ) (b : Buffer X) → Loose z b → Loose z (fill_steps filler z n b)
  unfolding fill_steps
  steps_keep zero b l = l
  steps_keep (suc n) b l =
      unless_stopped_keeps (Loose z) (step_due z b) b _ l (steps_keep n (after_step filler z (step_due z b) b) (step_keeps filler z b l))

  steps_flow : (n : ℕ) (b : Buffer X) → 1 ≤ z.packet → Loose z b → Flow z b (fill_steps filler z n b)
  unfolding fill_steps
  steps_flow zero b p l = flow_none z b
  steps_flow (suc n) b p l =
      let after = after_step filler z (step_due z b) b in
      unless_stopped_keeps (Flow z b) (step_due z b) b _ (flow_none z b)
      (flow_then z b after _ (step_flows filler z b p l) (steps_flow n after p (step_keeps filler z b l)))

  pub fill_keeps : (b : Buffer X) → Loose z b → Loose z (fill filler z b)
  unfolding fill
  fill_keeps b l = steps_keep z.target b l

  pub fill_flows : (b : Buffer X) → 1 ≤ z.packet → Loose z b → Flow z b (fill filler z b)
  unfolding fill
  fill_flows b p l = steps_flow z.target b p l

  -- ---- a fill ends

  stops_at_target : (b : Buffer X) → z.target ≤ length b.queue → step_due z b ≡ stopped
  unfolding step_due
  stops_at_target b h = rw (le-ltb (length b.queue) z.target h)

  -- as many steps as samples are missing are enough
  steps_end : (n : ℕ) (b : Buffer X) → 1 ≤ z.packet → Loose z b → z.target ≤ length b.queue + n
      → step_due z (fill_steps filler z n b) ≡ stopped
  unfolding fill_steps
  steps_end zero b p l h = stops_at_target b (omega arith)
  steps_end (suc n) b p l h = go (step_due z b) refl (λ q. steps_end n (after_step filler z (step_due z b) b) p (step_keeps filler z b l) q)
    where
      go : (d : Step) → step_due z b ≡ d → (z.target ≤ length (after_step filler z (step_due z b) b).queue + n → step_due z (fill_steps filler z n (after_step filler z (step_due z b) b)) ≡ stopped)
          → step_due z (unless_stopped d b (fill_steps filler z n (after_step filler z (step_due z b) b))) ≡ stopped
      go (moved s) e again = again (rw e (omega (arith, moved_queues filler z b s e l)))
      go (concealed s) e again = again (rw e (omega (arith, concealed_queues filler z b s e)))
      go stopped e again = e

  -- steps given after the end change nothing
  pub stopped_stays : (k : ℕ) (b : Buffer X) → step_due z b ≡ stopped → fill_steps filler z k b ≡ b
  unfolding fill_steps
  stopped_stays zero b e = refl
  stopped_stays (suc k) b e = rw e

  steps_after_end : (n k : ℕ) (b : Buffer X) → step_due z (fill_steps filler z n b) ≡ stopped → fill_steps filler z (n + k) b ≡ fill_steps filler z n b
  unfolding fill_steps
  steps_after_end zero k b e = rw (zero-add k) (stopped_stays k b e)
  steps_after_end (suc n) k b e =
      rw (suc-add n k) (go (step_due z b) e (λ q. steps_after_end n k (after_step filler z (step_due z b) b) q))
    where
      go : (d : Step) → step_due z (unless_stopped d b (fill_steps filler z n (after_step filler z (step_due z b) b))) ≡ stopped
          → (step_due z (fill_steps filler z n (after_step filler z (step_due z b) b)) ≡ stopped
          → fill_steps filler z (n + k) (after_step filler z (step_due z b) b) ≡ fill_steps filler z n (after_step filler z (step_due z b) b))
          → unless_stopped d b (fill_steps filler z (n + k) (after_step filler z (step_due z b) b)) ≡ unless_stopped d b (fill_steps filler z n (after_step filler z (step_due z b) b))
      go (moved s) e again = again e
      go (concealed s) e again = again e
      go stopped e again = refl

  pub fill_ends : (b : Buffer X) → 1 ≤ z.packet → Loose z b → step_due z (fill filler z b) ≡ stopped
  unfolding fill
  fill_ends b p l = steps_end z.target b p l (omega arith)

  -- target steps are enough: more of them leave the same buffer
  pub fill_needs_no_more : (k : ℕ) (b : Buffer X) → 1 ≤ z.packet → Loose z b → fill_steps filler z (z.target + k) b ≡ fill filler z b
  unfolding fill
  fill_needs_no_more k b p l = steps_after_end z.target k b (steps_end z.target b p l (omega arith))
