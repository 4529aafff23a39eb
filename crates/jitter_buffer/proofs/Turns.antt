-- What each way through one turn of a fill leaves, as its contract has it. Assumes nothing.
use Rattle.std.proofs.Common.{◌≡◌, ℕ, ◌+◌, ◌*◌, ◌<◌, ◌≤◌, Bool, true, false, eqb, ltb, Option, None, Some, List, length, get_or, drop, replicate, sym, refl, ap, ◌∙◌, arith, length-drop, length-take, ltb-true, eqb-true}
use lib.Ieee.{Float}
use Rattle.model.specs.Bytes.{part, placed}
use Rattle.model.specs.Floats.{f0}
use Rattle.model.specs.JitterBuffer.{moved, concealed, stopped, step_due}
use Rattle.model.proofs.BoolLaws.{by_test}
use Rattle.calls.specs.declared.Sizes.{Sizes}
use Rattle.calls.specs.Views.{sizes_of}
use Rattle.sizes.specs.View.{queue_at}
use Rattle.jitter_buffer.specs.declared.JitterBuffer.{JitterBuffer}
use Rattle.jitter_buffer.specs.declared.FillStep.TheVariants.{Moved, Concealed, Stopped}
use Rattle.jitter_buffer.specs.View.{step_of, view_from}
use Rattle.jitter_buffer.specs.Fields.{moved_fields, concealed_fields, resynced_fields, next_step, fill_step_of}
use Rattle.jitter_buffer.specs.Promises.{Lent, Filling, TurnTaken}
use Rattle.jitter_buffer.proofs.FillView.{step_does, moved_view, concealed_view, resynced_view}

-- ---- what the name of a step says of the fields

next_moved : (next : Option ℕ) (waits : Bool) (front s : ℕ) → next_step next waits front ≡ Moved s → (waits ≡ true) × (front ≡ s)
unfolding next_step
next_moved None waits front s e = cc
next_moved (Some n) false front s e = cc
next_moved (Some n) true front s e =
    by_test (eqb front n)
    (λ t. let m : Moved n ≡ Moved s = rw t at e in let same : n ≡ s = cc in (refl, eqb-true front n t ∙ same))
    (λ t. let m : Concealed n ≡ Moved s = rw t at e in cc)

next_concealed : (next : Option ℕ) (waits : Bool) (front s : ℕ) → next_step next waits front ≡ Concealed s → waits ≡ true
unfolding next_step
next_concealed None waits front s e = cc
next_concealed (Some n) false front s e = cc
next_concealed (Some n) true front s e = refl

pub record FrontTaken (z : Sizes) (j : JitterBuffer) (us : List ℕ) (taken s : ℕ) : Type 0 where
  pub below : j.playout_len < z.target
  pub waits : taken < j.pending_len
  pub front : get_or us taken 0 ≡ s

pub record FrontKept (z : Sizes) (j : JitterBuffer) (taken : ℕ) : Type 0 where
  pub below : j.playout_len < z.target
  pub waits : taken < j.pending_len

pub step_moved : (z : Sizes) (j : JitterBuffer) (us : List ℕ) (taken s : ℕ) → fill_step_of z.target j us taken ≡ Moved s → FrontTaken z j us taken s
unfolding fill_step_of
step_moved z j us taken s e =
    by_test (ltb j.playout_len z.target)
    (λ t. let n = next_moved j.next_sequence (ltb taken j.pending_len) (get_or us taken 0) s (rw t at e) in
    record { below = ltb-true _ _ t; waits = ltb-true _ _ n.0; front = n.1 })
    (λ t. let m : Stopped ≡ Moved s = rw t at e in cc)

pub step_concealed : (z : Sizes) (j : JitterBuffer) (us : List ℕ) (taken s : ℕ) → fill_step_of z.target j us taken ≡ Concealed s → FrontKept z j taken
unfolding fill_step_of
step_concealed z j us taken s e =
    by_test (ltb j.playout_len z.target)
    (λ t. record { below = ltb-true _ _ t; waits = ltb-true _ _ (next_concealed j.next_sequence (ltb taken j.pending_len) (get_or us taken 0) s (rw t at e)) })
    (λ t. let m : Stopped ≡ Concealed s = rw t at e in cc)

-- a queue that the view has below a bound is as long as the field says
pub queue_below : (z : Sizes) (fs : List Float) (us : List ℕ) (n : ℕ) → Lent z fs us → length (part (queue_at (sizes_of z)) n fs) < z.target + z.packet → n < z.target + z.packet
queue_below z fs us n lent h = omega (arith, lent.floats, length-take n (drop (queue_at (sizes_of z)) fs), length-drop (queue_at (sizes_of z)) fs)

-- ---- the turns

module _ (z : Sizes) (j : JitterBuffer) (fs : List Float) (us : List ℕ) (taken : ℕ) (p : Filling z j fs us taken) where
  turn_does : step_of (fill_step_of z.target j us taken) ≡ step_due (sizes_of z) (view_from taken z j fs us)
  turn_does = step_does z j fs us taken (omega (arith, p.lent.floats, queue_below z fs us j.playout_len p.lent p.loose.queue)) p.loose

  pub turn_stopped : fill_step_of z.target j us taken ≡ Stopped → TurnTaken z j fs us taken fs None
  turn_stopped e = (sym turn_does ∙ ap step_of e, refl)

  pub turn_moved : (s : ℕ) (b : JitterBuffer) (fs' : List Float) → fill_step_of z.target j us taken ≡ Moved s → b ≡ moved_fields z.packet s j
      → fs' ≡ placed (queue_at (sizes_of z) + j.playout_len) (part (taken * z.packet) z.packet fs) fs → TurnTaken z j fs us taken fs' (Some (b, taken + 1))
  turn_moved s b fs' e fields floats = rw (fields, floats)
      (let f = step_moved z j us taken s e in
      let d : step_due (sizes_of z) (view_from taken z j fs us) ≡ moved s = sym turn_does ∙ ap step_of e in (
        rw d (moved_view z j fs us taken p.lent p.waiting f.below s f.waits f.front),
        (λ n. let m : moved s ≡ stopped = rw d at n in cc),
        refl,
        omega arith,
      ))

  pub turn_concealed : (s : ℕ) (b : JitterBuffer) (fs' : List Float) → fill_step_of z.target j us taken ≡ Concealed s → b ≡ concealed_fields z.packet s j
      → fs' ≡ placed (queue_at (sizes_of z) + j.playout_len) (replicate z.packet f0) fs → b.consecutive_conceals < 3 → TurnTaken z j fs us taken fs' (Some (b, taken))
  turn_concealed s b fs' e fields floats few = rw (fields, floats)
      (let f = step_concealed z j us taken s e in
      let d : step_due (sizes_of z) (view_from taken z j fs us) ≡ concealed s = sym turn_does ∙ ap step_of e in (
        rw d (concealed_view z j fs us taken p.lent p.waiting f.below s p.place (rw fields at few)),
        (λ n. let m : concealed s ≡ stopped = rw d at n in cc),
        refl,
        p.place,
      ))

  pub turn_resynced : (s : ℕ) (b c : JitterBuffer) (fs' : List Float) → fill_step_of z.target j us taken ≡ Concealed s → b ≡ concealed_fields z.packet s j
      → fs' ≡ placed (queue_at (sizes_of z) + j.playout_len) (replicate z.packet f0) fs → 3 ≤ b.consecutive_conceals → c ≡ resynced_fields (get_or us taken 0) b
      → TurnTaken z j fs us taken fs' (Some (c, taken))
  turn_resynced s b c fs' e fields floats many again = rw (again, fields, floats)
      (let f = step_concealed z j us taken s e in
      let d : step_due (sizes_of z) (view_from taken z j fs us) ≡ concealed s = sym turn_does ∙ ap step_of e in (
        rw d (resynced_view z j fs us taken p.lent p.waiting f.below s f.waits (rw fields at many)),
        (λ n. let m : concealed s ≡ stopped = rw d at n in cc),
        refl,
        p.place,
      ))
