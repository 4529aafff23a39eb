-- What holds between the turns of a fill: the rest of the fill makes of the view what the whole fill makes of the view at entry. Assumes nothing.
use Rattle.std.proofs.Common.{◌≡◌, ℕ, ◌+◌, ◌-◌, ◌<◌, ◌≤◌, true, Some, List, length, sym, refl, ◌∙◌, arith}
use lib.Ieee.{Float}
use Rattle.model.specs.Floats.{f0}
use Rattle.model.specs.Sizes.{sizes_allowed, most_waiting}
use Rattle.model.specs.JitterBuffer.{Buffer, Step, moved, concealed, stopped, step_due, after_step, fill}
use Rattle.model.proofs.SizeLaws.{allowed}
use Rattle.model.proofs.FillStep.{Loose, Flow, flow_none, flow_then, step_keeps, step_flows, Queued, moved_queues, concealed_queues}
use Rattle.calls.specs.declared.Sizes.{Sizes}
use Rattle.calls.specs.Views.{sizes_of}
use Rattle.jitter_buffer.specs.declared.JitterBuffer.{JitterBuffer}
use Rattle.jitter_buffer.specs.View.{view_from, view_of}
use Rattle.jitter_buffer.specs.Promises.{Lent, Filling, TurnTaken, FillCounts, CanFill, Closing}
use Rattle.jitter_buffer.proofs.FillLoop.{fill_goes_on, fill_stopped}
use Rattle.jitter_buffer.proofs.FillView.{queue_length}
use Rattle.jitter_buffer.proofs.Turns.{queue_below}

-- the fill of the buffer j, with fs₀ at entry, has come to the buffer b, with the packets before `taken` in the queue
pub record UnderWay (z : Sizes) (fs₀ : List Float) (us : List ℕ) (j : JitterBuffer) (fs : List Float) (b : JitterBuffer) (taken : ℕ) : Type 0 where
  pub sizes : sizes_allowed (sizes_of z) ≡ true
  pub lent : Lent z fs us
  pub loose : Loose (sizes_of z) (view_from taken z b fs us)
  pub waiting : b.pending_len ≤ most_waiting (sizes_of z)
  pub place : taken ≤ b.pending_len
  pub counts : FillCounts j
  pub flow : Flow (sizes_of z) (view_of z j fs₀ us) (view_from taken z b fs us)
  pub same : fill f0 (sizes_of z) (view_from taken z b fs us) ≡ fill f0 (sizes_of z) (view_of z j fs₀ us)

pub begins : (z : Sizes) (j : JitterBuffer) (fs : List Float) (us : List ℕ) → sizes_allowed (sizes_of z) ≡ true → CanFill z j fs us → UnderWay z fs us j fs j 0
begins z j fs us ok p =
    record {
      sizes = ok;
      lent = p.lent;
      loose = p.loose;
      waiting = p.waiting;
      place = omega arith;
      counts = p.counts;
      flow = flow_none (sizes_of z) (view_of z j fs us);
      same = refl;
    }

step_queues : (filler : Float) (z : Sizes) (b : Buffer Float) → Loose (sizes_of z) b → (step_due (sizes_of z) b ≡ stopped → ⊥)
    → Queued (sizes_of z) b (after_step filler (sizes_of z) (step_due (sizes_of z) b) b)
step_queues filler z b l n = go (step_due (sizes_of z) b) refl
  where
    go : (d : Step) → step_due (sizes_of z) b ≡ d → Queued (sizes_of z) b (after_step filler (sizes_of z) d b)
    go (moved s) e = moved_queues filler (sizes_of z) b s e l
    go (concealed s) e = concealed_queues filler (sizes_of z) b s e
    go stopped e = absurd (n e)

module _ {z : Sizes} {fs₀ : List Float} {us : List ℕ} {j : JitterBuffer} {fs : List Float} {b : JitterBuffer} {taken : ℕ} (w : UnderWay z fs₀ us j fs b taken) where
  pub queue_fits : b.playout_len < z.target + z.packet
  queue_fits = queue_below z fs us b.playout_len w.lent w.loose.queue

  pub goes_on : Filling z b fs us taken
  goes_on =
      let a = allowed (sizes_of z) w.sizes in
      record {
        lent = w.lent;
        loose = w.loose;
        waiting = w.waiting;
        place = w.place;
        counts = record {
          run = w.loose.run;
          concealed = omega (arith, a, w.flow.concealed, w.loose.queue, w.counts);
          filled = omega (arith, a, w.flow.filler, w.loose.queue, w.counts);
          resyncs = omega (arith, a, w.flow.resyncs, w.loose.queue, w.counts);
        };
      }

  module _ (fs' : List Float) (b' : JitterBuffer) (t : ℕ) (turn : TurnTaken z b fs us taken fs' (Some (b', t))) (long : length fs' ≡ length fs) where
    pub turns : UnderWay z fs₀ us j fs' b' t
    turns =
        let a = allowed (sizes_of z) w.sizes in
        let before = view_from taken z b fs us in
        record {
          sizes = w.sizes;
          lent = record { floats = omega (arith, w.lent); words = w.lent.words };
          loose = rw turn.0 (step_keeps f0 (sizes_of z) before w.loose);
          waiting = omega (arith, turn.2, w.waiting);
          place = omega (arith, turn.2, turn.3);
          counts = w.counts;
          flow = rw turn.0 (flow_then (sizes_of z) (view_of z j fs₀ us) before _ w.flow (step_flows f0 (sizes_of z) before a.packet w.loose));
          same = rw turn.0 (fill_goes_on f0 (sizes_of z) before a.packet w.loose turn.1 ∙ w.same);
        }

    queue' : b'.playout_len < z.target + z.packet
    queue' = queue_below z fs' us b'.playout_len turns.lent turns.loose.queue

    -- each turn queues a packet
    pub nearer : z.target + z.packet - b'.playout_len < z.target + z.packet - b.playout_len
    nearer =
        let a = allowed (sizes_of z) w.sizes in
        let q = (step_queues f0 z (view_from taken z b fs us) w.loose turn.1).queue in
        let now = queue_length z b fs us taken (omega (arith, w.lent, queue_fits)) in
        let then = queue_length z b' fs' us t (omega (arith, turns.lent, queue')) in
        omega (arith, a, rw (← turn.0) at q, now, then, queue')

  pub can_close : Closing z b fs us taken
  can_close = record { lent = w.lent; waiting = w.waiting; place = w.place; queue = queue_fits }

  pub ends : step_due (sizes_of z) (view_from taken z b fs us) ≡ stopped → view_from taken z b fs us ≡ fill f0 (sizes_of z) (view_of z j fs₀ us)
  ends e = sym (fill_stopped f0 (sizes_of z) (view_from taken z b fs us) e) ∙ w.same
