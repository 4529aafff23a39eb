-- The whole-list claim: independence of the lines, the channel sum, the queue's bound and the order, for every list of calls. Assumes nothing.
use mathlib.Core.Path.{◌≡◌, refl, ◌∙◌}
use mathlib.Core.Option.{some}
use mathlib.Core.List.{List, [], ◌∷◌}
use Prim.Native.Nat.{ℕ, ◌≤◌}
use native.Mathlib.Omega.{arith}
use lib.ListN.{length}
use lib.Ieee.{Float}
use Rattle.model.specs.Sizes.{Sizes}
use Rattle.model.specs.Framing.{Side, A, B}
use Rattle.model.specs.JitterBuffer.{Packet, Buffer}
use Rattle.model.specs.Receiver.{Setup, Call, Lent, State, channel_of}
use Rattle.model.specs.Questions.{opened, set_up, most_calls}
use Rattle.model.specs.Step.{run, step}
use Rattle.model.specs.Lines.{since_reset}
use Rattle.model.specs.WholeList.{All, CallBytes, ChannelSound, WholeList}
use Rattle.model.proofs.Waiting.{RisingFrom, rising_weaken}
use Rattle.model.proofs.FillStep.{lowest}
use Rattle.model.proofs.BufferKept.{Kept}
use Rattle.model.proofs.Held.{StateKept}
use Rattle.model.proofs.Reachable.{set_up_facts, set_up_kept, set_up_room, run_keeps, step_at_most}
use Rattle.model.proofs.Lines.{lines_alike}
use Rattle.model.proofs.ChannelSum.{TalliedOn, run_tallied, fresh_tallied}

-- a rising list has none below where it rises from
none_below : (n : ℕ) (ps : List (Packet Float)) → RisingFrom n ps → All (λ p. n ≤ p.sequence) ps
none_below n [] r = tt
none_below n (p ∷ ps) r = (r.0, none_below n ps (rising_weaken ps (omega arith) r.1))

in_order : (b : Buffer Float) (next : ℕ) → RisingFrom (lowest b.next) b.waiting → b.next ≡ some next → All (λ p. next ≤ p.sequence) b.waiting
in_order b next r e = none_below next b.waiting (rw e at r)

kept_buffer : (side : Side) (s : State) → StateKept s → Kept s.sizes (channel_of side s).buffer
kept_buffer A s k = k.channel_a.buffer
kept_buffer B s k = k.channel_b.buffer

run_sizes : (lent : Lent) (cs : List Call) (s : State) → (run lent cs s).after.sizes ≡ s.sizes
unfolding run
run_sizes lent [] s = refl
run_sizes lent (c ∷ cs) s = run_sizes lent cs (step lent c s).after ∙ (step_at_most lent c s).sizes

sound : (z : Sizes) (side : Side) (lent : Lent) (cs : List Call) (s : State) → (run lent cs s).after.sizes ≡ z → StateKept (run lent cs s).after
    → TalliedOn side (run lent cs s).after (since_reset side (λ p. p.taken) (run lent cs s).events)
    (since_reset side (λ p. p.dropped) (run lent cs s).events) (since_reset side (λ p. p.short) (run lent cs s).events)
    → ChannelSound z side (run lent cs s).events (channel_of side (run lent cs s).after).buffer
sound z side lent cs s e k m =
    let b = kept_buffer side (run lent cs s).after k in
    rw (← e)
    (record {
      sum = m.sum;
      filled = m.filled;
      queue = b.loose.queue;
      order = λ next n. in_order (channel_of side (run lent cs s).after).buffer next b.loose.rising n;
    })

-- for every accepted setup and every list of at most 4,294,967,295 calls, refused ones and those of no line included
pub whole_list : (lent : Lent) (setup : Setup) (start : State) (calls : List Call) → set_up lent setup ≡ opened start → length calls ≤ most_calls
    → All CallBytes calls → WholeList lent start calls
unfolding since_reset
whole_list lent setup start calls h few bytes =
    let kept = set_up_kept lent setup start h in
    let room = set_up_room lent setup start (length calls) h few in
    let is_fresh = (set_up_facts lent setup start h).state in
    record {
      lines = λ l.
          let a = lines_alike lent l calls start start bytes room room refl refl in
          record { answers = a.events; state = a.after };
      channels = λ side.
          sound start.sizes side lent calls start (run_sizes lent calls start) (run_keeps lent calls start bytes kept)
          (run_tallied side lent calls start 0 0 0 bytes kept (rw is_fresh (fresh_tallied side setup)));
    }
