-- What every call keeps of a jitter buffer, and what a call may move in it. Assumes nothing.
use mathlib.Core.Path.{◌≡◌}
use mathlib.Core.Option.{Option, none, some}
use mathlib.Core.List.{List}
use Prim.Native.Nat.{ℕ, ◌+◌, ◌*◌, ◌≤◌, ◌<◌}
use native.Mathlib.Omega.{arith}
use lib.ListN.{length}
use Rattle.model.specs.Sizes.{Sizes, most_waiting}
use Rattle.model.specs.JitterBuffer.{Counters, Packet, Buffer, fresh_buffer, buffered, counting, reset}
use Rattle.model.proofs.FillStep.{Loose, Flow}

-- each counter grows by no more than `most`
pub record Grown (most : ℕ) (b c : Counters) : Type 0 where
  pub received : c.received ≤ b.received + most
  pub inserted : c.inserted ≤ b.inserted + most
  pub concealed : c.concealed ≤ b.concealed + most
  pub late : c.late ≤ b.late + most
  pub overflow : c.overflow ≤ b.overflow + most
  pub invalid_size : c.invalid_size ≤ b.invalid_size + most
  pub resyncs : c.resyncs ≤ b.resyncs + most
  pub filled : c.filled ≤ b.filled + most

module _ {X : Type 0} where
  -- not started: packet × waiting < target
  abbrev pub Idle : Sizes → Option ℕ → List (Packet X) → Type 0
  Idle z none ps = z.packet * length ps < z.target
  Idle z (some n) ps = Unit {0}

  -- what holds of a buffer between calls
  pub record Kept (z : Sizes) (b : Buffer X) : Type 0 where
    pub loose : Loose z b
    pub idle : Idle z b.next b.waiting
    pub waiting : length b.waiting ≤ most_waiting z
    pub largest : b.largest < z.max + z.target + 2 * z.packet

  -- what is moved from b to c: `out` samples leave, `short` are made up, and no counter grows by more than `most`
  pub record Moves (z : Sizes) (most : ℕ) (b c : Buffer X) (out short : ℕ) : Type 0 where
    pub balance : z.packet * (b.counters.inserted + b.counters.concealed) + (out + buffered z c)
        ≡ z.packet * (c.counters.inserted + c.counters.concealed) + buffered z b
    pub filled : b.counters.filled + z.packet * c.counters.concealed + short
        ≡ c.counters.filled + z.packet * b.counters.concealed
    pub grown : Grown most b.counters c.counters

  pub moves_then : (z : Sizes) (m n : ℕ) (a b c : Buffer X) (out out' short short' : ℕ)
      → Moves z m a b out short → Moves z n b c out' short' → Moves z (m + n) a c (out + out') (short + short')
  moves_then z m n a b c out out' short short' f g = omega arith

  -- a fill moves no more than target + packet of anything
  pub flow_moves : (z : Sizes) (b c : Buffer X) → Flow z b c → length c.queue < z.target + z.packet → Moves z (z.target + z.packet) b c 0 0
  flow_moves z b c f q = omega arith

  pub fresh_kept : (z : Sizes) → 1 ≤ z.packet → z.packet ≤ z.target → Kept z fresh_buffer
  fresh_kept z p t =
      record {
        loose = record { rising = tt; packets = tt; queue = omega arith; run = omega arith; next = omega arith };
        idle = omega arith;
        waiting = omega arith;
        largest = omega arith;
      }

  pub reset_kept : (z : Sizes) (b : Buffer X) → 1 ≤ z.packet → z.packet ≤ z.target → Kept z b → Kept z (reset b)
  unfolding reset
  reset_kept z b p t k =
      record {
        loose = record { rising = tt; packets = tt; queue = omega arith; run = omega arith; next = omega arith };
        idle = omega arith;
        waiting = omega arith;
        largest = k.largest;
      }

  -- only the counters change
  pub counting_keeps : (z : Sizes) (f : Counters → Counters) (b : Buffer X) → Kept z b → Kept z (counting f b)
  unfolding counting
  counting_keeps z f b k =
      record {
        loose = record {
          rising = k.loose.rising;
          packets = k.loose.packets;
          queue = k.loose.queue;
          run = k.loose.run;
          next = k.loose.next;
        };
        idle = k.idle;
        waiting = k.waiting;
        largest = k.largest;
      }
