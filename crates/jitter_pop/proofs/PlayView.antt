-- What a play's code leaves of the queue and writes to the output is what the model's play hands out. Assumes nothing.
use mathlib.Core.Path.{◌≡◌, sym, ◌∙◌}
use mathlib.Core.List.{List, ◌++◌, append-nil}
use Prim.Native.Nat.{ℕ, ◌+◌, ◌-◌, ◌≤◌, ◌<◌, min}
use native.Mathlib.Nat.{add-zero}
use native.Mathlib.Omega.{arith}
use lib.ListN.{length, take, drop, replicate, length-replicate, drop_of_length-le}
use lib.Seq.{drop-drop, take_all, drop-append-add, take-append_seam}
use lib.Ieee.{Float, nan}
use Rattle.std.proofs.lemmas.List.{take_min, drop_min}
use Rattle.model.specs.Bytes.{part, placed}
use Rattle.model.specs.Floats.{f0}
use Rattle.model.specs.Sizes.{most_waiting}
use Rattle.model.specs.JitterBuffer.{hand_out, count_short}
use Rattle.model.proofs.PlacedLaws.{part_length, take_part, drop_part}
use Rattle.areas.proofs.Placed.{part_within}
use Rattle.calls.specs.declared.Sizes.{Sizes}
use Rattle.calls.specs.Views.{sizes_of}
use Rattle.sizes.specs.View.{queue_at}
use Rattle.jitter_buffer.specs.declared.JitterBuffer.{JitterBuffer}
use Rattle.jitter_buffer.specs.View.{view_of}
use Rattle.jitter_pop.specs.Fields.{played_fields}
use Rattle.jitter_buffer.specs.Promises.{Lent}
use Rattle.jitter_buffer.proofs.FillView.{waiting_stays}

module _ {ℓ} {A : Type ℓ} where
  -- two lists that are written one behind the other, and are as long as what they cover
  pub placed_all : (ys zs xs : List A) → length ys + length zs ≡ length xs → placed (length ys) zs (placed 0 ys xs) ≡ ys ++ zs
  unfolding placed
  placed_all ys zs xs e =
      rw (
        take-append_seam ys (drop (0 + length ys) xs),
        drop-append-add ys (drop (0 + length ys) xs) (length zs),
        drop-drop (length zs) (0 + length ys) xs,
        drop_of_length-le xs {i = 0 + length ys + length zs} (omega arith),
        append-nil zs,
      )

module _ (z : Sizes) (j : JitterBuffer) (fs : List Float) (us : List ℕ) (lent : Lent z fs us) (most : j.pending_len ≤ most_waiting (sizes_of z))
    (fits : j.playout_len < z.target + z.packet) (n d : ℕ) (in_queue : d ≤ j.playout_len) where
  left : drop d (view_of z j fs us).queue ≡ part (queue_at (sizes_of z) + d) (j.playout_len - d) fs
  left = drop_part (queue_at (sizes_of z)) d j.playout_len fs in_queue

  pub left_length : length (drop d (view_of z j fs us).queue) ≡ j.playout_len - d
  left_length = rw left (part_length (queue_at (sizes_of z) + d) (j.playout_len - d) fs (omega (arith, lent.floats)))

  -- so many of them are taken
  abbrev pub taken : ℕ
  taken = min n (j.playout_len - d)

  rest : drop n (drop d (view_of z j fs us).queue) ≡ part (queue_at (sizes_of z) + d + taken) (j.playout_len - d - taken) fs
  rest =
      sym (drop_min n (drop d (view_of z j fs us).queue))
      ∙ rw (left_length, left) (drop_part (queue_at (sizes_of z) + d) taken (j.playout_len - d) fs (omega arith))

  front : take n (drop d (view_of z j fs us).queue) ≡ part (queue_at (sizes_of z) + d) taken fs
  front =
      sym (take_min n (drop d (view_of z j fs us).queue))
      ∙ rw (left_length, left) (take_part (queue_at (sizes_of z) + d) taken (j.playout_len - d) fs (omega arith))

  pub handed_view : view_of z (played_fields (j.playout_len - d - taken) (n - taken) j)
      (placed (queue_at (sizes_of z)) (part (queue_at (sizes_of z) + d + taken) (j.playout_len - d - taken) fs) fs) us
      ≡ (hand_out f0 n d (view_of z j fs us)).after
  unfolding hand_out count_short
  handed_view =
      let ys = part (queue_at (sizes_of z) + d + taken) (j.playout_len - d - taken) fs in
      let size : length ys ≡ j.playout_len - d - taken = part_length (queue_at (sizes_of z) + d + taken) (j.playout_len - d - taken) fs (omega (arith, lent.floats)) in
      let waiting = waiting_stays z j fs us 0 (queue_at (sizes_of z)) 0 (j.pending_len - 0) ys (omega arith) (omega arith) (omega (arith, lent.floats)) in
      let queue : part (queue_at (sizes_of z)) (j.playout_len - d - taken) (placed (queue_at (sizes_of z)) ys fs) ≡ ys =
      (rw add-zero at (part_within nan (queue_at (sizes_of z)) ys fs 0 (j.playout_len - d - taken) (omega (arith, lent.floats)) (omega arith)))
      ∙ take_all (j.playout_len - d - taken) ys (omega arith) in
      let short : n - taken ≡ n - length (drop d (view_of z j fs us).queue) = omega (arith, left_length) in
      rw (waiting, queue, rest, short)

  pub handed_samples : (out : List Float) → length out ≡ n
      → placed taken (replicate (n - taken) f0) (placed 0 (part (queue_at (sizes_of z) + d) taken fs) out) ≡ (hand_out f0 n d (view_of z j fs us)).answer.samples
  unfolding hand_out
  handed_samples out e =
      let ys = part (queue_at (sizes_of z) + d) taken fs in
      let size : length ys ≡ taken = part_length (queue_at (sizes_of z) + d) taken fs (omega (arith, lent.floats)) in
      let short : n - length (drop d (view_of z j fs us).queue) ≡ n - taken = omega (arith, left_length) in
      let all = placed_all ys (replicate (n - taken) f0) out (omega (arith, length-replicate (n - taken) f0)) in
      rw (short, front) (rw size at all)

  pub handed_taken : taken ≡ (hand_out f0 n d (view_of z j fs us)).answer.taken
  unfolding hand_out
  handed_taken = rw left_length

  pub handed_short : n - taken ≡ (hand_out f0 n d (view_of z j fs us)).answer.short
  unfolding hand_out
  handed_short = omega (arith, left_length)

-- a list that is written over a whole one
pub placed_whole {ℓ} : {A : Type ℓ} (ys xs : List A) → length ys ≡ length xs → placed 0 ys xs ≡ ys
unfolding placed
placed_whole ys xs e = rw (drop_of_length-le xs {i = 0 + length ys} (omega arith), append-nil ys)
