-- `reassembler::chunk_in` meets its contract: the tests are those of `well_formed`, in its order. Assumes nothing.
use mathlib.Core.Path.{◌≡◌, refl, sym, ap, ◌∙◌}
use mathlib.Core.List.{List, map}
use Prim.Native.Nat.{ℕ, ◌/◌, ◌%◌, ◌≤◌}
use native.Mathlib.Omega.{arith}
use lib.ListN.{length, drop, length-map}
use borrow.Author.Tests.{eqb-true, eqb-false}
use Rattle.std.specs.Simd.{first_chunks}
use Rattle.std.proofs.lemmas.List.{take_rest}
use Rattle.model.specs.Row.{floats_of, chunk_fields, chunk_total}
use Rattle.reassembler.specs.Rows.{value_of}
use Rattle.reassembler.proofs.FloatBytes.{floats_of_fours}
use Rattle.reassembler.proofs.WellFormed.{no_bins, part_of_a_value, outside_law, inside_law}
use Rattle.reassembler.proofs.chunk_in.Goals as goal
use Rattle.reassembler.proofs.chunk_in.Goals.{then-total_bins-eq0-via-then-total_bins-eq0, then-total_bins-eq0-via-else-total_bins-eq0+then-not-is_empty, then-total_bins-eq0-via-else-total_bins-eq0+else-not-is_empty+then-total_bins-first}

values_are : (payload bytes : List ℕ) (values : List (List ℕ)) → bytes ≡ drop 6 payload → values ≡ first_chunks 4 (length bytes / 4) bytes → floats_of (drop 6 payload) ≡ map value_of values
values_are payload bytes values is front = rw (front, is) (floats_of_fours (length (drop 6 payload) / 4) (drop 6 payload) refl)

pub returns-then-total_bins-eq0 : goal.returns-then-total_bins-eq0
returns-then-total_bins-eq0 c = let payload = c.args.payload.now in
    let total = c.read_from-total_bins in
    let first = c.read_from-first in
    let values = values_are payload _ c.as_chunks.result.0.now (take_rest payload 6) c.as_chunks.ensures.front in
    let n = ap length values ∙ length-map c.as_chunks.result.0.now value_of in
    let part : length c.as_chunks.result.1.now ≡ length (drop 6 payload) % 4 = c.as_chunks.ensures.back_len ∙ ap (λ bytes. length bytes % 4) (take_rest payload 6) in
    elim c.then-total_bins-eq0.branch [
      | then-total_bins-eq0-via-then-total_bins-eq0 w ↦ no_bins payload c.if-payload-lt6.false total.result first.result total.ensures first.ensures w.if-total_bins-eq0.true
      | then-total_bins-eq0-via-else-total_bins-eq0+then-not-is_empty w ↦
          part_of_a_value payload c.if-payload-lt6.false total.result first.result total.ensures first.ensures (omega (arith, w.if-total_bins-eq0.false))
          (λ whole. eqb-false _ _ (sym w.is_empty.ensures ∙ w.if-not-is_empty.true) (part ∙ whole))
      | then-total_bins-eq0-via-else-total_bins-eq0+else-not-is_empty+then-total_bins-first w ↦
          outside_law payload c.if-payload-lt6.false total.result first.result total.ensures first.ensures (omega (arith, w.if-total_bins-eq0.false))
          (sym part ∙ eqb-true _ _ (sym w.is_empty.ensures ∙ w.if-not-is_empty.false)) (rw n w.if-total_bins-first.true)
    ]

pub returns : goal.returns
unfolding chunk_fields chunk_total
returns c = let payload = c.args.payload.now in
    let total = c.read_from-total_bins in
    let first = c.read_from-first in
    let values = values_are payload _ c.as_chunks.result.0.now (take_rest payload 6) c.as_chunks.ensures.front in
    let n = ap length values ∙ length-map c.as_chunks.result.0.now value_of in
    let part : length c.as_chunks.result.1.now ≡ length (drop 6 payload) % 4 = c.as_chunks.ensures.back_len ∙ ap (λ bytes. length bytes % 4) (take_rest payload 6) in
    let some_bins : 1 ≤ total.result = omega (arith, c.if-total_bins-eq0.false) in
    record {
      formed =
          inside_law payload c.if-payload-lt6.false total.result first.result total.ensures first.ensures some_bins
          (sym part ∙ eqb-true _ _ (sym c.is_empty.ensures ∙ c.if-not-is_empty.false)) (rw n c.if-total_bins-first.false);
      fields = rw (c.read_from-row_seq.ensures, total.ensures, first.ensures, values);
      long = c.if-payload-lt6.false;
      some_bins = some_bins;
      inside = c.if-total_bins-first.false;
    }
