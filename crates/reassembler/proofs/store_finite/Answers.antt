use mathlib.Core.Path.{◌≡◌, sym, ap, ◌∙◌}
use mathlib.Core.Bool.{true, false}
use mathlib.Core.List.{[], map}
use native.Mathlib.Numerals.{add-one}
use native.Mathlib.Omega.{arith}
use lib.ListN.{length-map, get_or, get_or-map}
use lib.Seq.{length-take-le}
use Rattle.model.specs.Floats.{finite, from_bits}
use Rattle.reassembler.specs.Rows.{value_of}
use Rattle.reassembler.proofs.Prefix.{prefix_ends, prefix_goes_on, prefix_stops, front_more}
use Rattle.reassembler.proofs.store_finite.Goals as goal

pub returns-then-not-is_finite : goal.returns-then-not-is_finite
returns-then-not-is_finite c = let vs = map value_of c.args.values.now in
    let n = length-map c.args.values.now value_of in
    let j = c.loop-j.j in
    let value : c.from_bits-v.result ≡ get_or vs j (value_of []) = c.from_bits-v.ensures ∙ ap from_bits c.from_le_bytes.ensures ∙ sym (get_or-map value_of c.args.values.now j []) in
    let test : finite (get_or vs j (value_of [])) ≡ false = ap finite (sym value) ∙ sym c.is_finite.ensures ∙ c.if-not-is_finite.true in
    let stops = prefix_stops vs j c.loop-j.invariant.0 (value_of []) (omega (arith, n)) test in
    let long = length-take-le j vs (omega (arith, n)) in
    record { count = rw stops (sym long); stored = rw (stops, long) c.loop-j.invariant.1 }

pub loop-j-preserved : goal.loop-j-preserved
loop-j-preserved c = let vs = map value_of c.args.values.now in
    let n = length-map c.args.values.now value_of in
    let j = c.loop-j.j in
    let value : c.from_bits-v.result ≡ get_or vs j (value_of []) = c.from_bits-v.ensures ∙ ap from_bits c.from_le_bytes.ensures ∙ sym (get_or-map value_of c.args.values.now j []) in
    let test : finite (get_or vs j (value_of [])) ≡ true = ap finite (sym value) ∙ sym c.is_finite.ensures ∙ c.if-not-is_finite.false in (
      prefix_goes_on vs j c.loop-j.invariant.0 (value_of []) (omega (arith, n)) test,
      rw (value, c.loop-j.invariant.1, add-one j) (front_more j vs c.args.to.now (value_of []) (omega (arith, n)) (omega (arith, c.requires))),
    )

pub returns : goal.returns
returns c = let vs = map value_of c.args.values.now in
    let n = length-map c.args.values.now value_of in
    let j = c.loop-j.j in
    let ends = prefix_ends vs j c.loop-j.invariant.0 (omega (arith, n)) in
    let long = length-take-le j vs (omega (arith, n)) in
    record { count = rw (ends, long) (omega arith); stored = rw (ends, long) c.loop-j.invariant.1 }
