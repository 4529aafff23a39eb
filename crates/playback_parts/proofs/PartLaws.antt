-- A part of a line's values, or the line's end. Assumes nothing.
use Prim.Native.Nat.{ℕ, ◌+◌, ◌-◌, ◌*◌, ◌≤◌, ◌<◌}
use mathlib.Core.Path.{◌≡◌, refl, sym, ◌∙◌, ap}
use Rattle.std.proofs.Common.{Some, None}
use mathlib.Core.List.{List, [], ◌∷◌, ◌++◌, map, append_assoc}
use native.Mathlib.Omega.{arith}
use lib.ListN.{length, take, drop, set, length-take, length-drop}
use lib.Seq.{drop-drop, take_at}
use Rattle.std.proofs.lemmas.List.{drop-take}
use lib.Ieee.{Float}
use Rattle.model.specs.Bytes.{part, placed}
use Rattle.model.specs.Replay.{hex_bits}
use Rattle.text.proofs.WrittenLaws.{byte_placed}
use Rattle.lines.specs.Lines.{spaced, ValuesWritten}
use Rattle.lines.proofs.Pieces.{values_go_on}
use Rattle.replaying.specs.Printing.{values_ended}
use Rattle.playback_parts.specs.Parts.{part_ended, PartPut, TextPut}

-- what stands at the front is the text
pub put_front : (text entry exit : List ℕ) (n : ℕ) → TextPut text entry exit n → take n exit ≡ text
unfolding placed
put_front text entry exit n put = rw (put.target, put.length_is) (take_at text _ (length text) refl)

pub none_put : (text : List ℕ) → TextPut [] text text 0
unfolding placed
none_put text = record { length_is = refl; target = refl }

pub line_ended : (values : List Float) (entry : List ℕ) → length values ≡ 0 → 0 < length entry
    → PartPut values entry (set entry 0 10) (record { bytes = 1; next = None })
unfolding spaced
line_ended [] entry none room =
    record {
      text = 10 ∷ [];
      put = record { length_is = refl; target = byte_placed 0 10 entry room };
      line = refl;
      inside = tt;
      further = tt;
    }
line_ended (x ∷ values) entry none room = absurd (omega (arith, none))

pub some_put : (values : List Float) (entry exit : List ℕ) (n : ℕ) → 0 < length values → 9 ≤ length entry → ValuesWritten values entry exit n
    → PartPut values entry exit (record { bytes = 9 * n; next = Some n })
some_put values entry exit n more room written =
    record {
      text = spaced (map hex_bits (take n values));
      put = record { length_is = sym written.bytes; target = written.target };
      line =
          ap (λ (xs : List ℕ). xs ++ (10 ∷ [])) (values_go_on n values)
          ∙ append_assoc (spaced (map hex_bits (take n values))) (spaced (map hex_bits (drop n values))) (10 ∷ []);
      inside = omega (arith, written.most);
      further = omega (arith, written.most);
    }
