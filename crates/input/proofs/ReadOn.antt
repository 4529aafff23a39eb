-- One read behind what is there: both together are what the input had next. Assumes nothing.
use Rattle.std.proofs.Common.{◌≡◌, ℕ, ◌+◌, ◌≤◌, List, ◌++◌, length, take, Option, length-take-le, ap, ◌∙◌}
use Rattle.std.proofs.KnownBytes.{Consumes-trans}
use Rattle.input.specs.Promises.{ReadBefore}
use borrow.Rule.Slice.PartMut.{put_mid, post_of}
use lib.Seq.{take-append-add, take-append-le}

front_of_both : (at k n : ℕ) (bytes part : List ℕ) → at ≤ length bytes → n ≤ length part → take (at + n) (put_mid at k bytes part) ≡ take at bytes ++ take n part
front_of_both at k n bytes part inside few =
    let long : length (take at bytes) ≡ at = length-take-le at bytes inside in
    rw long at (take-append-add (take at bytes) (part ++ post_of at k bytes) n) ∙ ap (λ xs. take at bytes ++ xs) (take-append-le n part (post_of at k bytes) few)

pub read_on : (before between after : Option (List ℕ)) (at k n : ℕ) (bytes part : List ℕ)
    → at ≤ length bytes
    → n ≤ length part
    → ReadBefore before between bytes at
    → ReadBefore between after part n
    → ReadBefore before after (put_mid at k bytes part) (at + n)
read_on before between after at k n bytes part inside few first more =
    rw (front_of_both at k n bytes part inside few) (Consumes-trans before between after (take at bytes) (take n part) first more)
