-- What the line that sums up says. Assumes nothing.
use Rattle.std.specs.Prelude.{List, ℕ, Option, Some, codes, ◌++◌, ◌==◌, cond}
use Rattle.std.specs.Fmt.{decimal}
use Rattle.tally.specs.declared.Sum.{Sum}
use Rattle.tally.specs.declared.Tally.{Tally}

-- that all so many vectors are equal, or what is said where some differ
abbrev pub sum_text : {D : Type 0} → (D → Option (List ℕ)) → Sum D → Option (List ℕ)
sum_text said s =
    cond (s.tally.different == 0) (Some (codes "all " ++ decimal s.tally.seen ++ codes " vectors equal")) (said s.otherwise)

-- that all so many vectors are equal, or how many of how many differ
abbrev pub tally_text : Tally → Option (List ℕ)
tally_text t =
    cond (t.different == 0)
    (Some (codes "all " ++ decimal t.seen ++ codes " vectors equal"))
    (Some (decimal t.different ++ (codes " of " ++ decimal t.seen ++ codes " vectors differ")))
