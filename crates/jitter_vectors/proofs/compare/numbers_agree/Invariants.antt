-- `jitter_vectors::compare::numbers_agree` meets its contract: what is left of the line is text. Assumes nothing.
use denote.Text.{Utf8}
use denote.Shadow.{shadow}
use Rattle.jitter_vectors.proofs.compare.numbers_agree.Given as goal

abbrev pub invariant-loop-number : goal.invariant-loop-number
invariant-loop-number l =
    (goal.iterator-loop-number).can_next l.number-iterator ×
    (goal.iterator-loop-number).is_finite l.number-iterator ×
    shadow (Utf8 l.rest)
