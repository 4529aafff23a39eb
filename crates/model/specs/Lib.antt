-- How to read these definitions, for who knows radios and no prover. The files are in the order of this list: a datagram meets them in it.
-- `f : A → B → C` says that f takes an A and a B and gives a C; `f x y` is f of x and y; `x.field` is a field of a record.
-- `record` is a struct; `data` is one of several named cases, and a definition with several lines takes the line whose case fits.
-- `ℕ` are the whole numbers from 0 on, `ℤ` all whole numbers: `pos n` is n, `negsuc n` is −(n + 1), `neg_ℤ (pos n)` is −n.
-- `cond b x y` is x where b is true, else y. `leb m n`, `ltb m n` and `eqb m n` ask m ≤ n, m < n and m = n. `&&` is and, `||` is or.
-- `[]` is the empty list, `x ∷ xs` the list xs with x in front, `xs ++ ys` one list behind the other; `take`, `drop`, `length` as usual.
-- `none` is what is absent, `some x` what is there. `let x = e in f` names e in f. `λ x. e` is the function of x that gives e.
-- `≡` says that both sides are equal; `refl` in the facts of proofs/ (Sessions, Values, Asked, HeldStates, Printed, Summarised) says that computing both sides shows it. `n - m` is 0 where m is larger.
-- `abbrev` and `unfoldable` tell the prover when it may look into a definition; `pub` shows it to other files. Neither changes what it means.
-- `+f`, `-f`, `*f`, `/f` are the steps on 32-bit floats, each rounded once. A comment over a definition says which rule it is.
pub mod Bytes
pub mod Floats
pub mod Sizes
pub mod Framing
pub mod Counts
pub mod Samples
pub mod JitterBuffer
pub mod Row
pub mod Scaling
pub mod Picture
pub mod Clock
pub mod Receiver
pub mod Questions
pub mod Step
pub mod Lines
pub mod Tape
pub mod Replay
pub mod Summary
pub mod WholeList
pub mod Text
