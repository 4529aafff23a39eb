-- `udp_framing::words::half_difference` meets its contract: the words are those of the laws of half a difference. Assumes nothing.
use Rattle.std.proofs.Common.{◌≤◌, Bool, true, false, arith, rules}
use Rattle.std.specs.Int.{from_bool}
use Rattle.model.proofs.ProbeWords.{half_of_words_up, half_of_words_down}
use Rattle.udp_framing.proofs.words.half_difference.Goals as goal

bit_small : (b : Bool) → from_bool b ≤ 1
bit_small true = omega arith
bit_small false = omega arith

pub returns-then-carry-taken : goal.returns-then-carry-taken
returns-then-carry-taken c = let g = c.args in
    let w = c.borrowing_sub-low.result in
    half_of_words_down (from_bool g.a.1) g.a.0 (from_bool g.b.1) g.b.0 (from_bool w.1) w.0 (bit_small g.a.1) (omega (arith, c.borrowing_sub-low.ensures)) (search rules) (omega (arith, bit_small g.b.1, bit_small w.1)) c.if-carry-taken.true

pub returns : goal.returns
returns c = let g = c.args in
    let w = c.borrowing_sub-low.result in
    half_of_words_up (from_bool g.a.1) g.a.0 (from_bool g.b.1) g.b.0 (from_bool w.1) w.0 (bit_small g.a.1) (omega (arith, c.borrowing_sub-low.ensures)) (search rules) c.if-carry-taken.false
