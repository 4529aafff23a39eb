-- `big_endian::place_bytes` meets its contract: the bytes stand in the place of as many. Assumes nothing.
use Rattle.std.proofs.Common.{◌≡◌, ◌+◌, ◌-◌, length, arith}
use Rattle.std.proofs.Math.Seq.{drop-drop}
use Rattle.model.specs.Bytes.{placed}
use Rattle.udp_framing.proofs.big_endian.place_bytes.Goals as goal

pub returns : goal.returns
unfolding placed
returns c = let g = c.args in
    let many : g.at + length g.bytes.now - g.at ≡ length g.bytes.now = omega arith in
    rw (many, c.copy_from_slice.ensures.after, drop-drop)
