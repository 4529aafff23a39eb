-- `playback_opening::limits::begin_limited` meets its contract. Assumes nothing.
use borrow.Author.Tests.{le-leb, lt-leb}
use Rattle.playback_opening.proofs.Begins.{too_long_begun, short_begun}
use Rattle.playback_opening.proofs.limits.begin_limited.Goals as goal

pub returns-then-tape-gt65536 : goal.returns-then-tape-gt65536
returns-then-tape-gt65536 c = let g = c.args in
    too_long_begun g.tape.now g.fs.now g.us.now g.text.now 16384 _ _ (lt-leb _ 65536 c.if-tape-gt65536.true) c.refuse.ensures

pub returns : goal.returns
returns c = let g = c.args in
    short_begun g.tape.now g.fs.now g.us.now g.text.now 16384 c.begin.result c.begin.new.us c.begin.new.text (le-leb _ 65536 c.if-tape-gt65536.false) c.begin.ensures
