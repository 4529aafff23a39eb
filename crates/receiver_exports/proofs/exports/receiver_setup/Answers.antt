-- `receiver_exports::exports::receiver_setup` meets its contract: it asks for its words, and then makes the receiver's call. Assumes nothing.
use Rattle.receiver_exports.proofs.Exporting.{setup_too_short, setup_acted}
use Rattle.receiver_exports.proofs.exports.receiver_setup.Goals as goal

pub returns-then-not-words_there : goal.returns-then-not-words_there
returns-then-not-words_there c = setup_too_short _ _ _ _ _ _ _ c.words_there.ensures c.if-not-words_there.true

pub returns : goal.returns
returns c = setup_acted _ _ _ _ _ _ _ c.setup.result c.words_there.ensures c.if-not-words_there.false c.setup.ensures (rw c.numbered.ensures at c.leave_setup.ensures)
