-- `receiver_exports::exports::receiver_play` meets its contract: it asks for its words, and then makes the receiver's call. Assumes nothing.
use mathlib.Core.Path.{refl}
use Rattle.receiver_exports.proofs.Exporting.{too_short_law, acted}
use Rattle.receiver_exports.proofs.exports.receiver_play.Goals as goal

pub returns-then-not-words_there : goal.returns-then-not-words_there
returns-then-not-words_there c = too_short_law _ _ _ (refl, refl, refl) c.words_there.ensures c.if-not-words_there.true

pub returns : goal.returns
returns c = acted _ _ _ c.play-v.result c.words_there.ensures c.if-not-words_there.false c.receiver_at.ensures (rw c.from_number.ensures at c.play-v.ensures) (rw c.numbered.ensures at c.leave.ensures)
