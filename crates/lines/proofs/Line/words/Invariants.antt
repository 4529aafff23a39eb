-- `lines::Line::words` meets its contract: the loop's invariant says that so many words are written, in the most bytes each. Assumes nothing.
use Rattle.std.proofs.Common.{◌≡◌, ◌+◌, ◌*◌, ◌≤◌, length, map, take}
use Rattle.text.proofs.FittedLaws.{Fitted}
use Rattle.lines.specs.Lines.{spaced}
use Rattle.lines.proofs.Line.words.Given as goal

abbrev pub invariant-loop-word : goal.invariant-loop-word
invariant-loop-word g l = (l.self.out.ghost_name ≡ l.initial.self.out.ghost_name) × (length l.self.out.now ≡ length l.initial.self.out.now) × (l.self.at ≤ l.initial.self.at + (1 + g.W.Word.most) * l.word-index)
    × Fitted (spaced (map g.W.Word.letters (take l.word-index l.words))) l.initial.self.at l.initial.self.out.now l.self.out.now l.self.at
