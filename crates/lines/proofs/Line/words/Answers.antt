use Rattle.std.proofs.Common.{◌+◌, ◌∷◌, refl, ◌∙◌, arith, mul-suc, subst}
use Rattle.text.proofs.FittedLaws.{Fitted}
use Rattle.lines.specs.Lines.{spaced}
use Rattle.lines.proofs.WordLaws.{nothing_fitted, one_word_more}
use Rattle.lines.proofs.Line.words.Goals as goal

pub loop-word-init : goal.loop-word-init
unfolding spaced
loop-word-init g c = (refl, refl, omega arith, nothing_fitted c.args.self.now.at c.args.self.now.out.now (omega arith))

pub loop-word-preserved : goal.loop-word-preserved
loop-word-preserved g c = let l = c.loop-word in let put = c.word in (
  put.ensures.lent.0 ∙ l.invariant.0,
  put.ensures.lent.1 ∙ l.invariant.1,
  omega (arith, mul-suc (1 + g.W.Word.most) l.word-index, l.invariant.2, put.ensures.few),
  one_word_more g.W.Word.letters c.word-item.result c.args.words.now l.word-index c.loop-word-test.true l.invariant.3
      (subst (λ word. Fitted (32 ∷ g.W.Word.letters word) l.self.at l.self.out.now put.new.self.out.now put.new.self.at) c.word-item.is put.ensures.fitted),
)
