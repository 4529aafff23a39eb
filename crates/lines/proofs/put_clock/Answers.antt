-- `lines::put_clock` meets its contract. Assumes nothing.
use Rattle.std.proofs.Common.{◌≤◌, ℕ, List, Some, length, refl, pos, subst, arith, rules}
use Rattle.audio_metrics.specs.Views.{timing_of, delay_of}
use Rattle.model.specs.Replay.{decimal, signed_decimal}
use Rattle.text.proofs.FittedLaws.{fitted_behind}
use Rattle.lines.specs.Lines.{Piece, clock_text}
use Rattle.lines.proofs.Pieces.{written_piece, clock_is}
use Rattle.lines.proofs.WordLaws.{read_word, delay_word}
use Rattle.lines.proofs.put_clock.Goals as goal

pub returns : goal.returns
unfolding signed_decimal
returns c = let a = c.args in
    let timing = timing_of a.timing in let delay = delay_of a.one_way in
    let offset = read_word signed_decimal (λ t. t.offset_ns) (λ k. k.offset) (λ t. refl) (λ t n is. search rules) a.timing c.map.result c.map.ensures.cases in
    let round_trip = read_word decimal (λ t. t.rtt_ns) (λ k. pos k.round_trip) (λ t. refl) (λ t n is. search rules) a.timing c.map-2.result c.map-2.ensures.cases in
    let first = fitted_behind c.byte.ensures.fitted (rw offset at c.word.ensures.fitted) in
    let second = fitted_behind first (rw round_trip at c.word-2.ensures.fitted) in
    let third = fitted_behind second (rw (delay_word a.one_way) at c.word-3.ensures.fitted) in
    let all = rw (← clock_is timing delay) at (fitted_behind third c.byte-2.ensures.fitted) in
    let few : length (clock_text timing delay) ≤ 65 = omega (arith, all.place, c.byte.ensures.fitted.place, c.word.ensures.few, c.word-2.ensures.few, c.word-3.ensures.few, c.byte-2.ensures.fitted.place) in
    subst (λ (exit : List ℕ). Piece 65 (clock_text timing delay) a.out.now exit (Some c.byte-2.new.self.at)) (search rules) (written_piece few (omega arith) all)
