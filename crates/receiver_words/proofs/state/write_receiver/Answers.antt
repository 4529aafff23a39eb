-- `receiver_words::state::write_receiver` meets its contract: each part is stored right behind the one before. Assumes nothing.
use mathlib.Core.Path.{refl}
use mathlib.Core.List.{[], ◌∷◌, ◌++◌}
use Rattle.calls.specs.Views.{size_numbers}
use Rattle.audio_metrics_words.specs.Words.{clock_words}
use Rattle.receiver_words.specs.State.{head_words, channel_words, receiver_words}
use Rattle.receiver_words.specs.Words.{count_words, buffer_words, screen_words}
use Rattle.numbers.proofs.Stored.{then}
use Rattle.receiver_words.proofs.state.write_receiver.Goals as goal

pub returns : goal.returns
unfolding receiver_words channel_words screen_words clock_words
returns c = let w = c.args.w.now in
    let r = c.args.r in
    let head-words = head_words r in
    let audio-words = head-words ++ count_words r.audio in
    let waterfall-words = audio-words ++ count_words r.waterfall in
    let a-buffer-words = waterfall-words ++ buffer_words r.a.jitter in
    let a-screen-words = a-buffer-words ++ screen_words r.a.screen in
    let b-buffer-words = a-screen-words ++ buffer_words r.b.jitter in
    let b-screen-words = b-buffer-words ++ screen_words r.b.screen in
    let sizes = rw c.numbers.ensures at c.put.ensures in
    let head = then w (size_numbers r.sizes) {ys = r.calls ∷ r.incoming ∷ []} 6 refl sizes c.put-2.ensures refl in
    let audio = then w head-words 8 refl head c.put-3.ensures c.count_words.ensures in
    let waterfall = then w audio-words 13 refl audio c.put-4.ensures c.count_words-2.ensures in
    let a-buffer = then w waterfall-words 18 refl waterfall c.put-5.ensures c.buffer_words.ensures in
    let a-screen = then w a-buffer-words 32 refl a-buffer c.put-6.ensures c.screen_words.ensures in
    let b-buffer = then w a-screen-words 47 refl a-screen c.put-7.ensures c.buffer_words-2.ensures in
    let b-screen = then w b-buffer-words 61 refl b-buffer c.put-8.ensures c.screen_words-2.ensures in
    then w b-screen-words 76 refl b-screen c.put-9.ensures c.to_words.ensures
