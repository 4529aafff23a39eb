-- A play that questions 1 to 4 let through. Assumes nothing.
use mathlib.Core.Path.{◌≡◌, refl}
use mathlib.Core.Bool.{true≢false}
use mathlib.Core.List.{List}
use Prim.Native.Nat.{ℕ, ◌-◌, ◌≤◌, ◌<◌}
use lib.ListN.{length, take, drop}
use Rattle.std.proofs.Common.{Ok, Err}
use lib.Ieee.{Float}
use borrow.Author.Tests.{le-leb, lt-leb}
use Rattle.model.specs.Receiver as Model
use Rattle.model.specs.Receiver.{played, is_accepted}
use Rattle.model.specs.Questions.{first_no, own_questions}
use Rattle.model.specs.Step.{play_channel, changes}
use Rattle.calls.specs.declared.Side.{Side}
use Rattle.calls.specs.declared.Refusal.TheVariants as Refusal
use Rattle.calls.specs.Views.{model_side, model_played, sizes_of}
use Rattle.jitter_buffer.proofs.HeldKept.{WordsFit}
use Rattle.channel.specs.declared.Played.{Played}
use Rattle.channel.specs.Promises.{ChannelPlayed}
use Rattle.receiver_state.specs.declared.Receiver.{Receiver}
use Rattle.receiver_state.specs.declared.Answer.TheVariants as Answer
use Rattle.receiver_state.specs.View.{float_start, word_start, channel_at}
use Rattle.receiver_state.specs.Fields.{counted, channel_set}
use Rattle.receiver_state.specs.Promises.{Ready}
use Rattle.receiver.specs.Promises.{PlayedOut}
use Rattle.receiver_state.proofs.CallLaws.{own_refused, sides_ready}
use Rattle.receiver_state.proofs.SideCalls.{side_called}
use Rattle.receiver_state.proofs.Lending.{floats_put, words_put, sound_taken}

module _ (r : Receiver) (fs : List Float) (us : List ℕ) (ready : Ready r fs us) (words : WordsFit us) (side : Side) (out : List Float) where
  pub play_refused : 65535 < length out → PlayedOut side r fs us out (record { receiver = r; answer = Err Refusal.Range }) fs us out
  unfolding own_questions first_no
  play_refused many =
      record {
        called = own_refused r fs us ready (Model.play (model_side side) (length out)) 9 tt (rw (lt-leb (length out) 65535 many));
        output = record { out_length = refl; out_refused = λ no. refl };
      }

  pub play_called : (p : Played) (ys : List Float) (vs : List ℕ) (out' : List Float) → length out ≤ 65535
      → ChannelPlayed r.sizes (channel_at side r) (take (length fs - float_start (sizes_of r.sizes) side) (drop (float_start (sizes_of r.sizes) side) fs))
      (take (length us - word_start (sizes_of r.sizes) side) (drop (word_start (sizes_of r.sizes) side) us)) out p ys vs out'
      → length out' ≡ length out
      → PlayedOut side r fs us out
      (record { receiver = counted (channel_set side p.channel r); answer = Ok (Answer.Played p.samples) })
      (floats_put r fs us (sides_ready r fs us ready) side ys vs) (words_put r fs us (sides_ready r fs us ready) side ys vs) out'
  unfolding changes own_questions first_no is_accepted
  play_called p ys vs out' few h as_long =
      let sides = sides_ready r fs us ready in
      let answer = played (model_played p.samples out') in
      let done = sound_taken r fs us sides side (play_channel (sizes_of r.sizes) (length out)) p.channel answer ys vs h.step h.behind in
      record {
        called =
            side_called r fs us ready words (Model.play (model_side side) (length out)) side (play_channel (sizes_of r.sizes) (length out)) answer (channel_set side p.channel r)
            (floats_put r fs us sides side ys vs) (words_put r fs us sides side ys vs) tt (rw (le-leb (length out) 65535 few)) refl refl
            done.taken done.areas;
        output = record { out_length = as_long; out_refused = λ no. absurd (true≢false no) };
      }
