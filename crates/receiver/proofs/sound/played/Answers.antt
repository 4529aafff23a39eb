-- `receiver::sound::played` meets its contract. Assumes nothing.
use mathlib.Core.Path.{refl}
use lib.ListN.{length}
use Rattle.calls.specs.Views.{model_side}
use Rattle.model.specs.Receiver.{play}
use Rattle.receiver_state.proofs.CallLaws.{asked_refused, sides_ready}
use Rattle.receiver_state.proofs.SideCalls.{channel_set_calls}
use Rattle.receiver_state.proofs.Lending.{channel_ready}
use Rattle.receiver.proofs.PlayCalls.{play_refused, play_called}
use Rattle.receiver.proofs.sound.played.Goals as goal

pub returns-in_err-asked : goal.returns-in_err-asked
returns-in_err-asked c = let g = c.args in
    record {
      called = asked_refused g.r g.fs.now g.us.now (play (model_side g.side) (length g.out.now)) tt g.out.now _ c.from_residual.ensures.1 c.in_err-asked.ensures;
      output = record { out_length = refl; out_refused = λ no. refl };
    }

pub returns-then-out-gt65535 : goal.returns-then-out-gt65535
returns-then-out-gt65535 c = let g = c.args in
    play_refused g.r g.fs.now g.us.now (c.in_ok-asked.ensures.ready refl) (λ i. (c.slice_known-2-1.given i).fits) g.side g.out.now c.if-out-gt65535.true

pub play-played-requires : goal.play-played-requires
play-played-requires c = let g = c.args in
    (rw (c.starts-begin.ensures.0, c.starts-begin.ensures.1, c.channel_of.ensures) (channel_ready g.r g.fs.now g.us.now (sides_ready g.r g.fs.now g.us.now (c.in_ok-asked.ensures.ready refl)) g.side), c.if-out-gt65535.false)

pub count_call-requires : goal.count_call-requires
count_call-requires c = let g = c.args in
    rw c.with_channel.ensures (channel_set_calls g.side _ g.r (c.in_ok-asked.ensures.ready refl).calls)

pub returns : goal.returns
returns c = let g = c.args in
    let told = rw (c.starts-begin.ensures.0, c.starts-begin.ensures.1, c.channel_of.ensures) at c.play-played.ensures in
    rw (c.count_call.ensures, c.with_channel.ensures, c.starts-begin.ensures.0, c.starts-begin.ensures.1) (play_called g.r g.fs.now g.us.now (c.in_ok-asked.ensures.ready refl) (λ i. (c.slice_known-2-1.given i).fits) g.side g.out.now c.play-played.result c.play-played.new.fs c.play-played.new.us c.play-played.new.out c.if-out-gt65535.false told c.play-played.auto.out)
