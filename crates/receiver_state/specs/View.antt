-- The model's state that the struct and the two areas hold, the model's answer of an answer, and where a channel's sections begin. Assumes nothing.
use Rattle.std.specs.Prelude.{ℕ, ◌+◌, List, length, take, drop, Float, Result, Ok, Err}
use Rattle.std.proofs.Math.Option.{none, some}
use Rattle.model.specs.Sizes as Sizing
use Rattle.model.specs.Sizes.{float_section, word_section}
use Rattle.model.specs.Framing as Framing
use Rattle.model.specs.Receiver as Model
use Rattle.calls.specs.declared.Side.{Side}
use Rattle.calls.specs.declared.Side.TheVariants.{A, B}
use Rattle.calls.specs.declared.Refusal.{Refusal}
use Rattle.calls.specs.Views.{sizes_of, model_played}
use Rattle.calls.specs.Refusals.{refusal_number}
use Rattle.audio_metrics.specs.Views.{clock_of}
use Rattle.udp.specs.Views.{counts_of}
use Rattle.channel.specs.declared.Channel.{Channel}
use Rattle.channel.specs.View.{row_at, channel_in}
use Rattle.receiver_state.specs.declared.Receiver.{Receiver}
use Rattle.receiver_state.specs.declared.Answer.{Answer}
use Rattle.receiver_state.specs.declared.Answer.TheVariants.{Accepted, Played, NoRow, Row}

-- ---- sections: A's begin both areas, and B's follow right after them

abbrev pub float_start : Sizing.Sizes → Side → ℕ
float_start z A = 0
float_start z B = float_section z

abbrev pub word_start : Sizing.Sizes → Side → ℕ
word_start z A = 0
word_start z B = word_section z

-- where a channel's row begins in the f32 area
abbrev pub row_place : Sizing.Sizes → Side → ℕ
row_place z side = float_start z side + row_at z

-- the row's place of a stream's channel
abbrev pub stream_place : Sizing.Sizes → Framing.Stream → ℕ
stream_place z (Framing.audio side) = 0
stream_place z (Framing.waterfall Framing.A) = row_place z A
stream_place z (Framing.waterfall Framing.B) = row_place z B
stream_place z Framing.other_stream = 0

-- ---- the state

abbrev pub channel_at : Side → Receiver → Channel
channel_at A r = r.a
channel_at B r = r.b

abbrev pub state_of : Receiver → List Float → List ℕ → Model.State
state_of r fs us =
    record {
      sizes = sizes_of r.sizes;
      calls = r.calls;
      incoming = r.incoming;
      counts = record { audio = counts_of r.audio; waterfall = counts_of r.waterfall };
      channel_a = channel_in r.sizes r.a fs us;
      channel_b = channel_in r.sizes r.b (drop (float_section (sizes_of r.sizes)) fs) (drop (word_section (sizes_of r.sizes)) us);
      clock = clock_of r.clock;
    }

abbrev pub lent_of : List Float → List ℕ → Model.Lent
lent_of fs us = record { floats = length fs; words = length us }

-- ---- answers: the numbers of the questions, and the values that stand in lent memory

-- a play's samples are the output's; a row's values are the first of those from its place on
abbrev pub answer_of : Result Answer Refusal → List Float → Model.Answer
answer_of (Err why) values = Model.refused (refusal_number why)
answer_of (Ok Accepted) values = Model.accepted
answer_of (Ok (Played p)) values = Model.played (model_played p values)
answer_of (Ok NoRow) values = Model.row none
answer_of (Ok (Row n)) values = Model.row (some (take n values))

-- a refusal by its question's number, as it is printed and handed to other languages
abbrev pub numbered : {A : Type 0} → Result A Refusal → Result A ℕ
numbered (Err why) = Err (refusal_number why)
numbered (Ok a) = Ok a

-- the model's answer, of a refusal of any number
abbrev pub answer_numbered : Result Answer ℕ → List Float → Model.Answer
answer_numbered (Err n) values = Model.refused n
answer_numbered (Ok a) values = answer_of (Ok a) values
