-- A receiver with one field changed, and what a call leaves of it. Assumes nothing.
use Rattle.std.specs.Prelude.{◌+◌, Result, Ok, Err}
use Rattle.audio_metrics.specs.declared.AudioMetrics.{AudioMetrics}
use Rattle.calls.specs.declared.Refusal.{Refusal}
use Rattle.calls.specs.declared.Side.{Side}
use Rattle.calls.specs.declared.Side.TheVariants.{A, B}
use Rattle.udp.specs.declared.StreamCounts.{StreamCounts}
use Rattle.channel.specs.declared.Channel.{Channel}
use Rattle.receiver_state.specs.declared.Receiver.{Receiver}
use Rattle.receiver_state.specs.declared.Answer.{Answer}
use Rattle.receiver_state.specs.declared.Answered.{Answered}

-- one accepted call more
abbrev pub counted : Receiver → Receiver
counted r = record r { calls = r.calls + 1 }

abbrev pub clock_set : AudioMetrics → Receiver → Receiver
clock_set k r = record r { clock = k }

abbrev pub channel_set : Side → Channel → Receiver → Receiver
channel_set A c r = record r { a = c }
channel_set B c r = record r { b = c }

-- one datagram more with a valid header, and other counts
abbrev pub header_set : StreamCounts → StreamCounts → Receiver → Receiver
header_set audio waterfall r = record r { incoming = r.incoming + 1; audio = audio; waterfall = waterfall }

-- a call's work, or the receiver as it came with the question that refuses the call
abbrev pub answered : Receiver → Result (Receiver × Answer) Refusal → Answered
answered r (Ok work) = record { receiver = work.0; answer = Ok work.1 }
answered r (Err why) = record { receiver = r; answer = Err why }
