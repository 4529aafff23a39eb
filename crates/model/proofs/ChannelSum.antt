-- The channel sum: packet × (inserted + concealed) = taken + dropped + queued + packet × waiting, and filled = short total + packet × concealed,
-- over the plays since the last reset. Each call changes the two sides alike. Assumes nothing.
use mathlib.Core.Path.{◌≡◌, refl}
use mathlib.Core.Bool.{true, false, cond, ◌&&◌, and-false}
use mathlib.Core.Option.{Option, none, some}
use mathlib.Core.List.{List, [], ◌∷◌}
use Prim.Native.Nat.{ℕ, ◌+◌, ◌*◌, ◌≤◌}
use native.Mathlib.Omega.{arith}
use lib.ListN.{length}
use lib.Ieee.{Float}
use borrow.Author.Tests.{leb-true}
use Rattle.model.specs.Sizes.{Sizes}
use Rattle.model.specs.Framing.{header_fields, Side, A, B, Stream, audio, waterfall, other_stream, stream_in}
use Rattle.model.specs.JitterBuffer as Jitter
use Rattle.model.specs.JitterBuffer.{Buffer, Played, buffered}
use Rattle.model.specs.Clock.{Clock}
use Rattle.model.specs.Receiver.{Setup, Settings, Call, datagram, play, reset, set, State, Channel, Lent, Answer, refused, channel_of, is_accepted, fresh_channel, fresh}
use Rattle.model.specs.Questions.{most_added, first_no, own_questions, questions, stream_allowed}
use Rattle.model.specs.Step.{ChannelResult, with_buffer, play_channel, reset_channel, set_channel, audio_into, waterfall_into, on_side, on_clock, count_header, dispatch, take_datagram, changes, one_call_more, accept, decide, step, run}
use Rattle.model.specs.Lines.{same_side, of_play, tally, tally_from}
use Rattle.model.proofs.BoolLaws.{by_test, cond_keeps}
use Rattle.model.specs.WholeList.{All, CallBytes}
use Rattle.model.proofs.FieldRange.{Bytes, sequence_below}
use Rattle.model.proofs.SizeLaws.{Allowed, allowed}
use Rattle.model.proofs.BufferKept.{Moves}
use Rattle.model.proofs.ChannelKept.{ChannelKept, Acts, play_acts, set_acts, audio_acts, waterfall_acts, waterfall_plays_none}
use Rattle.model.proofs.Held.{StateKept}
use Rattle.model.proofs.Accepted.{first_yes}
use Rattle.model.proofs.Reachable.{step_keeps}

-- the two sums of a buffer, with taken, dropped and short added up over the plays since its last reset
pub record Tallied (z : Sizes) (b : Buffer Float) (taken dropped short : ℕ) : Type 0 where
  pub sum : z.packet * (b.counters.inserted + b.counters.concealed) ≡ taken + dropped + length b.queue + z.packet * length b.waiting
  pub filled : b.counters.filled ≡ short + z.packet * b.counters.concealed

moves_tallied : (z : Sizes) (most : ℕ) (b c : Buffer Float) (t d h t' d' h' : ℕ) → Moves z most b c (t' + d') h' → Tallied z b t d h
    → Tallied z c (t + t') (d + d') (h + h')
unfolding buffered
moves_tallied z most b c t d h t' d' h' m k = omega arith

abbrev taken_of : Answer → ℕ
taken_of a = of_play (λ p. p.taken) a

abbrev dropped_of : Answer → ℕ
dropped_of a = of_play (λ p. p.dropped) a

abbrev short_of : Answer → ℕ
short_of a = of_play (λ p. p.short) a

-- ---- a call on one side

-- the sums of a side's channel
abbrev pub TalliedOn : Side → State → ℕ → ℕ → ℕ → Type 0
TalliedOn side s t d h = Tallied s.sizes (channel_of side s).buffer t d h

side_tallied : (side u : Side) (f : Channel → ChannelResult) (s : State) (t d h : ℕ) → same_side side u ≡ true
    → Acts s.sizes (channel_of u s) (f (channel_of u s)) → TalliedOn side s t d h
    → TalliedOn side (on_side u f s).after (t + taken_of (on_side u f s).answer) (d + dropped_of (on_side u f s).answer) (h + short_of (on_side u f s).answer)
unfolding on_side
side_tallied A A f s t d h e a k = moves_tallied s.sizes most_added _ _ t d h _ _ _ a.moves k
side_tallied A B f s t d h e a k = cc
side_tallied B A f s t d h e a k = cc
side_tallied B B f s t d h e a k = moves_tallied s.sizes most_added _ _ t d h _ _ _ a.moves k

side_untouched : (side u : Side) (f : Channel → ChannelResult) (s : State) (t d h : ℕ) → same_side side u ≡ false → TalliedOn side s t d h
    → TalliedOn side (on_side u f s).after t d h
unfolding on_side
side_untouched A A f s t d h e k = cc
side_untouched A B f s t d h e k = k
side_untouched B A f s t d h e k = k
side_untouched B B f s t d h e k = cc

-- a call that plays nothing adds nothing
side_no_play : (side u : Side) (f : Channel → ChannelResult) (s : State) (t d h : ℕ)
    → ((g : Played Float → ℕ) → of_play g (on_side u f s).answer ≡ 0)
    → Acts s.sizes (channel_of u s) (f (channel_of u s)) → TalliedOn side s t d h → TalliedOn side (on_side u f s).after t d h
side_no_play side u f s t d h zero a k =
    by_test (same_side side u)
    (λ e. let m = side_tallied side u f s t d h e a k in
    let t0 = zero (λ p. p.taken) in
    let d0 = zero (λ p. p.dropped) in
    let h0 = zero (λ p. p.short) in
    omega arith)
    (λ e. side_untouched side u f s t d h e k)

-- ---- the eight calls

kept_channel : (side : Side) (s : State) → StateKept s → ChannelKept s.sizes (channel_of side s)
kept_channel A s k = k.channel_a
kept_channel B s k = k.channel_b

header_channel : (side : Side) (sequence : ℕ) (stream : Stream) (s : State) → channel_of side (count_header sequence stream s) ≡ channel_of side s
unfolding count_header
header_channel A sequence stream s = refl
header_channel B sequence stream s = refl

audio_plays_none : (u : Side) (z : Sizes) (sequence : ℕ) (payload : List ℕ) (s : State) (g : Played Float → ℕ)
    → of_play g (on_side u (audio_into z sequence payload) s).answer ≡ 0
unfolding on_side audio_into of_play
audio_plays_none A z sequence payload s g = refl
audio_plays_none B z sequence payload s g = refl

row_plays_none : (u : Side) (z : Sizes) (payload : List ℕ) (s : State) (g : Played Float → ℕ)
    → of_play g (on_side u (waterfall_into z payload) s).answer ≡ 0
unfolding on_side
row_plays_none A z payload s g = waterfall_plays_none g z payload s.channel_a
row_plays_none B z payload s g = waterfall_plays_none g z payload s.channel_b

set_plays_none : (u : Side) (x : Settings) (s : State) (g : Played Float → ℕ) → of_play g (on_side u (set_channel x) s).answer ≡ 0
unfolding on_side set_channel of_play
set_plays_none A x s g = refl
set_plays_none B x s g = refl

dispatch_tallied : (side : Side) (bytes : List ℕ) (stream : Stream) (s : State) (t d h : ℕ) → Bytes bytes → Allowed s.sizes
    → stream_allowed s.sizes bytes stream ≡ true → ((u : Side) → ChannelKept s.sizes (channel_of u s)) → TalliedOn side s t d h
    → TalliedOn side (dispatch (header_fields bytes) bytes stream s).after t d h
unfolding dispatch stream_allowed
dispatch_tallied side bytes (audio u) s t d h b a q k m =
    side_no_play side u _ s t d h (audio_plays_none u _ _ _ s) (audio_acts s.sizes _ _ (channel_of u s) a (sequence_below bytes b) (k u)) m
dispatch_tallied side bytes (waterfall u) s t d h b a q k m =
    side_no_play side u _ s t d h (row_plays_none u _ _ s) (waterfall_acts s.sizes _ (channel_of u s) a q (k u)) m
dispatch_tallied side bytes other_stream s t d h b a q k m = m

datagram_tallied : (side : Side) (bytes : List ℕ) (s : State) (t d h : ℕ) → Bytes bytes → first_no (own_questions s.sizes (datagram bytes)) ≡ none → StateKept s
    → TalliedOn side s t d h → TalliedOn side (take_datagram bytes s).after t d h
unfolding own_questions take_datagram count_header
datagram_tallied side bytes s t d h b q k m =
    let six = first_yes _ _ q in
    let seven = first_yes _ _ six.1 in
    let eight = first_yes _ _ seven.1 in
    let n = (header_fields bytes).sequence in
    let s' = count_header n (stream_in bytes) s in
    dispatch_tallied side bytes (stream_in bytes) s' t d h b (allowed s.sizes k.allowed) eight.0
    (λ u. rw (header_channel u n (stream_in bytes) s) (kept_channel u s k))
    (rw (header_channel side n (stream_in bytes) s) m)

play_fits : (z : Sizes) (u : Side) (n : ℕ) → first_no (own_questions z (play u n)) ≡ none → n ≤ 65535
unfolding own_questions
play_fits z u n q = leb-true n 65535 (first_yes _ _ q).0

reset_tallied : (side u : Side) (s : State) (t d h : ℕ) → TalliedOn side s t d h
    → TalliedOn side (on_side u reset_channel s).after
    (cond (same_side side u && is_accepted (on_side u reset_channel s).answer) 0 t)
    (cond (same_side side u && is_accepted (on_side u reset_channel s).answer) 0 d)
    (cond (same_side side u && is_accepted (on_side u reset_channel s).answer) 0 h)
unfolding on_side reset_channel with_buffer Jitter.reset is_accepted
reset_tallied A A s t d h k = omega arith
reset_tallied A B s t d h k = k
reset_tallied B A s t d h k = k
reset_tallied B B s t d h k = omega arith

play_tallied : (side u : Side) (n : ℕ) (s : State) (t d h : ℕ) → Acts s.sizes (channel_of u s) (play_channel s.sizes n (channel_of u s)) → TalliedOn side s t d h
    → TalliedOn side (on_side u (play_channel s.sizes n) s).after
    (cond (same_side side u) (t + taken_of (on_side u (play_channel s.sizes n) s).answer) t)
    (cond (same_side side u) (d + dropped_of (on_side u (play_channel s.sizes n) s).answer) d)
    (cond (same_side side u) (h + short_of (on_side u (play_channel s.sizes n) s).answer) h)
play_tallied side u n s t d h a k =
    by_test (same_side side u)
    (λ e. rw e (side_tallied side u (play_channel s.sizes n) s t d h e a k))
    (λ e. rw e (side_untouched side u (play_channel s.sizes n) s t d h e k))

clock_tallied : (side : Side) (f : Clock → Clock) (s : State) (t d h : ℕ) → TalliedOn side s t d h → TalliedOn side (on_clock f s).after t d h
unfolding on_clock
clock_tallied A f s t d h k = k
clock_tallied B f s t d h k = k

-- the sums after one call more
abbrev pub TalliedAfter : Side → State → Call → Answer → ℕ → ℕ → ℕ → Type 0
TalliedAfter side s c a t d h =
    TalliedOn side s (tally side (λ p. p.taken) c a t) (tally side (λ p. p.dropped) c a d) (tally side (λ p. p.short) c a h)

changes_tallied : (side : Side) (c : Call) (s : State) (t d h : ℕ) → CallBytes c → first_no (own_questions s.sizes c) ≡ none → StateKept s
    → TalliedOn side s t d h → TalliedAfter side (changes c s).after c (changes c s).answer t d h
unfolding changes tally
changes_tallied side (datagram bytes) s t d h b q k m = datagram_tallied side bytes s t d h b q k m
changes_tallied side (play u n) s t d h b q k m =
    play_tallied side u n s t d h (play_acts s.sizes n (channel_of u s) (allowed s.sizes k.allowed) (play_fits s.sizes u n q) (kept_channel u s k)) m
changes_tallied side (reset u) s t d h b q k m = reset_tallied side u s t d h m
changes_tallied side (set u x) s t d h b q k m =
    side_no_play side u (set_channel x) s t d h (set_plays_none u x s) (set_acts s.sizes x (channel_of u s) (kept_channel u s k)) m
changes_tallied side _ s t d h b q k m = clock_tallied side _ s t d h m

-- counting the call moves nothing
counted_tallied : (side : Side) (s : State) (t d h : ℕ) → TalliedOn side s t d h → TalliedOn side (one_call_more s) t d h
unfolding one_call_more
counted_tallied A s t d h k = k
counted_tallied B s t d h k = k

accept_tallied : (side : Side) (c : Call) (s : State) (t d h : ℕ) → CallBytes c → first_no (own_questions s.sizes c) ≡ none → StateKept s
    → TalliedOn side s t d h → TalliedAfter side (accept c s).after c (accept c s).answer t d h
unfolding accept
accept_tallied side c s t d h b q k m = counted_tallied side (changes c s).after _ _ _ (changes_tallied side c s t d h b q k m)

-- a refused call adds nothing
refused_tally : (side : Side) (g : Played Float → ℕ) (c : Call) (n sum : ℕ) → tally side g c (refused n) sum ≡ sum
unfolding tally of_play is_accepted
refused_tally side g (play u k) n sum =
    cond_keeps (λ (m : ℕ). m ≡ sum) (same_side side u) (sum + 0) sum (λ e. omega arith) (λ e. refl)
refused_tally side g (reset u) n sum = rw (and-false (same_side side u))
refused_tally side g _ n sum = refl

decided_tallied : (side : Side) (lent : Lent) (c : Call) (s : State) (o : Option ℕ) (t d h : ℕ) → first_no (questions lent s c) ≡ o → CallBytes c → StateKept s
    → TalliedOn side s t d h → TalliedAfter side (decide o c s).after c (decide o c s).answer t d h
unfolding decide questions
decided_tallied side lent c s (some n) t d h e b k m =
    rw (refused_tally side (λ p. p.taken) c n t, refused_tally side (λ p. p.dropped) c n d, refused_tally side (λ p. p.short) c n h) m
decided_tallied side lent c s none t d h e b k m =
    let one = first_yes _ _ e in
    let two = first_yes _ _ one.1 in
    let three = first_yes _ _ two.1 in
    let four = first_yes _ _ three.1 in
    accept_tallied side c s t d h b four.1 k m

step_tallied : (side : Side) (lent : Lent) (c : Call) (s : State) (t d h : ℕ) → CallBytes c → StateKept s → TalliedOn side s t d h
    → TalliedAfter side (step lent c s).after c (step lent c s).answer t d h
unfolding step
step_tallied side lent c s t d h b k m = decided_tallied side lent c s (first_no (questions lent s c)) t d h refl b k m

-- the sums hold after every list of calls
pub run_tallied : (side : Side) (lent : Lent) (cs : List Call) (s : State) (t d h : ℕ) → All CallBytes cs → StateKept s → TalliedOn side s t d h
    → TalliedOn side (run lent cs s).after (tally_from side (λ p. p.taken) t (run lent cs s).events)
    (tally_from side (λ p. p.dropped) d (run lent cs s).events) (tally_from side (λ p. p.short) h (run lent cs s).events)
unfolding run tally_from
run_tallied side lent [] s t d h b k m = m
run_tallied side lent (c ∷ cs) s t d h b k m =
    run_tallied side lent cs (step lent c s).after _ _ _ b.1 (step_keeps lent c s b.0 k) (step_tallied side lent c s t d h b.0 k m)

pub fresh_tallied : (side : Side) (setup : Setup) → TalliedOn side (fresh setup) 0 0 0
unfolding fresh fresh_channel
fresh_tallied A setup = omega arith
fresh_tallied B setup = omega arith
