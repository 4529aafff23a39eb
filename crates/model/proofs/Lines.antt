-- Lines are independent: a call changes its own line only, and what it answers and leaves there comes from that line alone. Assumes nothing.
use mathlib.Core.Path.{◌≡◌, refl, sym, ◌∙◌, ap}
use mathlib.Core.Bool.{true, false}
use mathlib.Core.Option.{Option, none, some}
use mathlib.Core.List.{List, [], ◌∷◌}
use Prim.Native.Nat.{ℕ, suc}
use native.Mathlib.Omega.{arith}
use lib.ListN.{length, drop}
use Rattle.model.specs.Sizes.{Sizes}
use Rattle.model.specs.Framing.{header_fields, header_length, Side, A, B, Stream, audio, waterfall, other_stream, stream_in}
use Rattle.model.specs.Samples.{audio_payload}
use Rattle.model.specs.Clock.{Clock}
use Rattle.model.specs.Receiver.{Call, datagram, play, reset, set, State, Channel, Lent, StepResult}
use Rattle.model.specs.Questions.{first_no, own_questions}
use Rattle.model.specs.Step.{ChannelResult, play_channel, reset_channel, set_channel, audio_into, waterfall_into, on_side, on_clock, counts_after, count_header, dispatch, take_datagram, changes, one_call_more, accept, decide, step, Run, run}
use Rattle.model.specs.Lines.{Line, channel, clock, stream_line, line_of, same_line, is_of, only_calls, only_events, line_state}
use Rattle.model.proofs.BoolLaws.{by_test, both_and}
use Rattle.model.specs.WholeList.{All, CallBytes}
use Rattle.model.proofs.Accepted.{first_yes}
use Rattle.model.proofs.Reachable.{Ready, ready_step, Room, room_ready, room_step, step_at_most}

-- two results that a line cannot tell apart
pub record Agree (l : Line) (r q : StepResult) : Type 0 where
  pub answer : r.answer ≡ q.answer
  pub after : line_state l r.after ≡ line_state l q.after

same_line_law : (l m : Line) → same_line l m ≡ true → l ≡ m
same_line_law (channel A) (channel A) h = refl
same_line_law (channel B) (channel B) h = refl
same_line_law clock clock h = refl
same_line_law _ _ h = cc

-- ---- the parts of a step

-- a call on one side, which may look at the sizes
side_agree : (F : Sizes → Channel → ChannelResult) (side : Side) (s t : State) → s.sizes ≡ t.sizes
    → line_state (channel side) s ≡ line_state (channel side) t
    → Agree (channel side) (on_side side (F s.sizes) s) (on_side side (F t.sizes) t)
unfolding on_side line_state
side_agree F A s t z e =
    let k : s.counts ≡ t.counts = cc in
    let c : s.channel_a ≡ t.channel_a = cc in
    record { answer = cc; after = cc }
side_agree F B s t z e =
    let c : s.channel_b ≡ t.channel_b = cc in
    record { answer = cc; after = cc }

side_same : (F : Sizes → Channel → ChannelResult) (l : Line) (side : Side) (s t : State) → same_line l (channel side) ≡ true → s.sizes ≡ t.sizes
    → line_state l s ≡ line_state l t → Agree l (on_side side (F s.sizes) s) (on_side side (F t.sizes) t)
side_same F l side s t h z e =
    let q = same_line_law l (channel side) h in
    rw q (side_agree F side s t z (rw q at e))

side_other : (l : Line) (side : Side) (f : Channel → ChannelResult) (s : State) → same_line l (channel side) ≡ false
    → line_state l (on_side side f s).after ≡ line_state l s
unfolding on_side line_state
side_other (channel A) A f s h = cc
side_other (channel B) B f s h = cc
side_other _ A f s h = refl
side_other _ B f s h = refl

clock_same : (l : Line) (f : Clock → Clock) (s t : State) → same_line l clock ≡ true → line_state l s ≡ line_state l t
    → Agree l (on_clock f s) (on_clock f t)
unfolding on_clock line_state
clock_same (channel side) f s t h e = cc
clock_same clock f s t h e = let c : s.clock ≡ t.clock = cc in record { answer = refl; after = cc }

clock_other : (l : Line) (f : Clock → Clock) (s : State) → same_line l clock ≡ false → line_state l (on_clock f s).after ≡ line_state l s
unfolding on_clock line_state
clock_other clock f s h = cc
clock_other (channel A) f s h = refl
clock_other (channel B) f s h = refl

-- ---- datagrams

header_same : (l : Line) (sequence : ℕ) (stream : Stream) (s t : State) → line_state l s ≡ line_state l t
    → line_state l (count_header sequence stream s) ≡ line_state l (count_header sequence stream t)
unfolding count_header line_state
header_same (channel A) sequence stream s t e =
    let k : s.counts ≡ t.counts = cc in
    let c : s.channel_a ≡ t.channel_a = cc in
    cc
header_same (channel B) sequence stream s t e = e
header_same clock sequence stream s t e = e

header_other : (l : Line) (sequence : ℕ) (stream : Stream) (s : State) → is_of l (stream_line stream) ≡ false
    → line_state l (count_header sequence stream s) ≡ line_state l s
unfolding count_header line_state counts_after stream_line
header_other (channel A) sequence (audio A) s h = cc
header_other (channel A) sequence (waterfall A) s h = cc
header_other _ sequence _ s h = refl

dispatch_other : (l : Line) (bytes : List ℕ) (stream : Stream) (s : State) → is_of l (stream_line stream) ≡ false
    → line_state l (dispatch (header_fields bytes) bytes stream s).after ≡ line_state l s
unfolding dispatch stream_line
dispatch_other l bytes (audio side) s h = side_other l side _ s h
dispatch_other l bytes (waterfall side) s h = side_other l side _ s h
dispatch_other l bytes other_stream s h = refl

dispatch_same : (l : Line) (bytes : List ℕ) (stream : Stream) (s t : State) → s.sizes ≡ t.sizes → is_of l (stream_line stream) ≡ true
    → line_state l s ≡ line_state l t
    → Agree l (dispatch (header_fields bytes) bytes stream s) (dispatch (header_fields bytes) bytes stream t)
unfolding dispatch stream_line
dispatch_same l bytes (audio side) s t z h e =
    side_same (λ y. audio_into y (header_fields bytes).sequence (audio_payload (header_fields bytes).version bytes)) l side s t h z e
dispatch_same l bytes (waterfall side) s t z h e = side_same (λ y. waterfall_into y (drop header_length bytes)) l side s t h z e
dispatch_same l bytes other_stream s t z h e = cc

-- ---- accepted calls

-- a datagram that passes 6 and 7 has its stream's line
datagram_line : (z : Sizes) (bytes : List ℕ) → first_no (own_questions z (datagram bytes)) ≡ none → line_of (datagram bytes) ≡ stream_line (stream_in bytes)
unfolding own_questions line_of
datagram_line z bytes h =
    let six = first_yes _ _ h in
    let seven = first_yes _ _ six.1 in
    rw (both_and six.0 seven.0)

-- it changes its own line only
changes_other : (l : Line) (c : Call) (s : State) → first_no (own_questions s.sizes c) ≡ none → is_of l (line_of c) ≡ false
    → line_state l (changes c s).after ≡ line_state l s
unfolding changes line_of take_datagram
changes_other l (datagram bytes) s q h =
    let m : is_of l (stream_line (stream_in bytes)) ≡ false = rw (datagram_line s.sizes bytes q) at h in
    dispatch_other l bytes (stream_in bytes) (count_header (header_fields bytes).sequence (stream_in bytes) s) m
    ∙ header_other l (header_fields bytes).sequence (stream_in bytes) s m
changes_other l (play side n) s q h = side_other l side _ s h
changes_other l (reset side) s q h = side_other l side _ s h
changes_other l (set side x) s q h = side_other l side _ s h
changes_other l _ s q h = clock_other l _ s h

-- what it answers and leaves comes from its line
changes_same : (l : Line) (c : Call) (s t : State) → first_no (own_questions s.sizes c) ≡ none → is_of l (line_of c) ≡ true → s.sizes ≡ t.sizes
    → line_state l s ≡ line_state l t → Agree l (changes c s) (changes c t)
unfolding changes line_of take_datagram count_header
changes_same l (datagram bytes) s t q h z e =
    let m : is_of l (stream_line (stream_in bytes)) ≡ true = rw (datagram_line s.sizes bytes q) at h in
    let n = (header_fields bytes).sequence in
    dispatch_same l bytes (stream_in bytes) (count_header n (stream_in bytes) s) (count_header n (stream_in bytes) t) z m
    (header_same l n (stream_in bytes) s t e)
changes_same l (play side n) s t q h z e = side_same (λ y. play_channel y n) l side s t h z e
changes_same l (reset side) s t q h z e = side_same (λ y. reset_channel) l side s t h z e
changes_same l (set side x) s t q h z e = side_same (λ y. set_channel x) l side s t h z e
changes_same l _ s t q h z e = clock_same l _ s t h e

-- the number of accepted calls is no line's
counted_line : (l : Line) (s : State) → line_state l (one_call_more s) ≡ line_state l s
unfolding one_call_more line_state
counted_line (channel A) s = refl
counted_line _ s = refl

accept_other : (l : Line) (c : Call) (s : State) → first_no (own_questions s.sizes c) ≡ none → is_of l (line_of c) ≡ false
    → line_state l (accept c s).after ≡ line_state l s
unfolding accept
accept_other l c s q h = counted_line l (changes c s).after ∙ changes_other l c s q h

accept_same : (l : Line) (c : Call) (s t : State) → first_no (own_questions s.sizes c) ≡ none → is_of l (line_of c) ≡ true → s.sizes ≡ t.sizes
    → line_state l s ≡ line_state l t → Agree l (accept c s) (accept c t)
unfolding accept
accept_same l c s t q h z e =
    let a = changes_same l c s t q h z e in
    record { answer = a.answer; after = counted_line l (changes c s).after ∙ a.after ∙ sym (counted_line l (changes c t).after) }

-- ---- steps

decided_other : (l : Line) (c : Call) (s : State) (o : Option ℕ) → first_no (own_questions s.sizes c) ≡ o → is_of l (line_of c) ≡ false
    → line_state l (decide o c s).after ≡ line_state l s
unfolding decide
decided_other l c s (some n) q h = refl
decided_other l c s none q h = accept_other l c s q h

decided_same : (l : Line) (c : Call) (s t : State) (o : Option ℕ) → first_no (own_questions s.sizes c) ≡ o → is_of l (line_of c) ≡ true
    → s.sizes ≡ t.sizes → line_state l s ≡ line_state l t → Agree l (decide o c s) (decide o c t)
unfolding decide
decided_same l c s t (some n) q h z e = record { answer = refl; after = e }
decided_same l c s t none q h z e = accept_same l c s t q h z e

pub step_other : (lent : Lent) (l : Line) (c : Call) (s : State) → Ready lent s → is_of l (line_of c) ≡ false
    → line_state l (step lent c s).after ≡ line_state l s
step_other lent l c s r h = rw (ready_step lent c s r) (decided_other l c s (first_no (own_questions s.sizes c)) refl h)

pub step_same : (lent : Lent) (l : Line) (c : Call) (s t : State) → Ready lent s → Ready lent t → is_of l (line_of c) ≡ true → s.sizes ≡ t.sizes
    → line_state l s ≡ line_state l t → Agree l (step lent c s) (step lent c t)
step_same lent l c s t r p h z e =
    let asked : first_no (own_questions t.sizes c) ≡ first_no (own_questions s.sizes c) = ap (λ (y : Sizes). first_no (own_questions y c)) (sym z) in
    rw (ready_step lent c s r, ready_step lent c t p, asked) (decided_same l c s t (first_no (own_questions s.sizes c)) refl h z e)

-- ---- lists

-- what a line cannot tell apart after two lists
pub record Alike (l : Line) (r q : Run) : Type 0 where
  pub events : only_events l r.events ≡ q.events
  pub after : line_state l r.after ≡ line_state l q.after

room_less : (lent : Lent) (left : ℕ) (s : State) → Room lent (suc left) s → Room lent left s
room_less lent left s r = record { kept = r.kept; areas = r.areas; calls = omega (arith, r.calls) }

-- the answers and the final state of a line in a list are those of the line's calls alone
pub lines_alike : (lent : Lent) (l : Line) (cs : List Call) (s t : State) → All CallBytes cs → Room lent (length cs) s → Room lent (length cs) t
    → s.sizes ≡ t.sizes → line_state l s ≡ line_state l t → Alike l (run lent cs s) (run lent (only_calls l cs) t)
unfolding run only_calls only_events
lines_alike lent l [] s t b r p z e = record { events = refl; after = e }
lines_alike lent l (c ∷ cs) s t b r p z e =
    by_test (is_of l (line_of c))
    (λ h.
    let a = step_same lent l c s t (room_ready lent (length cs) s r) (room_ready lent (length cs) t p) h z e in
    let same : (step lent c s).after.sizes ≡ (step lent c t).after.sizes = (step_at_most lent c s).sizes ∙ z ∙ sym (step_at_most lent c t).sizes in
    let rest =
    lines_alike lent l cs (step lent c s).after (step lent c t).after b.1
    (room_step lent (length cs) c s b.0 r) (room_step lent (length cs) c t b.0 p) same a.after in
    rw h (record { events = rw (h, a.answer, rest.events); after = rest.after }))
    (λ h.
    let rest =
    lines_alike lent l cs (step lent c s).after t b.1 (room_step lent (length cs) c s b.0 r) (room_less lent (length cs) t p)
    ((step_at_most lent c s).sizes ∙ z) (step_other lent l c s (room_ready lent (length cs) s r) h ∙ e) in
    rw h (record { events = rw h rest.events; after = rest.after }))
