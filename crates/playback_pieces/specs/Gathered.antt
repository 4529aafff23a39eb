-- Steps one after the other whose pieces stand one behind the other at the front of a text. Assumes nothing.
use Rattle.std.specs.Prelude.{ℕ, ◌+◌, ◌≤◌, ◌<◌, ◌≡◌, Bool, true, false, cond, List, [], ◌++◌, length, take, drop, ltb, Float, Option, Some, None, Ok, Err}
use Rattle.playback_parts.specs.declared.Form.{Form}
use Rattle.playback_parts.specs.declared.Playback.{Playback}
use Rattle.playback_parts.specs.Doings.{makes_call}
use Rattle.playback_parts.specs.Parts.{TextPut}
use Rattle.playback.specs.declared.Wrote.{Wrote}
use Rattle.playback.specs.Steps.{steps_left, WrittenAs, Step, DoneAs}
use Rattle.playback.specs.Chains.{Moment, WroteAs}
use Rattle.playback_pieces.specs.declared.Stop.{Stop}
use Rattle.playback_pieces.specs.declared.Gathered.{Gathered}

-- ---- how far the steps may go

-- a place before another, where one is named
abbrev pub is_before : ℕ → Option ℕ → Bool
is_before place None = true
is_before place (Some until) = ltb place until

-- what is printed next is no call, or a call before a place
abbrev pub comes_before : Playback → Option ℕ → Bool
comes_before w until = cond (makes_call w.doing) (is_before w.place until) true

-- the bytes that the steps wrote from one moment to another, with no call at the place `until` or behind it
pub data StepsBefore (form : Form) (until : Option ℕ) (tape : List ℕ) : Moment → List ℕ → Moment → Type 0 where
  here : {m : Moment} → StepsBefore form until tape m [] m
  wrote : {m n last : Moment} {text text' printed : List ℕ} {v : Wrote}
      → comes_before m.playback until ≡ true
      → WroteAs form tape m text v n text'
      → n.playback ≡ v.playback
      → StepsBefore form until tape n printed last
      → StepsBefore form until tape m (take v.bytes text' ++ printed) last

-- ---- a step that does not write

abbrev pub WritesNothing : Step → Type 0
WritesNothing (Ok (Some v)) = ⊥
WritesNothing (Ok None) = Unit {0}
WritesNothing (Err why) = Unit {0}

-- the step that comes next, with this text, writes nothing and changes nothing
pub record EndsHere (form : Form) (tape : List ℕ) (m : Moment) (text : List ℕ) : Type 0 where
  pub step : Step
  pub writes_nothing : WritesNothing step
  pub done : DoneAs form tape m.playback m.floats m.words m.samples text step m.floats m.words m.samples text

abbrev pub moment : Playback → List Float → List ℕ → List Float → Moment
moment w fs us samples = record { playback = w; floats = fs; words = us; samples = samples }

-- ---- one step

-- a step wrote behind what was there
pub record WroteBehind (form : Form) (tape : List ℕ) (p : Wrote) (fs : List Float) (us : List ℕ) (samples : List Float) (text : List ℕ) (q : Wrote) (fs' : List Float) (us' : List ℕ) (samples' : List Float) (text' : List ℕ) : Type 0 where
  pub wrote : Wrote
  pub behind : List ℕ
  pub step : WrittenAs form tape p.playback fs us samples (drop p.bytes text) wrote fs' us' samples' behind
  pub playback_is : q.playback ≡ wrote.playback
  pub bytes_is : q.bytes ≡ p.bytes + wrote.bytes
  pub target : text' ≡ take p.bytes text ++ behind

abbrev pub Further : Form → List ℕ → Wrote → List Float → List ℕ → List Float → List ℕ → Option Wrote → List Float → List ℕ → List Float → List ℕ → Type 0
Further form tape p fs us samples text (Some q) fs' us' samples' text' = WroteBehind form tape p fs us samples text q fs' us' samples' text'
Further form tape p fs us samples text None fs' us' samples' text' =
    EndsHere form tape (moment p.playback fs us samples) (drop p.bytes text)
    × (fs' ≡ fs)
    × (us' ≡ us)
    × (samples' ≡ samples)
    × (text' ≡ text)

-- ---- all of them

-- why no further step was made
abbrev pub StoppedBy : Form → List ℕ → Option ℕ → Moment → ℕ → List ℕ → Stop → Type 0
StoppedBy form tape until m bytes text Stop.Full = length text < bytes + 170
StoppedBy form tape until m bytes text Stop.Far = comes_before m.playback until ≡ false
StoppedBy form tape until m bytes text Stop.Ended = EndsHere form tape m (drop bytes text) × (bytes + 170 ≤ length text)

-- what stands at the front of the text is what the steps wrote, one after the other
pub record Gathering (form : Form) (tape : List ℕ) (until : Option ℕ) (m : Moment) (text : List ℕ) (n : Moment) (bytes : ℕ) (text' : List ℕ) : Type 0 where
  pub printed : List ℕ
  pub put : TextPut printed text text' bytes
  pub inside : bytes ≤ length text
  pub steps : StepsBefore form until tape m printed n
  pub float_length : length n.floats ≡ length m.floats
  pub word_length : length n.words ≡ length m.words
  pub sample_length : length n.samples ≡ length m.samples
  pub no_more : steps_left tape n.playback n.floats n.samples ≤ steps_left tape m.playback m.floats m.samples
  -- where something was written, fewer steps are left
  pub less : 0 < bytes → steps_left tape n.playback n.floats n.samples < steps_left tape m.playback m.floats m.samples

pub record AllGathered (form : Form) (tape : List ℕ) (until : Option ℕ) (m : Moment) (text : List ℕ) (r : Gathered) (n : Moment) (text' : List ℕ) : Type 0 where
  pub gathering : Gathering form tape until m text n r.bytes text'
  pub stopped : StoppedBy form tape until n r.bytes text' r.stop
