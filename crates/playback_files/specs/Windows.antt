-- Where a replay by windows of a file is, and that what leads there are steps of the tape. Assumes nothing.
use Rattle.std.specs.Prelude.{ℕ, ◌+◌, ◌*◌, ◌≤◌, ◌<◌, max, ◌≡◌, Bool, false, List, ◌⊎◌, length, Float, Option, Some, None, Result, Ok, Err}
use Rattle.files.specs.declared.File.{File}
use Rattle.tape.specs.declared.Setup.{Setup}
use Rattle.tape_files.specs.Readings.{KnownOf}
use Rattle.tape_windows.specs.Windows.{WindowOf, longest_call, EndsBefore}
use Rattle.playback_parts.specs.declared.Form.{Form}
use Rattle.playback_parts.specs.declared.Doing.{Doing}
use Rattle.playback_parts.specs.declared.Playback.{Playback}
use Rattle.playback.specs.Chains.{Moment}
use Rattle.playback_pieces.specs.Gathered.{moment}
use Rattle.playback_opening.specs.declared.NotBegun.{NotBegun}
use Rattle.playback_windows.specs.Promises.{playback_from_start, BegunIn}
use Rattle.playback_windows.specs.Through.{StepsBy}
use Rattle.playback_windows.specs.Pieces.{moment_from_start}
use Rattle.playback_pieces.specs.declared.Stop.{Stop}
use Rattle.playback_pieces.specs.declared.Gathered.{Gathered}
use Rattle.playback_files.specs.declared.NotReplayed.{NotReplayed}
use Rattle.playback_files.specs.declared.places.Playing.{Playing}

-- a replay that has not begun did not come to its end
abbrev pub not_replayed : NotBegun → NotReplayed
not_replayed NotBegun.NoRoom = NotReplayed.NoRoom
not_replayed (NotBegun.Refused n) = NotReplayed.Refused n

-- what a replay comes to
abbrev pub Ending : Type 0
Ending = Result (Unit {0}) NotReplayed

-- where it goes on after a window, or what it comes to
abbrev pub Went : Type 0
Went = Result (Option Playing) NotReplayed

-- the place stays inside the window; where the next window is asked for, a call there may end behind this one
pub record ThroughIn (window : List ℕ) (last : Bool) (w : Playback) (r : Gathered) : Type 0 where
  pub inside : 4 * r.playback.place ≤ max (4 * w.place) (length window)
  pub next : r.stop ≡ Stop.Far → last ≡ false → EndsBefore window (r.playback.place + longest_call) last

-- Steps by a window whose first word is the tape's word `base` lead from one moment to another, whose place is counted from the word `next`: they are
-- steps of each tape that it can be a window of.
abbrev pub StepsOn : Form → List ℕ → Bool → ℕ → Moment → ℕ → Moment → Type 0
StepsOn form window last base m next n =
    (whole : List ℕ) → WindowOf whole base window last → (printed : List ℕ) × StepsBy form whole (moment_from_start base m) printed (moment_from_start next n)

-- the pieces by a window are steps by it; where one could not be written, those up to it are
abbrev pub Through : Form → List ℕ → Bool → Playback → List Float → List ℕ → List Float → Result Gathered NotReplayed → List Float → List ℕ → List Float → Type 0
Through form window last w fs us samples (Ok r) fs' us' samples' =
    ((base : ℕ) → StepsOn form window last base (moment w fs us samples) base (moment r.playback fs' us' samples')) × ThroughIn window last w r
Through form window last w fs us samples (Err why) fs' us' samples' =
    (v : Playback) × ((base : ℕ) → StepsOn form window last base (moment w fs us samples) base (moment v fs' us' samples')) × (why ≡ NotReplayed.Unwritten)

-- ---- from window to window

-- the next window begins further on in the file
abbrev pub Gone : ℕ → ℕ → Went → Type 0
Gone bytes base (Ok (Some q)) = (base < q.base) × (4 * q.base ≤ bytes)
Gone bytes base (Ok None) = Unit {0}
Gone bytes base (Err why) = Unit {0}

-- the session is over only where all is printed
abbrev pub OverWhereDone : Ending → Doing → Type 0
OverWhereDone (Ok done) doing = doing ≡ Doing.Done
OverWhereDone (Err (NotReplayed.Refused n)) doing = ⊥
OverWhereDone (Err NotReplayed.NoRoom) doing = ⊥
OverWhereDone _ doing = Unit {0}

-- a replay that goes on is the same replay of the tape, with its place counted from where the next window begins
abbrev pub SameReplay : Playing → Gathered → Went → Type 0
SameReplay p t (Ok (Some q)) = playback_from_start q.base q.playback ≡ playback_from_start p.base t.playback
SameReplay p t (Ok None) = OverWhereDone (Ok tt) t.playback.doing
SameReplay p t (Err why) = OverWhereDone (Err why) t.playback.doing

-- a replay that has begun ends as none does that has not
abbrev pub EndsBegun : Ending → Type 0
EndsBegun (Err (NotReplayed.Refused n)) = ⊥
EndsBegun (Err NotReplayed.NoRoom) = ⊥
EndsBegun _ = Unit {0}

abbrev pub WentBegun : Went → Type 0
WentBegun (Ok (Some q)) = Unit {0}
WentBegun (Ok None) = EndsBegun (Ok tt)
WentBegun (Err why) = EndsBegun (Err why)

-- steps of the tape lead from one moment to another
abbrev pub Led : Form → List ℕ → Moment → Moment → Type 0
Led form whole m n = (printed : List ℕ) × StepsBy form whole m printed n

-- steps of the tape lead to where a replay ended
pub record Ended (form : Form) (whole : List ℕ) (m : Moment) (e : Ending) (fs : List Float) (us : List ℕ) (samples : List Float) : Type 0 where
  pub playback : Playback
  pub led : Led form whole m (moment playback fs us samples)
  pub over : OverWhereDone e playback.doing

abbrev pub LedTo : Form → List ℕ → Moment → Went → List Float → List ℕ → List Float → Type 0
LedTo form whole m (Ok (Some q)) fs us samples = Led form whole m (moment_from_start q.base (moment q.playback fs us samples))
LedTo form whole m (Ok None) fs us samples = Ended form whole m (Ok tt) fs us samples
LedTo form whole m (Err why) fs us samples = Ended form whole m (Err why) fs us samples

-- by a window, of each tape that it can be a window of
abbrev pub StepsTo : Form → List ℕ → Bool → ℕ → Moment → Went → List Float → List ℕ → List Float → Type 0
StepsTo form window last base m r fs us samples = (whole : List ℕ) → WindowOf whole base window last → LedTo form whole (moment_from_start base m) r fs us samples

-- by the window that was read
abbrev pub NextStepsTo : Form → File → ℕ → ℕ → Moment → Went → List Float → List ℕ → List Float → Type 0
NextStepsTo form file room base m r fs us samples = KnownOf file room (λ whole. LedTo form whole (moment_from_start base m) r fs us samples)

-- ---- all windows

abbrev pub AllStepsTo : Form → File → ℕ → ℕ → Moment → Ending → List Float → List ℕ → List Float → Type 0
AllStepsTo form file room base m e fs us samples = KnownOf file room (λ whole. Ended form whole (moment_from_start base m) e fs us samples)

-- a receiver was set up, and steps of the tape led from there on
pub record Played (form : Form) (file : File) (setup : Setup) (room : ℕ) (fs : List Float) (us : List ℕ) (samples : List Float) (text : List ℕ) (e : Ending) (fs' : List Float) (us' : List ℕ) (samples' : List Float) : Type 0 where
  pub first : Playback
  pub words : List ℕ
  pub text_then : List ℕ
  pub begun : BegunIn setup fs us text (Ok first) words text_then
  pub steps : AllStepsTo form file room 0 (moment first fs words samples) e fs' us' samples'

abbrev pub Kept : List Float → List ℕ → List Float → List Float → List ℕ → List Float → Type 0
Kept fs us samples fs' us' samples' = (fs' ≡ fs) × (us' ≡ us) × (samples' ≡ samples)

abbrev pub Replayed : Form → File → Setup → ℕ → List Float → List ℕ → List Float → List ℕ → Ending → List Float → List ℕ → List Float → List ℕ → Type 0
Replayed form file setup room fs us samples text (Ok done) fs' us' samples' text' = Played form file setup room fs us samples text (Ok done) fs' us' samples'
Replayed form file setup room fs us samples text (Err (NotReplayed.Refused n)) fs' us' samples' text' = BegunIn setup fs us text (Err (NotBegun.Refused n)) us' text' × Kept fs us samples fs' us' samples'
Replayed form file setup room fs us samples text (Err NotReplayed.NoRoom) fs' us' samples' text' =
    ((room < 4 * longest_call) ⊎ (length text < 170)) × Kept fs us samples fs' us' samples' × (text' ≡ text)
Replayed form file setup room fs us samples text (Err NotReplayed.Unwritten) fs' us' samples' text' = Played form file setup room fs us samples text (Err NotReplayed.Unwritten) fs' us' samples'
Replayed form file setup room fs us samples text (Err (NotReplayed.Failed failure)) fs' us' samples' text' = Played form file setup room fs us samples text (Err (NotReplayed.Failed failure)) fs' us' samples'
Replayed form file setup room fs us samples text (Err NotReplayed.Changed) fs' us' samples' text' = Played form file setup room fs us samples text (Err NotReplayed.Changed) fs' us' samples'
