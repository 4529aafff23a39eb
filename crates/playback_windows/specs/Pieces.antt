-- Many steps through a window, their pieces one behind the other at the front of a text. Assumes nothing.
use Rattle.std.specs.Prelude.{ℕ, ◌+◌, ◌*◌, ◌≤◌, max, ◌≡◌, Bool, true, false, List, length, Option}
use Rattle.tape_windows.specs.Windows.{WindowOf, longest_call, reaches, EndsBefore}
use Rattle.playback_parts.specs.declared.Form.{Form}
use Rattle.playback.specs.Chains.{Moment}
use Rattle.playback_pieces.specs.declared.Gathered.{Gathered}
use Rattle.playback_pieces.specs.Gathered.{is_before, AllGathered}
use Rattle.playback_windows.specs.Promises.{playback_from_start}
use Rattle.playback_windows.specs.Through.{StepsBy}

-- a call at a place before r is whole in the window; a window that is not the last may end inside one at r or behind it
pub record ReachOf (window : List ℕ) (last : Bool) (r : Option ℕ) : Type 0 where
  pub before : (place : ℕ) → is_before place r ≡ true → reaches window (place + longest_call) last ≡ true
  pub behind : last ≡ false → (place : ℕ) → is_before place r ≡ false → EndsBefore window (place + longest_call) last

-- a moment with its place counted from the tape's first word
abbrev pub moment_from_start : ℕ → Moment → Moment
moment_from_start base m = record { playback = playback_from_start base m.playback; floats = m.floats; words = m.words; samples = m.samples }

-- the steps through the window are steps through each tape that it can be a window of
pub record PiecesIn (form : Form) (window : List ℕ) (last : Bool) (m : Moment) (text : List ℕ) (r : Gathered) (n : Moment) (text' : List ℕ) : Type 0 where
  pub until : Option ℕ
  pub reach : ReachOf window last until
  pub gathered : AllGathered form window until m text r n text'
  pub stands : (whole : List ℕ) (base : ℕ) → WindowOf whole base window last → StepsBy form whole (moment_from_start base m) gathered.gathering.printed (moment_from_start base n)
  -- the place does not lie past the window's end, unless the first one does
  pub inside : 4 * n.playback.place ≤ max (4 * m.playback.place) (length window)
