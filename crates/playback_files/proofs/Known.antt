-- What is known of a replay by the windows that were read. Assumes nothing.
use Prim.Native.Nat.{ℕ}
use mathlib.Core.List.{List, [], ◌++◌}
use lib.Ieee.{Float}
use Rattle.std.specs.Prelude.{Some, Ok, Err}
use Rattle.files.specs.declared.File.{File}
use Rattle.tape.specs.declared.Setup.{Setup}
use Rattle.tape_files.specs.Readings.{KnownOf}
use Rattle.tape_files.proofs.Readings.{known_unread, known_by_both}
use Rattle.playback_parts.specs.declared.Form.{Form}
use Rattle.playback_parts.specs.declared.Playback.{Playback}
use Rattle.playback.specs.Chains.{Moment}
use Rattle.playback_pieces.specs.Gathered.{moment}
use Rattle.playback_windows.specs.Promises.{playback_from_start, BegunIn}
use Rattle.playback_windows.specs.Through.{start}
use Rattle.playback_windows.specs.Pieces.{moment_from_start}
use Rattle.playback_windows.proofs.ToTheEnd.{steps_behind}
use Rattle.playback_files.specs.declared.places.Playing.{Playing}
use Rattle.playback_files.specs.declared.NotReplayed.{NotReplayed}
use Rattle.playback_files.specs.Windows.{Ending, OverWhereDone, EndsBegun, Led, Ended, LedTo, NextStepsTo, AllStepsTo, Replayed}

module _ {form : Form} {file : File} {room : ℕ} where
  -- before a window is read
  pub led_nowhere : (m : Moment) → KnownOf file room (λ whole. Led form whole m m)
  led_nowhere m = known_unread (λ whole. ([], start))

  -- a replay that ends where it is
  pub ends_here : (base : ℕ) (w : Playback) (fs : List Float) (us : List ℕ) (samples : List Float) (why : NotReplayed) → OverWhereDone (Err why) w.doing
      → NextStepsTo form file room base (moment w fs us samples) (Err why) fs us samples
  ends_here base w fs us samples why over = known_unread (λ whole. record { playback = playback_from_start base w; led = ([], start); over = over })

  -- by the windows so far, and then by the next one
  pub led_on : (m n : Moment) (q : Playing) (fs : List Float) (us : List ℕ) (samples : List Float)
      → KnownOf file room (λ whole. Led form whole m n)
      → KnownOf file room (λ whole. LedTo form whole n (Ok (Some q)) fs us samples)
      → KnownOf file room (λ whole. Led form whole m (moment_from_start q.base (moment q.playback fs us samples)))
  led_on m n q fs us samples before next = known_by_both before next (λ whole a b. (a.0 ++ b.0, steps_behind a.1 b.1))

  pub led_to_the_end : (m n : Moment) (e : Ending) (fs : List Float) (us : List ℕ) (samples : List Float)
      → KnownOf file room (λ whole. Led form whole m n)
      → KnownOf file room (λ whole. Ended form whole n e fs us samples)
      → KnownOf file room (λ whole. Ended form whole m e fs us samples)
  led_to_the_end m n e fs us samples before next =
      known_by_both before next (λ whole a b. record { playback = b.playback; led = (a.0 ++ b.led.0, steps_behind a.1 b.led.1); over = b.over })

-- a replay that has begun, and all windows
pub replayed : (form : Form) (file : File) (setup : Setup) (room : ℕ) (fs : List Float) (us : List ℕ) (samples : List Float) (text : List ℕ) (e : Ending) (fs' : List Float) (us' : List ℕ) (samples' : List Float) (text' : List ℕ)
    (first : Playback) (words : List ℕ) (text_then : List ℕ)
    → BegunIn setup fs us text (Ok first) words text_then
    → AllStepsTo form file room 0 (moment first fs words samples) e fs' us' samples'
    → EndsBegun e
    → Replayed form file setup room fs us samples text e fs' us' samples' text'
replayed form file setup room fs us samples text (Err (NotReplayed.Refused n)) fs' us' samples' text' first words text_then begun steps ends = absurd ends
replayed form file setup room fs us samples text (Err NotReplayed.NoRoom) fs' us' samples' text' first words text_then begun steps ends = absurd ends
replayed form file setup room fs us samples text _ fs' us' samples' text' first words text_then begun steps ends = record { first = first; words = words; text_then = text_then; begun = begun; steps = steps }
