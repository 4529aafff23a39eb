-- Where a replay is after the pieces of a window, and where the next window begins. Assumes nothing.
use Prim.Native.Nat.{ℕ, ◌+◌, ◌*◌, ◌≤◌, ◌<◌, max}
use mathlib.Core.Path.{◌≡◌, sym, subst}
use mathlib.Core.Bool.{Bool, false}
use mathlib.Core.List.{List, ◌++◌}
use native.Mathlib.Omega.{arith}
use lib.ListN.{length}
use lib.Ieee.{Float}
use Rattle.std.specs.Prelude.{Option, Some, None, Ok, Err}
use Rattle.model.proofs.BoolLaws.{by_test}
use Rattle.playback_parts.specs.declared.Form.{Form}
use Rattle.playback_parts.specs.declared.Doing.{Doing}
use Rattle.playback_parts.specs.declared.Playback.{Playback}
use Rattle.playback_parts.specs.Doings.{makes_call}
use Rattle.playback.specs.Chains.{Moment}
use Rattle.playback_pieces.specs.declared.Gathered.{Gathered}
use Rattle.playback_pieces.specs.declared.Stop.TheVariants as Stop
use Rattle.playback_pieces.specs.Gathered.{is_before, comes_before, moment}
use Rattle.playback_windows.specs.Promises.{playback_from_start, moved_on}
use Rattle.playback_windows.specs.Pieces.{moment_from_start, PiecesIn}
use Rattle.playback_windows.proofs.ToTheEnd.{steps_behind}
use Rattle.playback_files.specs.declared.places.Playing.{Playing}
use Rattle.playback_files.specs.declared.NotReplayed.{NotReplayed}
use Rattle.playback_files.specs.Windows.{Ending, Went, ThroughIn, StepsOn, SameReplay, OverWhereDone, EndsBegun, WentBegun, Led, StepsTo}

-- what does not come before a place is a call that stands there or behind it
call_behind : (w : Playback) (until : Option ℕ) → comes_before w until ≡ false → is_before w.place until ≡ false
call_behind w until not = by_test (makes_call w.doing) (λ calls. rw calls at not) (λ no. let never = rw no at not in cc)

module _ {form : Form} {window : List ℕ} {last : Bool} {m : Moment} {text : List ℕ} {r : Gathered} {fs : List Float} {us : List ℕ} {samples : List Float} {text' : List ℕ}
    (pieces : PiecesIn form window last m text r (moment r.playback fs us samples) text') where
  pub pieces_through : (w : Playback) → 4 * m.playback.place ≤ max (4 * w.place) (length window) → ThroughIn window last w r
  pieces_through w before =
      record {
        inside = omega (arith, pieces.inside, before);
        next = λ far more. pieces.reach.behind more r.playback.place (call_behind r.playback pieces.until (rw far at pieces.gathered.stopped));
      }

  pub pieces_step_on : (base : ℕ) → StepsOn form window last base m base (moment r.playback fs us samples)
  pieces_step_on base whole win = (pieces.gathered.gathering.printed, pieces.stands whole base win)

-- steps and then others by the same window
pub steps_go_on : {form : Form} {window : List ℕ} {last : Bool} (base : ℕ) (w₀ w w' : Playback) {fs₀ fs fs' : List Float} {us₀ us us' : List ℕ} {samples₀ samples samples' : List Float}
    → StepsOn form window last base (moment w₀ fs₀ us₀ samples₀) base (moment w fs us samples)
    → StepsOn form window last base (moment w fs us samples) base (moment w' fs' us' samples')
    → StepsOn form window last base (moment w₀ fs₀ us₀ samples₀) base (moment w' fs' us' samples')
steps_go_on base w₀ w w' first then whole win =
    let a = first whole win in
    let b = then whole win in
    (a.0 ++ b.0, steps_behind a.1 b.1)

-- steps by a window as far as its pieces, and then the pieces
pub pieces_go_on : {form : Form} {window : List ℕ} {last : Bool} {text text' : List ℕ} {r : Gathered} (w₀ w : Playback) {fs₀ fs fs' : List Float} {us₀ us us' : List ℕ} {samples₀ samples samples' : List Float}
    → PiecesIn form window last (moment w fs us samples) text r (moment r.playback fs' us' samples') text'
    → ((base : ℕ) → StepsOn form window last base (moment w₀ fs₀ us₀ samples₀) base (moment w fs us samples))
    → (base : ℕ) → StepsOn form window last base (moment w₀ fs₀ us₀ samples₀) base (moment r.playback fs' us' samples')
pieces_go_on {r = r} w₀ w pieces first base = steps_go_on base w₀ w r.playback (first base) (pieces_step_on pieces base)

-- the steps by a window lead to where the replay goes on, or ended
pub steps_lead_on : (form : Form) (window : List ℕ) (last : Bool) (p : Playing) (t : Gathered) (m : Moment) (r : Went) (fs : List Float) (us : List ℕ) (samples : List Float)
    → StepsOn form window last p.base m p.base (moment t.playback fs us samples)
    → SameReplay p t r
    → StepsTo form window last p.base m r fs us samples
steps_lead_on form window last p t m (Ok (Some q)) fs us samples steps same = λ whole win.
    let there : Playback → Type 0 = λ w. Led form whole (moment_from_start p.base m) (record { playback = w; floats = fs; words = us; samples = samples }) in
    subst there (sym same) (steps whole win)
steps_lead_on form window last p t m (Ok None) fs us samples steps same = λ whole win. record { playback = playback_from_start p.base t.playback; led = steps whole win; over = same }
steps_lead_on form window last p t m (Err why) fs us samples steps same = λ whole win. record { playback = playback_from_start p.base t.playback; led = steps whole win; over = same }

-- one that ends so has begun
pub ends_begun : (e : Ending) (d : Doing) → OverWhereDone e d → EndsBegun e
ends_begun (Err (NotReplayed.Refused n)) d over = over
ends_begun (Err NotReplayed.NoRoom) d over = over
ends_begun _ d over = tt

pub went_begun : (p : Playing) (t : Gathered) (r : Went) → SameReplay p t r → WentBegun r
went_begun p t (Ok (Some q)) same = tt
went_begun p t (Ok None) same = ends_begun (Ok tt) t.playback.doing same
went_begun p t (Err why) same = ends_begun (Err why) t.playback.doing same

-- the next window begins further on, inside the file
pub window_goes_further : (window : List ℕ) (all base : ℕ) (last : Bool) (w : Playback) (r : Gathered)
    → 4 * base + length window ≤ all
    → w.place ≤ 13
    → 65540 ≤ length window
    → last ≡ false
    → r.stop ≡ Stop.Far
    → ThroughIn window last w r
    → (base < base + r.playback.place) × (4 * (base + r.playback.place) ≤ all) × ((moved_on r.playback r.playback.place).place ≤ 13)
window_goes_further window all base last w r fits first long more far through =
    let ends = through.next far more in
    (omega (arith, ends.short, long), omega (arith, fits, first, long, through.inside), omega arith)
