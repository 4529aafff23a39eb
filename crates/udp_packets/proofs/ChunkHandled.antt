-- What a waterfall payload leaves, from what its chunk and the row that it completed leave. Assumes nothing.
use Rattle.std.proofs.Common.{Option, None, Some}
use mathlib.Core.Path.{◌≡◌, refl, sym, ◌∙◌, ap, subst}
use mathlib.Core.Bool.{true, and-eq-true_iff}
use mathlib.Core.List.{List, ◌++◌}
use Prim.Native.Nat.{ℕ, ◌+◌, ◌*◌, ◌≤◌}
use native.Mathlib.Nat.{zero-add}
use native.Mathlib.Omega.{arith}
use lib.ListN.{length, take, drop, length-append, length-drop, length-take}
use lib.Seq.{drop_at, drop-drop, take_all, take-append-le, length-take-le}
use lib.Dec.{leb, ltb}
use lib.Ieee.{Float, nan}
use borrow.Author.Tests.{leb-true, ltb-true, le-leb}
use Rattle.model.specs.Bytes.{part, placed}
use Rattle.model.specs.Row.{chunk_total, push_chunk}
use Rattle.model.specs.Questions.{total_allowed}
use Rattle.model.proofs.BoolLaws.{first_of_both}
use Rattle.model.proofs.ListLaws.{alike_shorter}
use Rattle.areas.proofs.Placed.{part_behind}
use Rattle.calls.specs.declared.Sizes.{Sizes}
use Rattle.calls.specs.Views.{sizes_of}
use Rattle.reassembler.specs.declared.OpenRow.{OpenRow}
use Rattle.reassembler.specs.declared.Pushed.{Pushed}
use Rattle.udp_packets.specs.declared.Screen.{Screen}
use Rattle.reassembler.specs.Requires.{RowKept, PushFits}
use Rattle.reassembler.specs.Rows.{row_of, CompletedInside, PushedAs}
use Rattle.udp_packets.specs.Packets.{row_asked, screen_asked, ScreenReady, RowShown, WaterfallHandled}
use Rattle.udp_packets.proofs.Screens.{asked_lengths, screen_still_asked, none_completed, one_completed}

-- ---- before

row_fits : (bins : ℕ) (r : Option OpenRow) (xs : List Float) → row_asked bins r ≡ true → bins ≤ length xs → RowKept (row_of r xs) (length xs)
unfolding row_asked
row_fits bins None xs asked long = tt
row_fits bins (Some r) xs asked long =
    let total = (and-eq-true_iff (leb r.total_bins bins) _).0 asked in
    let fits = leb-true r.total_bins bins total.0 in
    (omega arith, ltb-true r.filled (2 * r.total_bins) (first_of_both (ltb r.filled (2 * r.total_bins)) _ total.1))

total_fits : (z : Sizes) (payload : List ℕ) → total_allowed (sizes_of z) payload ≡ true → 6 ≤ length payload → chunk_total payload ≤ z.bins
unfolding total_allowed
total_fits z payload allowed long = leb-true (chunk_total payload) z.bins (rw (le-leb 6 (length payload) long) at allowed)

pub push_fits : (z : Sizes) (s : Screen) (payload : List ℕ) (xs : List Float) → screen_asked z.bins s ≡ true → total_allowed (sizes_of z) payload ≡ true
    → length xs ≡ z.bins → PushFits (row_of s.row xs) (length xs) payload
unfolding screen_asked
push_fits z s payload xs held allowed long =
    record {
      kept = row_fits z.bins s.row xs (first_of_both (row_asked z.bins s.row) _ held) (omega arith);
      allowed = λ six. omega (arith, total_fits z payload allowed six);
    }

-- ---- after
module _ (z : Sizes) (s : Screen) (sorting : ℕ) (rows : List Float) (picture payload : List ℕ)
    (ready : ScreenReady z s (length rows) sorting (length picture)) (allowed : total_allowed (sizes_of z) payload ≡ true)
    (p : Pushed (Option OpenRow)) (after : List Float) (as_long : length after ≡ z.bins) (pushed : PushedAs (push_chunk payload (row_of s.row (take z.bins rows))) p after) where
  -- the lent part put back
  abbrev pub rows_pushed : List Float
  rows_pushed = after ++ drop z.bins rows

  front_lent : take z.bins (take z.bins rows) ≡ take z.bins rows
  front_lent = take_all z.bins (take z.bins rows) (simp length-take (omega arith))

  front_left : take z.bins after ≡ take z.bins rows_pushed
  front_left = sym (take-append-le z.bins after (drop z.bins rows) (omega (arith, as_long)))

  behind_stays : (at k : ℕ) → z.bins ≤ at → at + k ≤ length rows → part at k rows_pushed ≡ part at k rows
  unfolding placed
  behind_stays at k far inside =
      let same : placed 0 after rows ≡ rows_pushed = rw (as_long, zero-add z.bins) in
      rw same at (part_behind nan 0 after rows at k (omega (arith, as_long)) inside)

  pub rows_pushed_length : length rows_pushed ≡ length rows
  rows_pushed_length = simp (length-append, length-drop) (omega (arith, as_long, ready.fits))

  abbrev pub screen_after : Screen
  screen_after = record { row = p.state; spectrum_len = s.spectrum_len; smooth_len = s.smooth_len; display = s.display }

  after_asked : screen_asked z.bins screen_after ≡ true
  after_asked =
      screen_still_asked z s payload rows rows_pushed (take z.bins rows) after p ready.held allowed front_lent
      (omega (arith, length-take-le z.bins rows (omega (arith, ready.fits)))) front_left pushed

  pub ready_after : ScreenReady z screen_after (length rows_pushed) sorting (length picture)
  ready_after = record { allowed = ready.allowed; held = after_asked; fits = omega (arith, ready.fits, rows_pushed_length); room = ready.room; whole = ready.whole }

  pub completed_inside : (n : ℕ) → p.completed ≡ Some n → (1 ≤ n) × (n ≤ z.bins)
  completed_inside n is =
      let h = subst (λ (x : Option ℕ). CompletedInside x (length after)) is pushed.inside in
      (h.0, omega (arith, h.1, as_long))

  behind_after : drop (3 * z.bins) rows_pushed ≡ drop (3 * z.bins) rows
  behind_after =
      let later : 3 * z.bins ≡ z.bins + 2 * z.bins = omega arith in
      rw later (sym (drop-drop (2 * z.bins) z.bins rows_pushed) ∙ ap (drop (2 * z.bins)) (drop_at after (drop z.bins rows) z.bins as_long) ∙ drop-drop (2 * z.bins) z.bins rows)

  pub chunk_completes_none : p.completed ≡ None
      → WaterfallHandled z s rows picture payload (record { state = screen_after; completed = None }) rows_pushed picture
  chunk_completes_none is =
      let lengths = asked_lengths z.bins s ready.held in
      record {
        step = λ b.
            none_completed z s payload rows rows_pushed (take z.bins rows) after p ready.held allowed front_lent
            (omega (arith, length-take-le z.bins rows (omega (arith, ready.fits)))) front_left pushed b picture
            (behind_stays z.bins s.spectrum_len (omega arith) (omega (arith, ready.fits, lengths.0)))
            (behind_stays (2 * z.bins) s.smooth_len (omega arith) (omega (arith, ready.fits, lengths.1))) is;
        inside = tt;
        behind = behind_after;
        held = after_asked;
        rows_as_long = rows_pushed_length;
        picture_as_long = refl;
      }

  pub chunk_completes_one : (n : ℕ) (shown : Screen) (rows' : List Float) (picture' : List ℕ) → p.completed ≡ Some n
      → RowShown z screen_after rows_pushed n picture shown rows' picture' → length rows' ≡ length rows_pushed → length picture' ≡ length picture
      → WaterfallHandled z s rows picture payload (record { state = shown; completed = Some n }) rows' picture'
  chunk_completes_one n shown rows' picture' is r rows-kept picture-kept =
      let lengths = asked_lengths z.bins s ready.held in
      let few = (completed_inside n is).1 in
      let values : take n after ≡ take n rows_pushed = alike_shorter n z.bins after rows_pushed few front_left in
      let values' : take n rows_pushed ≡ take n rows' = sym (alike_shorter n z.bins rows' rows_pushed few r.front) in
      record {
        step = λ b.
            one_completed z s payload rows rows_pushed (take z.bins rows) after p ready.held allowed front_lent
            (omega (arith, length-take-le z.bins rows (omega (arith, ready.fits)))) front_left pushed b picture
            (behind_stays z.bins s.spectrum_len (omega arith) (omega (arith, ready.fits, lengths.0)))
            (behind_stays (2 * z.bins) s.smooth_len (omega arith) (omega (arith, ready.fits, lengths.1))) n is
            ∙ rw (values, r.step b, values');
        inside = completed_inside n is;
        behind = r.behind ∙ behind_after;
        held = r.held;
        rows_as_long = rows-kept ∙ rows_pushed_length;
        picture_as_long = picture-kept;
      }
