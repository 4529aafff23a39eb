-- The first bad word among the calls of a tape: the words before it begin calls that fit, and with it they begin none. Assumes nothing.
use Prim.Native.Nat.{ℕ, zero, suc, ◌+◌, ◌≤◌, ◌<◌}
use mathlib.Core.Path.{◌≡◌, refl, sym, ap, ◌∙◌}
use mathlib.Core.Bool.{Bool, true}
use mathlib.Core.List.{List, ◌∷◌, ◌++◌}
use native.Mathlib.Omega.{arith}
use lib.ListN.{length, take, drop, length-append, length-drop, take-append-drop}
use lib.Seq.{take_at}
use Rattle.model.specs.Bytes.{all}
use Rattle.model.specs.Receiver.{Call}
use Rattle.model.specs.Tape.{call_words, Found, found_call, found_end, found_bad, find, CallsRead, read_calls, bad_word, before, found_before, calls_from, call_fits}
use Rattle.model.proofs.ListLaws.{all_cons, all_drop, alike_shorter, alike_behind, alike_appended, alike_long}
use Rattle.model.proofs.BytesLaws.{is_word}
use Rattle.model.proofs.TapeCall.{find_call, CallFound, call_found_law}
use Rattle.model.proofs.TapeCalls.{ended_words, call_takes_words, calls_step}
use Rattle.model.proofs.TapeBadCall.{BadFound, bad_found}

-- the first bad word, n words further on from the front of ws
pub record BadCalls (ws : List ℕ) (n : ℕ) : Type 0 where
  pub within : n ≤ length ws
  -- calls that fit and begin as the words before it do
  pub calls : List Call
  pub fit : all call_fits calls ≡ true
  pub alike : take n (ended_words calls) ≡ take n ws
  -- it stays the first bad word whatever stands behind it
  pub stays : n < length ws
      → (k' : ℕ) (part' : Bool) (place' : ℕ) (ws' : List ℕ)
      → length ws' < k'
      → take (suc n) ws' ≡ take (suc n) ws
      → calls_from k' part' place' ws' ≡ bad_word (place' + n)

bad_calls_here : (ws : List ℕ) (n : ℕ) → BadFound ws n → BadCalls ws n
unfolding found_before
bad_calls_here ws n b = record { within = b.within; calls = b.calls; fit = b.fit; alike = b.alike; stays = stays }
  where
    stays : n < length ws
        → (k' : ℕ) (part' : Bool) (place' : ℕ) (ws' : List ℕ)
        → length ws' < k'
        → take (suc n) ws' ≡ take (suc n) ws
        → calls_from k' part' place' ws' ≡ bad_word (place' + n)
    stays l zero part' place' ws' short a = absurd (omega arith)
    stays l (suc k') part' place' ws' short a = calls_step k' part' place' ws' (found_bad n) (b.stays l part' ws' a)

module _ (ws : List ℕ) (c : Call) (n : ℕ) (f : CallFound ws c n) where
  call_is_there : 0 < n
  call_is_there = omega (arith, f.size, call_takes_words c)

  call_is_within : n ≤ length ws
  call_is_within = omega (arith, f.size, ap length f.split, length-append (call_words c) (drop n ws))

  call_at_front : take n ws ≡ call_words c
  call_at_front = ap (λ (xs : List ℕ). take n xs) f.split ∙ take_at (call_words c) (drop n ws) n (sym f.size)

-- words that begin as those of a call do hold that call
same_call : (c : Call) (n : ℕ) (ws ws' : List ℕ) (part' : Bool) → CallFound ws c n → take n ws' ≡ take n ws → find part' ws' ≡ found_call c n
same_call c n ws ws' part' f a =
    ap (λ (xs : List ℕ). find part' xs) split ∙ find_call part' c (drop n ws') f.fits ∙ ap (found_call c) (sym f.size)
  where
    split : ws' ≡ call_words c ++ drop n ws'
    split = sym (take-append-drop n ws') ∙ ap (λ (xs : List ℕ). xs ++ drop n ws') (a ∙ call_at_front ws c n f)

module _ (c : Call) (n : ℕ) (ws : List ℕ) (f : CallFound ws c n) (m : ℕ) (b : BadCalls (drop n ws) m) where
  bad_calls_stay : n + m < length ws
      → (k' : ℕ) (part' : Bool) (place' : ℕ) (ws' : List ℕ)
      → length ws' < k'
      → take (suc (n + m)) ws' ≡ take (suc (n + m)) ws
      → calls_from k' part' place' ws' ≡ bad_word (place' + (n + m))
  unfolding found_before before
  bad_calls_stay l zero part' place' ws' short a = absurd (omega arith)
  bad_calls_stay l (suc k') part' place' ws' short a =
      calls_step k' part' place' ws' (found_call c n) (same_call c n ws ws' part' f front)
      ∙ rw (b.stays further k' part' (place' + n) (drop n ws') shorter behind) (ap bad_word sum)
    where
      front : take n ws' ≡ take n ws
      front = alike_shorter n (suc (n + m)) ws' ws (omega arith) a

      sum : place' + n + m ≡ place' + (n + m)
      sum = omega arith

      further : m < length (drop n ws)
      further = rw (length-drop n ws) (omega arith)

      shorter : length (drop n ws') < k'
      shorter = omega (arith, length-drop n ws', call_is_there ws c n f, alike_long (suc (n + m)) ws ws' l a)

      behind : take (suc m) (drop n ws') ≡ take (suc m) (drop n ws)
      behind = alike_behind n (suc m) ws' ws (alike_shorter (n + suc m) (suc (n + m)) ws' ws (omega arith) a)

  bad_calls_later : BadCalls ws (n + m)
  unfolding ended_words
  bad_calls_later =
      record {
        within = omega (arith, length-drop n ws, b.within, call_is_within ws c n f);
        calls = c ∷ b.calls;
        fit = all_cons call_fits c b.calls f.fits b.fit;
        alike = rw (← f.size, ← f.split) at (alike_appended (call_words c) (ended_words b.calls) (drop n ws) m b.alike);
        stays = bad_calls_stay;
      }

before_bad : (c : Call) (r : CallsRead) (p : ℕ) → before c r ≡ bad_word p → r ≡ bad_word p
unfolding before
before_bad c (read_calls cs) p e = cc
before_bad c (bad_word q) p e = e

-- a bad word is the first one
pub bad_calls : (k : ℕ) (part : Bool) (place : ℕ) (ws : List ℕ) (p : ℕ)
    → all is_word ws ≡ true
    → length ws < k
    → calls_from k part place ws ≡ bad_word p
    → (n : ℕ) × (p ≡ place + n) × BadCalls ws n
unfolding found_before
bad_calls zero part place ws p are l e = absurd (omega arith)
bad_calls (suc k) part place ws p are l e = go (λ n. bad_calls k part (place + n) (drop n ws) p) (find part ws) refl
  where
    go : ((n : ℕ)
        → all is_word (drop n ws) ≡ true
        → length (drop n ws) < k
        → calls_from k part (place + n) (drop n ws) ≡ bad_word p
        → (m : ℕ) × (p ≡ place + n + m) × BadCalls (drop n ws) m)
        → (f : Found)
        → find part ws ≡ f
        → (n : ℕ) × (p ≡ place + n) × BadCalls ws n
    go further (found_call c n) q =
        let found : CallFound ws c n = call_found_law part ws c n are q in
        let shorter : length (drop n ws) < k = omega (arith, length-drop n ws, call_is_there ws c n found, call_is_within ws c n found) in
        let r = further n (all_drop is_word n ws are) shorter
        (before_bad c (calls_from k part (place + n) (drop n ws)) p (sym (calls_step k part place ws (found_call c n) q) ∙ e))
        in
        (n + r.0, omega (arith, r.1), bad_calls_later c n ws found r.0 r.2)
    go further found_end q = let s = calls_step k part place ws found_end q in cc
    go further (found_bad n) q = (n, cc (calls_step k part place ws (found_bad n) q), bad_calls_here ws n (bad_found part ws n are q))
