-- The first bad word of a tape: the words before it begin a tape that is accepted, and with it they begin none. Assumes nothing.
use Prim.Native.Nat.{ℕ, suc, ◌+◌, ◌-◌, ◌*◌, ◌≤◌, ◌<◌}
use mathlib.Core.Path.{◌≡◌, refl, sym, ap, ◌∙◌}
use mathlib.Core.Bool.{Bool, true}
use mathlib.Core.List.{List, [], ◌∷◌, ◌++◌, append_assoc}
use native.Mathlib.Omega.{arith}
use native.Mathlib.Numerals.{add-one}
use lib.ListN.{length, take, drop, replicate, length-append, length-replicate, length-drop, take-append-drop}
use lib.Seq.{take-length, length-take-le, take-append_seam, take-take}
use Rattle.model.specs.Bytes.{all}
use Rattle.model.specs.Receiver.{Setup}
use Rattle.model.specs.Tape.{words_of, ends_in_part, bytes_of, setup_word, word_of, CallsRead, read_calls, bad_word, calls_from, Tape, read_tape, bad_tape, setup_length, setup_of, with_setup, read_words, read, setup_body, setup_words, setup_fits}
use Rattle.model.proofs.ListLaws.{all_tail, all_append, all_take, all_drop, all_replicate, alike_cons, alike_shorter, alike_behind, alike_appended}
use Rattle.model.proofs.BytesLaws.{is_byte, bytes_of_are_bytes, is_word, bytes_of_words_of, take_words_of, take_bytes_of, words_of_are_words}
use Rattle.model.proofs.TapeCalls.{ended_words}
use Rattle.model.proofs.TapeSetup.{body_of_setup_of, setup_body_length, TapeFits, tape_words, Opening, no_setup, short_setup, a_setup, opening, setup_read}
use Rattle.model.proofs.TapeExact.{fitting_bytes_read}
use Rattle.model.proofs.TapeBadCalls.{BadCalls, bad_calls}

-- the first bad word, n words further on from the front of ws
record BadWords (ws : List ℕ) (n : ℕ) : Type 0 where
  within : n ≤ length ws
  -- a tape that fits and begins as the words before it do
  tape : Tape
  fits : TapeFits tape
  alike : take n (tape_words tape) ≡ take n ws
  -- it stays the first bad word whatever stands behind it
  stays : n < length ws → (part' : Bool) (ws' : List ℕ) → take (suc n) ws' ≡ take (suc n) ws → read_words part' ws' ≡ bad_tape n

-- a tape of a setup alone
only_setup_fits : (body : List ℕ) → length body ≡ setup_length → all is_word body ≡ true → TapeFits (record { setup = setup_of body; calls = [] })
unfolding setup_fits all
only_setup_fits body e are = record { setup = rw (body_of_setup_of body e) are; calls = refl }

none_before : (ws : List ℕ) → (0 < length ws → (part' : Bool) (ws' : List ℕ) → take 1 ws' ≡ take 1 ws → read_words part' ws' ≡ bad_tape 0) → BadWords ws 0
none_before ws s =
    record {
      within = omega arith;
      tape = record { setup = setup_of (replicate setup_length 0); calls = [] };
      fits = only_setup_fits (replicate setup_length 0) refl (all_replicate is_word setup_length 0 refl);
      alike = refl;
      stays = s;
    }

bad_no_setup : (w : ℕ) (ws : List ℕ) → ((part' : Bool) (ws' : List ℕ) → read_words part' (w ∷ ws') ≡ bad_tape 0) → BadWords (w ∷ ws) 0
bad_no_setup w ws f = none_before (w ∷ ws) (λ l part' ws' a. let r = alike_cons w ws ws' 0 a in rw r.1 (f part' r.0))

bad_short_setup : (ws : List ℕ) → length ws < setup_length → all is_word ws ≡ true → BadWords (word_of setup_word ∷ ws) (suc (length ws))
unfolding tape_words setup_words
bad_short_setup ws l are =
    record {
      within = omega arith;
      tape = record { setup = setup_of body; calls = [] };
      fits = only_setup_fits body sized (all_append is_word ws (replicate m 0) are (all_replicate is_word m 0 refl));
      alike = rw (body_of_setup_of body sized, append_assoc) (ap {B = List ℕ} (λ xs. word_of setup_word ∷ xs) (take-append_seam ws _ ∙ sym (take-length ws)));
      stays = λ l'. absurd (omega arith);
    }
  where
    m : ℕ
    m = setup_length - length ws

    body : List ℕ
    body = ws ++ replicate m 0

    sized : length body ≡ setup_length
    sized = rw (length-append ws (replicate m 0), length-replicate {A = ℕ} m 0) (omega arith)

-- behind a setup
module _ (ws : List ℕ) (l : setup_length ≤ length ws) (are : all is_word ws ≡ true) where
  abbrev its_setup : Setup
  its_setup = setup_of (take setup_length ws)

  setup_body_here : setup_body its_setup ≡ take setup_length ws
  setup_body_here = body_of_setup_of (take setup_length ws) (length-take-le setup_length ws l)

  setup_here : take 13 (word_of setup_word ∷ ws) ≡ setup_words its_setup
  unfolding setup_words
  setup_here = ap {B = List ℕ} (λ xs. word_of setup_word ∷ xs) (sym setup_body_here)

  setup_long : length (setup_words its_setup) ≡ 13
  unfolding setup_words
  setup_long = ap suc (setup_body_length its_setup)

  setup_split : setup_words its_setup ++ drop setup_length ws ≡ word_of setup_word ∷ ws
  unfolding setup_words
  setup_split = rw (setup_body_here, take-append-drop setup_length ws)

  same_setup : (part' : Bool) (ws' : List ℕ)
      → take 13 ws' ≡ take 13 (word_of setup_word ∷ ws)
      → read_words part' ws' ≡ with_setup its_setup (calls_from (suc (length (setup_body its_setup ++ drop 13 ws'))) part' 13 (drop 13 ws'))
  same_setup part' ws' a = ap (λ (xs : List ℕ). read_words part' xs) split ∙ setup_read part' its_setup (drop 13 ws')
    where
      split : ws' ≡ setup_words its_setup ++ drop 13 ws'
      split = sym (take-append-drop 13 ws') ∙ ap (λ (xs : List ℕ). xs ++ drop 13 ws') (a ∙ setup_here)

  module _ (m : ℕ) (b : BadCalls (drop setup_length ws) m) where
    bad_words_stay : 13 + m < suc (length ws)
        → (part' : Bool) (ws' : List ℕ)
        → take (suc (13 + m)) ws' ≡ take (suc (13 + m)) (word_of setup_word ∷ ws)
        → read_words part' ws' ≡ bad_tape (13 + m)
    unfolding with_setup
    bad_words_stay l' part' ws' a =
        same_setup part' ws' front
        ∙ rw (b.stays further (suc (length (setup_body its_setup ++ drop 13 ws'))) part' 13 (drop 13 ws') enough behind)
      where
        front : take 13 ws' ≡ take 13 (word_of setup_word ∷ ws)
        front = alike_shorter 13 (suc (13 + m)) ws' (word_of setup_word ∷ ws) (omega arith) a

        further : m < length (drop setup_length ws)
        further = rw (length-drop setup_length ws) (omega arith)

        enough : length (drop 13 ws') < suc (length (setup_body its_setup ++ drop 13 ws'))
        enough = omega (arith, length-append (setup_body its_setup) (drop 13 ws'))

        behind : take (suc m) (drop 13 ws') ≡ take (suc m) (drop setup_length ws)
        behind =
            alike_behind 13 (suc m) ws' (word_of setup_word ∷ ws)
            (alike_shorter (13 + suc m) (suc (13 + m)) ws' (word_of setup_word ∷ ws) (omega arith) a)

    bad_words_later : BadWords (word_of setup_word ∷ ws) (13 + m)
    unfolding tape_words setup_fits
    bad_words_later =
        record {
          within = omega (arith, length-drop setup_length ws, b.within);
          tape = record { setup = its_setup; calls = b.calls };
          fits = record { setup = rw setup_body_here (all_take is_word setup_length ws are); calls = b.fit };
          alike = rw (setup_long, setup_split) at (alike_appended (setup_words its_setup) (ended_words b.calls) (drop setup_length ws) m b.alike);
          stays = bad_words_stay;
        }

with_setup_bad : (x : Setup) (r : CallsRead) (p : ℕ) → with_setup x r ≡ bad_tape p → r ≡ bad_word p
unfolding with_setup
with_setup_bad x (read_calls cs) p e = cc
with_setup_bad x (bad_word q) p e = cc

bad_words : (part : Bool) (ws : List ℕ) (p : ℕ) → all is_word ws ≡ true → read_words part ws ≡ bad_tape p → BadWords ws p
unfolding read_words
bad_words part [] p are e = let here : 0 ≡ p = cc in rw (← here) (none_before [] (λ l. absurd (omega arith)))
bad_words part (w ∷ ws) p are e = go (opening part w ws)
  where
    here : (m : ℕ) → read_words part (w ∷ ws) ≡ bad_tape m → m ≡ p
    here m q = cc

    are' : all is_word ws ≡ true
    are' = all_tail is_word w ws are

    go : Opening part w ws → BadWords (w ∷ ws) p
    go (no_setup f) = rw (here 0 (f part ws)) at (bad_no_setup w ws f)
    go (short_setup first l q) =
        let place : suc (length ws) ≡ p = omega (arith, here (1 + length ws) q) in
        rw (first, ← place) (bad_short_setup ws l are')
    go (a_setup first l q) =
        let r = bad_calls (suc (length ws)) part 13 (drop setup_length ws) p (all_drop is_word setup_length ws are') (rw (length-drop setup_length ws) (omega arith))
        (with_setup_bad (setup_of (take setup_length ws)) (calls_from (suc (length ws)) part 13 (drop setup_length ws)) p (sym q ∙ e))
        in
        rw (first, r.1) (bad_words_later ws l are' r.0 r.2)

-- ---- the law

-- the bytes of the first words
words_before : (bytes : List ℕ) (p : ℕ) → all is_byte bytes ≡ true → p ≤ length (words_of bytes) → take (4 * p) bytes ≡ bytes_of (take p (words_of bytes))
words_before bytes p are l =
    sym (take-take (4 * p) (4 * length (words_of bytes)) bytes (omega arith))
    ∙ ap (λ (xs : List ℕ). take (4 * p) xs) (sym (bytes_of_words_of bytes are))
    ∙ take_bytes_of p (words_of bytes)

-- bytes that begin alike are words that begin alike
words_alike : (bytes bytes' : List ℕ) (p : ℕ) → take (4 * (p + 1)) bytes' ≡ take (4 * (p + 1)) bytes → take (suc p) (words_of bytes') ≡ take (suc p) (words_of bytes)
words_alike bytes bytes' p a =
    rw (← add-one p, take_words_of (p + 1) bytes', take_words_of (p + 1) bytes, a)

read_is_not_bad : (bytes : List ℕ) (t : Tape) (p : ℕ) → read bytes ≡ read_tape t → read bytes ≡ bad_tape p → ⊥
read_is_not_bad bytes t p e q = cc

pub record FirstBadWord (bytes : List ℕ) (p : ℕ) : Type 0 where
  pub within : p ≤ length (words_of bytes)
  -- the words before it begin an accepted tape
  pub accepted : List ℕ
  pub tape : Tape
  pub its_bytes : all is_byte accepted ≡ true
  pub accepts : read accepted ≡ read_tape tape
  pub begins : take (4 * p) accepted ≡ take (4 * p) bytes
  -- with it they begin none
  pub no_accepted : p < length (words_of bytes)
      → (bytes' : List ℕ) (t : Tape)
      → read bytes' ≡ read_tape t
      → take (4 * (p + 1)) bytes' ≡ take (4 * (p + 1)) bytes
      → ⊥

pub first_bad_word : (bytes : List ℕ) (p : ℕ) → all is_byte bytes ≡ true → read bytes ≡ bad_tape p → FirstBadWord bytes p
unfolding read
first_bad_word bytes p are e =
    record {
      within = b.within;
      accepted = bytes_of (tape_words b.tape);
      tape = b.tape;
      its_bytes = bytes_of_are_bytes (tape_words b.tape);
      accepts = fitting_bytes_read b.tape b.fits;
      begins = take_bytes_of p (tape_words b.tape) ∙ ap bytes_of b.alike ∙ sym (words_before bytes p are b.within);
      no_accepted = λ l bytes' t e' a. read_is_not_bad bytes' t p e' (b.stays l (ends_in_part bytes') (words_of bytes') (words_alike bytes bytes' p a));
    }
  where
    b : BadWords (words_of bytes) p
    b = bad_words (ends_in_part bytes) (words_of bytes) p (words_of_are_words bytes are) e
