-- A bad word where a call may begin: the words before it begin calls that fit, and with it they begin none. Assumes nothing.
use Prim.Native.Nat.{ℕ, zero, suc, ◌+◌, ◌-◌, ◌≤◌, ◌<◌}
use mathlib.Core.Path.{◌≡◌, refl, ap, ◌∙◌}
use mathlib.Core.Bool.{Bool, true, false}
use mathlib.Core.Option.{some}
use mathlib.Core.List.{List, [], ◌∷◌, ◌++◌, append_assoc}
use native.Mathlib.Omega.{arith}
use lib.ListN.{length, take, drop, replicate, length-append, length-replicate}
use lib.Seq.{drop-append-add, take-length, take_at, length-take-le}
use lib.Dec.{eqb, eqb-suc-zero}
use Rattle.model.specs.Bytes.{all, big_endian_bytes}
use Rattle.model.specs.Receiver.{Call}
use Rattle.model.specs.Tape.{Head, datagram_head, call_word, end_word, word_in, bytes_of, words_for, body_length, call_words, call_of, padded_with_zeros, call_fits, found_bad, found_word, find}
use Rattle.model.proofs.ListLaws.{all_tail, all_append, all_take, all_drop, all_replicate, alike_cons, alike_long}
use Rattle.model.proofs.BytesLaws.{is_word, bytes_of_append, length_bytes_of}
use Rattle.model.proofs.TapeWord.{word_read}
use Rattle.model.proofs.TapeBody.{call_of_fits}
use Rattle.model.proofs.TapeCall.{find_at, bad_padding_law, call_words_of, head_written, head_read_fits, Seen, no_call, the_end, behind_end, short_body, bad_padding, a_call, seen}
use Rattle.model.proofs.TapeCalls.{ended_words}

-- ---- a body that was begun is ended with zeros

zero_words_are_zeros : (m : ℕ) → all (λ b. eqb b 0) (bytes_of (replicate m 0)) ≡ true
unfolding bytes_of big_endian_bytes all
zero_words_are_zeros zero = refl
zero_words_are_zeros (suc m) = zero_words_are_zeros m

zeros_behind_begun : (n m : ℕ) (begun : List ℕ) → length begun + m ≡ words_for n → 0 < m → all (λ b. eqb b 0) (drop n (bytes_of (begun ++ replicate m 0))) ≡ true
unfolding words_for
zeros_behind_begun n m begun e l =
    let further : ℕ = n - length (bytes_of begun) in
    let split : length (bytes_of begun) + further ≡ n = omega (arith, length_bytes_of begun) in
    rw (← split, bytes_of_append begun (replicate m 0), drop-append-add (bytes_of begun) (bytes_of (replicate m 0)) further)
    (all_drop (λ b. eqb b 0) further (bytes_of (replicate m 0)) (zero_words_are_zeros m))

begun_is_padded : (h : Head) (m : ℕ) (begun : List ℕ) → length begun + m ≡ body_length h → 0 < m → padded_with_zeros h (begun ++ replicate m 0) ≡ true
unfolding body_length padded_with_zeros
begun_is_padded (datagram_head n) m begun e l = zeros_behind_begun n m begun e l
begun_is_padded _ m begun e l = refl

-- a call whose words begin with w and then with those of begun
pub record Begun (w : ℕ) (begun : List ℕ) : Type 0 where
  pub call : Call
  pub fits : call_fits call ≡ true
  pub missing : List ℕ
  pub words : call_words call ≡ w ∷ (begun ++ missing)

begun_call : (w : ℕ) (begun : List ℕ) (h : Head) → word_in w ≡ some (call_word h) → length begun < body_length h → all is_word begun ≡ true → Begun w begun
begun_call w begun h e l are =
    record {
      call = call_of h body;
      fits = call_of_fits body body_are h (head_read_fits w h e) sized;
      missing = replicate m 0;
      words = call_words_of h body body_are sized (begun_is_padded h m begun (omega arith) (omega arith)) ∙ ap {B = List ℕ} (λ x. x ∷ body) (head_written w h e);
    }
  where
    m : ℕ
    m = body_length h - length begun

    body : List ℕ
    body = begun ++ replicate m 0

    body_are : all is_word body ≡ true
    body_are = all_append is_word begun (replicate m 0) are (all_replicate is_word m 0 refl)

    sized : length body ≡ body_length h
    sized = rw (length-append begun (replicate m 0), length-replicate {A = ℕ} m 0) (omega arith)

-- ---- a bad word

-- n words further on from the front of ws
pub record BadFound (ws : List ℕ) (n : ℕ) : Type 0 where
  pub within : n ≤ length ws
  -- calls that fit and begin as the words before it do
  pub calls : List Call
  pub fit : all call_fits calls ≡ true
  pub alike : take n (ended_words calls) ≡ take n ws
  -- it stays bad whatever stands behind it
  pub stays : n < length ws → (part' : Bool) (ws' : List ℕ) → take (suc n) ws' ≡ take (suc n) ws → find part' ws' ≡ found_bad n

none_before : (ws : List ℕ) → (0 < length ws → (part' : Bool) (ws' : List ℕ) → take 1 ws' ≡ take 1 ws → find part' ws' ≡ found_bad 0) → BadFound ws 0
unfolding all
none_before ws s = record { within = omega arith; calls = []; fit = refl; alike = refl; stays = s }

begun_before : (w : ℕ) (ws : List ℕ) (n : ℕ)
    → n ≤ length ws
    → Begun w (take n ws)
    → (suc n < length (w ∷ ws) → (part' : Bool) (ws' : List ℕ) → take (suc (suc n)) ws' ≡ take (suc (suc n)) (w ∷ ws) → find part' ws' ≡ found_bad (suc n))
    → BadFound (w ∷ ws) (suc n)
unfolding all ended_words
begun_before w ws n l b s =
    record {
      within = omega arith;
      calls = b.call ∷ [];
      fit = rw b.fits;
      alike = rw (b.words, append_assoc) (ap {B = List ℕ} (λ xs. w ∷ xs) (take_at (take n ws) _ n (length-take-le n ws l)));
      stays = s;
    }

bad_no_call : (w : ℕ) (ws : List ℕ) → ((part' : Bool) (ws' : List ℕ) → find part' (w ∷ ws') ≡ found_bad 0) → BadFound (w ∷ ws) 0
bad_no_call w ws f = none_before (w ∷ ws) (λ l part' ws' a. let r = alike_cons w ws ws' 0 a in rw r.1 (f part' r.0))

behind_end_stays : (w : ℕ) (ws : List ℕ) → word_in w ≡ some end_word → 1 < length (w ∷ ws) → (part' : Bool) (ws' : List ℕ) → take 2 ws' ≡ take 2 (w ∷ ws) → find part' ws' ≡ found_bad 1
unfolding found_word
behind_end_stays w [] e l part' ws' a = absurd (omega arith)
behind_end_stays w (y ∷ ws) e l part' ws' a =
    let r = alike_cons w (y ∷ ws) ws' 1 a in
    let r' = alike_cons y ws r.0 0 r.2 in
    rw (r.1, r'.1) (find_at part' w (y ∷ r'.0) (some end_word) e ∙ rw (eqb-suc-zero (length r'.0)))

bad_behind_end : (w : ℕ) (ws : List ℕ) → word_in w ≡ some end_word → BadFound (w ∷ ws) 1
unfolding all ended_words
bad_behind_end w ws e =
    record {
      within = omega arith;
      calls = [];
      fit = refl;
      alike = ap {B = List ℕ} (λ x. x ∷ []) (word_read w end_word e).writes;
      stays = behind_end_stays w ws e;
    }

bad_short_body : (w : ℕ) (ws : List ℕ) (h : Head) → word_in w ≡ some (call_word h) → length ws < body_length h → all is_word ws ≡ true → BadFound (w ∷ ws) (suc (length ws))
bad_short_body w ws h e l are = begun_before w ws (length ws) (omega arith) (rw (take-length ws) (begun_call w ws h e l are)) (λ l'. absurd (omega arith))

module _ (w : ℕ) (ws : List ℕ) (h : Head) (e : word_in w ≡ some (call_word h)) (l : body_length h ≤ length ws) (z : padded_with_zeros h (take (body_length h) ws) ≡ false) where
  padding_stays : (part' : Bool) (ws' : List ℕ) → take (suc (body_length h)) ws' ≡ take (suc (body_length h)) (w ∷ ws) → find part' ws' ≡ found_bad (body_length h)
  unfolding found_word
  padding_stays part' ws' a =
      let r = alike_cons w ws ws' (body_length h) a in
      rw r.1
      (find_at part' w r.0 (some (call_word h)) e
      ∙ bad_padding_law h r.0 (alike_long (body_length h) ws r.0 l r.2) (rw r.2 z))

  bad_padding_found : all is_word ws ≡ true → (m : ℕ) → body_length h ≡ m → BadFound (w ∷ ws) m
  bad_padding_found are zero q = none_before (w ∷ ws) (λ l'. rw q at padding_stays)
  bad_padding_found are (suc m) q =
      begun_before w ws m (omega arith)
      (begun_call w (take m ws) h e (rw (length-take-le m ws (omega arith)) (omega arith)) (all_take is_word m ws are))
      (λ l'. rw q at padding_stays)

pub bad_found : (part : Bool) (ws : List ℕ) (n : ℕ) → all is_word ws ≡ true → find part ws ≡ found_bad n → BadFound ws n
unfolding find
bad_found part [] n are e = let here : 0 ≡ n = cc in rw (← here) (none_before [] (λ l. absurd (omega arith)))
bad_found part (w ∷ ws) n are e = go (seen part w ws)
  where
    here : (m : ℕ) → find part (w ∷ ws) ≡ found_bad m → m ≡ n
    here m q = cc

    are' : all is_word ws ≡ true
    are' = all_tail is_word w ws are

    go : Seen part w ws → BadFound (w ∷ ws) n
    go (no_call f) = rw (here 0 (f part ws)) at (bad_no_call w ws f)
    go (the_end _ _ _ q) = cc
    go (behind_end p q) = rw (here 1 q) at (bad_behind_end w ws p)
    go (short_body h p l q) =
        let place : suc (length ws) ≡ n = omega (arith, here (1 + length ws) q) in
        rw place at (bad_short_body w ws h p l are')
    go (bad_padding h p l z q) = bad_padding_found w ws h p l z are' n (here (body_length h) q)
    go (a_call _ _ _ _ q) = cc
