-- Summaries computed: of document 01's session, of one with a row, a play before the start and a refusal, and of a refused tape and setup. Assumes nothing.
use Rattle.std.specs.Prelude.{◌≡◌, refl, ℕ, List, [], ◌∷◌, ◌++◌, replicate}
use Rattle.model.specs.Text.{ascii, lines}
use Rattle.model.specs.Tape.{bytes_of}
use Rattle.model.specs.Replay.{replay_areas}
use Rattle.model.specs.Summary.{play_summary, row_summary, answer_summary, event_summaries, session_summary, summary_lines, summary_over}
use Rattle.model.proofs.Computes.{computes}

-- packet 2, target 2, max 4, so many bins, a picture of one place, and estimates of 0
setup_words : ℕ → List ℕ
setup_words bins = 0xE0000000 ∷ 2 ∷ 2 ∷ 4 ∷ bins ∷ 1 ∷ 1 ∷ replicate 6 0

-- document 01's: a packet of A, and a play of two samples
document_words : List ℕ
document_words = setup_words 1 ++ (0x20000014 ∷ 0x52530101 ∷ 7 ∷ 0 ∷ 0 ∷ 0xFF7F0180 ∷ 0x40000002 ∷ 0 ∷ [])

-- a row of A with the values 1 and 2.5, a play of B before its start, and an empty datagram
row_words : List ℕ
row_words =
    setup_words 2
    ++ (0x2000001E ∷ 0x52530102 ∷ 1 ∷ 0 ∷ 0 ∷ 0x00010002 ∷ 0 ∷ 0x803F0000 ∷ 0x20400000 ∷ 0x50000003 ∷ 0x20000000 ∷ 0 ∷ [])

summary : List ℕ → List ℕ
summary words = summary_over replay_areas (bytes_of words)

pub record Summaries : Type 0 where
  document : summary document_words
      ≡ lines ("P A 2 0 0" ∷ "A 1 1 0 0 0 0 0 0" ∷ "B 0 0 0 0 0 0 0 0" ∷ "I 1 1 0 0 0 0 0" ∷ "C - - -" ∷ [])
  row : summary row_words
      ≡ lines ("W A 2" ∷ "P B 0 0 3" ∷ "X 6" ∷ "A 0 0 0 0 0 0 0 0" ∷ "B 0 0 0 0 0 0 0 3" ∷ "I 1 0 1 0 0 0 0" ∷ "C - - -" ∷ [])
  -- a word behind the end, and a setup with no bins: only the X line
  bad_tape_law : summary (document_words ++ (0 ∷ [])) ≡ lines ("X 11 21" ∷ [])
  bad_setup : summary (setup_words 0 ++ (0 ∷ [])) ≡ lines ("X 1" ∷ [])

pub summaries : Summaries
unfolding computes ascii lines play_summary row_summary answer_summary event_summaries session_summary summary_lines summary_over setup_words document_words row_words summary
summaries = record { document = refl; row = refl; bad_tape_law = refl; bad_setup = refl }
