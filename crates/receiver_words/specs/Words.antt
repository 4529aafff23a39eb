-- How sizes, counts, a buffer and a screen go to and from callers in other languages: as words in a lent slice. Assumes nothing.
use Rattle.std.specs.Prelude.{ℕ, ◌%◌, ◌^◌, Bool, true, false, cond, not, Option, None, Some, List, [], ◌∷◌, get_or, eqb}
use Rattle.model.specs.Floats.{to_bits}
use Rattle.audio_metrics_words.specs.Words.{float_in}
use Rattle.calls.specs.declared.Sizes.{Sizes}
use Rattle.jitter_buffer.specs.declared.JitterBuffer.{JitterBuffer}
use Rattle.udp.specs.declared.Display.{Display}
use Rattle.udp.specs.declared.StreamCounts.{StreamCounts}
use Rattle.udp_packets.specs.declared.Screen.{Screen}
use Rattle.reassembler.specs.declared.OpenRow.{OpenRow}

-- ---- words read: a flag of 0 says that what follows it is absent

abbrev pub sizes_in : List ℕ → Sizes
sizes_in w =
    record {
      packet = get_or w 0 0;
      target = get_or w 1 0;
      max = get_or w 2 0;
      bins = get_or w 3 0;
      width = get_or w 4 0;
      height = get_or w 5 0;
    }

-- of a sequence the low 32 bits count
unfoldable pub sequence_in : ℕ → ℕ → Option ℕ
sequence_in known s = cond (eqb known 0) None (Some (s % 2 ^ 32))

abbrev pub counts_in : List ℕ → StreamCounts
counts_in w =
    record { packets = get_or w 0 0; dropped = get_or w 1 0; late = get_or w 2 0; last = sequence_in (get_or w 3 0) (get_or w 4 0) }

abbrev pub buffer_in : List ℕ → JitterBuffer
buffer_in w =
    record {
      max_observed_buffered_samples = get_or w 0 0;
      next_sequence = sequence_in (get_or w 1 0) (get_or w 2 0);
      pending_len = get_or w 3 0;
      playout_len = get_or w 4 0;
      consecutive_conceals = get_or w 5 0;
      packets_received = get_or w 6 0;
      packets_inserted = get_or w 7 0;
      packets_missing_concealed = get_or w 8 0;
      packets_dropped_late = get_or w 9 0;
      packets_dropped_overflow = get_or w 10 0;
      packets_dropped_invalid_size = get_or w 11 0;
      resync_count = get_or w 12 0;
      filled = get_or w 13 0;
    }

-- of a row's number the low 16 bits count
unfoldable pub row_in : List ℕ → Option OpenRow
row_in w =
    cond (eqb (get_or w 0 0) 0)
    None
    (Some (record { row_seq = get_or w 1 0 % 2 ^ 16; total_bins = get_or w 2 0; filled = get_or w 3 0; done = not (eqb (get_or w 4 0) 0) }))

abbrev pub display_in : List ℕ → Display
display_in w =
    record {
      adaptive = not (eqb (get_or w 7 0) 0);
      top = float_in (get_or w 8 0);
      range = float_in (get_or w 9 0);
      zoom = float_in (get_or w 10 0);
      smoothing = float_in (get_or w 11 0);
      top_estimate = float_in (get_or w 12 0);
      floor_estimate = float_in (get_or w 13 0);
      range_estimate = float_in (get_or w 14 0);
    }

abbrev pub screen_in : List ℕ → Screen
screen_in w = record { row = row_in w; spectrum_len = get_or w 5 0; smooth_len = get_or w 6 0; display = display_in w }

-- ---- words written

abbrev pub flag_word : Bool → ℕ
flag_word false = 0
flag_word true = 1

abbrev pub known_word : Option ℕ → ℕ
known_word None = 0
known_word (Some s) = 1

abbrev pub sequence_word : Option ℕ → ℕ
sequence_word None = 0
sequence_word (Some s) = s

abbrev pub count_words : StreamCounts → List ℕ
count_words c = c.packets ∷ c.dropped ∷ c.late ∷ known_word c.last ∷ sequence_word c.last ∷ []

abbrev pub buffer_words : JitterBuffer → List ℕ
buffer_words j =
    j.max_observed_buffered_samples ∷ known_word j.next_sequence ∷ sequence_word j.next_sequence ∷ j.pending_len
    ∷ j.playout_len ∷ j.consecutive_conceals ∷ j.packets_received ∷ j.packets_inserted ∷ j.packets_missing_concealed
    ∷ j.packets_dropped_late ∷ j.packets_dropped_overflow ∷ j.packets_dropped_invalid_size ∷ j.resync_count ∷ j.filled
    ∷ []

abbrev pub row_words : Option OpenRow → List ℕ
row_words None = 0 ∷ 0 ∷ 0 ∷ 0 ∷ 0 ∷ []
row_words (Some r) = 1 ∷ r.row_seq ∷ r.total_bins ∷ r.filled ∷ flag_word r.done ∷ []

unfoldable pub screen_words : Screen → List ℕ
screen_words s =
    let t = row_words s.row in
    let d = s.display in
    get_or t 0 0 ∷ get_or t 1 0 ∷ get_or t 2 0 ∷ get_or t 3 0 ∷ get_or t 4 0
    ∷ s.spectrum_len ∷ s.smooth_len ∷ flag_word d.adaptive
    ∷ to_bits d.top ∷ to_bits d.range ∷ to_bits d.zoom ∷ to_bits d.smoothing
    ∷ to_bits d.top_estimate ∷ to_bits d.floor_estimate ∷ to_bits d.range_estimate
    ∷ []
