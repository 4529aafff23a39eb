-- Single values of the definitions, computed: constants, and numbers that a session would show only in passing. Each is worked by hand. Assumes nothing.
use Rattle.std.specs.Prelude.{◌≡◌, refl, ℕ, ◌+◌, true, false, List, [], ◌∷◌, ◌++◌, map, replicate, pos, neg_ℤ, Float}
use Rattle.std.proofs.Math.Option.{none, some}
use Rattle.model.specs.Floats.{◌/f◌, from_bits, nearest, natf, f0, f1, f0·01, f0·05, f0·20, f0·25, f0·5, f0·75, f0·9, f0·98, f0·99, f0·999, f_35}
use Rattle.model.specs.Framing.{A, B, audio_start, build_request, build_response}
use Rattle.model.specs.Samples.{audio_payload}
use Rattle.model.specs.Scaling.{Display, row_floor, row_top, adaptive_top, adaptive_range, display_after, shown_top, shown_range, smoothing_weight}
use Rattle.model.specs.Picture.{db_to_u8, count_from}
use Rattle.model.specs.Clock.{fresh_clock, step_toward, samples_ms, in_ms, record_depth, record_transmit, depth_ms, depth_peak_ms}
use Rattle.model.specs.Receiver.{Call, datagram, fresh_display}
use Rattle.model.specs.Tape.{word_in}
use Rattle.model.specs.Lines.{channel, line_of}
use Rattle.model.proofs.Computes.{computes}

-- ---- floats

-- Each constant is the float nearest to its decimal number: a division of whole numbers rounds once.
pub record Nearest : Type 0 where
  hundredth : f0·01 ≡ natf 1 /f natf 100
  twentieth : f0·05 ≡ natf 5 /f natf 100
  fifth : f0·20 ≡ natf 20 /f natf 100
  quarter : f0·25 ≡ natf 25 /f natf 100
  half : f0·5 ≡ natf 5 /f natf 10
  three_quarters : f0·75 ≡ natf 75 /f natf 100
  nine_tenths : f0·9 ≡ natf 9 /f natf 10
  f_98_hundredths : f0·98 ≡ natf 98 /f natf 100
  f_99_hundredths : f0·99 ≡ natf 99 /f natf 100
  f_999_thousandths : f0·999 ≡ natf 999 /f natf 1000
  zero_and_one : (f0 ≡ from_bits 0) × (f1 ≡ from_bits 0x3f800000)
  minus_35 : f_35 ≡ from_bits 0xc20c0000

pub nearest_constants : Nearest
unfolding computes
nearest_constants =
    record {
      hundredth = refl;
      twentieth = refl;
      fifth = refl;
      quarter = refl;
      half = refl;
      three_quarters = refl;
      nine_tenths = refl;
      f_98_hundredths = refl;
      f_99_hundredths = refl;
      f_999_thousandths = refl;
      zero_and_one = (refl, refl);
      minus_35 = refl;
    }

-- ---- lines

-- a datagram: magic's second byte, version, type, sequence 1, and so many bytes behind the header
sent : ℕ → ℕ → ℕ → ℕ → Call
sent low version type n = datagram (0x52 ∷ low ∷ version ∷ type ∷ 0 ∷ 0 ∷ 0 ∷ 1 ∷ replicate (8 + n) 0)

-- a chunk of 255 bins, which a smaller receiver refuses with 8
too_long : ℕ → Call
too_long type = datagram (0x52 ∷ 0x53 ∷ 1 ∷ type ∷ 0 ∷ 0 ∷ 0 ∷ 1 ∷ replicate 8 0 ++ (0 ∷ 1 ∷ 0 ∷ 255 ∷ 0 ∷ 0 ∷ []))

pub record LinesOfDatagrams : Type 0 where
  -- types 1 to 4 in either version
  streams : map line_of (sent 0x53 1 1 0 ∷ sent 0x53 2 2 0 ∷ sent 0x53 1 3 0 ∷ sent 0x53 2 4 0 ∷ [])
      ≡ some (channel A) ∷ some (channel A) ∷ some (channel B) ∷ some (channel B) ∷ []
  -- types 0, 5 and 12; another magic; versions 0 and 3
  no_line : map line_of (sent 0x53 1 0 0 ∷ sent 0x53 1 5 0 ∷ sent 0x53 1 12 0 ∷ sent 0x52 1 1 0 ∷ sent 0x53 0 1 0 ∷ sent 0x53 3 1 0 ∷ [])
      ≡ none ∷ none ∷ none ∷ none ∷ none ∷ none ∷ []
  -- 15 bytes, 16, 65,535 and 65,536
  lengths : map line_of (datagram (0x52 ∷ 0x53 ∷ 1 ∷ 3 ∷ replicate 11 0) ∷ sent 0x53 1 3 0 ∷ sent 0x53 1 3 65519 ∷ sent 0x53 1 3 65520 ∷ [])
      ≡ none ∷ some (channel B) ∷ some (channel B) ∷ none ∷ []
  -- refused by 8
  too_long_law : map line_of (too_long 2 ∷ too_long 4 ∷ []) ≡ some (channel A) ∷ some (channel B) ∷ []

pub lines_of_datagrams : LinesOfDatagrams
unfolding computes sent too_long
lines_of_datagrams = record { streams = refl; no_line = refl; lengths = refl; too_long_law = refl }

-- ---- values

-- 0, 1, .., n − 1 as floats
first_floats : ℕ → List Float
first_floats n = map natf (count_from 0 n)

-- adaptive on, manual top −35 and range 70, estimates 10, −50, 0
adapting : Display
adapting =
    record {
      adaptive = true;
      top = f_35;
      range = natf 70;
      zoom = f1;
      smoothing = f0;
      top_estimate = natf 10;
      floor_estimate = nearest (neg_ℤ (pos 50));
      range_estimate = f0;
    }

pub record Values : Type 0 where
  -- settings start adaptive off, −35, 70, zoom 1, smoothing 0, with setup's estimates
  fresh_display_law : fresh_display (record { top = 0x3f800000; floor = 0x40000000; range = 0x40400000 })
      ≡ record {
        adaptive = false;
        top = from_bits 0xc20c0000;
        range = from_bits 0x428c0000;
        zoom = from_bits 0x3f800000;
        smoothing = from_bits 0;
        top_estimate = natf 1;
        floor_estimate = natf 2;
        range_estimate = natf 3;
      }
  -- of 50 values in order the floor is at place 10, the top at 49: 50 × 0.98 is 49, and with the float below it 48
  places : (row_floor (first_floats 50) ≡ from_bits 0x41200000) × (row_top (first_floats 50) ≡ from_bits 0x42440000)
  -- 48,000 samples are 1000 ms, and 480 are 10
  milliseconds : (samples_ms 48000 ≡ from_bits 0x447a0000) × (samples_ms 480 ≡ from_bits 0x41200000)
  -- a first depth is taken whole, and so is a first transmit depth
  depths : (depth_ms (record_depth 480 fresh_clock.counts fresh_clock) ≡ from_bits 0x41200000)
      × (depth_peak_ms (record_depth 480 fresh_clock.counts fresh_clock) ≡ from_bits 0x41200000)
      × ((record_transmit 48000 fresh_clock).transmit_peak ≡ from_bits 0x447a0000)
  -- 2,500,000 nanoseconds are 2.5 ms
  in_ms_law : in_ms (neg_ℤ (pos 2500000)) ≡ from_bits 0xc0200000
  -- a top of 10 shows as 13, and with a floor of −50 the range is 63; at most 100, at least 30
  headroom : (adaptive_top (natf 10) ≡ from_bits 0x41500000)
      × (adaptive_range (natf 10) (nearest (neg_ℤ (pos 50))) ≡ from_bits 0x427c0000)
      × (adaptive_range (natf 10) (nearest (neg_ℤ (pos 90))) ≡ from_bits 0x42c80000)
      × (adaptive_range (natf 10) (natf 10) ≡ from_bits 0x41f00000)
  -- adaptive shows the estimates, else the manual numbers show
  shown : (shown_top adapting ≡ from_bits 0x41500000) × (shown_range adapting ≡ from_bits 0) × (shown_top (fresh_display (record { top = 0; floor = 0; range = 0 })) ≡ from_bits 0xc20c0000)
  -- a row of NaN leaves the estimates
  no_finite_value : display_after (from_bits 0x7fc00000 ∷ []) adapting ≡ adapting
  -- smoothing 0 weighs 1, 1 weighs 1 − 0.9, and 2 is clamped
  weights : map smoothing_weight (f0 ∷ f1 ∷ natf 2 ∷ []) ≡ from_bits 0x3f800000 ∷ from_bits 0x3dccccd0 ∷ from_bits 0x3dccccd0 ∷ []
  -- top −35 and range 70: −35 is level 255, −105 is 0, −70 is 127.5, which goes to 128
  levels : map (λ db. db_to_u8 db f_35 (natf 70)) (f_35 ∷ nearest (neg_ℤ (pos 105)) ∷ nearest (neg_ℤ (pos 70)) ∷ natf 0 ∷ []) ≡ 255 ∷ 0 ∷ 128 ∷ 255 ∷ []
  -- samples start at byte 16, and at 24 in version 2
  starts : (audio_start 1 ≡ 16) × (audio_start 2 ≡ 24)
      × (audio_payload 1 (count_from 0 26) ≡ count_from 16 10)
      × (audio_payload 2 (count_from 0 26) ≡ 24 ∷ 25 ∷ [])
  -- a fourth and an eighth of the way go toward zero, from both sides
  steps : (step_toward 4 (pos 0) (neg_ℤ (pos 7)) ≡ neg_ℤ (pos 1)) × (step_toward 4 (pos 0) (pos 7) ≡ pos 1)
      × (step_toward 8 (pos 0) (neg_ℤ (pos 15)) ≡ neg_ℤ (pos 1)) × (step_toward 8 (pos 0) (pos 15) ≡ pos 1)
  -- a bit that no field names: of each kind, the end's too
  stray_bits : map word_in
      (0x20010000 ∷ 0x30000000 ∷ 0x40010000 ∷ 0x60000001 ∷ 0x80000002 ∷ 0xA0000001 ∷ 0xC0000003 ∷ 0xC0000004 ∷ 0xE0000001 ∷ 0x10000000 ∷ 1 ∷ [])
      ≡ replicate 11 none
  -- 24 bytes: magic, version 2, type 12, the probe's number, timestamp 0, t1
  request : build_request (record { probe = 0x01020304; t1 = 0x05060708 })
      ≡ 0x52 ∷ 0x53 ∷ 2 ∷ 12 ∷ 1 ∷ 2 ∷ 3 ∷ 4 ∷ 0 ∷ 0 ∷ 0 ∷ 0 ∷ 0 ∷ 0 ∷ 0 ∷ 0 ∷ 0 ∷ 0 ∷ 0 ∷ 0 ∷ 5 ∷ 6 ∷ 7 ∷ 8 ∷ []
  -- 40 bytes: the same with type 13, then t1, t2, t3
  response : build_response (record { probe = 9; t1 = 1; t2 = 2; t3 = 3 })
      ≡ 0x52 ∷ 0x53 ∷ 2 ∷ 13 ∷ 0 ∷ 0 ∷ 0 ∷ 9 ∷ 0 ∷ 0 ∷ 0 ∷ 0 ∷ 0 ∷ 0 ∷ 0 ∷ 0
      ∷ 0 ∷ 0 ∷ 0 ∷ 0 ∷ 0 ∷ 0 ∷ 0 ∷ 1 ∷ 0 ∷ 0 ∷ 0 ∷ 0 ∷ 0 ∷ 0 ∷ 0 ∷ 2 ∷ 0 ∷ 0 ∷ 0 ∷ 0 ∷ 0 ∷ 0 ∷ 0 ∷ 3 ∷ []

pub values : Values
unfolding computes first_floats adapting
values =
    record {
      fresh_display_law = refl;
      places = (refl, refl);
      milliseconds = (refl, refl);
      depths = (refl, refl, refl);
      in_ms_law = refl;
      headroom = (refl, refl, refl, refl);
      shown = (refl, refl, refl);
      no_finite_value = refl;
      weights = refl;
      levels = refl;
      starts = (refl, refl, refl, refl);
      steps = (refl, refl, refl, refl);
      stray_bits = refl;
      request = refl;
      response = refl;
    }
