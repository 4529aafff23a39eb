-- What the facts that are computed open: every definition that a session runs. Assumes nothing.
use mathlib.Core.List.{zip_with}
use Rattle.std.specs.Float.Ieee as Ieee
use Rattle.std.specs.Int.Count as Count
use Rattle.model.specs.Bytes as Bytes
use Rattle.model.specs.Floats as Floats
use Rattle.model.specs.Sizes as Sizes
use Rattle.model.specs.Framing as Framing
use Rattle.model.specs.Counts as Counts
use Rattle.model.specs.Samples as Samples
use Rattle.model.specs.JitterBuffer as Jitter
use Rattle.model.specs.Row as Row
use Rattle.model.specs.Scaling as Scaling
use Rattle.model.specs.Picture as Picture
use Rattle.model.specs.Clock as Clock
use Rattle.model.specs.Receiver as Receiver
use Rattle.model.specs.Questions as Questions
use Rattle.model.specs.Step as Step
use Rattle.model.specs.Lines as Lines
use Rattle.model.specs.Tape as Tape
use Rattle.model.specs.Replay as Replay

-- Named on an `unfolding` line, it opens all of them.
unfoldable pub computes : Unit {0}
unfolding Ieee.span Ieee.climb Ieee.size Ieee.odd Ieee.units Ieee.round Ieee.neg Ieee.sum Ieee.add Ieee.sub Ieee.mul Ieee.div Ieee.lt Ieee.eq Ieee.le Ieee.of_int Ieee.to_unsigned Ieee.is_nan Ieee.of_fields Ieee.of_bits Ieee.to_bits Count.count_trailing_zeros zip_with Bytes.big_endian Bytes.little_endian Bytes.big_endian_bytes Bytes.placed Bytes.written_into Floats.finite Floats.round_half_away Floats.maxf Floats.clampf Floats.signed16 Floats.sample Sizes.sizes_allowed Sizes.most_waiting Sizes.float_section Sizes.word_section Sizes.float_area Sizes.word_area Framing.header_fields Framing.parse_header Framing.valid_header Framing.next_sequence Framing.stream_of Framing.audio_start Framing.audio_send_time Framing.time_header Framing.build_request Framing.build_response Framing.time_packet Framing.parse_request Framing.parse_response Counts.is_below Counts.dropped_by Counts.late_by Counts.counted Samples.audio_payload Samples.holds_samples Samples.samples_of Jitter.count_received Jitter.count_inserted Jitter.count_concealed Jitter.count_late Jitter.count_overflow Jitter.count_invalid_size Jitter.count_resync Jitter.count_short Jitter.is_late Jitter.too_long Jitter.drop_count Jitter.reset Jitter.is_started Jitter.buffered Jitter.counting Jitter.earliest Jitter.is_waiting Jitter.samples_at Jitter.without Jitter.insert Jitter.with_next Jitter.step_due Jitter.resynced Jitter.after_step Jitter.fill_steps Jitter.fill Jitter.has_room Jitter.stored Jitter.start_at Jitter.start Jitter.note_largest Jitter.stored_and_filled Jitter.stored_or_counted Jitter.push Jitter.hand_out Jitter.play_fillers Jitter.play_filled Jitter.play Row.floats_of Row.chunk_total Row.chunk_fields Row.well_formed Row.open_row Row.row_for Row.finite_prefix Row.complete Row.store_all Row.store_some Row.store_chunk Row.push_chunk Scaling.averaged Scaling.spectrum_after Scaling.finite_values Scaling.insert_rising Scaling.rising Scaling.place_of Scaling.value_at Scaling.row_floor Scaling.row_top Scaling.estimated Scaling.adaptive_top Scaling.adaptive_range Scaling.estimates_toward Scaling.display_after Scaling.shown_top Scaling.shown_range Scaling.smoothing_weight Scaling.smoothed Scaling.smoothing_after Picture.visible_bins Picture.window_start Picture.window_end Picture.bin_at Picture.db_to_u8 Picture.rgb Picture.color_map Picture.count_from Picture.pixel Picture.drawn_row Picture.picture_after Clock.bits64 Clock.signed64 Clock.low64 Clock.probe_offset Clock.probe_round_trip Clock.step_toward Clock.least_after Clock.passes_gate Clock.timing_after Clock.probed Clock.record_probe Clock.one_way_in_range Clock.one_way_of Clock.one_way_after Clock.one_way_updated Clock.record_one_way Clock.samples_ms Clock.depth_after Clock.record_depth Clock.record_transmit Clock.in_ms Clock.offset_ms Clock.round_trip_ms Clock.one_way_ms Clock.depth_ms Clock.depth_peak_ms Receiver.fresh_display Receiver.fresh_channel Receiver.fresh Questions.first_no Questions.areas_long Questions.finite_bits Questions.estimates_finite Questions.settings_finite Questions.setup_questions Questions.opened_unless Questions.set_up Bytes.all Questions.sequences Questions.strictly_rising Questions.start_held Questions.counters_held Questions.buffer_held Questions.row_held Questions.channel_held Questions.offset_allowed Questions.timing_held Questions.one_way_held Questions.clock_held Questions.stream_held Questions.held Questions.total_allowed Questions.stream_allowed Framing.stream_in Questions.probe_allowed Questions.depth_allowed Questions.own_questions Questions.questions Step.with_buffer Step.play_channel Step.reset_channel Step.set_display Step.set_channel Step.audio_into Step.shown_row Step.chunk_result Step.waterfall_into Step.on_side Step.on_clock Step.counts_after Step.count_header Step.dispatch Step.take_datagram Step.changes Step.one_call_more Step.accept Step.decide Step.step Step.run Lines.stream_line Lines.line_of Lines.only_calls Lines.only_events Lines.line_state Lines.of_play Receiver.is_accepted Lines.tally Lines.tally_from Lines.since_reset Tape.words_of Tape.ends_in_part Tape.bytes_of Tape.words_for Tape.padding Tape.two_words Tape.wide Tape.side_bit Tape.adaptive_bit Tape.head_word Tape.word_of Tape.side_in Tape.adaptive_in Tape.clock_head Tape.named Tape.word_in Tape.body_length Tape.head_of Tape.body_of Tape.call_words Tape.call_of Tape.padded_with_zeros Tape.found_body Tape.found_word Tape.find Tape.before Tape.found_before Tape.calls_from Tape.setup_of Tape.with_setup Tape.after_first Tape.read_words Tape.read Tape.call_fits Tape.setup_body Tape.setup_words Tape.setup_fits Tape.behind Tape.write_calls Tape.write_words Tape.in_bytes Tape.write Tape.put_result Tape.put_words Tape.put_setup Tape.put_call Tape.put_end Replay.digits_before Replay.decimal Replay.signed_decimal Replay.hex_digit Replay.hex_digits Replay.hex_bits Replay.rest Replay.line Replay.side_letter Replay.play_line Replay.row_line Replay.refused_line Replay.stream_side Replay.side_of Replay.answer_line Replay.event_lines Replay.channel_line Replay.incoming_line Replay.or_dash Replay.clock_line Replay.closing_lines Replay.session_lines Replay.bad_tape_line Replay.tape_lines Replay.replay_over Replay.replay_within Replay.replay
computes = tt
