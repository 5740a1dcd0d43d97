-- Each contract is its meaning.
-- Assumes nothing.
use mathlib.Core.Path.{refl}
use Rattle.motors.specs.Motor.{is_reading}
use Rattle.promises.specs.Contracts.{Contracts, LentSliceContracts}
use Rattle.promises.specs.Contracts.{
  Refusal.{RefusalContracts},
  Serial.{SerialContracts},
  Frame.{FrameContracts},
  Line.{LineContracts},
  Travel.{TravelContracts},
  Messages.{MessagesContracts},
  Node.{NodeContracts},
  Rts.{RtsContracts},
  Motors.{MotorsContracts},
  Form.{FormContracts},
}
use Rattle.promises.proofs.BoardContracts.{board_contracts}
use Rattle.promises.proofs.SliceContracts.{slice_contracts}

refusal_contracts : RefusalContracts
refusal_contracts = record { refusal_number_is = λ κs a. (refl, (tt, λ x s p. p)) }

serial_contracts : SerialContracts
serial_contracts =
    record {
      serial_of_is = λ κs a. (refl, (tt, λ x s p. p));
      is_origin_is = λ κs a. (refl, (tt, λ x s p. p));
      a_serial_is_of_32_bits_and_six_bytes = refl;
      an_origin_is_six_bytes = refl;
    }

frame_contracts : FrameContracts
frame_contracts =
    record {
      address_from_bytes_is = λ κs a. (refl, (tt, λ x s p. p));
      address_to_bytes_is = λ κs a. (refl, (tt, λ x s p. p));
      is_node_id_is = λ κs a. (refl, (tt, λ x s p. p));
      is_group_is = λ κs a. (refl, (tt, λ x s p. p));
      is_broadcast_is = λ κs a. (refl, (tt, λ x s p. p));
      word_is = λ κs a. (refl, (tt, λ x s p. p));
      frame_read_is = λ κs a. (refl, (tt, λ x s p. p));
      data_count_is = λ κs a. (refl, (tt, λ x s p. p));
      data_byte_is = λ κs a. (refl, (tt, λ x s p. p));
      frame_write_is = λ κs a. (refl, (tt, λ x s p. p));
    }

line_contracts : LineContracts
line_contracts =
    record {
      fresh_is = λ κs a. (refl, (tt, λ x s p. p));
      step_is = λ κs a. (refl, (tt, λ x s p. p));
      close_is = λ κs a. (refl, (tt, λ x s p. p));
      run_is = λ κs a. (refl, (tt, λ x s p. p));
      step_takes_a_silence_of_16_bits = refl;
      run_takes_silences_of_16_bits = refl;
    }

travel_contracts : TravelContracts
travel_contracts =
    record {
      percent_of_pulse_is = λ κs a. (refl, (tt, λ x s p. p));
      pulse_of_percent_is = λ κs a. (refl, (tt, λ x s p. p));
      share_of_is = λ κs a. (refl, (tt, λ x s p. p));
      a_pulse_is_16_bits = refl;
    }

messages_contracts : MessagesContracts
messages_contracts =
    record {
      code_number_is = λ κs a. (refl, (tt, λ x s p. p));
      outcome_of_is = λ κs a. (refl, (tt, λ x s p. p));
    }

node_contracts : NodeContracts
node_contracts =
    record {
      on_frame_is = λ κs a. (refl, (tt, λ x s p. p));
      reply_none_is = λ κs a. (refl, (tt, λ x s p. p));
    }

rts_contracts : RtsContracts
rts_contracts =
    record {
      message_number_is = λ κs a. (refl, (tt, λ x s p. p));
      message_count_is = λ κs a. (refl, (tt, λ x s p. p));
      message_fields_is = λ κs a. (refl, (tt, λ x s p. p));
      message_of_is = λ κs a. (refl, (tt, λ x s p. p));
      a_message_is_of_a_byte_and_four_bytes = refl;
      a_bundle_is_bytes_lent_to_be_read = refl;
      a_message_is_written_into_bytes_at_a_place_of_64_bits = refl;
      message_read_is = λ κs a. (refl, (tt, λ x s p. p));
      message_write_is = λ κs a. (refl, (tt, λ x s p. p));
    }

motors_contracts : MotorsContracts
unfolding is_reading
motors_contracts =
    record {
      unread_is = λ κs a. (refl, (tt, λ x s p. p));
      key_is = λ κs a. (refl, (tt, λ x s p. p));
      is_reading_is = λ κs a. (refl, (tt, λ x s p. p));
      follows_is = λ κs a. (refl, (tt, λ x s p. p));
      read_report_is = λ κs a. (refl, (tt, λ x s p. p));
      subject_is = λ κs a. (refl, (tt, λ x s p. p));
      shows_reading_is = λ κs a. (refl, (tt, λ x s p. p));
      begun_is = λ κs a. (refl, (tt, λ x s p. p));
      past_is = λ κs a. (refl, (tt, λ x s p. p));
      gather_is = λ κs a. (refl, (tt, λ x s p. p));
      found_by_is = λ κs a. (refl, (tt, λ x s p. p));
      to_enrol_is = λ κs a. (refl, (tt, λ x s p. p));
      to_file_is = λ κs a. (refl, (tt, λ x s p. p));
      to_strike_is = λ κs a. (refl, (tt, λ x s p. p));
    }

form_contracts : FormContracts
form_contracts =
    record {
      check_is = λ κs a. (refl, (tt, λ x s p. p));
      place_is = λ κs a. (refl, (tt, λ x s p. p));
      refuses_is = λ κs a. (refl, (tt, λ x s p. p));
      counted_is = λ κs a. (refl, (tt, λ x s p. p));
      room_is = λ κs a. (refl, (tt, λ x s p. p));
      is_refused_is = λ κs a. (refl, (tt, λ x s p. p));
      lay_head_is = λ κs a. (refl, (tt, λ x s p. (refl, p)));
      lay_motor_is = λ κs a. (refl, (tt, λ x s p. (refl, p)));
    }

pub contracts : Contracts
contracts =
    record {
      refusal = refusal_contracts;
      serial = serial_contracts;
      frame = frame_contracts;
      line = line_contracts;
      travel = travel_contracts;
      board = board_contracts;
      messages = messages_contracts;
      node = node_contracts;
      rts = rts_contracts;
      motors = motors_contracts;
      form = form_contracts;
    }

pub lent_slice_contracts : LentSliceContracts
lent_slice_contracts = record { register = slice_contracts }
