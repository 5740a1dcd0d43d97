-- The worked figures P1 to P11 hold: both sides compute to the same.
-- Assumes nothing.
use mathlib.Core.Path.{◌≡◌, refl}
use mathlib.Core.Bool.{true}
use mathlib.Core.Option.{some}
use lib.ListN.{replicate}
use Rattle.meaning.specs.Every.{every}
use Rattle.frame.specs.{Reading.{reading_of}, Writing.{writing_of}}
use Rattle.travel.specs.{Position.{percent_of_pulse, pulse_of_percent}, Share.{share_of}}
use Rattle.board.specs.{Favourites.{first_at, ips_within}, Groups.{in_table}}
use Rattle.messages.specs.{Motor.{position_row}, Table.{outcome_of}}
use Rattle.node.specs.{Replies.{reply_to}, Meant.{meant}, Frames.{turn_of}}
use Rattle.runs.specs.{Ordered.{looked_up, placed}, Places.{filled}}
use Rattle.motors.specs.{
  Order.{before, same},
  Motor.{is_node, is_reading, unread_part, reading_part, right_beside_line, right_of, blank_of},
  Register.{in_order, all_blank, sound_of, found},
  Report.{reported},
  Filing.{entered, kept_of, filing_of, filed_of},
}
use Rattle.form.specs.{
  Layout.{in_turn, form_of, entry_behind, everywhere, listed},
  FormOne.{reading_right, motor_of_reading},
  Reading.{checked, read_of},
  Writing.{written_of, buffer_after as form_written},
}
use Rattle.promises.specs.RegisterInRange.{no_motors}
use Rattle.promises.specs.Figures.{
  P1,
  P2,
  P3,
  P4,
  P5,
  P6,
  P7,
  P8,
  P9,
  P10,
  P11,
  position_told,
  on_line0,
  on_line1,
  one_motor,
  two_motors,
  whole_file,
  figures,
  AllHold,
}
use Rattle.std.specs.Prelude.{Ok}

p1 : P1
unfolding writing_of
p1 = (refl, refl)

p2 : P2
unfolding writing_of
p2 = refl

p3 : P3
unfolding writing_of
p3 = refl

p4 : P4
unfolding reading_of writing_of percent_of_pulse first_at ips_within every reply_to outcome_of position_row in_table meant turn_of
p4 = refl

p5 : P5
unfolding reading_of
p5 = refl

p6 : P6
unfolding reading_of
p6 = refl

p7 : P7
unfolding reading_of
p7 = refl

p8 : P8
unfolding percent_of_pulse
p8 = (refl, refl)

p9 : P9
unfolding percent_of_pulse pulse_of_percent
p9 = (refl, refl)

p10 : P10
unfolding share_of
p10 = (refl, refl, refl, refl, refl)

sound : sound_of two_motors 2 ≡ true
unfolding in_order all_blank sound_of before is_node is_reading unread_part reading_part right_of right_beside_line blank_of
sound = refl

file_length : written_of two_motors 2 25 ≡ Ok 25
unfolding written_of
file_length = rw sound

file_written : form_written two_motors 2 (replicate 25 0) ≡ whole_file
unfolding in_turn form_of
file_written = rw file_length

file_read : read_of no_motors whole_file ≡ record { motors = two_motors; answer = Ok 2 }
unfolding entry_behind everywhere listed reading_right motor_of_reading checked filled before is_node is_reading
file_read = refl

on_line_0 : found two_motors 2 0 0x050403 ≡ some on_line0
unfolding looked_up same
on_line_0 = refl

on_line_1 : found two_motors 2 1 0x050403 ≡ some on_line1
unfolding looked_up same
on_line_1 = refl

empty_is_sound : sound_of no_motors 0 ≡ true
unfolding in_order all_blank sound_of unread_part blank_of
empty_is_sound = refl

filed : filed_of no_motors 0 0 position_told ≡ record { motors = one_motor; answer = Ok 1 }
unfolding filing_of reading_of reported kept_of entered placed filled
filed = rw empty_is_sound

p11 : P11
p11 = (file_length, file_written, file_read, on_line_0, on_line_1, filed)

pub all_hold : AllHold figures
all_hold = (p1, (p2, (p3, (p4, (p5, (p6, (p7, (p8, (p9, (p10, (p11, tt)))))))))))
