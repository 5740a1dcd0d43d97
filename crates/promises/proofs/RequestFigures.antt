-- The requests' worked figures hold: both sides compute to the same.
-- Assumes nothing.
use mathlib.Core.Path.{refl}
use mathlib.Core.List.{List, [], ◌∷◌}
use Rattle.meaning.specs.Every.{every}
use Rattle.frame.specs.{Reading.{reading_of}, Writing.{writing_of, writing_with}}
use Rattle.board.specs.{Favourites.{ips_within}, Groups.{in_table}}
use Rattle.travel.specs.Position.{percent_of_pulse, pulse_of_percent}
use Rattle.messages.specs.{Identity.{first_of, serial_row, version_row}, Ips.{set_ip_row}, Motor.{move_row}, Table.{outcome_of}}
use Rattle.node.specs.{Replies.{reply_to}, Meant.{meant}, Frames.{turn_of}}
use Rattle.rts.specs.{Spelling.{spelled_by}, Reading.{received_of}}
use Rattle.promises.specs.Figures.{AllHold}
use Rattle.promises.specs.RequestFigures.{
  r01_serial,
  r01_asked,
  r01_told,
  r01_version,
  r02_halves,
  r03_stored,
  r03_called,
  r03_refused,
  r03_in_order,
  r04_position,
  r04_tilt,
  r04_mode,
  r04_sun,
  r04_lock,
  r04_counts,
  r04_refused,
  r04_count_first,
  r04_order,
  request_figures,
}

serial : r01_serial
serial = refl

asked : r01_asked
unfolding writing_of
asked = refl

told : r01_told
unfolding reading_of writing_of ips_within every reply_to outcome_of first_of serial_row in_table meant turn_of
told = refl

version : r01_version
unfolding reading_of writing_of ips_within every reply_to outcome_of version_row in_table meant turn_of
version = refl

halves : r02_halves
unfolding percent_of_pulse
halves = (refl, refl)

stored : r03_stored
unfolding pulse_of_percent reading_of writing_of ips_within every reply_to outcome_of set_ip_row in_table meant turn_of
stored = refl

by_number : r03_called
unfolding reading_of writing_of ips_within every reply_to outcome_of move_row in_table meant turn_of
by_number = (refl, refl)

out_of_range : r03_refused
unfolding reading_of writing_of ips_within every reply_to outcome_of move_row in_table meant turn_of
out_of_range = (refl, refl, refl)

in_order : r03_in_order
unfolding reading_of writing_of ips_within every reply_to outcome_of move_row in_table meant turn_of
in_order = (refl, refl, refl)

-- 2026-04: a message goes out as its bytes and comes back, or is refused.
message_position : r04_position
unfolding reading_of writing_with spelled_by received_of
message_position = (refl, refl)

message_tilt : r04_tilt
unfolding reading_of writing_with spelled_by received_of
message_tilt = (refl, refl)

message_mode : r04_mode
unfolding reading_of writing_with spelled_by received_of
message_mode = ((refl, refl), (refl, refl))

message_sun : r04_sun
unfolding reading_of writing_with spelled_by received_of
message_sun = ((refl, refl), (refl, refl))

message_lock : r04_lock
unfolding reading_of writing_with spelled_by received_of
message_lock = ((refl, refl), refl, refl)

message_counts : r04_counts
unfolding reading_of writing_with spelled_by received_of
message_counts = ((refl, refl), refl)

message_refused : r04_refused
unfolding reading_of writing_with spelled_by received_of
message_refused = ((refl, refl), refl, refl)

message_count_first : r04_count_first
unfolding reading_of writing_with spelled_by received_of
message_count_first = (refl, refl)

message_order : r04_order
unfolding reading_of writing_with spelled_by received_of
message_order = (refl, refl)

-- Those of 2026-04.
abbrev message_figures : List (Type 0)
message_figures =
    r04_position ∷ r04_tilt ∷ r04_mode ∷ r04_sun ∷ r04_lock ∷ r04_counts ∷ r04_refused ∷ r04_count_first ∷ r04_order ∷ []

messages_hold : AllHold message_figures
messages_hold =
    (message_position, (message_tilt, (message_mode, (message_sun, (message_lock, (message_counts, (message_refused, (message_count_first, (message_order, tt)))))))))

pub all_hold : AllHold request_figures
all_hold = (serial, (asked, (told, (version, (halves, (stored, (by_number, (out_of_range, (in_order, messages_hold)))))))))
