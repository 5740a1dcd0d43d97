-- Row 19 of document 01, place by place: 256 places, the records held in range and strictly ascending, zeros behind
-- them.
-- Assumes nothing.
use Rattle.std.specs.Prelude.{ℕ, ◌≤◌, ◌<◌, ◌≡◌, ◌⊎◌, List, length, get_or, replicate}
use Rattle.motors.specs.declared.motor.Motor.{Motor}

-- Strictly ascending: line, then NodeID as a number.
abbrev pub Before : Motor → Motor → Type 0
Before x y = (x.line < y.line) ⊎ ((x.line ≡ y.line) × (x.node < y.node))

-- The fields of a record held.
pub record InRange (m : Motor) : Type 0 where
  pub line_0_to_3 : m.line ≤ 3
  pub node_id_from_000001h : 0x000001 ≤ m.node
  pub node_id_to_fffeffh : m.node ≤ 0xFFFEFF
  pub mark_0_or_1 : (m.mark ≡ 0) ⊎ (m.mark ≡ 1)
  pub with_a_reading : m.mark ≡ 1 → (m.percent ≤ 100) × (((1 ≤ m.ip) × (m.ip ≤ 16)) ⊎ (m.ip ≡ 0xFF))
  pub without_one_zeros : m.mark ≡ 0 → (m.pulse ≡ 0) × ((m.percent ≡ 0) × (m.ip ≡ 0))

-- A record, field by field.
pub record Holds (m : Motor) (line node mark pulse percent ip : ℕ) : Type 0 where
  pub the_line : m.line ≡ line
  pub the_node_id : m.node ≡ node
  pub the-mark : m.mark ≡ mark
  pub the_pulse : m.pulse ≡ pulse
  pub the_percent : m.percent ≡ percent
  pub the_ip : m.ip ≡ ip

-- The record of a place that holds no motor.
abbrev pub no_motor : Motor
no_motor = record { node = 0; line = 0; mark = 0; pulse = 0; percent = 0; ip = 0 }

-- A run of 256 places that holds none.
abbrev pub no_motors : List Motor
no_motors = replicate 256 no_motor

-- What stands at a place of a run that has it.
abbrev pub at : List Motor → ℕ → Motor
at run place = get_or run place no_motor

pub record RegisterInRange (run : List Motor) (count : ℕ) : Type 0 where
  pub of_256_places : length run ≡ 256
  pub at_most_256_motors : count ≤ 256
  pub every_record_held_is_in_range : (place : ℕ) → place < count → InRange (at run place)
  pub records_ascend_by_line_then_node_id :
      (first later : ℕ) → first < later → later < count → Before (at run first) (at run later)
  pub every_other_place_is_zeros : (place : ℕ) → count ≤ place → place < 256 → Holds (at run place) 0 0 0 0 0 0
