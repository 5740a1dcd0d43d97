-- Rows 32 and 33 of document 01, and what 2026-01 adds to them: when settings, and a board whole, are in range.
-- Assumes nothing.
use Rattle.std.specs.Prelude.{ℕ, ◌≤◌, ◌<◌, ◌≡◌, length, get_or, Some, None}
use Rattle.travel.specs.declared.Pulse.{Pulse}
use Rattle.board.specs.declared.{settings.Settings.{Settings}, whole.Node.{Node}}
use Rattle.promises.specs.Wire.{byte_at}
use Rattle.promises.specs.Serials.{OriginRules}

-- Row 32. A travel is 16 bits, so that 65,535 bounds it by its type.
pub record SettingsInRange (s : Settings) : Type 0 where
  pub node_id_from_000001h : 0x000001 ≤ s.id.0
  pub node_id_to_fffeffh : s.id.0 ≤ 0xFFFEFF
  pub type_from_1 : 1 ≤ s.kind
  pub type_to_15 : s.kind ≤ 15
  pub travel_from_100 : 100 ≤ s.travel.0
  pub reference_to_ffffffh : s.plate.reference ≤ 0xFFFFFF
  pub letter_from_a : 0x41 ≤ s.plate.letter
  pub letter_to_z : s.plate.letter ≤ 0x5A
  pub maker_year_and_week : OriginRules s.plate.origin

-- A character of a label.
pub record IsCharacter (character : ℕ) : Type 0 where
  pub from : 0x20 ≤ character
  pub to : character ≤ 0x7E

-- Row 33. A target is held only while the motor runs, and an IP only where it is set.
pub record BoardInRange (n : Node) : Type 0 where
  pub settings_in_range : SettingsInRange n.settings
  pub position_within_the_travel : n.drive.position.0 ≤ n.settings.travel.0
  pub target_within_the_travel : (target : Pulse) → n.drive.motion ≡ Some target
      → target.0 ≤ n.settings.travel.0
  pub every_ip_within_the_travel : (place : ℕ) (p : Pulse) → get_or n.favourites.slots place None ≡ Some p
      → p.0 ≤ n.settings.travel.0
  pub holder_to_ffffffh : n.lock.holder.0 ≤ 0xFFFFFF
  pub label_of_characters : (place : ℕ) → place < length n.label → IsCharacter (byte_at n.label place)
