-- The numbers of a board and of its group table fit their types, as those of every board of the code do.
-- Assumes nothing.
use Rattle.std.specs.Prelude.{ℕ, ◌<◌, ◌≡◌, [], length, get_or}
use Rattle.board.specs.Groups.{Groups}
use Rattle.board.specs.declared.settings.Settings.{Settings}
use Rattle.board.specs.declared.whole.Node.{Node}

pub record SettingsTyped (s : Settings) : Type 0 where
  pub travel_fits : s.travel.0 < 65536
  pub number_fits : s.plate.number < 256
  pub six_characters : length s.plate.origin ≡ 6

pub record Typed (n : Node) : Type 0 where
  pub settings_fit : SettingsTyped n.settings
  pub direction_fits : n.drive.direction < 256
  pub source_fits : n.drive.source < 256
  pub cause_fits : n.drive.cause < 256
  pub priority_fits : n.lock.priority < 256
  pub sixteen_slots : length n.favourites.slots ≡ 16
  pub sixteen_characters : length n.label ≡ 16

abbrev pub TypedTable : Groups → Type 0
TypedTable groups = (index place : ℕ) → get_or (get_or groups index []) place 0 < 256
