-- Numbers that fit their types, in the words of the board's own laws.
-- Assumes nothing.
use Rattle.board.specs.Typed as board
use Rattle.board.specs.declared.settings.Settings.{Settings}
use Rattle.board.specs.declared.whole.Node.{Node}
use Rattle.promises.specs.Typed.{SettingsTyped, Typed}

module _ (s : Settings) where
  pub settings_for_its_laws : SettingsTyped s → board.SettingsTyped s
  settings_for_its_laws t = record { travel_fits = t.travel_fits; number_fits = t.number_fits; six_characters = t.six_characters }

  settings_by_its_laws : board.SettingsTyped s → SettingsTyped s
  settings_by_its_laws t = record { travel_fits = t.travel_fits; number_fits = t.number_fits; six_characters = t.six_characters }

module _ (n : Node) where
  pub for_its_laws : Typed n → board.Typed n
  for_its_laws t =
      record {
        settings_fit = settings_for_its_laws n.settings t.settings_fit;
        direction_fits = t.direction_fits;
        source_fits = t.source_fits;
        cause_fits = t.cause_fits;
        priority_fits = t.priority_fits;
        sixteen_slots = t.sixteen_slots;
        sixteen_characters = t.sixteen_characters;
      }

  pub by_its_laws : board.Typed n → Typed n
  by_its_laws t =
      record {
        settings_fit = settings_by_its_laws n.settings t.settings_fit;
        direction_fits = t.direction_fits;
        source_fits = t.source_fits;
        cause_fits = t.cause_fits;
        priority_fits = t.priority_fits;
        sixteen_slots = t.sixteen_slots;
        sixteen_characters = t.sixteen_characters;
      }
