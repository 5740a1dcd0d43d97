-- The contracts of `board`: its settings, the whole state, events and the group table; the motor, the IPs and the lock
-- have files of their own.
-- Assumes nothing.
use Rattle.std.specs.Prelude.{if◌then◌else◌, ◌≡◌, ◌&&◌, [], ◌∷◌, map, leb, replicate}
use mir.Syntax.{ty_int, ty_array, tnil, tcons, w8, w32}
use Rattle.serial.specs.Serial.{is_origin}
use Rattle.board.specs.{
  Label.{is_label},
  Node.{sound},
  Events.{set_up, after_pulse, after_blocked, after_cleared, after_power_up},
  Groups.{applied, in_table},
}
use Rattle.board.proofs as board
use Rattle.board.proofs.plate.Plate as Plate
use Rattle.board.proofs.settings.Settings as Settings
use Rattle.board.proofs.whole.Node as Node
use Rattle.promises.specs.BoardParts.{fresh_node}
use Rattle.promises.specs.Contracts.Says.{types_of, fields_of, Says}
use Rattle.promises.specs.Contracts.Drive.{running, DriveContracts}
use Rattle.promises.specs.Contracts.Favourites.{FavouritesContracts}
use Rattle.promises.specs.Contracts.Lock.{LockContracts}

pub record BoardContracts : Type 0 where
  -- Row 32: a plate with a reference to FFFFFFh, a letter A to Z, and maker, year and week.
  pub plate_in_range_is :
      Says Plate.in_range.Kinds.ps Plate.in_range.Kinds.r Plate.in_range.Reads.Pre Plate.in_range.Reads.Post
      (λ κs (plate, _).
      leb plate.reference 0xFFFFFF
      && (leb 0x41 plate.letter && (leb plate.letter 0x5A && is_origin plate.origin)))
  -- A plate is a reference of 32 bits, so that 24 fit, letter and number of a byte each, and six characters.
  pub a_plate_is_32_bits_two_bytes_and_six :
      map fields_of (types_of Plate.in_range.Kinds.ps)
      ≡ tcons (ty_int w32) (tcons (ty_int w8) (tcons (ty_int w8) (tcons (ty_array (ty_int w8) 6) tnil))) ∷ []
  -- Row 32: a NodeID, type 1 to 15, travel from 100, and a plate.
  pub in_range_is :
      Says Settings.in_range.Kinds.ps Settings.in_range.Kinds.r Settings.in_range.Reads.Pre Settings.in_range.Reads.Post
      (λ κs (settings, _).
      (leb 0x000001 settings.id.0 && leb settings.id.0 0xFFFEFF)
      && (leb 1 settings.kind && (leb settings.kind 15 && (leb 100 settings.travel.0
      && (leb settings.plate.reference 0xFFFFFF
      && (leb 0x41 settings.plate.letter
      && (leb settings.plate.letter 0x5A && is_origin settings.plate.origin)))))))
  pub drive : DriveContracts
  pub favourites : FavouritesContracts
  pub lock : LockContracts
  -- The whole state: fresh, row 33, its status, one part changed.
  pub node_fresh_is :
      Says Node.fresh.Kinds.ps Node.fresh.Kinds.r Node.fresh.Reads.Pre Node.fresh.Reads.Post
      (λ κs (settings, _). fresh_node settings)
  pub is_sound_is :
      Says Node.is_sound.Kinds.ps Node.is_sound.Kinds.r Node.is_sound.Reads.Pre Node.is_sound.Reads.Post
      (λ κs (node, _). sound node)
  pub status_is :
      Says Node.status.Kinds.ps Node.status.Kinds.r Node.status.Reads.Pre Node.status.Reads.Post
      (λ κs (node, _).
      if node.lock.locked then 3 else
      if node.drive.blocked then 2 else
      if running node.drive.motion then 1 else
      0)
  pub with_drive_is :
      Says Node.with_drive.Kinds.ps Node.with_drive.Kinds.r Node.with_drive.Reads.Pre Node.with_drive.Reads.Post
      (λ κs (node, (drive, _)).
      record {
        settings = node.settings;
        drive = drive;
        favourites = node.favourites;
        lock = node.lock;
        label = node.label;
      })
  pub with_favourites_is :
      Says Node.with_favourites.Kinds.ps Node.with_favourites.Kinds.r
      Node.with_favourites.Reads.Pre Node.with_favourites.Reads.Post
      (λ κs (node, (favourites, _)).
      record {
        settings = node.settings;
        drive = node.drive;
        favourites = favourites;
        lock = node.lock;
        label = node.label;
      })
  pub with_lock_is :
      Says Node.with_lock.Kinds.ps Node.with_lock.Kinds.r Node.with_lock.Reads.Pre Node.with_lock.Reads.Post
      (λ κs (node, (lock, _)).
      record {
        settings = node.settings;
        drive = node.drive;
        favourites = node.favourites;
        lock = lock;
        label = node.label;
      })
  pub with_label_is :
      Says Node.with_label.Kinds.ps Node.with_label.Kinds.r Node.with_label.Reads.Pre Node.with_label.Reads.Post
      (λ κs (node, (label, _)).
      record {
        settings = node.settings;
        drive = node.drive;
        favourites = node.favourites;
        lock = node.lock;
        label = label;
      })
  -- A label: sixteen spaces, and whether each character is 20h to 7Eh.
  pub blank_label_is :
      Says board.blank_label.Kinds.ps board.blank_label.Kinds.r board.blank_label.Reads.Pre board.blank_label.Reads.Post
      (λ κs _. replicate 16 0x20)
  pub is_label_is :
      Says board.is_label.Kinds.ps board.is_label.Kinds.r board.is_label.Reads.Pre board.is_label.Reads.Post
      (λ κs (label, _). is_label label)
  pub a_label_is_sixteen_bytes : types_of board.is_label.Kinds.ps ≡ ty_array (ty_int w8) 16 ∷ []
  -- Set-up, and the events from the motor and the supply.
  pub set_up_is :
      Says board.set_up.Kinds.ps board.set_up.Kinds.r board.set_up.Reads.Pre board.set_up.Reads.Post
      (λ κs (settings, _). set_up settings)
  pub at_pulse_is :
      Says board.at_pulse.Kinds.ps board.at_pulse.Kinds.r board.at_pulse.Reads.Pre board.at_pulse.Reads.Post
      (λ κs (node, (pulse, _)). after_pulse node pulse)
  pub blocked_is :
      Says board.blocked.Kinds.ps board.blocked.Kinds.r board.blocked.Reads.Pre board.blocked.Reads.Post
      (λ κs (node, (cause, _)). after_blocked node cause)
  pub cleared_is :
      Says board.cleared.Kinds.ps board.cleared.Kinds.r board.cleared.Reads.Pre board.cleared.Reads.Post
      (λ κs (node, _). after_cleared node)
  pub power_up_is :
      Says board.power_up.Kinds.ps board.power_up.Kinds.r board.power_up.Reads.Pre board.power_up.Reads.Post
      (λ κs (node, _). after_power_up node)
  -- The group table: empty, after a turn, and whether a SOURCE is in it.
  pub no_groups_is :
      Says board.no_groups.Kinds.ps board.no_groups.Kinds.r board.no_groups.Reads.Pre board.no_groups.Reads.Post
      (λ κs _. replicate 16 (0 ∷ 0 ∷ 0 ∷ []))
  pub apply_is :
      Says board.apply.Kinds.ps board.apply.Kinds.r board.apply.Reads.Pre board.apply.Reads.Post
      (λ κs (groups, (change, _)). applied groups change)
  pub in_table_is :
      Says board.in_table.Kinds.ps board.in_table.Kinds.r board.in_table.Reads.Pre board.in_table.Reads.Post
      (λ κs (groups, (source, _)). in_table source groups)
