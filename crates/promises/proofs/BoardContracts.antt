-- Each contract of the board is its meaning.
-- Assumes nothing.
use mathlib.Core.Path.{refl}
use Rattle.promises.specs.Contracts.{
  Drive.{DriveContracts},
  Favourites.{FavouritesContracts},
  Lock.{LockContracts},
  Board.{BoardContracts},
}

drive_contracts : DriveContracts
drive_contracts =
    record {
      drive_fresh_is = λ κs a. (refl, (tt, λ x s p. p));
      moved_to_is = λ κs a. (refl, (tt, λ x s p. p));
      halted_is = λ κs a. (refl, (tt, λ x s p. p));
      drive_at_pulse_is = λ κs a. (refl, (tt, λ x s p. p));
      blocked_by_is = λ κs a. (refl, (tt, λ x s p. p));
      unblocked_is = λ κs a. (refl, (tt, λ x s p. p));
      powered_up_is = λ κs a. (refl, (tt, λ x s p. p));
      is_running_is = λ κs a. (refl, (tt, λ x s p. p));
      drive_within_is = λ κs a. (refl, (tt, λ x s p. p));
    }

favourites_contracts : FavouritesContracts
favourites_contracts =
    record {
      favourites_none_is = λ κs a. (refl, (tt, λ x s p. p));
      ip_at_is = λ κs a. (refl, (tt, λ x s p. p));
      with_ip_is = λ κs a. (refl, (tt, λ x s p. p));
      shared_out_is = λ κs a. (refl, (tt, λ x s p. p));
      reported_ip_is = λ κs a. (refl, (tt, λ x s p. p));
      favourites_within_is = λ κs a. (refl, (tt, λ x s p. p));
    }

lock_contracts : LockContracts
lock_contracts =
    record {
      lock_none_is = λ κs a. (refl, (tt, λ x s p. p));
      admits_is = λ κs a. (refl, (tt, λ x s p. p));
      locked_is = λ κs a. (refl, (tt, λ x s p. p));
      unlocked_is = λ κs a. (refl, (tt, λ x s p. p));
      saving_is = λ κs a. (refl, (tt, λ x s p. p));
      over_power_up_is = λ κs a. (refl, (tt, λ x s p. p));
    }

pub board_contracts : BoardContracts
board_contracts =
    record {
      plate_in_range_is = λ κs a. (refl, (tt, λ x s p. p));
      a_plate_is_32_bits_two_bytes_and_six = refl;
      in_range_is = λ κs a. (refl, (tt, λ x s p. p));
      drive = drive_contracts;
      favourites = favourites_contracts;
      lock = lock_contracts;
      node_fresh_is = λ κs a. (refl, (tt, λ x s p. p));
      is_sound_is = λ κs a. (refl, (tt, λ x s p. p));
      status_is = λ κs a. (refl, (tt, λ x s p. p));
      with_drive_is = λ κs a. (refl, (tt, λ x s p. p));
      with_favourites_is = λ κs a. (refl, (tt, λ x s p. p));
      with_lock_is = λ κs a. (refl, (tt, λ x s p. p));
      with_label_is = λ κs a. (refl, (tt, λ x s p. p));
      blank_label_is = λ κs a. (refl, (tt, λ x s p. p));
      is_label_is = λ κs a. (refl, (tt, λ x s p. p));
      a_label_is_sixteen_bytes = refl;
      set_up_is = λ κs a. (refl, (tt, λ x s p. p));
      at_pulse_is = λ κs a. (refl, (tt, λ x s p. p));
      blocked_is = λ κs a. (refl, (tt, λ x s p. p));
      cleared_is = λ κs a. (refl, (tt, λ x s p. p));
      power_up_is = λ κs a. (refl, (tt, λ x s p. p));
      no_groups_is = λ κs a. (refl, (tt, λ x s p. p));
      apply_is = λ κs a. (refl, (tt, λ x s p. p));
      in_table_is = λ κs a. (refl, (tt, λ x s p. p));
    }
