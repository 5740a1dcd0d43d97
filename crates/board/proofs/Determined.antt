-- Every public contract of the crate is determined.
-- Assumes nothing.
use mathlib.Core.Path.{◌∙◌, sym}
use Rattle.meaning.specs.Determined.{Once}
use Rattle.board.proofs.settings.Settings.in_range.Kinds as in_range_kinds
use Rattle.board.proofs.settings.Settings.in_range.Reads as in_range_lem
use Rattle.board.proofs.plate.Plate.in_range.Kinds as plate_in_range_kinds
use Rattle.board.proofs.plate.Plate.in_range.Reads as plate_in_range_lem
use Rattle.board.proofs.drive.Drive.fresh.Kinds as drive_fresh_kinds
use Rattle.board.proofs.drive.Drive.fresh.Reads as drive_fresh
use Rattle.board.proofs.drive.Drive.moved_to.Kinds as moved_to_kinds
use Rattle.board.proofs.drive.Drive.moved_to.Reads as moved_to
use Rattle.board.proofs.drive.Drive.halted.Kinds as halted_kinds
use Rattle.board.proofs.drive.Drive.halted.Reads as halted
use Rattle.board.proofs.drive.Drive.at_pulse.Kinds as drive_at_pulse_kinds
use Rattle.board.proofs.drive.Drive.at_pulse.Reads as drive_at_pulse
use Rattle.board.proofs.drive.Drive.blocked_by.Kinds as blocked_by_kinds
use Rattle.board.proofs.drive.Drive.blocked_by.Reads as blocked_by_lem
use Rattle.board.proofs.drive.Drive.unblocked.Kinds as unblocked_kinds
use Rattle.board.proofs.drive.Drive.unblocked.Reads as unblocked
use Rattle.board.proofs.drive.Drive.powered_up.Kinds as powered_up_kinds
use Rattle.board.proofs.drive.Drive.powered_up.Reads as powered_up_lem
use Rattle.board.proofs.drive.Drive.is_running.Kinds as is_running_kinds
use Rattle.board.proofs.drive.Drive.is_running.Reads as is_running_lem
use Rattle.board.proofs.drive.Drive.within.Kinds as drive_within_kinds
use Rattle.board.proofs.drive.Drive.within.Reads as drive_within_lem
use Rattle.board.proofs.favourites.Favourites.none.Kinds as favourites_none_kinds
use Rattle.board.proofs.favourites.Favourites.none.Reads as favourites_none
use Rattle.board.proofs.favourites.Favourites.ip_at.Kinds as ip_at_kinds
use Rattle.board.proofs.favourites.Favourites.ip_at.Reads as ip_at_lem
use Rattle.board.proofs.favourites.Favourites.with_ip.Kinds as with_ip_kinds
use Rattle.board.proofs.favourites.Favourites.with_ip.Reads as with_ip_lem
use Rattle.board.proofs.favourites.Favourites.shared_out.Kinds as shared_out_kinds
use Rattle.board.proofs.favourites.Favourites.shared_out.Reads as shared_out_lem
use Rattle.board.proofs.favourites.Favourites.reported_ip.Kinds as reported_ip_kinds
use Rattle.board.proofs.favourites.Favourites.reported_ip.Reads as reported_ip_lem
use Rattle.board.proofs.favourites.Favourites.within.Kinds as favourites_within_kinds
use Rattle.board.proofs.favourites.Favourites.within.Reads as favourites_within
use Rattle.board.proofs.lock.Lock.none.Kinds as lock_none_kinds
use Rattle.board.proofs.lock.Lock.none.Reads as lock_none
use Rattle.board.proofs.lock.Lock.admits.Kinds as admits_kinds
use Rattle.board.proofs.lock.Lock.admits.Reads as admits
use Rattle.board.proofs.lock.Lock.locked.Kinds as locked_kinds
use Rattle.board.proofs.lock.Lock.locked.Reads as locked
use Rattle.board.proofs.lock.Lock.unlocked.Kinds as unlocked_kinds
use Rattle.board.proofs.lock.Lock.unlocked.Reads as unlocked
use Rattle.board.proofs.lock.Lock.saving.Kinds as saving_kinds
use Rattle.board.proofs.lock.Lock.saving.Reads as saving
use Rattle.board.proofs.lock.Lock.over_power_up.Kinds as over_power_up_kinds
use Rattle.board.proofs.lock.Lock.over_power_up.Reads as over_power_up_lem
use Rattle.board.proofs.label.blank_label.Kinds as blank_label_kinds
use Rattle.board.proofs.label.blank_label.Reads as blank_label
use Rattle.board.proofs.label.is_label.Kinds as is_label_kinds
use Rattle.board.proofs.label.is_label.Reads as is_label_lem
use Rattle.board.proofs.whole.Node.fresh.Kinds as node_fresh_kinds
use Rattle.board.proofs.whole.Node.fresh.Reads as node_fresh
use Rattle.board.proofs.whole.Node.is_sound.Kinds as is_sound_kinds
use Rattle.board.proofs.whole.Node.is_sound.Reads as is_sound_lem
use Rattle.board.proofs.whole.Node.status.Kinds as status_kinds
use Rattle.board.proofs.whole.Node.status.Reads as status
use Rattle.board.proofs.whole.Node.with_drive.Kinds as with_drive_kinds
use Rattle.board.proofs.whole.Node.with_drive.Reads as with_drive_lem
use Rattle.board.proofs.whole.Node.with_favourites.Kinds as with_favourites_kinds
use Rattle.board.proofs.whole.Node.with_favourites.Reads as with_favourites_lem
use Rattle.board.proofs.whole.Node.with_lock.Kinds as with_lock_kinds
use Rattle.board.proofs.whole.Node.with_lock.Reads as with_lock_lem
use Rattle.board.proofs.whole.Node.with_label.Kinds as with_label_kinds
use Rattle.board.proofs.whole.Node.with_label.Reads as with_label_lem
use Rattle.board.proofs.events.set_up.Kinds as set_up_kinds
use Rattle.board.proofs.events.set_up.Reads as set_up_lem
use Rattle.board.proofs.events.at_pulse.Kinds as at_pulse_kinds
use Rattle.board.proofs.events.at_pulse.Reads as at_pulse_lem
use Rattle.board.proofs.events.blocked.Kinds as blocked_kinds
use Rattle.board.proofs.events.blocked.Reads as blocked
use Rattle.board.proofs.events.cleared.Kinds as cleared_kinds
use Rattle.board.proofs.events.cleared.Reads as cleared
use Rattle.board.proofs.events.power_up.Kinds as power_up_kinds
use Rattle.board.proofs.events.power_up.Reads as power_up
use Rattle.board.proofs.groups.apply.Kinds as apply_kinds
use Rattle.board.proofs.groups.apply.Reads as apply
use Rattle.board.proofs.groups.in_table.Kinds as in_table_kinds
use Rattle.board.proofs.groups.in_table.Reads as in_table
use Rattle.board.proofs.groups.no_groups.Kinds as no_groups_kinds
use Rattle.board.proofs.groups.no_groups.Reads as no_groups_lem

pub record Determined : Type 0 where
  pub in_range_once : Once in_range_kinds.ps in_range_kinds.r in_range_lem.Post
  pub plate_in_range_once : Once plate_in_range_kinds.ps plate_in_range_kinds.r plate_in_range_lem.Post
  pub drive_fresh_once : Once drive_fresh_kinds.ps drive_fresh_kinds.r drive_fresh.Post
  pub moved_to_once : Once moved_to_kinds.ps moved_to_kinds.r moved_to.Post
  pub halted_once : Once halted_kinds.ps halted_kinds.r halted.Post
  pub drive_at_pulse_once : Once drive_at_pulse_kinds.ps drive_at_pulse_kinds.r drive_at_pulse.Post
  pub blocked_by_once : Once blocked_by_kinds.ps blocked_by_kinds.r blocked_by_lem.Post
  pub unblocked_once : Once unblocked_kinds.ps unblocked_kinds.r unblocked.Post
  pub powered_up_once : Once powered_up_kinds.ps powered_up_kinds.r powered_up_lem.Post
  pub is_running_once : Once is_running_kinds.ps is_running_kinds.r is_running_lem.Post
  pub drive_within_once : Once drive_within_kinds.ps drive_within_kinds.r drive_within_lem.Post
  pub favourites_none_once : Once favourites_none_kinds.ps favourites_none_kinds.r favourites_none.Post
  pub ip_at_once : Once ip_at_kinds.ps ip_at_kinds.r ip_at_lem.Post
  pub with_ip_once : Once with_ip_kinds.ps with_ip_kinds.r with_ip_lem.Post
  pub shared_out_once : Once shared_out_kinds.ps shared_out_kinds.r shared_out_lem.Post
  pub reported_ip_once : Once reported_ip_kinds.ps reported_ip_kinds.r reported_ip_lem.Post
  pub favourites_within_once : Once favourites_within_kinds.ps favourites_within_kinds.r favourites_within.Post
  pub lock_none_once : Once lock_none_kinds.ps lock_none_kinds.r lock_none.Post
  pub admits_once : Once admits_kinds.ps admits_kinds.r admits.Post
  pub locked_once : Once locked_kinds.ps locked_kinds.r locked.Post
  pub unlocked_once : Once unlocked_kinds.ps unlocked_kinds.r unlocked.Post
  pub saving_once : Once saving_kinds.ps saving_kinds.r saving.Post
  pub over_power_up_once : Once over_power_up_kinds.ps over_power_up_kinds.r over_power_up_lem.Post
  pub blank_label_once : Once blank_label_kinds.ps blank_label_kinds.r blank_label.Post
  pub is_label_once : Once is_label_kinds.ps is_label_kinds.r is_label_lem.Post
  pub node_fresh_once : Once node_fresh_kinds.ps node_fresh_kinds.r node_fresh.Post
  pub is_sound_once : Once is_sound_kinds.ps is_sound_kinds.r is_sound_lem.Post
  pub status_once : Once status_kinds.ps status_kinds.r status.Post
  pub with_drive_once : Once with_drive_kinds.ps with_drive_kinds.r with_drive_lem.Post
  pub with_favourites_once : Once with_favourites_kinds.ps with_favourites_kinds.r with_favourites_lem.Post
  pub with_lock_once : Once with_lock_kinds.ps with_lock_kinds.r with_lock_lem.Post
  pub with_label_once : Once with_label_kinds.ps with_label_kinds.r with_label_lem.Post
  pub set_up_once : Once set_up_kinds.ps set_up_kinds.r set_up_lem.Post
  pub at_pulse_once : Once at_pulse_kinds.ps at_pulse_kinds.r at_pulse_lem.Post
  pub blocked_once : Once blocked_kinds.ps blocked_kinds.r blocked.Post
  pub cleared_once : Once cleared_kinds.ps cleared_kinds.r cleared.Post
  pub power_up_once : Once power_up_kinds.ps power_up_kinds.r power_up.Post
  pub apply_once : Once apply_kinds.ps apply_kinds.r apply.Post
  pub in_table_once : Once in_table_kinds.ps in_table_kinds.r in_table.Post
  pub no_groups_once : Once no_groups_kinds.ps no_groups_kinds.r no_groups_lem.Post

pub determined : Determined
determined =
    record {
      in_range_once = λ κs a x y s t p q. p ∙ sym q;
      plate_in_range_once = λ κs a x y s t p q. p ∙ sym q;
      drive_fresh_once = λ κs a x y s t p q. p ∙ sym q;
      moved_to_once = λ κs a x y s t p q. p ∙ sym q;
      halted_once = λ κs a x y s t p q. p ∙ sym q;
      drive_at_pulse_once = λ κs a x y s t p q. p ∙ sym q;
      blocked_by_once = λ κs a x y s t p q. p ∙ sym q;
      unblocked_once = λ κs a x y s t p q. p ∙ sym q;
      powered_up_once = λ κs a x y s t p q. p ∙ sym q;
      is_running_once = λ κs a x y s t p q. p ∙ sym q;
      drive_within_once = λ κs a x y s t p q. p ∙ sym q;
      favourites_none_once = λ κs a x y s t p q. p ∙ sym q;
      ip_at_once = λ κs a x y s t p q. p ∙ sym q;
      with_ip_once = λ κs a x y s t p q. p ∙ sym q;
      shared_out_once = λ κs a x y s t p q. p ∙ sym q;
      reported_ip_once = λ κs a x y s t p q. p ∙ sym q;
      favourites_within_once = λ κs a x y s t p q. p ∙ sym q;
      lock_none_once = λ κs a x y s t p q. p ∙ sym q;
      admits_once = λ κs a x y s t p q. p ∙ sym q;
      locked_once = λ κs a x y s t p q. p ∙ sym q;
      unlocked_once = λ κs a x y s t p q. p ∙ sym q;
      saving_once = λ κs a x y s t p q. p ∙ sym q;
      over_power_up_once = λ κs a x y s t p q. p ∙ sym q;
      blank_label_once = λ κs a x y s t p q. p ∙ sym q;
      is_label_once = λ κs a x y s t p q. p ∙ sym q;
      node_fresh_once = λ κs a x y s t p q. p ∙ sym q;
      is_sound_once = λ κs a x y s t p q. p ∙ sym q;
      status_once = λ κs a x y s t p q. p ∙ sym q;
      with_drive_once = λ κs a x y s t p q. p ∙ sym q;
      with_favourites_once = λ κs a x y s t p q. p ∙ sym q;
      with_lock_once = λ κs a x y s t p q. p ∙ sym q;
      with_label_once = λ κs a x y s t p q. p ∙ sym q;
      set_up_once = λ κs a x y s t p q. p ∙ sym q;
      at_pulse_once = λ κs a x y s t p q. p ∙ sym q;
      blocked_once = λ κs a x y s t p q. p ∙ sym q;
      cleared_once = λ κs a x y s t p q. p ∙ sym q;
      power_up_once = λ κs a x y s t p q. p ∙ sym q;
      apply_once = λ κs a x y s t p q. p ∙ sym q;
      in_table_once = λ κs a x y s t p q. p ∙ sym q;
      no_groups_once = λ κs a x y s t p q. p ∙ sym q;
    }
