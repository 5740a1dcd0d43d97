-- Whether a state is sound, from the parts that passed and the one that decides.
-- Assumes nothing.
use mathlib.Core.Path.{◌≡◌}
use mathlib.Core.Bool.{true, false}
use lib.Dec.{leb}
use Rattle.board.specs.Settings.{in_range}
use Rattle.board.specs.Drive.{drive_within}
use Rattle.board.specs.Favourites.{ips_within}
use Rattle.board.specs.Label.{is_label}
use Rattle.board.specs.Node.{sound}
use Rattle.board.specs.declared.whole.Node.{Node}

module _ (n : Node) where
  pub by_settings : in_range n.settings ≡ false → sound n ≡ false
  by_settings s = rw s

module _ (n : Node) (s : in_range n.settings ≡ true) where
  pub by_drive : drive_within n.settings.travel n.drive ≡ false → sound n ≡ false
  by_drive d = rw (s, d)

module _ (n : Node) (s : in_range n.settings ≡ true) (d : drive_within n.settings.travel n.drive ≡ true) where
  pub by_ips : ips_within n.settings.travel n.favourites.slots ≡ false → sound n ≡ false
  by_ips f = rw (s, d, f)

module _ (n : Node) (s : in_range n.settings ≡ true) (d : drive_within n.settings.travel n.drive ≡ true)
    (f : ips_within n.settings.travel n.favourites.slots ≡ true) where
  pub by_holder : leb n.lock.holder.0 0xFFFFFF ≡ false → sound n ≡ false
  by_holder h = rw (s, d, f, h)

  pub by_label : leb n.lock.holder.0 0xFFFFFF ≡ true → sound n ≡ is_label n.label
  by_label h = rw (s, d, f, h)
