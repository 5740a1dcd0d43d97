-- The whole state (document 01, row 33, "Status", "Events").
-- Assumes nothing.
use Rattle.std.specs.Prelude.{if◌then◌else◌, ℕ, List, Bool, ◌&&◌, leb}
use Rattle.board.specs.Settings.{in_range}
use Rattle.board.specs.Drive.{fresh_drive, drive_within, is_running}
use Rattle.board.specs.Favourites.{no_favourites, ips_within}
use Rattle.board.specs.Label.{is_label, spaces}
use Rattle.board.specs.Lock.{no_lock}
use Rattle.board.specs.declared.settings.Settings.{Settings}
use Rattle.board.specs.declared.drive.Drive.{Drive}
use Rattle.board.specs.declared.favourites.Favourites.{Favourites}
use Rattle.board.specs.declared.lock.Lock.{Lock}
use Rattle.board.specs.declared.whole.Node.{Node}

abbrev pub node : Settings → Drive → Favourites → Lock → (label : List ℕ) → Node
node s d f l label = record { settings = s; drive = d; favourites = f; lock = l; label = label }

abbrev pub with_drive : Node → Drive → Node
with_drive n d = node n.settings d n.favourites n.lock n.label

abbrev pub with_favourites : Node → Favourites → Node
with_favourites n f = node n.settings n.drive f n.lock n.label

abbrev pub with_lock : Node → Lock → Node
with_lock n l = node n.settings n.drive n.favourites l n.label

abbrev pub with_label : Node → List ℕ → Node
with_label n label = node n.settings n.drive n.favourites n.lock label

-- A fresh node: pulse 0, unlocked, all else empty, as after power-up; its label sixteen spaces.
abbrev pub fresh : Settings → Node
fresh s = node s fresh_drive no_favourites no_lock spaces

-- Row 33: 32's ranges; position, target and IPs within the travel; a lock holder to FFFFFFh; a label.
abbrev pub sound : Node → Bool
sound n =
    in_range n.settings
    && (drive_within n.settings.travel n.drive
    && (ips_within n.settings.travel n.favourites.slots
    && (leb n.lock.holder.0 0xFFFFFF && is_label n.label)))

-- Status: 3 if locked, else 2 if blocked, else 1 running, 0 stopped.
abbrev pub status_of : Node → ℕ
status_of n =
    if n.lock.locked then 3 else
    if n.drive.blocked then 2 else
    if is_running n.drive.motion then 1 else
    0
