-- Every message leaves a sound node sound, its settings as they were, and at most one entry of the group table changed.
-- Assumes nothing.
use Prim.Native.Nat.{ℕ, ◌≤◌}
use native.Mathlib.Omega.{arith}
use mathlib.Core.Path.{◌≡◌, refl}
use mathlib.Core.Bool.{true}
use mathlib.Core.List.{List}
use borrow.Author.Tests.{le-leb, leb-true}
use lib.Dec.{eqb}
use Rattle.meaning.specs.Choice.{either}
use Rattle.meaning.specs.Tables.{Row, Passed}
use Rattle.frame.specs.declared.address.Address.{Address}
use Rattle.travel.specs.Units.{ip}
use Rattle.travel.specs.Position.{pulse_of_percent, pulse_at_most_travel}
use Rattle.travel.specs.declared.IpIndex.{IpIndex}
use Rattle.travel.specs.declared.Pulse.{Pulse}
use Rattle.board.specs.Drive.{halted, moved_to, drive_within}
use Rattle.board.specs.Favourites.{pulse_of, with_ip, ip_within, ips_within, Ip}
use Rattle.board.specs.Groups.{Groups, Change}
use Rattle.board.specs.Node.{sound, with_drive, with_lock, with_label}
use Rattle.board.specs.declared.drive.Drive.{Drive}
use Rattle.board.specs.declared.lock.Lock.{Lock}
use Rattle.board.specs.declared.whole.Node.{Node}
use Rattle.board.proofs.Within.{position_within, moved_within, halted_within, shared_within, ip_at_within, with_ip_within}
use Rattle.board.proofs.Sound.{parts_of, drive_kept_sound, favourites_kept_sound, lock_kept_sound, label_kept_sound}
use Rattle.messages.specs.declared.code.Code.{Code}
use Rattle.messages.specs.declared.favourites.Order.{Order}
use Rattle.messages.specs.declared.favourites.Order.TheVariants.{Delete, Here, AtPercent, Share}
use Rattle.messages.specs.declared.motor.Aim.{Aim}
use Rattle.messages.specs.declared.motor.Aim.TheVariants.{Down, Up, ToIp, ToPercent}
use Rattle.messages.specs.declared.outcome.Outcome.{Outcome}
use Rattle.messages.specs.Fields.{byte_at}
use Rattle.messages.specs.Outcome.{acts, posts, refusals, refusing}
use Rattle.messages.specs.Motor.{stop_codes, stopped, stop_row, aim_in, target_of, move_codes, moved, move_row, position_row, status_row}
use Rattle.messages.specs.Ips.{order_in, ordered, set_ip_codes, keeping_ips, set_ip_row, ip_codes, ip_data, ip_row}
use Rattle.messages.specs.Locking.{set_lock_codes, lock_by, locked_by, set_lock_row, lock_row}
use Rattle.messages.specs.Addresses.{address_row, group_codes, group_data, group_row, put_in, set_group_row}
use Rattle.messages.specs.Identity.{label_in, label_row, set_label_codes, set_label_row, version_row, serial_row}
use Rattle.messages.specs.Table.{outcome_of}
use Rattle.messages.proofs.Messages.{every_message, or_refused}
use Rattle.std.specs.Prelude.{Option, Some, None}

-- An entry that is put is one of the sixteen.
abbrev pub InTable : Change → Type 0
InTable None = Unit {0}
InTable (Some p) = p.index ≤ 15

pub record Carried (n after : Node) (change : Change) : Type 0 where
  pub still_sound : sound after ≡ true
  pub settings_kept : after.settings ≡ n.settings
  pub entry_in_table : InTable change

-- What an outcome may do.
abbrev pub Safe : Node → Outcome → Type 0
Safe n o = Carried n o.node o.change

module _ (n : Node) (s : sound n ≡ true) where
  abbrev travel : Pulse
  travel = n.settings.travel

  pub nothing_done : Carried n n None
  nothing_done = record { still_sound = s; settings_kept = refl; entry_in_table = tt }

  or_safe : (codes : List (Row Code)) (done : Outcome) → (Passed (refusals n codes) → Safe n done) → Safe n (refusing n codes done)
  or_safe = or_refused (Safe n) n (λ code. nothing_done)

  -- The motor.
  drive_within_lem : drive_within travel n.drive ≡ true
  drive_within_lem = (parts_of n s).drive_within_lem

  driven : (d : Drive) → drive_within travel d ≡ true → Carried n (with_drive n d) None
  driven d w = record { still_sound = drive_kept_sound n s d w; settings_kept = refl; entry_in_table = tt }

  stop_safe : (d : List ℕ) → Safe n (stop_row n d)
  unfolding stop_row
  stop_safe d = or_safe (stop_codes n d) (stopped n) (λ p. driven (halted n.drive) (halted_within travel n.drive drive_within_lem))

  target_within : (aim : Option Aim) → ip_within travel (target_of n aim) ≡ true
  target_within (Some Down) = le-leb travel.0 travel.0 (omega arith)
  target_within (Some Up) = le-leb 0 travel.0 (omega arith)
  target_within (Some (ToIp i)) = ip_at_within travel n.favourites i (parts_of n s).ips_within_lem
  target_within (Some (ToPercent k)) = le-leb (pulse_of_percent k travel).0 travel.0 (pulse_at_most_travel k travel)
  target_within None = refl

  pulse_within : (x : Ip) → ip_within travel x ≡ true → (pulse_of x).0 ≤ travel.0
  pulse_within None w = omega arith
  pulse_within (Some p) w = leb-true p.0 travel.0 w

  move_safe : (d : List ℕ) → Safe n (move_row n d)
  unfolding move_row
  move_safe d =
      let target = target_of n (aim_in d) in
      or_safe (move_codes n d (aim_in d)) (moved n target)
      (λ p. driven (moved_to n.drive (pulse_of target))
      (moved_within travel n.drive drive_within_lem (pulse_of target) (pulse_within target (target_within (aim_in d)))))

  -- The favourites.
  one_ip_within : (i : IpIndex) (x : Ip) → ip_within travel x ≡ true → ips_within travel (with_ip n.favourites i x).slots ≡ true
  one_ip_within i x w = with_ip_within travel n.favourites i (parts_of n s).ips_within_lem x w

  ordered_within : (o : Option Order) → ips_within travel (ordered n o).slots ≡ true
  ordered_within (Some (Delete i)) = one_ip_within i None refl
  ordered_within (Some (Here i)) =
      let p = n.drive.position in
      one_ip_within i (Some p) (le-leb p.0 travel.0 (position_within travel n.drive drive_within_lem))
  ordered_within (Some (AtPercent i k)) =
      one_ip_within i (Some (pulse_of_percent k travel)) (le-leb (pulse_of_percent k travel).0 travel.0 (pulse_at_most_travel k travel))
  ordered_within (Some (Share k)) = shared_within travel k
  ordered_within None = (parts_of n s).ips_within_lem

  set_ip_safe : (d : List ℕ) → Safe n (set_ip_row n d)
  unfolding set_ip_row
  set_ip_safe d =
      let f = ordered n (order_in d) in
      or_safe (set_ip_codes n d (order_in d)) (keeping_ips n f)
      (λ p. record { still_sound = favourites_kept_sound n s f (ordered_within (order_in d)); settings_kept = refl; entry_in_table = tt })

  ip_safe : (d : List ℕ) → Safe n (ip_row n d)
  unfolding ip_row
  ip_safe d = or_safe (ip_codes d (ip (byte_at d 0))) (posts n 0x35 (ip_data n (ip (byte_at d 0)))) (λ p. nothing_done)

  -- The lock.
  relocked : (m : Node) → sound m ≡ true → m.settings ≡ n.settings → (l : Lock) → l.holder.0 ≤ 0xFFFFFF → Carried n (with_lock m l) None
  relocked m k e l h = record { still_sound = lock_kept_sound m k l h; settings_kept = e; entry_in_table = tt }

  abbrev Kept : Node → Type 0
  Kept m = Carried n m None

  abbrev Holder : Lock → Type 0
  Holder l = l.holder.0 ≤ 0xFFFFFF

  lock_by_holder : (source : Address) (function priority : ℕ) → source.0 ≤ 0xFFFFFF → Holder (lock_by n.lock source function priority)
  lock_by_holder source function priority h =
      let holder = (parts_of n s).holder_is_an_address in
      either Holder (eqb function 0) (λ e. omega arith) λ e.
      either Holder (eqb function 1) (λ e. h) λ e.
      either Holder (eqb function 3) (λ e. holder) (λ e. holder)

  locked_by_safe : (source : Address) (function priority : ℕ) → source.0 ≤ 0xFFFFFF → Kept (locked_by n source function priority)
  locked_by_safe source function priority h =
      let still = driven (halted n.drive) (halted_within travel n.drive drive_within_lem) in
      let lock = lock_by n.lock source function priority in
      either Kept (eqb function 1)
      (λ e. relocked (with_drive n (halted n.drive)) still.still_sound refl lock (lock_by_holder source function priority h))
      (λ e. relocked n s refl lock (lock_by_holder source function priority h))

  set_lock_safe : (source : Address) (d : List ℕ) → source.0 ≤ 0xFFFFFF → Safe n (set_lock_row n source d)
  unfolding set_lock_row
  set_lock_safe source d h =
      or_safe (set_lock_codes n d (byte_at d 0) (byte_at d 1)) (acts (locked_by n source (byte_at d 0) (byte_at d 1)) None)
      (λ p. locked_by_safe source (byte_at d 0) (byte_at d 1) h)

  -- The groups.
  group_safe : (groups : Groups) (d : List ℕ) → Safe n (group_row n groups d)
  unfolding group_row
  group_safe groups d = or_safe (group_codes 1 d (byte_at d 0)) (posts n 0x61 (group_data groups (byte_at d 0))) (λ p. nothing_done)

  set_group_safe : (d : List ℕ) → Safe n (set_group_row n d)
  unfolding set_group_row
  set_group_safe d =
      or_safe (group_codes 4 d (byte_at d 0)) (acts n (put_in (byte_at d 0) d))
      (λ p. record { still_sound = s; settings_kept = refl; entry_in_table = p.1.0 })

  -- The label.
  set_label_safe : (d : List ℕ) → Safe n (set_label_row n d)
  unfolding set_label_row
  set_label_safe d =
      or_safe (set_label_codes d) (acts (with_label n (label_in d)) None)
      (λ p. record { still_sound = label_kept_sound n s (label_in d) p.1.0; settings_kept = refl; entry_in_table = tt })

  pub every_message_is_safe : (groups : Groups) (source : Address) (m : ℕ) (d : List ℕ) → source.0 ≤ 0xFFFFFF
      → Safe n (outcome_of n groups source m d)
  unfolding position_row status_row lock_row address_row label_row version_row serial_row
  every_message_is_safe groups source m d a =
      every_message (Safe n) n groups source m d
      (record {
        stop = stop_safe d;
        move = move_safe d;
        position = nothing_done;
        status = nothing_done;
        set_ip = set_ip_safe d;
        ip = ip_safe d;
        set_lock = set_lock_safe source d a;
        lock = nothing_done;
        address = nothing_done;
        group = group_safe groups d;
        set_group = set_group_safe d;
        label = nothing_done;
        set_label = set_label_safe d;
        version = nothing_done;
        serial = nothing_done;
        unknown = nothing_done;
      })
