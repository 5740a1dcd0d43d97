-- A message whose DATA are bytes leaves a node, and a group table, whose numbers fit their types.
-- Assumes nothing.
use Prim.Native.Nat.{ℕ, ◌<◌}
use native.Mathlib.Omega.{arith}
use mathlib.Core.Path.{◌≡◌}
use mathlib.Core.List.{List}
use lib.Dec.{eqb}
use lib.ListN.{length}
use Rattle.meaning.specs.Choice.{either}
use Rattle.meaning.specs.Tables.{Row, Passed}
use Rattle.frame.specs.declared.address.Address.{Address}
use Rattle.travel.specs.Units.{ip}
use Rattle.travel.specs.Position.{pulse_of_percent}
use Rattle.board.specs.Drive.{halted, moved_to}
use Rattle.board.specs.Favourites.{pulse_of}
use Rattle.board.specs.Groups.{Groups}
use Rattle.board.specs.Node.{with_drive, with_label}
use Rattle.board.specs.Typed.{Typed}
use Rattle.board.specs.declared.lock.Lock.{Lock}
use Rattle.board.specs.declared.whole.Node.{Node}
use Rattle.board.proofs.Fitting.{
  drive_fits,
  drive_kept_typed,
  favourites_kept_typed,
  lock_kept_typed,
  label_kept_typed,
  halted_fits,
  moved_fits,
  with_ip_sixteen,
  shared_out_sixteen,
  ChangeFits,
}
use Rattle.messages.specs.declared.code.Code.{Code}
use Rattle.messages.specs.declared.favourites.Order.{Order}
use Rattle.messages.specs.declared.favourites.Order.TheVariants.{Delete, Here, AtPercent, Share}
use Rattle.messages.specs.declared.outcome.Outcome.{Outcome}
use Rattle.messages.specs.Fields.{byte_at}
use Rattle.messages.specs.Outcome.{acts, posts, refusals, refusing}
use Rattle.messages.specs.Motor.{stop_codes, stopped, stop_row, aim_in, target_of, move_codes, moved, move_row, position_row, status_row}
use Rattle.messages.specs.Ips.{order_in, ordered, set_ip_codes, keeping_ips, set_ip_row, ip_codes, ip_data, ip_row}
use Rattle.messages.specs.Locking.{set_lock_codes, lock_by, locked_by, set_lock_row, lock_row}
use Rattle.messages.specs.Addresses.{address_row, group_codes, group_data, group_row, put_in, set_group_row}
use Rattle.messages.specs.Identity.{label_in, label_row, set_label_codes, set_label_row, version_row, serial_row}
use Rattle.messages.specs.Table.{outcome_of}
use Rattle.messages.proofs.FirstBytes.{so_many}
use Rattle.messages.proofs.Messages.{every_message, or_refused}
use Rattle.std.specs.Prelude.{Option, Some, None}

-- What is left fits.
pub record Fitting (o : Outcome) : Type 0 where
  pub node_fits : Typed o.node
  pub change_fits : ChangeFits o.change

module _ (n : Node) (t : Typed n) (d : List ℕ) (bytes : (place : ℕ) → byte_at d place < 256) where
  or_fitting : (codes : List (Row Code)) (done : Outcome) → (Passed (refusals n codes) → Fitting done) → Fitting (refusing n codes done)
  or_fitting = or_refused Fitting n (λ code. record { node_fits = t; change_fits = tt })

  stop_fits : Fitting (stop_row n d)
  unfolding stop_row
  stop_fits =
      or_fitting (stop_codes n d) (stopped n)
      (λ p. record { node_fits = drive_kept_typed n t (halted n.drive) (halted_fits n.drive (drive_fits n t)); change_fits = tt })

  move_fits : Fitting (move_row n d)
  unfolding move_row
  move_fits =
      let target = target_of n (aim_in d) in
      or_fitting (move_codes n d (aim_in d)) (moved n target)
      (λ p. record {
        node_fits = drive_kept_typed n t (moved_to n.drive (pulse_of target))
            (moved_fits n.drive (drive_fits n t) (pulse_of target));
        change_fits = tt;
      })

  ordered_sixteen : (o : Option Order) → length (ordered n o).slots ≡ 16
  ordered_sixteen (Some (Delete i)) = with_ip_sixteen n.favourites i None t.sixteen_slots
  ordered_sixteen (Some (Here i)) = with_ip_sixteen n.favourites i (Some n.drive.position) t.sixteen_slots
  ordered_sixteen (Some (AtPercent i k)) = with_ip_sixteen n.favourites i (Some (pulse_of_percent k n.settings.travel)) t.sixteen_slots
  ordered_sixteen (Some (Share k)) = shared_out_sixteen k n.settings.travel
  ordered_sixteen None = t.sixteen_slots

  set_ip_fits : Fitting (set_ip_row n d)
  unfolding set_ip_row
  set_ip_fits =
      let f = ordered n (order_in d) in
      or_fitting (set_ip_codes n d (order_in d)) (keeping_ips n f)
      (λ p. record { node_fits = favourites_kept_typed n t f (ordered_sixteen (order_in d)); change_fits = tt })

  abbrev Priority : Lock → Type 0
  Priority l = l.priority < 256

  lock_by_fits : (source : Address) (function : ℕ) → Priority (lock_by n.lock source function (byte_at d 1))
  lock_by_fits source function =
      either Priority (eqb function 0) (λ e. omega arith) λ e.
      either Priority (eqb function 1) (λ e. bytes 1) λ e.
      either Priority (eqb function 3) (λ e. t.priority_fits) (λ e. t.priority_fits)

  locked_by_fits : (source : Address) (function : ℕ) → Typed (locked_by n source function (byte_at d 1))
  locked_by_fits source function =
      let still = drive_kept_typed n t (halted n.drive) (halted_fits n.drive (drive_fits n t)) in
      let lock = lock_by n.lock source function (byte_at d 1) in
      either Typed (eqb function 1)
      (λ e. lock_kept_typed (with_drive n (halted n.drive)) still lock (lock_by_fits source function))
      (λ e. lock_kept_typed n t lock (lock_by_fits source function))

  set_lock_fits : (source : Address) → Fitting (set_lock_row n source d)
  unfolding set_lock_row
  set_lock_fits source =
      or_fitting (set_lock_codes n d (byte_at d 0) (byte_at d 1)) (acts (locked_by n source (byte_at d 0) (byte_at d 1)) None)
      (λ p. record { node_fits = locked_by_fits source (byte_at d 0); change_fits = tt })

  pub every_message_fits : (groups : Groups) (source : Address) (m : ℕ) → Fitting (outcome_of n groups source m d)
  unfolding position_row status_row lock_row address_row ip_row group_row set_group_row label_row set_label_row version_row serial_row
  every_message_fits groups source m =
      every_message Fitting n groups source m d
      (record {
        stop = stop_fits;
        move = move_fits;
        position = record { node_fits = t; change_fits = tt };
        status = record { node_fits = t; change_fits = tt };
        set_ip = set_ip_fits;
        ip = or_fitting (ip_codes d (ip (byte_at d 0))) (posts n 0x35 (ip_data n (ip (byte_at d 0)))) (λ p. record { node_fits = t; change_fits = tt });
        set_lock = set_lock_fits source;
        lock = record { node_fits = t; change_fits = tt };
        address = record { node_fits = t; change_fits = tt };
        group = or_fitting (group_codes 1 d (byte_at d 0)) (posts n 0x61 (group_data groups (byte_at d 0)))
            (λ p. record { node_fits = t; change_fits = tt });
        set_group =
            or_fitting (group_codes 4 d (byte_at d 0)) (acts n (put_in (byte_at d 0) d))
            (λ p. record { node_fits = t; change_fits = (bytes 1, (bytes 2, bytes 3)) });
        label = record { node_fits = t; change_fits = tt };
        set_label =
            or_fitting (set_label_codes d) (acts (with_label n (label_in d)) None)
            (λ p. record { node_fits = label_kept_typed n t (label_in d) (so_many 16 d); change_fits = tt });
        version = record { node_fits = t; change_fits = tt };
        serial = record { node_fits = t; change_fits = tt };
        unknown = record { node_fits = t; change_fits = tt };
      })
