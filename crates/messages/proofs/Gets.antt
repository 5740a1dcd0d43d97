-- A GET changes nothing.
-- Assumes nothing.
use Prim.Native.Nat.{ℕ}
use mathlib.Core.Path.{◌≡◌, refl, sym, subst}
use mathlib.Core.List.{List}
use Rattle.frame.specs.declared.address.Address.{Address}
use Rattle.travel.specs.Units.{ip}
use Rattle.board.specs.Groups.{Groups}
use Rattle.board.specs.declared.whole.Node.{Node}
use Rattle.messages.specs.declared.outcome.Outcome.{Outcome}
use Rattle.messages.specs.Fields.{byte_at}
use Rattle.messages.specs.Outcome.{posts}
use Rattle.messages.specs.Motor.{position_row, status_row}
use Rattle.messages.specs.Ips.{ip_codes, ip_data, ip_row}
use Rattle.messages.specs.Locking.{lock_row}
use Rattle.messages.specs.Addresses.{address_row, group_codes, group_data, group_row}
use Rattle.messages.specs.Identity.{label_row, version_row, serial_row}
use Rattle.messages.specs.Table.{
  Get,
  get_position_lem,
  get_status,
  get_ip,
  get_lock,
  get_address,
  get_group,
  get_label,
  get_version_lem,
  get_serial_lem,
  outcome_of,
}
use Rattle.messages.proofs.Messages.{at_row, or_refused}
use Rattle.std.specs.Prelude.{None}

-- Neither the node nor the group table is changed.
pub record Idle (n : Node) (o : Outcome) : Type 0 where
  pub node_kept : o.node ≡ n
  pub table_kept : o.change ≡ None

module _ (n : Node) (groups : Groups) (d : List ℕ) where
  ip_idle : Idle n (ip_row n d)
  unfolding ip_row
  ip_idle =
      or_refused (Idle n) n (λ code. record { node_kept = refl; table_kept = refl })
      (ip_codes d (ip (byte_at d 0))) (posts n 0x35 (ip_data n (ip (byte_at d 0)))) (λ p. record { node_kept = refl; table_kept = refl })

  group_idle : Idle n (group_row n groups d)
  unfolding group_row
  group_idle =
      or_refused (Idle n) n (λ code. record { node_kept = refl; table_kept = refl })
      (group_codes 1 d (byte_at d 0)) (posts n 0x61 (group_data groups (byte_at d 0))) (λ p. record { node_kept = refl; table_kept = refl })

-- The row that a message leads to is idle.
module _ (n : Node) (groups : Groups) (source : Address) (d : List ℕ) where
  idle_at : (m : ℕ) {row : Outcome} → outcome_of n groups source m d ≡ row → Idle n row → Idle n (outcome_of n groups source m d)
  idle_at m e i = subst (Idle n) (sym e) i

  by_message : (m k : ℕ) → m ≡ k → Get k → Idle n (outcome_of n groups source m d)
  unfolding position_row status_row lock_row address_row label_row version_row serial_row
  by_message m k e get_position_lem = idle_at m (at_row n groups source m d 0x0C e) (record { node_kept = refl; table_kept = refl })
  by_message m k e get_status = idle_at m (at_row n groups source m d 0x0E e) (record { node_kept = refl; table_kept = refl })
  by_message m k e get_ip = idle_at m (at_row n groups source m d 0x25 e) (ip_idle n groups d)
  by_message m k e get_lock = idle_at m (at_row n groups source m d 0x26 e) (record { node_kept = refl; table_kept = refl })
  by_message m k e get_address = idle_at m (at_row n groups source m d 0x40 e) (record { node_kept = refl; table_kept = refl })
  by_message m k e get_group = idle_at m (at_row n groups source m d 0x41 e) (group_idle n groups d)
  by_message m k e get_label = idle_at m (at_row n groups source m d 0x45 e) (record { node_kept = refl; table_kept = refl })
  by_message m k e get_version_lem = idle_at m (at_row n groups source m d 0x74 e) (record { node_kept = refl; table_kept = refl })
  by_message m k e get_serial_lem = idle_at m (at_row n groups source m d 0x4C e) (record { node_kept = refl; table_kept = refl })

  pub a_get_is_idle : (m : ℕ) → Get m → Idle n (outcome_of n groups source m d)
  a_get_is_idle m g = by_message m m refl g
