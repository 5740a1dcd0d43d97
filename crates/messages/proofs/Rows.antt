-- Each row of the message table where so many of its codes are passed over: the next code refuses, or none is left and it is carried out.
-- Assumes nothing.
use Prim.Native.Nat.{ℕ, ◌<◌, ◌≤◌}
use mathlib.Core.Path.{◌≡◌, ◌∙◌, sym}
use mathlib.Core.Bool.{Bool, true, false}
use mathlib.Core.List.{List}
use lib.ListN.{length}
use Rattle.meaning.specs.Tables.{Applies, answer_at, decided}
use Rattle.frame.specs.declared.address.Address.{Address}
use Rattle.travel.specs.Units.{ip}
use Rattle.board.specs.Groups.{Groups}
use Rattle.board.specs.Node.{with_label}
use Rattle.board.specs.declared.whole.Node.{Node}
use Rattle.messages.specs.Fields.{byte_at, shorter_than}
use Rattle.messages.specs.Outcome.{acts, posts, refusals}
use Rattle.messages.specs.Motor.{stop_codes, stopped, stop_row, aim_in, target_of, move_codes, moved, move_row}
use Rattle.messages.specs.Ips.{order_in, ordered, set_ip_codes, keeping_ips, set_ip_row, ip_codes, ip_data, ip_row}
use Rattle.messages.specs.Locking.{set_lock_codes, locked_by, set_lock_row}
use Rattle.messages.specs.Addresses.{group_codes, group_data, group_row, put_in, set_group_row}
use Rattle.messages.specs.Identity.{label_in, set_label_codes, set_label_row}
use Rattle.std.specs.Prelude.{None}

-- 11h, from the test as the code asks it.
module _ (least : ℕ) (d : List ℕ) {asked : Bool} (e : asked ≡ (shorter_than least d).holds) where
  pub too_little : asked ≡ true → length d < least
  too_little n = (shorter_than least d).is_fact (sym e ∙ n)

  pub enough : asked ≡ false → least ≤ length d
  enough n = (shorter_than least d).is_other (sym e ∙ n)

module _ (n : Node) (d : List ℕ) (passed : ℕ) where
  pub stop_at : Applies passed (refusals n (stop_codes n d)) → stop_row n d ≡ answer_at passed (refusals n (stop_codes n d)) (stopped n)
  unfolding stop_row
  stop_at = decided passed (refusals n (stop_codes n d)) (stopped n)

  pub move_at : Applies passed (refusals n (move_codes n d (aim_in d)))
      → move_row n d ≡ answer_at passed (refusals n (move_codes n d (aim_in d))) (moved n (target_of n (aim_in d)))
  unfolding move_row
  move_at = decided passed (refusals n (move_codes n d (aim_in d))) (moved n (target_of n (aim_in d)))

  pub set_ip_at : Applies passed (refusals n (set_ip_codes n d (order_in d)))
      → set_ip_row n d ≡ answer_at passed (refusals n (set_ip_codes n d (order_in d))) (keeping_ips n (ordered n (order_in d)))
  unfolding set_ip_row
  set_ip_at = decided passed (refusals n (set_ip_codes n d (order_in d))) (keeping_ips n (ordered n (order_in d)))

  pub ip_at_lem : Applies passed (refusals n (ip_codes d (ip (byte_at d 0))))
      → ip_row n d ≡ answer_at passed (refusals n (ip_codes d (ip (byte_at d 0)))) (posts n 0x35 (ip_data n (ip (byte_at d 0))))
  unfolding ip_row
  ip_at_lem = decided passed (refusals n (ip_codes d (ip (byte_at d 0)))) (posts n 0x35 (ip_data n (ip (byte_at d 0))))

  pub set_lock_at : (source : Address) → Applies passed (refusals n (set_lock_codes n d (byte_at d 0) (byte_at d 1)))
      → set_lock_row n source d
      ≡ answer_at passed (refusals n (set_lock_codes n d (byte_at d 0) (byte_at d 1))) (acts (locked_by n source (byte_at d 0) (byte_at d 1)) None)
  unfolding set_lock_row
  set_lock_at source = decided passed (refusals n (set_lock_codes n d (byte_at d 0) (byte_at d 1)))
      (acts (locked_by n source (byte_at d 0) (byte_at d 1)) None)

  pub group_at : (groups : Groups) → Applies passed (refusals n (group_codes 1 d (byte_at d 0)))
      → group_row n groups d ≡ answer_at passed (refusals n (group_codes 1 d (byte_at d 0))) (posts n 0x61 (group_data groups (byte_at d 0)))
  unfolding group_row
  group_at groups = decided passed (refusals n (group_codes 1 d (byte_at d 0))) (posts n 0x61 (group_data groups (byte_at d 0)))

  pub set_group_at : Applies passed (refusals n (group_codes 4 d (byte_at d 0)))
      → set_group_row n d
      ≡ answer_at passed (refusals n (group_codes 4 d (byte_at d 0))) (acts n (put_in (byte_at d 0) d))
  unfolding set_group_row
  set_group_at = decided passed (refusals n (group_codes 4 d (byte_at d 0))) (acts n (put_in (byte_at d 0) d))

  pub set_label_at : Applies passed (refusals n (set_label_codes d))
      → set_label_row n d ≡ answer_at passed (refusals n (set_label_codes d)) (acts (with_label n (label_in d)) None)
  unfolding set_label_row
  set_label_at = decided passed (refusals n (set_label_codes d)) (acts (with_label n (label_in d)) None)
