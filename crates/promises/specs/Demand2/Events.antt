-- Demand 2, the board: its group table, set-up and events.
-- Assumes nothing.
use Rattle.std.specs.Prelude.{ℕ, ◌≤◌, ◌<◌, ◌≡◌, ◌≢◌, ◌↔◌, ◌⊎◌, true, false, [], ◌∷◌, length, get_or, Ok, Some, None}
use Rattle.frame.specs.declared.address.Address.{Address}
use Rattle.travel.specs.declared.Pulse.{Pulse}
use Rattle.board.specs.{
  Events.{set_up, after_pulse, after_blocked, after_cleared, after_power_up},
  Groups.{no_groups, in_table, applied, Change},
  declared.{events.After.{After}, settings.Settings.{Settings}, whole.Node.{Node}},
}
use Rattle.meaning.specs.Membership.{IsOneOf}
use Rattle.promises.specs.BoardParts.{fresh_node, address, drive, lock, put, empty_table, with_drive, with_lock}
use Rattle.promises.specs.BoardInRange.{SettingsInRange, BoardInRange}
use Rattle.promises.specs.Groups.{Groups, IsMember}

-- The table of sixteen entries: fresh, whose groups are in it, and after a turn, by the change that the turn hands out.
pub record GroupTable : Type 0 where
  -- there is no third kind of change
  pub a_change_keeps_the_table_or_puts_an_entry :
      (change : Change) → (change ≡ None)
      ⊎ ((index : ℕ) × (low : ℕ) × (middle : ℕ) × (high : ℕ) × (change ≡ Some (put index low middle high)))
  pub a_fresh_table_is_sixteen_empty_entries : no_groups ≡ empty_table
  pub no_source_is_in_a_fresh_table : (source : ℕ) → ¬ IsMember source no_groups
  pub in_the_table_exactly_when_a_member : (source : Address) (g : Groups)
      → IsMember source.0 g ↔ (in_table source g ≡ true)
  pub a_table_kept_is_as_before : (g : Groups) → applied g None ≡ g
  pub the_entry_put_is_its_three_bytes :
      (g : Groups) (index low middle high : ℕ) → length g ≡ 16 → index ≤ 15
      → get_or (applied g (Some (put index low middle high))) index [] ≡ low ∷ middle ∷ high ∷ []
  pub every_other_entry_is_as_before :
      (g : Groups) (index low middle high other : ℕ) → other ≢ index
      → get_or (applied g (Some (put index low middle high))) other [] ≡ get_or g other []
  pub no_entry_is_put_beyond_15 :
      (g : Groups) (index low middle high : ℕ) → 15 < index → applied g (Some (put index low middle high)) ≡ g
  pub the_table_keeps_its_length : (g : Groups) (change : Change) → length (applied g change) ≡ length g

-- A motor running to its target has reached it at a pulse: going up (direction 1) at or above it, else at or below it.
abbrev pub Reached : (direction : ℕ) → (target p : Pulse) → Type 0
Reached direction target p = ((direction ≡ 1) × (p.0 ≤ target.0)) ⊎ ((direction ≢ 1) × (target.0 ≤ p.0))

-- An event that is done, and the node that it leaves.
abbrev pub done : Node → After
done n = record { node = n; verdict = (Ok tt) }

-- A board whose motor has its power back.
abbrev pub motor_powered_up : Node → Node
motor_powered_up n = with_drive n (drive n.drive.position None 0xFF 0 0xFF false)

-- Set-up and events that no row refuses: what they leave, whole, and that it is in range.
pub record Events : Type 0 where
  pub set_up_gives_the_fresh_node : (s : Settings) → SettingsInRange s
      → (set_up s ≡ done (fresh_node s)) × BoardInRange (fresh_node s)
  pub refused_settings_give_a_fresh_node_too : (s : Settings) → ¬ SettingsInRange s → (set_up s).node ≡ fresh_node s
  pub a_fresh_node_is_as_after_power_up : (s : Settings) → SettingsInRange s → after_power_up (set_up s).node ≡ set_up s
  pub a_motor_that_reaches_its_target_stops_there :
      (n : Node) (p target : Pulse) → BoardInRange n → p.0 ≤ n.settings.travel.0
      → n.drive.motion ≡ Some target → Reached n.drive.direction target p
      → after_pulse n p ≡ done (with_drive n (drive p None n.drive.direction 0 0 n.drive.blocked))
  pub any_other_pulse_is_the_position_alone :
      (n : Node) (p : Pulse) → BoardInRange n → p.0 ≤ n.settings.travel.0
      → ((target : Pulse) → n.drive.motion ≡ Some target → ¬ Reached n.drive.direction target p)
      → after_pulse n p
      ≡ done
      (with_drive n
      (drive p n.drive.motion n.drive.direction n.drive.source n.drive.cause n.drive.blocked))
  pub a_blocked_motor_stops :
      (n : Node) (cause : ℕ) → BoardInRange n → IsOneOf cause (0x20 ∷ 0x21 ∷ 0x22 ∷ [])
      → after_blocked n cause ≡ done (with_drive n (drive n.drive.position None n.drive.direction 0 cause true))
  pub a_cleared_motor_is_not_blocked :
      (n : Node) → BoardInRange n
      → after_cleared n
      ≡ done
      (with_drive n
      (drive n.drive.position n.drive.motion n.drive.direction n.drive.source n.drive.cause false))
  pub power_up_keeps_a_saved_lock : (n : Node) → BoardInRange n → n.lock.saved ≡ true
      → after_power_up n ≡ done (motor_powered_up n)
  pub power_up_drops_any_other_lock : (n : Node) → BoardInRange n → n.lock.saved ≡ false
      → after_power_up n ≡ done (with_lock (motor_powered_up n) (lock false (address 0) 0 false))
  pub at_a_pulse_still_sound : (n : Node) (p : Pulse) → BoardInRange n → BoardInRange (after_pulse n p).node
  pub blocked_still_sound : (n : Node) (cause : ℕ) → BoardInRange n → BoardInRange (after_blocked n cause).node
  pub cleared_still_sound : (n : Node) → BoardInRange n → BoardInRange (after_cleared n).node
  pub powered_up_still_sound : (n : Node) → BoardInRange n → BoardInRange (after_power_up n).node
