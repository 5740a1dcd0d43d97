-- Set-up and the events that no row refuses, as facts of what they leave.
-- Assumes nothing.
use Prim.Native.Nat.{ℕ, ◌≤◌}
use mathlib.Core.Path.{◌≡◌, refl, ◌∙◌, sym, ap}
use mathlib.Core.Logic.{inl, inr}
use mathlib.Core.Bool.{true, false, not}
use mathlib.Core.List.{[], ◌∷◌}
use borrow.Author.Tests.{le-leb, eq-eqb, ne_eqb, eqb-true, eqb-false, leb-true}
use lib.Dec.{eqb}
use Rattle.travel.specs.declared.Pulse.{Pulse}
use Rattle.board.specs.Drive.{reached, Motion}
use Rattle.board.specs.Settings.{in_range}
use Rattle.board.specs.Lock.{over_power_up}
use Rattle.board.specs.Node.{sound}
use Rattle.board.specs.Events.{set_up, after_pulse, after_blocked, after_cleared, after_power_up, blocks}
use Rattle.board.specs.declared.events.After.{After}
use Rattle.board.specs.declared.lock.Lock.{Lock}
use Rattle.board.specs.declared.settings.Settings.{Settings}
use Rattle.board.specs.declared.whole.Node.{Node}
use Rattle.board.proofs.EventRows.{set_up_at, pulse_at, blocked_at, cleared_at, power_up_at}
use Rattle.board.proofs.Sound.{fresh_is_sound, at_pulse_keeps_sound, blocked_keeps_sound, cleared_keeps_sound, power_up_keeps_sound}
use Rattle.meaning.specs.Cases.{by_test}
use Rattle.meaning.specs.Membership.{IsOneOf, as_first, as_later}
use Rattle.meaning.specs.Choice.{either}
use Rattle.promises.specs.BoardParts.{drive, with_drive, with_lock}
use Rattle.promises.specs.BoardInRange.{SettingsInRange, BoardInRange}
use Rattle.promises.specs.Demand2.Events.{Reached, done, motor_powered_up, Events}
use Rattle.promises.specs.BoardParts.{fresh_node}
use Rattle.promises.proofs.BoardInRange.{settings_exactly_when, in_range_lem, is_sound_lem}
use Rattle.std.specs.Prelude.{Some, None}

reached_so : (direction : ℕ) (target p : Pulse) → Reached direction target p → reached (Some target) direction p ≡ true
reached_so direction target p (inl (up, h)) = rw (eq-eqb direction 1 up, le-leb p.0 target.0 h)
reached_so direction target p (inr (down, h)) = rw (ne_eqb direction 1 down, le-leb target.0 p.0 h)

reached_is : (direction : ℕ) (target p : Pulse) → reached (Some target) direction p ≡ true → Reached direction target p
reached_is direction target p e =
    by_test (eqb direction 1)
    (λ t. inl (eqb-true direction 1 t, leb-true p.0 target.0 (rw t at e)))
    (λ t. inr (eqb-false direction 1 t, leb-true target.0 p.0 (rw t at e)))

not_reached : (motion : Motion) (direction : ℕ) (p : Pulse) → ((target : Pulse) → motion ≡ Some target → ¬ Reached direction target p)
    → reached motion direction p ≡ false
not_reached None direction p none = refl
not_reached (Some target) direction p none =
    by_test (reached (Some target) direction p) (λ t. absurd (none target refl (reached_is direction target p t))) (λ t. t)

module _ (n : Node) (p : Pulse) (s : sound n ≡ true) (within : p.0 ≤ n.settings.travel.0) where
  stops : (target : Pulse) → n.drive.motion ≡ Some target → Reached n.drive.direction target p
      → after_pulse n p ≡ done (with_drive n (drive p None n.drive.direction 0 0 n.drive.blocked))
  stops target runs there =
      let r : reached n.drive.motion n.drive.direction p ≡ true = rw runs (reached_so n.drive.direction target p there) in
      pulse_at n 2 p (s, (within, tt)) ∙ rw r

  goes_on_lem : ((target : Pulse) → n.drive.motion ≡ Some target → ¬ Reached n.drive.direction target p)
      → after_pulse n p
      ≡ done (with_drive n (drive p n.drive.motion n.drive.direction n.drive.source n.drive.cause n.drive.blocked))
  goes_on_lem none = pulse_at n 2 p (s, (within, tt)) ∙ rw (not_reached n.drive.motion n.drive.direction p none)

blocking : (cause : ℕ) → IsOneOf cause (0x20 ∷ 0x21 ∷ 0x22 ∷ []) → blocks cause ≡ true
blocking cause (as_first e) = rw e
blocking cause (as_later (as_first e)) = rw e
blocking cause (as_later (as_later (as_first e))) = rw e
blocking cause (as_later (as_later (as_later i))) = elim i [ ]

module _ (s : Settings) where
  pub set_up_done : SettingsInRange s → set_up s ≡ done (fresh_node s)
  set_up_done r = set_up_at s 1 ((settings_exactly_when s).0 r, tt)

  fresh_in_range : SettingsInRange s → BoardInRange (fresh_node s)
  fresh_in_range r = in_range_lem (fresh_node s) (fresh_is_sound s ((settings_exactly_when s).0 r))

  set_up_node : (set_up s).node ≡ fresh_node s
  unfolding set_up
  set_up_node = either (λ (a : After). a.node ≡ fresh_node s) (not (in_range s)) (λ e. refl) (λ e. refl)

  powered_up_as_set_up : SettingsInRange s → after_power_up (set_up s).node ≡ set_up s
  powered_up_as_set_up r =
      ap after_power_up set_up_node ∙ power_up_at (fresh_node s) 1 (is_sound_lem (fresh_node s) (fresh_in_range r), tt) ∙ sym (set_up_done r)

module _ (n : Node) (s : BoardInRange n) where
  powered_up_lem : (l : Lock) → over_power_up n.lock ≡ l → after_power_up n ≡ done (with_lock (motor_powered_up n) l)
  powered_up_lem l e = power_up_at n 1 (is_sound_lem n s, tt) ∙ ap (λ (x : Lock). done (with_lock (motor_powered_up n) x)) e

pub events : Events
events =
    record {
      set_up_gives_the_fresh_node = λ s r. (set_up_done s r, fresh_in_range s r);
      refused_settings_give_a_fresh_node_too = λ s r. set_up_node s;
      a_fresh_node_is_as_after_power_up = powered_up_as_set_up;
      a_motor_that_reaches_its_target_stops_there = λ n p target s h. stops n p (is_sound_lem n s) h target;
      any_other_pulse_is_the_position_alone = λ n p s. goes_on_lem n p (is_sound_lem n s);
      a_blocked_motor_stops = λ n cause s c. blocked_at n 2 cause (is_sound_lem n s, (blocking cause c, tt));
      a_cleared_motor_is_not_blocked = λ n s. cleared_at n 1 (is_sound_lem n s, tt);
      power_up_keeps_a_saved_lock = λ n s saved. powered_up_lem n s n.lock (rw saved);
      power_up_drops_any_other_lock = λ n s saved. powered_up_lem n s _ (rw saved);
      at_a_pulse_still_sound = λ n p s. in_range_lem (after_pulse n p).node (at_pulse_keeps_sound n (is_sound_lem n s) p);
      blocked_still_sound = λ n cause s. in_range_lem (after_blocked n cause).node (blocked_keeps_sound n (is_sound_lem n s) cause);
      cleared_still_sound = λ n s. in_range_lem (after_cleared n).node (cleared_keeps_sound n (is_sound_lem n s));
      powered_up_still_sound = λ n s. in_range_lem (after_power_up n).node (power_up_keeps_sound n (is_sound_lem n s));
    }
