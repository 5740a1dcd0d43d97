-- What happens to a board leaves its numbers fitting their types, so that every board that comes from set-up has them so.
-- Assumes nothing.
use Prim.Native.Nat.{ℕ, zero, suc, ◌-◌, ◌<◌}
use native.Mathlib.Omega.{arith}
use mathlib.Core.Path.{◌≡◌, refl, ◌∙◌}
use mathlib.Core.Logic.{◌⊎◌, inl, inr}
use mathlib.Core.Bool.{true, not, ◌||◌}
use borrow.Author.Tests.{eqb-true, not-false}
use mathlib.Core.List.{List, [], ◌∷◌}
use lib.Dec.{eqb, ltb}
use lib.ListN.{length, get_or, set, length-set, length-append, replicate}
use Rattle.meaning.specs.Cases.{either_way}
use Rattle.meaning.specs.Choice.{either}
use Rattle.travel.specs.declared.IpIndex.{IpIndex}
use Rattle.travel.specs.declared.Pulse.{Pulse}
use Rattle.board.specs.Drive.{halted_from, halted, moved_to, at_pulse, blocked_by, unblocked, powered_up, reached, Motion}
use Rattle.board.specs.Favourites.{is_number, with_ip, shared_to, shared_out, Ip}
use Rattle.board.specs.Groups.{Groups, no_groups, applied, Change}
use Rattle.board.specs.Lock.{over_power_up}
use Rattle.board.specs.Node.{fresh, sound, with_drive, with_favourites, with_lock, with_label}
use Rattle.board.specs.Events.{after_pulse, after_blocked, after_cleared, after_power_up, blocks}
use Rattle.board.specs.Typed.{Typed, SettingsTyped, TypedTable}
use Rattle.board.specs.declared.drive.Drive.{Drive}
use Rattle.board.specs.declared.events.After.{After}
use Rattle.board.specs.declared.favourites.Favourites.{Favourites}
use Rattle.board.specs.declared.lock.Lock.{Lock}
use Rattle.board.specs.declared.settings.Settings.{Settings}
use Rattle.board.specs.declared.whole.Node.{Node}
use Rattle.std.specs.Prelude.{Some, None}

-- Direction, source and cause are a byte each.
pub record DriveFits (d : Drive) : Type 0 where
  pub direction_fits : d.direction < 256
  pub source_fits : d.source < 256
  pub cause_fits : d.cause < 256

module _ (n : Node) (t : Typed n) where
  pub drive_fits : DriveFits n.drive
  drive_fits = record { direction_fits = t.direction_fits; source_fits = t.source_fits; cause_fits = t.cause_fits }

  -- A part replaced by one that fits.
  pub drive_kept_typed : (d : Drive) → DriveFits d → Typed (with_drive n d)
  drive_kept_typed d f =
      record {
        settings_fit = t.settings_fit;
        direction_fits = f.direction_fits;
        source_fits = f.source_fits;
        cause_fits = f.cause_fits;
        priority_fits = t.priority_fits;
        sixteen_slots = t.sixteen_slots;
        sixteen_characters = t.sixteen_characters;
      }

  pub favourites_kept_typed : (f : Favourites) → length f.slots ≡ 16 → Typed (with_favourites n f)
  favourites_kept_typed f e =
      record {
        settings_fit = t.settings_fit;
        direction_fits = t.direction_fits;
        source_fits = t.source_fits;
        cause_fits = t.cause_fits;
        priority_fits = t.priority_fits;
        sixteen_slots = e;
        sixteen_characters = t.sixteen_characters;
      }

  pub lock_kept_typed : (l : Lock) → l.priority < 256 → Typed (with_lock n l)
  lock_kept_typed l p =
      record {
        settings_fit = t.settings_fit;
        direction_fits = t.direction_fits;
        source_fits = t.source_fits;
        cause_fits = t.cause_fits;
        priority_fits = p;
        sixteen_slots = t.sixteen_slots;
        sixteen_characters = t.sixteen_characters;
      }

  pub label_kept_typed : (label : List ℕ) → length label ≡ 16 → Typed (with_label n label)
  label_kept_typed label e =
      record {
        settings_fit = t.settings_fit;
        direction_fits = t.direction_fits;
        source_fits = t.source_fits;
        cause_fits = t.cause_fits;
        priority_fits = t.priority_fits;
        sixteen_slots = t.sixteen_slots;
        sixteen_characters = e;
      }

-- The motor.
module _ (d : Drive) (f : DriveFits d) where
  halted_from_lem : (m : Motion) → DriveFits (halted_from m d)
  halted_from_lem None = f
  halted_from_lem (Some to) = record { direction_fits = f.direction_fits; source_fits = omega arith; cause_fits = omega arith }

  pub halted_fits : DriveFits (halted d)
  halted_fits = halted_from_lem d.motion

  direction_fits_moved : (to : Pulse) → (moved_to d to).direction < 256
  direction_fits_moved to =
      either (λ (x : Drive). x.direction < 256) (eqb d.position.0 to.0) (λ e. f.direction_fits)
      (λ e. either (λ (k : ℕ). k < 256) (ltb d.position.0 to.0) (λ g. omega arith) (λ g. omega arith))

  pub moved_fits : (to : Pulse) → DriveFits (moved_to d to)
  moved_fits to =
      record {
        direction_fits = direction_fits_moved to;
        source_fits = either (λ (x : Drive). x.source < 256) (eqb d.position.0 to.0) (λ e. omega arith) (λ e. omega arith);
        cause_fits = either (λ (x : Drive). x.cause < 256) (eqb d.position.0 to.0) (λ e. omega arith) (λ e. omega arith);
      }

  at_pulse_fits : (p : Pulse) → DriveFits (at_pulse d p)
  at_pulse_fits p =
      either DriveFits (reached d.motion d.direction p)
      (λ e. record { direction_fits = f.direction_fits; source_fits = omega arith; cause_fits = omega arith })
      (λ e. record { direction_fits = f.direction_fits; source_fits = f.source_fits; cause_fits = f.cause_fits })

-- The favourites stay sixteen.
pub with_ip_sixteen : (f : Favourites) (i : IpIndex) (x : Ip) → length f.slots ≡ 16 → length (with_ip f i x).slots ≡ 16
with_ip_sixteen f i x e =
    either (λ (g : Favourites). length g.slots ≡ 16) (is_number i) (λ k. length-set f.slots (i.0 - 1) _ ∙ e) (λ k. e)

pub shared_so_many : (n : ℕ) (travel : Pulse) (k : ℕ) → length (shared_to n travel k) ≡ k
unfolding shared_to
shared_so_many n travel zero = refl
shared_so_many n travel (suc k) =
    let e = shared_so_many n travel k in
    length-append (shared_to n travel k) _ ∙ omega arith

pub shared_out_sixteen : (n : ℕ) (travel : Pulse) → length (shared_out n travel).slots ≡ 16
shared_out_sixteen n travel = shared_so_many n travel 16

-- Set-up.
pub fresh_is_typed : (s : Settings) → SettingsTyped s → Typed (fresh s)
fresh_is_typed s h =
    record {
      settings_fit = h;
      direction_fits = omega arith;
      source_fits = omega arith;
      cause_fits = omega arith;
      priority_fits = omega arith;
      sixteen_slots = refl;
      sixteen_characters = refl;
    }

-- Events.
abbrev LeavesTyped : After → Type 0
LeavesTyped a = Typed a.node

blocking_fits : (cause : ℕ) → blocks cause ≡ true → cause < 256
blocking_fits cause e = first (either_way (eqb cause 0x20) (eqb cause 0x21 || eqb cause 0x22) e)
  where
    second : (eqb cause 0x21 ≡ true) ⊎ (eqb cause 0x22 ≡ true) → cause < 256
    second (inl f) = omega (arith, eqb-true cause 0x21 f)
    second (inr f) = omega (arith, eqb-true cause 0x22 f)

    first : (eqb cause 0x20 ≡ true) ⊎ ((eqb cause 0x21 || eqb cause 0x22) ≡ true) → cause < 256
    first (inl f) = omega (arith, eqb-true cause 0x20 f)
    first (inr f) = second (either_way (eqb cause 0x21) (eqb cause 0x22) f)

module _ (n : Node) (t : Typed n) where
  pub at_pulse_typed : (p : Pulse) → Typed (after_pulse n p).node
  unfolding after_pulse
  at_pulse_typed p =
      either LeavesTyped (not (sound n)) (λ e. t) λ e.
      either LeavesTyped (ltb n.settings.travel.0 p.0) (λ g. t)
      (λ g. drive_kept_typed n t (at_pulse n.drive p) (at_pulse_fits n.drive (drive_fits n t) p))

  pub blocked_typed : (cause : ℕ) → Typed (after_blocked n cause).node
  unfolding after_blocked
  blocked_typed cause =
      either LeavesTyped (not (sound n)) (λ e. t) λ e.
      either LeavesTyped (not (blocks cause)) (λ g. t) λ g.
      drive_kept_typed n t (blocked_by n.drive cause)
      (record { direction_fits = t.direction_fits; source_fits = omega arith; cause_fits = blocking_fits cause (not-false (blocks cause) g) })

  pub cleared_typed : Typed (after_cleared n).node
  unfolding after_cleared
  cleared_typed =
      either LeavesTyped (not (sound n)) (λ e. t) λ e.
      drive_kept_typed n t (unblocked n.drive)
      (record { direction_fits = t.direction_fits; source_fits = t.source_fits; cause_fits = t.cause_fits })

  pub powered_up_typed : Typed (after_power_up n).node
  unfolding after_power_up
  powered_up_typed =
      let d = powered_up n.drive in
      either LeavesTyped (not (sound n)) (λ e. t) λ e.
      lock_kept_typed (with_drive n d)
      (drive_kept_typed n t d (record { direction_fits = omega arith; source_fits = omega arith; cause_fits = omega arith }))
      (over_power_up n.lock)
      (either (λ (l : Lock). l.priority < 256) n.lock.saved (λ e. t.priority_fits) (λ e. omega arith))

-- The group table.
three_fit : (low middle high : ℕ) → low < 256 → middle < 256 → high < 256 → (place : ℕ) → get_or (low ∷ middle ∷ high ∷ []) place 0 < 256
three_fit low middle high l m h zero = l
three_fit low middle high l m h (suc zero) = m
three_fit low middle high l m h (suc (suc zero)) = h
three_fit low middle high l m h (suc (suc (suc place))) = omega arith

set_fits : (groups : Groups) (index : ℕ) (entry : List ℕ) → ((place : ℕ) → get_or entry place 0 < 256) → TypedTable groups
    → TypedTable (set groups index entry)
set_fits [] index entry e t at place = t at place
set_fits (x ∷ groups) zero entry e t zero place = e place
set_fits (x ∷ groups) zero entry e t (suc at) place = t (suc at) place
set_fits (x ∷ groups) (suc index) entry e t zero place = t zero place
set_fits (x ∷ groups) (suc index) entry e t (suc at) place = set_fits groups index entry e (λ a b. t (suc a) b) at place

-- What a change puts is three bytes.
abbrev pub ChangeFits : Change → Type 0
ChangeFits None = Unit {0}
ChangeFits (Some p) = (p.low < 256) × ((p.middle < 256) × (p.high < 256))

pub applied_typed : (groups : Groups) (change : Change) → ChangeFits change → TypedTable groups → TypedTable (applied groups change)
applied_typed groups None f t = t
applied_typed groups (Some p) f t =
    either TypedTable (ltb 15 p.index) (λ e. t)
    (λ e. set_fits groups p.index (p.low ∷ p.middle ∷ p.high ∷ []) (three_fit p.low p.middle p.high f.0 f.1.0 f.1.1) t)

empty_typed : (k : ℕ) → TypedTable (replicate k (0 ∷ 0 ∷ 0 ∷ []))
empty_typed zero at place = omega arith
empty_typed (suc k) zero place = three_fit 0 0 0 (omega arith) (omega arith) (omega arith) place
empty_typed (suc k) (suc at) place = empty_typed k at place

pub no_groups_typed : TypedTable no_groups
no_groups_typed = empty_typed 16
