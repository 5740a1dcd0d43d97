-- Every state that the board returns passes row 33 again, so that it never refuses its own state.
-- Assumes nothing.
use Prim.Native.Nat.{ℕ, ◌≤◌}
use native.Mathlib.Omega.{arith}
use mathlib.Core.Path.{◌≡◌, refl}
use mathlib.Core.Bool.{Bool, true, false, not, ◌&&◌}
use borrow.Author.Tests.{le-leb, leb-true, ltb-false}
use mathlib.Core.List.{List}
use lib.Dec.{leb, ltb}
use Rattle.meaning.specs.Cases.{both, and_so}
use Rattle.meaning.specs.Choice.{either}
use Rattle.meaning.specs.Every.{every}
use Rattle.meaning.specs.Tests.{both_of}
use Rattle.serial.specs.Serial.{is_origin}
use Rattle.frame.specs.Address.{a_node_id}
use Rattle.travel.specs.declared.Pulse.{Pulse}
use Rattle.board.specs.Plate.{plate_in_range}
use Rattle.board.specs.Settings.{in_range}
use Rattle.board.specs.Drive.{at_pulse, blocked_by, unblocked, powered_up, drive_within}
use Rattle.board.specs.Favourites.{ips_within}
use Rattle.board.specs.Label.{is_label}
use Rattle.board.specs.Lock.{over_power_up}
use Rattle.board.specs.Node.{fresh, sound, with_drive, with_favourites, with_lock, with_label}
use Rattle.board.specs.Events.{set_up, after_pulse, after_blocked, after_cleared, after_power_up, blocks}
use Rattle.board.specs.declared.drive.Drive.{Drive}
use Rattle.board.specs.declared.favourites.Favourites.{Favourites}
use Rattle.board.specs.declared.lock.Lock.{Lock}
use Rattle.board.specs.declared.plate.Plate.{Plate}
use Rattle.board.specs.declared.settings.Settings.{Settings}
use Rattle.board.specs.declared.whole.Node.{Node}
use Rattle.board.specs.declared.events.After.{After}
use Rattle.board.proofs.Within.{at_pulse_within, blocked_within, unblocked_within, powered_up_within, none_within}
use Rattle.board.proofs.StateRows.{by_settings}

-- Settings that pass row 32 are in its ranges.
pub settings_facts : (s : Settings) → in_range s ≡ true
    → ((0x000001 ≤ s.id.0) × (s.id.0 ≤ 0xFFFEFF)) × ((1 ≤ s.kind) × ((s.kind ≤ 15) × ((100 ≤ s.travel.0) × (plate_in_range s.plate ≡ true))))
settings_facts s =
    both_of (a_node_id s.id).holds (leb 1 s.kind && (leb s.kind 15 && (leb 100 s.travel.0 && plate_in_range s.plate)))
    (a_node_id s.id).is_fact
    (both_of (leb 1 s.kind) (leb s.kind 15 && (leb 100 s.travel.0 && plate_in_range s.plate)) (leb-true 1 s.kind)
    (both_of (leb s.kind 15) (leb 100 s.travel.0 && plate_in_range s.plate) (leb-true s.kind 15)
    (both_of (leb 100 s.travel.0) (plate_in_range s.plate) (leb-true 100 s.travel.0) (λ e. e))))

-- A plate that passes row 32 is in its ranges.
pub plate_facts : (p : Plate) → plate_in_range p ≡ true
    → (p.reference ≤ 0xFFFFFF) × ((0x41 ≤ p.letter) × ((p.letter ≤ 0x5A) × (is_origin p.origin ≡ true)))
plate_facts p =
    both_of (leb p.reference 0xFFFFFF) (leb 0x41 p.letter && (leb p.letter 0x5A && is_origin p.origin)) (leb-true p.reference 0xFFFFFF)
    (both_of (leb 0x41 p.letter) (leb p.letter 0x5A && is_origin p.origin) (leb-true 0x41 p.letter)
    (both_of (leb p.letter 0x5A) (is_origin p.origin) (leb-true p.letter 0x5A) (λ e. e)))

-- What row 33 asks, part by part.
pub record Sound (n : Node) : Type 0 where
  pub settings_in_range : in_range n.settings ≡ true
  pub drive_within_lem : drive_within n.settings.travel n.drive ≡ true
  pub ips_within_lem : ips_within n.settings.travel n.favourites.slots ≡ true
  pub holder_is_an_address : n.lock.holder.0 ≤ 0xFFFFFF
  pub label_of_characters : is_label n.label ≡ true

module _ (n : Node) where
  -- What is asked from the lock on, and from the favourites on.
  abbrev lock_and_label : Bool
  lock_and_label = leb n.lock.holder.0 0xFFFFFF && is_label n.label

  abbrev ips_and_behind : Bool
  ips_and_behind = ips_within n.settings.travel n.favourites.slots && lock_and_label

  pub parts_of : sound n ≡ true → Sound n
  parts_of e =
      let t = n.settings.travel in
      let a = both (in_range n.settings) (drive_within t n.drive && ips_and_behind) e in
      let b = both (drive_within t n.drive) ips_and_behind a.1 in
      let c = both (ips_within t n.favourites.slots) lock_and_label b.1 in
      let d = both (leb n.lock.holder.0 0xFFFFFF) (is_label n.label) c.1 in
      record {
        settings_in_range = a.0;
        drive_within_lem = b.0;
        ips_within_lem = c.0;
        holder_is_an_address = leb-true n.lock.holder.0 0xFFFFFF d.0;
        label_of_characters = d.1;
      }

  pub sound_of_lem : Sound n → sound n ≡ true
  sound_of_lem p =
      let t = n.settings.travel in
      and_so (in_range n.settings) (drive_within t n.drive && ips_and_behind) p.settings_in_range
      (and_so (drive_within t n.drive) ips_and_behind p.drive_within_lem
      (and_so (ips_within t n.favourites.slots) lock_and_label p.ips_within_lem
      (and_so (leb n.lock.holder.0 0xFFFFFF) (is_label n.label) (le-leb n.lock.holder.0 0xFFFFFF p.holder_is_an_address)
      p.label_of_characters)))

-- A part replaced by a sound one.
module _ (n : Node) (s : sound n ≡ true) where
  pub drive_kept_sound : (d : Drive) → drive_within n.settings.travel d ≡ true → sound (with_drive n d) ≡ true
  drive_kept_sound d w =
      let p = parts_of n s in
      sound_of_lem (with_drive n d)
      (record {
        settings_in_range = p.settings_in_range;
        drive_within_lem = w;
        ips_within_lem = p.ips_within_lem;
        holder_is_an_address = p.holder_is_an_address;
        label_of_characters = p.label_of_characters;
      })

  pub favourites_kept_sound : (f : Favourites) → ips_within n.settings.travel f.slots ≡ true → sound (with_favourites n f) ≡ true
  favourites_kept_sound f w =
      let p = parts_of n s in
      sound_of_lem (with_favourites n f)
      (record {
        settings_in_range = p.settings_in_range;
        drive_within_lem = p.drive_within_lem;
        ips_within_lem = w;
        holder_is_an_address = p.holder_is_an_address;
        label_of_characters = p.label_of_characters;
      })

  pub lock_kept_sound : (l : Lock) → l.holder.0 ≤ 0xFFFFFF → sound (with_lock n l) ≡ true
  lock_kept_sound l h =
      let p = parts_of n s in
      sound_of_lem (with_lock n l)
      (record {
        settings_in_range = p.settings_in_range;
        drive_within_lem = p.drive_within_lem;
        ips_within_lem = p.ips_within_lem;
        holder_is_an_address = h;
        label_of_characters = p.label_of_characters;
      })

  pub label_kept_sound : (label : List ℕ) → is_label label ≡ true → sound (with_label n label) ≡ true
  label_kept_sound label l =
      let p = parts_of n s in
      sound_of_lem (with_label n label)
      (record {
        settings_in_range = p.settings_in_range;
        drive_within_lem = p.drive_within_lem;
        ips_within_lem = p.ips_within_lem;
        holder_is_an_address = p.holder_is_an_address;
        label_of_characters = l;
      })

-- Set-up.
module _ (s : Settings) where
  pub fresh_is_sound : in_range s ≡ true → sound (fresh s) ≡ true
  unfolding every
  fresh_is_sound r =
      sound_of_lem (fresh s)
      (record {
        settings_in_range = r;
        drive_within_lem = and_so (leb 0 s.travel.0) true (le-leb 0 s.travel.0 (omega arith)) refl;
        ips_within_lem = none_within s.travel;
        holder_is_an_address = omega arith;
        label_of_characters = refl;
      })

  pub set_up_is_sound : in_range s ≡ true → sound (set_up s).node ≡ true
  unfolding set_up
  set_up_is_sound r = either (λ (a : After). sound a.node ≡ true) (not (in_range s)) (λ e. fresh_is_sound r) (λ e. fresh_is_sound r)

  -- A node whose settings were refused is refused ever after.
  pub refused_settings_stay_refused : in_range s ≡ false → sound (set_up s).node ≡ false
  unfolding set_up
  refused_settings_stay_refused r =
      either (λ (a : After). sound a.node ≡ false) (not (in_range s)) (λ e. by_settings (fresh s) r) (λ e. by_settings (fresh s) r)

-- Events.
module _ (n : Node) (s : sound n ≡ true) where
  abbrev AfterIsSound : After → Type 0
  AfterIsSound a = sound a.node ≡ true

  pub at_pulse_keeps_sound : (p : Pulse) → AfterIsSound (after_pulse n p)
  unfolding after_pulse
  at_pulse_keeps_sound p =
      either AfterIsSound (not (sound n)) (λ e. s) λ e.
      either AfterIsSound (ltb n.settings.travel.0 p.0) (λ f. s) λ f.
      drive_kept_sound n s (at_pulse n.drive p)
      (at_pulse_within n.settings.travel n.drive (parts_of n s).drive_within_lem p (ltb-false n.settings.travel.0 p.0 f))

  pub blocked_keeps_sound : (cause : ℕ) → AfterIsSound (after_blocked n cause)
  unfolding after_blocked
  blocked_keeps_sound cause =
      either AfterIsSound (not (sound n)) (λ e. s) λ e.
      either AfterIsSound (not (blocks cause)) (λ f. s) λ f.
      drive_kept_sound n s (blocked_by n.drive cause) (blocked_within n.settings.travel n.drive (parts_of n s).drive_within_lem cause)

  pub cleared_keeps_sound : AfterIsSound (after_cleared n)
  unfolding after_cleared
  cleared_keeps_sound =
      either AfterIsSound (not (sound n)) (λ e. s) λ e.
      drive_kept_sound n s (unblocked n.drive) (unblocked_within n.settings.travel n.drive (parts_of n s).drive_within_lem)

  pub power_up_keeps_sound : AfterIsSound (after_power_up n)
  unfolding after_power_up
  power_up_keeps_sound =
      either AfterIsSound (not (sound n)) (λ e. s) λ e.
      lock_kept_sound (with_drive n (powered_up n.drive))
      (drive_kept_sound n s (powered_up n.drive) (powered_up_within n.settings.travel n.drive (parts_of n s).drive_within_lem))
      (over_power_up n.lock)
      (either (λ (l : Lock). l.holder.0 ≤ 0xFFFFFF) n.lock.saved (λ f. (parts_of n s).holder_is_an_address) (λ f. omega arith))
