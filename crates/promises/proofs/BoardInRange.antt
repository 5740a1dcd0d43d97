-- Rows 32 and 33: the board's own tests decide whether settings, and a board whole, are in range.
-- Assumes nothing.
use Prim.Native.Nat.{ℕ, zero, suc, ◌≤◌}
use mathlib.Core.Path.{◌≡◌, refl}
use mathlib.Core.Logic.{◌↔◌}
use mathlib.Core.Bool.{true}
use mathlib.Core.List.{List, [], ◌∷◌}
use borrow.Author.Tests.{le-leb, leb-true}
use lib.Dec.{leb}
use lib.ListN.{get_or}
use Rattle.meaning.specs.Cases.{both, and_so}
use Rattle.travel.specs.declared.Pulse.{Pulse}
use Rattle.board.specs.Settings.{in_range}
use Rattle.board.specs.Drive.{motion_within, Motion}
use Rattle.board.specs.Favourites.{ip_within, ips_within, Ip}
use Rattle.board.specs.Node.{sound}
use Rattle.board.specs.declared.settings.Settings.{Settings}
use Rattle.board.specs.declared.whole.Node.{Node}
use Rattle.board.proofs.Sound.{settings_facts, plate_facts, parts_of, sound_of_lem}
use Rattle.promises.specs.BoardInRange.{SettingsInRange, BoardInRange}
use Rattle.promises.proofs.Labels.{characters_are, characters_so}
use Rattle.promises.proofs.Serials.{serials}
use Rattle.std.specs.Prelude.{Some, None}

module _ (s : Settings) where
  settings_are : in_range s ≡ true → SettingsInRange s
  settings_are e =
      let (id, (from-1, (to_15, (from-100, plate)))) = settings_facts s e in
      let (reference, (from-A, (to-Z, origin))) = plate_facts s.plate plate in
      record {
        node_id_from_000001h = id.0;
        node_id_to_fffeffh = id.1;
        type_from_1 = from-1;
        type_to_15 = to_15;
        travel_from_100 = from-100;
        reference_to_ffffffh = reference;
        letter_from_a = from-A;
        letter_to_z = to-Z;
        maker_year_and_week = (serials.origins_are_told s.plate.origin).0 origin;
      }

  settings_so : SettingsInRange s → in_range s ≡ true
  settings_so r =
      rw (
        le-leb 0x000001 s.id.0 r.node_id_from_000001h,
        le-leb s.id.0 0xFFFEFF r.node_id_to_fffeffh,
        le-leb 1 s.kind r.type_from_1,
        le-leb s.kind 15 r.type_to_15,
        le-leb 100 s.travel.0 r.travel_from_100,
        le-leb s.plate.reference 0xFFFFFF r.reference_to_ffffffh,
        le-leb 0x41 s.plate.letter r.letter_from_a,
        le-leb s.plate.letter 0x5A r.letter_to_z,
      )
      ((serials.origins_are_told s.plate.origin).1 r.maker_year_and_week)

  pub settings_exactly_when : SettingsInRange s ↔ (in_range s ≡ true)
  settings_exactly_when = (settings_so, settings_are)

module _ (travel : Pulse) where
  target_is : (m : Motion) → motion_within travel m ≡ true → (target : Pulse) → m ≡ Some target → target.0 ≤ travel.0
  target_is m w target e = leb-true target.0 travel.0 (rw e at w)

  target_so : (m : Motion) → ((target : Pulse) → m ≡ Some target → target.0 ≤ travel.0) → motion_within travel m ≡ true
  target_so None h = refl
  target_so (Some target) h = le-leb target.0 travel.0 (h target refl)

  ip_so : (x : Ip) → ((p : Pulse) → x ≡ Some p → p.0 ≤ travel.0) → ip_within travel x ≡ true
  ip_so None h = refl
  ip_so (Some p) h = le-leb p.0 travel.0 (h p refl)

  ip_is : (x : Ip) → ip_within travel x ≡ true → (p : Pulse) → x ≡ Some p → p.0 ≤ travel.0
  ip_is x w p e = leb-true p.0 travel.0 (rw e at w)

  ips_are : (l : List Ip) → ips_within travel l ≡ true → (place : ℕ) (p : Pulse) → get_or l place None ≡ Some p → p.0 ≤ travel.0
  unfolding ips_within
  ips_are [] w place p e = ip_is None refl p e
  ips_are (s ∷ l) w zero p e = ip_is s (both (ip_within travel s) (ips_within travel l) w).0 p e
  ips_are (s ∷ l) w (suc place) p e = ips_are l (both (ip_within travel s) (ips_within travel l) w).1 place p e

  ips_so : (l : List Ip) → ((place : ℕ) (p : Pulse) → get_or l place None ≡ Some p → p.0 ≤ travel.0) → ips_within travel l ≡ true
  unfolding ips_within
  ips_so [] h = refl
  ips_so (s ∷ l) h =
      and_so (ip_within travel s) (ips_within travel l) (ip_so s (h 0)) (ips_so l (λ place. h (suc place)))

module _ (n : Node) where
  abbrev travel : Pulse
  travel = n.settings.travel

  pub in_range_lem : sound n ≡ true → BoardInRange n
  in_range_lem e =
      let p = parts_of n e in
      let d = both (leb n.drive.position.0 travel.0) (motion_within travel n.drive.motion) p.drive_within_lem in
      record {
        settings_in_range = settings_are n.settings p.settings_in_range;
        position_within_the_travel = leb-true n.drive.position.0 travel.0 d.0;
        target_within_the_travel = target_is travel n.drive.motion d.1;
        every_ip_within_the_travel = ips_are travel n.favourites.slots p.ips_within_lem;
        holder_to_ffffffh = p.holder_is_an_address;
        label_of_characters = characters_are n.label p.label_of_characters;
      }

  pub is_sound_lem : BoardInRange n → sound n ≡ true
  is_sound_lem r =
      sound_of_lem n
      (record {
        settings_in_range = settings_so n.settings r.settings_in_range;
        drive_within_lem =
            and_so (leb n.drive.position.0 travel.0) (motion_within travel n.drive.motion)
            (le-leb n.drive.position.0 travel.0 r.position_within_the_travel)
            (target_so travel n.drive.motion r.target_within_the_travel);
        ips_within_lem = ips_so travel n.favourites.slots r.every_ip_within_the_travel;
        holder_is_an_address = r.holder_to_ffffffh;
        label_of_characters = characters_so n.label r.label_of_characters;
      })

  pub sound_exactly_when : BoardInRange n ↔ (sound n ≡ true)
  sound_exactly_when = (is_sound_lem, in_range_lem)
