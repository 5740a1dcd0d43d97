-- Row 19 place by place is the register's own test, and what is found stands in the run.
-- Assumes nothing.
use Prim.Native.Nat.{ℕ, zero, suc, ◌<◌}
use native.Mathlib.Omega.{arith}
use native.Mathlib.Nat.{le_of_suc-le-suc}
use mathlib.Core.Path.{◌≡◌, ◌∙◌, sym, ap}
use mathlib.Core.Logic.{◌↔◌, inl, inr, ⊎_elim}
use mathlib.Core.Bool.{true}
use mathlib.Core.List.{List, [], ◌∷◌}
use mathlib.Core.Option.{some}
use lib.Dec.{ltb}
use lib.ListN.{length, get_or, length-take}
use lib.Seq.{get_or-take, ext_get_or}
use borrow.Author.Tests.{le-leb, eq-eqb, ne_eqb, ltb-true, ltb-false}
use Rattle.meaning.specs.Cases.{by_test}
use Rattle.meaning.specs.Tests.{holds_by}
use Rattle.runs.specs.Ordered.{Ordered, looked_up, holds, place_of, Ascending}
use Rattle.runs.proofs.Order.{before_is_another, behind_ascends}
use Rattle.runs.proofs.Lookup.{here, further, found_has_the_key}
use Rattle.runs.proofs.Place.{held_exactly_when_at_its_place, found_at_its_place}
use Rattle.runs.proofs.ByPlace.{every_place_is_behind, ascending_exactly_when_by_place, all_exactly_when_by_place}
use Rattle.runs.proofs.Filled.{filled_has_every_place, filled_has_the_record, filled_is_blank_behind}
use Rattle.motors.specs.Motor.{motor, zeros, a_node, is_node, a_reading, is_reading, unread_part, reading_part, right_beside_line, right_of}
use Rattle.motors.specs.Order.{Key, key_of, by_line_and_node, so_said, same_is}
use Rattle.motors.specs.Register.{held, filled, sound_of, found, Right, Sound}
use Rattle.motors.specs.declared.motor.Motor.{Motor}
use Rattle.motors.proofs.Sound as motors
use Rattle.motors.proofs.Sound.{sound_is, length_held}
use Rattle.motors.proofs.Register.{each_record_is_before_the_later_ones, each_record_is_right}
use Rattle.promises.specs.RegisterInRange.{InRange, Holds, at, RegisterInRange}
use Rattle.promises.proofs.Held.{in_range_lem}

-- ---- a record in range is right
module _ (m : Motor) (r : InRange m) where
  node_right : is_node m.node ≡ true
  unfolding is_node
  node_right = holds_by (a_node m.node) (r.node_id_from_000001h, r.node_id_to_fffeffh)

  read : m.mark ≡ 1 → reading_part m ≡ true
  unfolding reading_part is_reading
  read e =
      let f = r.with_a_reading e in
      rw (eq-eqb m.mark 1 e) (holds_by (a_reading m.percent m.ip) (f.0, ⊎_elim inr inl f.1))

  unread : m.mark ≡ 0 → reading_part m ≡ true
  unfolding reading_part unread_part
  unread e =
      let z = r.without_one_zeros e in
      rw (ne_eqb m.mark 1 (λ o. omega (arith, o, e)), eq-eqb m.mark 0 e, eq-eqb m.pulse 0 z.0, eq-eqb m.percent 0 z.1.0)
      (eq-eqb m.ip 0 z.1.1)

  pub so_right : right_of m ≡ true
  unfolding right_of right_beside_line
  so_right = rw (le-leb m.line 3 r.line_0_to_3, node_right) (⊎_elim unread read r.mark_0_or_1)

-- ---- a place of zeros is the record of zeros
same_fields : {line line' node node' mark mark' pulse pulse' percent percent' ip ip' : ℕ}
    → line ≡ line' → node ≡ node' → mark ≡ mark' → pulse ≡ pulse' → percent ≡ percent' → ip ≡ ip'
    → motor line node mark pulse percent ip ≡ motor line' node' mark' pulse' percent' ip'
same_fields a b c d e f = rw (a, b, c, d, e, f)

is_zeros : (m : Motor) → Holds m 0 0 0 0 0 0 → m ≡ zeros
is_zeros m h = same_fields h.the_line h.the_node_id h.the-mark h.the_pulse h.the_percent h.the_ip

pub zeros_hold : (m : Motor) → m ≡ zeros → Holds m 0 0 0 0 0 0
zeros_hold m e =
    record {
      the_line = ap (λ (x : Motor). x.line) e;
      the_node_id = ap (λ (x : Motor). x.node) e;
      the-mark = ap (λ (x : Motor). x.mark) e;
      the_pulse = ap (λ (x : Motor). x.pulse) e;
      the_percent = ap (λ (x : Motor). x.percent) e;
      the_ip = ap (λ (x : Motor). x.ip) e;
    }

module _ (run : List Motor) (count : ℕ) where
  -- The records held are the first places.
  pub at_held : (place : ℕ) → place < count → get_or (held run count) place zeros ≡ at run place
  at_held place h = get_or-take count run place zeros h

  right_at : sound_of run count ≡ true → (place : ℕ) → place < count → right_of (at run place) ≡ true
  right_at ok place h = sym (ap right_of (at_held place h)) ∙ each_record_is_right run count ok place h

  pub row_19 : sound_of run count ≡ true → RegisterInRange run count
  row_19 ok =
      let s = sound_is run count ok in
      record {
        of_256_places = s.of_256_places;
        at_most_256_motors = s.at_most_256;
        every_record_held_is_in_range = λ place h. in_range_lem (at run place) (right_at ok place h);
        records_ascend_by_line_then_node_id =
            λ first later h k.
            rw (← at_held first (omega (arith, h, k)), ← at_held later k) (each_record_is_before_the_later_ones run count ok first later h k);
        every_other_place_is_zeros =
            λ place h k. zeros_hold (at run place)
            (ap (λ (r : List Motor). at r place) s.zeros_behind
            ∙ filled_is_blank_behind 256 zeros (held run count) place (omega (arith, h, length_held run count ok)));
      }

  module _ (r : RegisterInRange run count) where
    number : length (held run count) ≡ count
    number = simp length-take (omega (arith, r.of_256_places, r.at_most_256_motors))

    each_right : (i : ℕ) → i < length (held run count) → Right (get_or (held run count) i zeros)
    each_right i h =
        let k : i < count = omega (arith, h, number) in
        ap right_of (at_held i k) ∙ so_right (at run i) (r.every_record_held_is_in_range i k)

    each_before : (i j : ℕ) → i < j → j < length (held run count)
        → by_line_and_node.before (key_of (get_or (held run count) i zeros)) (key_of (get_or (held run count) j zeros)) ≡ true
    each_before i j h k =
        let l : j < count = omega (arith, k, number) in
        let f : i < count = omega (arith, h, l) in
        rw (at_held i f, at_held j l) (so_said (key_of (at run i)) (key_of (at run j)) (r.records_ascend_by_line_then_node_id i j h l))

    same_place : (i : ℕ) → i < length run → at run i ≡ at (filled (held run count)) i
    same_place i h =
        by_test (ltb i count)
        (λ t.
        let k = ltb-true i count t in
        sym (at_held i k) ∙ sym (filled_has_the_record 256 zeros (held run count) i (omega (arith, k, number))))
        (λ t.
        let k = ltb-false i count t in
        is_zeros (at run i) (r.every_other_place_is_zeros i k (omega (arith, h, r.of_256_places)))
        ∙ sym (filled_is_blank_behind 256 zeros (held run count) i (omega (arith, k, number))))

    sound : Sound run count
    sound =
        record {
          of_256_places = r.of_256_places;
          at_most_256 = r.at_most_256_motors;
          all_right = (all_exactly_when_by_place Right zeros (held run count)).1 each_right;
          ascending = (ascending_exactly_when_by_place by_line_and_node zeros (held run count)).1 each_before;
          zeros_behind =
              ext_get_or zeros run (filled (held run count))
              (r.of_256_places ∙ sym (filled_has_every_place 256 zeros (held run count) (omega (arith, number, r.at_most_256_motors)))) same_place;
        }

  pub so_sound : RegisterInRange run count → sound_of run count ≡ true
  so_sound r = (motors.sound_exactly_when run count).0 (sound r)

  pub sound_exactly_when : RegisterInRange run count ↔ (sound_of run count ≡ true)
  sound_exactly_when = (so_sound, row_19)

-- ---- what is found stands in the run
-- Every record of a run in order is found under its key.
each_is_found : (o : Ordered Motor) (l : List Motor) (i : ℕ) → Ascending o l → i < length l
    → looked_up o l (o.key (get_or l i zeros)) ≡ some (get_or l i zeros)
each_is_found o [] i a h = absurd (omega arith)
each_is_found o (x ∷ l) zero a h = here o x l (o.key x) (o.itself (o.key x))
each_is_found o (x ∷ l) (suc i) a h =
    let k = le_of_suc-le-suc h in
    let later = o.key (get_or l i zeros) in
    further o x l later (before_is_another o (o.key x) later (every_place_is_behind o zeros (o.key x) l a i k))
    ∙ each_is_found o l i (behind_ascends o (o.key x) l a) k

module _ (run : List Motor) (count : ℕ) (ok : sound_of run count ≡ true) (line node : ℕ) (m : Motor) where
  abbrev Stands : Type 0
  Stands = (place : ℕ) × ((place < count) × ((at run place ≡ m) × ((m.line ≡ line) × (m.node ≡ node))))

  stands : found run count line node ≡ some m → Stands
  stands e =
      let l = held run count in
      let s = sound_is run count ok in
      let there : holds by_line_and_node l (line, node) ≡ true = rw e in
      let place = place_of by_line_and_node l (line, node) in
      let within = ((held_exactly_when_at_its_place by_line_and_node zeros l (line, node) s.ascending).0 there).0 in
      let low : place < count = omega (arith, within, length_held run count ok) in
      let same : some (get_or l place zeros) ≡ some m = sym (found_at_its_place by_line_and_node zeros l (line, node) s.ascending there) ∙ e in
      let record_there : get_or l place zeros ≡ m = cc in
      let its = same_is (key_of m) (line, node) (found_has_the_key by_line_and_node l (line, node) m e) in
      (place, (low, (sym (at_held run count place low) ∙ record_there, (ap (λ (k : Key). k.0) its, ap (λ (k : Key). k.1) its))))

  is_found : Stands → found run count line node ≡ some m
  is_found (place, (low, (e, (l, n)))) =
      let r = held run count in
      let here_it_is : get_or r place zeros ≡ m = at_held run count place low ∙ e in
      let its : key_of m ≡ (line, node) = rw (l, n) in
      ap (looked_up by_line_and_node r) (sym its ∙ ap key_of (sym here_it_is))
      ∙ each_is_found by_line_and_node r place (sound_is run count ok).ascending (omega (arith, low, length_held run count ok))
      ∙ ap some here_it_is

  pub found_exactly_when : (found run count line node ≡ some m) ↔ Stands
  found_exactly_when = (stands, is_found)
