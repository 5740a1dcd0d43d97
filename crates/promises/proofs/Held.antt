-- A record that the register holds: that it is found, and its fields, as facts.
-- Assumes nothing.
use mathlib.Core.Path.{◌≡◌, refl, ap}
use mathlib.Core.Logic.{◌↔◌, ◌⊎◌, inl, inr, ⊎_elim}
use native.Mathlib.Omega.{arith}
use mathlib.Core.Bool.{true, false≢true}
use mathlib.Core.Option.{Option, none, some}
use lib.Dec.{eqb}
use borrow.Author.Tests.{leb-true, eqb-true}
use Rattle.meaning.specs.Cases.{by_test, passed_both}
use Rattle.runs.specs.Ordered.{is_some}
use Rattle.motors.specs.Motor.{marked, is_line, a_node, is_node, a_reading, is_reading, unread_part, reading_part, right_beside_line, right_of}
use Rattle.motors.specs.declared.motor.Motor.{Motor}
use Rattle.promises.specs.RegisterInRange.{InRange}

pub found_some : (f : Option Motor) → ((m : Motor) × (f ≡ some m)) ↔ (is_some f ≡ true)
found_some f = (λ s. ap is_some s.1, by f)
  where
    by : (f : Option Motor) → is_some f ≡ true → (m : Motor) × (f ≡ some m)
    by none e = absurd (false≢true e)
    by (some m) e = (m, refl)

unread_is : (m : Motor) → unread_part m ≡ true → (m.mark ≡ 0) × ((m.pulse ≡ 0) × ((m.percent ≡ 0) × (m.ip ≡ 0)))
unfolding unread_part
unread_is m e =
    let k = passed_both (eqb m.mark 0) _ e in
    let p = passed_both (eqb m.pulse 0) _ k.1 in
    let q = passed_both (eqb m.percent 0) (eqb m.ip 0) p.1 in
    (eqb-true _ _ k.0, (eqb-true _ _ p.0, (eqb-true _ _ q.0, eqb-true _ _ q.1)))

-- The mark decides what the other fields hold.
by_mark : (m : Motor) → reading_part m ≡ true
    → ((m.mark ≡ 1) × (is_reading m.percent m.ip ≡ true)) ⊎ ((m.mark ≡ 0) × ((m.pulse ≡ 0) × ((m.percent ≡ 0) × (m.ip ≡ 0))))
unfolding reading_part
by_mark m e =
    by_test (marked m) (λ t. inl (eqb-true m.mark 1 t, rw t at e)) (λ t. inr (unread_is m (rw t at e)))

module _ (m : Motor) where
  read : ((m.mark ≡ 1) × (is_reading m.percent m.ip ≡ true)) ⊎ ((m.mark ≡ 0) × ((m.pulse ≡ 0) × ((m.percent ≡ 0) × (m.ip ≡ 0))))
      → m.mark ≡ 1 → is_reading m.percent m.ip ≡ true
  read (inl r) e = r.1
  read (inr z) e = absurd (omega (arith, z.0, e))

  not_read_lem : ((m.mark ≡ 1) × (is_reading m.percent m.ip ≡ true)) ⊎ ((m.mark ≡ 0) × ((m.pulse ≡ 0) × ((m.percent ≡ 0) × (m.ip ≡ 0))))
      → m.mark ≡ 0 → (m.pulse ≡ 0) × ((m.percent ≡ 0) × (m.ip ≡ 0))
  not_read_lem (inl r) e = absurd (omega (arith, r.0, e))
  not_read_lem (inr z) e = z.1

pub in_range_lem : (m : Motor) → right_of m ≡ true → InRange m
unfolding right_of right_beside_line is_node is_reading
in_range_lem m e =
    let l = passed_both (is_line m.line) _ e in
    let n = passed_both (is_node m.node) (reading_part m) l.1 in
    let k = (a_node m.node).is_fact n.0 in
    let way = by_mark m n.1 in
    record {
      line_0_to_3 = leb-true m.line 3 l.0;
      node_id_from_000001h = k.0;
      node_id_to_fffeffh = k.1;
      mark_0_or_1 = ⊎_elim (λ r. inr r.0) (λ z. inl z.0) way;
      with_a_reading = λ r. let f = (a_reading m.percent m.ip).is_fact (read m way r) in (f.0, ⊎_elim inr inl f.1);
      without_one_zeros = not_read_lem m way;
    }
