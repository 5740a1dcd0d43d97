-- A sound register is its records, right and in order, and zeros behind them; and whatever is so is sound.
-- Assumes nothing.
use Prim.Native.Nat.{ℕ, zero, suc, ◌-◌, ◌≤◌}
use native.Mathlib.Omega.{arith}
use mathlib.Core.Path.{◌≡◌, refl, ◌∙◌, sym, ap, ap₂}
use mathlib.Core.Logic.{◌↔◌}
use mathlib.Core.Bool.{true}
use mathlib.Core.List.{List, [], ◌∷◌, ◌++◌}
use lib.Dec.{eqb, leb}
use lib.ListN.{length, take, drop, replicate, length-take, length-drop, take-append-drop}
use lib.Seq.{drop_at}
use borrow.Author.Tests.{eqb-true, leb-true, le-leb, eq-eqb}
use Rattle.meaning.specs.Cases.{passed_both}
use Rattle.runs.specs.Ordered.{Ascending, All}
use Rattle.runs.specs.Places as runs
use Rattle.runs.proofs.Order.{behind_ascends}
use Rattle.runs.proofs.Filled.{filled_has_every_place, filled_holds_the_run}
use Rattle.motors.specs.Motor.{motor, zeros, unread_part, right_of, blank_of}
use Rattle.motors.specs.Order.{by_line_and_node, key_of}
use Rattle.motors.specs.Register.{held, filled, before_next, in_order, all_blank, sound_of, Right, Sound}
use Rattle.motors.specs.declared.motor.Motor.{Motor}

-- ---- the records held
next : (m : Motor) (l : List Motor) → Ascending by_line_and_node (m ∷ l) → before_next m l ≡ true
next m [] a = refl
next m (x ∷ l) a = a.0

ascends : (m : Motor) (l : List Motor) → before_next m l ≡ true → Ascending by_line_and_node l → Ascending by_line_and_node (m ∷ l)
ascends m [] e a = tt
ascends m (x ∷ l) e a = (e, a)

pub in_order_is : (l : List Motor) → in_order l ≡ true → All Right l × Ascending by_line_and_node l
unfolding in_order
in_order_is [] e = (tt, tt)
in_order_is (m ∷ l) e =
    let s = passed_both (in_order l) _ e in
    let t = passed_both (before_next m l) (right_of m) s.1 in
    let on = in_order_is l s.0 in
    ((t.1, on.0), ascends m l t.0 on.1)

pub so_in_order : (l : List Motor) → All Right l → Ascending by_line_and_node l → in_order l ≡ true
unfolding in_order
so_in_order [] r a = refl
so_in_order (m ∷ l) r a =
    rw (so_in_order l r.1 (behind_ascends by_line_and_node (key_of m) l a), next m l a) r.0

-- ---- the places behind them
same_fields : {line line' node node' mark mark' pulse pulse' percent percent' ip ip' : ℕ}
    → line ≡ line' → node ≡ node' → mark ≡ mark' → pulse ≡ pulse' → percent ≡ percent' → ip ≡ ip'
    → motor line node mark pulse percent ip ≡ motor line' node' mark' pulse' percent' ip'
same_fields a b c d e f = rw (a, b, c, d, e, f)

-- A blank place is the record of zeros.
blank_is_zeros : (m : Motor) → blank_of m ≡ true → m ≡ zeros
unfolding blank_of unread_part
blank_is_zeros m e =
    let l = passed_both (eqb m.line 0) _ e in
    let n = passed_both (eqb m.node 0) _ l.1 in
    let k = passed_both (eqb m.mark 0) _ n.1 in
    let p = passed_both (eqb m.pulse 0) _ k.1 in
    let q = passed_both (eqb m.percent 0) _ p.1 in
    same_fields (eqb-true _ _ l.0) (eqb-true _ _ n.0) (eqb-true _ _ k.0) (eqb-true _ _ p.0) (eqb-true _ _ q.0) (eqb-true _ _ q.1)

zeros_blank : blank_of zeros ≡ true
unfolding blank_of unread_part
zeros_blank = refl

all_blank_is : (l : List Motor) → all_blank l ≡ true → l ≡ replicate (length l) zeros
unfolding all_blank
all_blank_is [] e = refl
all_blank_is (m ∷ l) e =
    let s = passed_both (blank_of m) (all_blank l) e in
    ap₂ (λ (x : Motor) (r : List Motor). x ∷ r) (blank_is_zeros m s.0) (all_blank_is l s.1)

zeros_all_blank : (k : ℕ) → all_blank (replicate k zeros) ≡ true
unfolding all_blank
zeros_all_blank zero = refl
zeros_all_blank (suc k) = rw zeros_blank (zeros_all_blank k)

-- ---- row 19
pub length-filled : (l : List Motor) → length l ≤ 256 → length (filled l) ≡ 256
length-filled l h = filled_has_every_place 256 zeros l h

-- The records held by the places that hold them.
pub held_again : (l : List Motor) → held (filled l) (length l) ≡ l
held_again l = filled_holds_the_run 256 zeros l

behind_them : (l : List Motor) → drop (length l) (filled l) ≡ replicate (256 - length l) zeros
unfolding runs.filled
behind_them l = drop_at l (replicate (256 - length l) zeros) (length l) refl

pub sound_is : (run : List Motor) (count : ℕ) → sound_of run count ≡ true → Sound run count
unfolding sound_of runs.filled
sound_is run count e =
    let s = passed_both (eqb (length run) 256) _ e in
    let t = passed_both (leb count 256) _ s.1 in
    let u = passed_both (in_order (held run count)) (all_blank (drop count run)) t.1 in
    let full = eqb-true (length run) 256 s.0 in
    let few = leb-true count 256 t.0 in
    let on = in_order_is (held run count) u.0 in
    let n : length (take count run) ≡ count = simp length-take (omega arith) in
    let k : length (drop count run) ≡ 256 - length (take count run) = simp length-drop (omega (arith, full, n)) in
    record {
      of_256_places = full;
      at_most_256 = few;
      all_right = on.0;
      ascending = on.1;
      zeros_behind =
          sym (take-append-drop count run)
          ∙ ap (λ (r : List Motor). take count run ++ r) (all_blank_is (drop count run) u.1 ∙ ap (λ (j : ℕ). replicate j zeros) k);
    }

pub is_sound_lem : (l : List Motor) → length l ≤ 256 → All Right l → Ascending by_line_and_node l → sound_of (filled l) (length l) ≡ true
unfolding sound_of
is_sound_lem l h r a =
    rw (eq-eqb _ _ (length-filled l h), le-leb _ _ h, held_again l, so_in_order l r a, behind_them l) (zeros_all_blank (256 - length l))

-- Row 19 is its facts.
sound_so : (run : List Motor) (count : ℕ) → Sound run count → sound_of run count ≡ true
sound_so run count s =
    let l = take count run in
    let n : length l ≡ count = simp length-take (omega (arith, s.of_256_places, s.at_most_256)) in
    ap₂ sound_of s.zeros_behind (sym n) ∙ is_sound_lem l (omega (arith, n, s.at_most_256)) s.all_right s.ascending

pub sound_exactly_when : (run : List Motor) (count : ℕ) → Sound run count ↔ (sound_of run count ≡ true)
sound_exactly_when run count = (sound_so run count, sound_is run count)

pub length_held : (run : List Motor) (count : ℕ) → sound_of run count ≡ true → length (held run count) ≡ count
length_held run count ok =
    let s = sound_is run count ok in
    simp length-take (omega (arith, s.of_256_places, s.at_most_256))
