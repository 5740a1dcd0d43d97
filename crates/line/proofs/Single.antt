-- One fault on a frame: no piece of what is heard is a frame.
-- Assumes nothing.
use Prim.Native.Nat.{ℕ, suc, ◌<◌}
use native.Mathlib.Omega.{arith}
use mathlib.Core.Path.{refl, sym}
use mathlib.Core.Logic.{◌≢◌}
use mathlib.Core.List.{List, [], ◌∷◌, ◌++◌, append_assoc}
use lib.ListN.{length, get_or, take, drop, length-append, get_or-append, take-append-drop, length-drop, length-take}
use lib.Seq.{split_at, set_split}
use Rattle.frame.specs.Reading.{IsFrame}
use Rattle.line.specs.Damage.{Fault, change, lose, insert, pause, lose_pause, pieces, Befalls}
use Rattle.line.proofs.Apart.{by_len, by_sum, states, last_one, sum-append}

-- The first two bytes of a frame are not 0 on the wire.
first_byte : (x : ℕ) (q : List ℕ) → IsFrame (x ∷ q) → 0 < x
first_byte x q e = omega (arith, e.has_a_message)

second_byte : (a x : ℕ) (q : List ℕ) → IsFrame (a ∷ x ∷ q) → 0 < x
second_byte a x q e = omega (arith, e.no_extension)

-- A byte lost or put in: with it and without it, not both are frames.
pub one_more : (p q : List ℕ) (x : ℕ) → IsFrame (p ++ x ∷ q) → IsFrame (p ++ q) → ⊥
one_more [] q x e d =
    by_sum (x ∷ []) [] q (omega arith) (let h = first_byte x q e in omega arith) e d
one_more (a ∷ []) q x e d =
    by_sum (a ∷ x ∷ []) (a ∷ []) q (omega arith) (let h = second_byte a x q e in omega arith) e d
one_more (a ∷ b ∷ p) q x e d =
    by_len (a ∷ b ∷ p ++ q) (a ∷ b ∷ p ++ x ∷ q) (omega (arith, length-append p q, length-append p (x ∷ q))) (λ _. refl) d e

-- A byte changed: with one byte and with another in its place, not both are frames.
pub other : (p q : List ℕ) (x y : ℕ) → x ≢ y → IsFrame (p ++ x ∷ q) → IsFrame (p ++ y ∷ q) → ⊥
other p [] x y ne e d =
    let (q, h, s) = last_one p (omega (arith, length-append p (x ∷ []))) in
    let e' : IsFrame (q ++ h ∷ x ∷ []) = rw (← append_assoc q (h ∷ []) (x ∷ []), ← s) e in
    let d' : IsFrame (q ++ h ∷ y ∷ []) = rw (← append_assoc q (h ∷ []) (y ∷ []), ← s) d in
    ne (omega (arith, states q h x e', states q h y d'))
other p (l ∷ []) x y ne e d = ne (omega (arith, states p x l e, states p y l d))
other p (k ∷ l ∷ q) x y ne e d =
    by_sum (p ++ x ∷ []) (p ++ y ∷ []) (k ∷ l ∷ q) (omega arith)
    (omega (arith, sum-append p (x ∷ []), sum-append p (y ∷ [])))
    (rw append_assoc e) (rw append_assoc d)

-- A silence put in, also in place of a byte: what a frame begins with, and what it ends with, is no frame.
pub beginning : (p q : List ℕ) → 0 < length q → IsFrame (p ++ q) → IsFrame p → ⊥
beginning p q g e d =
    by_len (p ++ q) p (omega (arith, length-append p q)) (λ h. sym (get_or-append p q 0 1 h)) e d

pub ending : (p q : List ℕ) → 0 < length p → IsFrame (p ++ q) → IsFrame q → ⊥
ending [] q g e d = absurd (omega arith)
ending (x ∷ p) q g e d =
    by_sum (x ∷ p) [] q (omega arith) (let h = first_byte x (p ++ q) e in omega arith) e d

abbrev pub AllRefused : List (List ℕ) → Type 0
AllRefused [] = Unit {0}
AllRefused (p ∷ ps) = (¬ IsFrame p) × AllRefused ps

-- Of a frame with one fault no piece is a frame.
pub all_refused : (f : Fault) (w : List ℕ) → IsFrame w → Befalls f w → AllRefused (pieces f w)
all_refused (change i v) w e (h, ne) =
    (λ d. other (take i w) (drop (suc i) w) (get_or w i 0) v (λ p. ne (sym p)) (rw (← split_at w i 0 h) e) (rw (← set_split w i v h) d), tt)
all_refused (lose i) w e h =
    (λ d. one_more (take i w) (drop (suc i) w) (get_or w i 0) (rw (← split_at w i 0 h) e) d, tt)
all_refused (insert i v) w e h =
    (λ d. one_more (take i w) (drop i w) v d (rw take-append-drop e), tt)
all_refused (pause i) w e (g, h) = (
  λ d. beginning (take i w) (drop i w) (omega (arith, length-drop i w)) (rw take-append-drop e) d,
  (λ d. ending (take i w) (drop i w) (omega (arith, length-take i w)) (rw take-append-drop e) d, tt),
)
all_refused (lose_pause i) w e h =
    let x : ℕ = get_or w i 0 in (
      λ d. beginning (take i w) (x ∷ drop (suc i) w) (omega arith) (rw (← split_at w i 0 h) e) d,
      (
        λ d.
            ending (take i w ++ x ∷ []) (drop (suc i) w) (omega (arith, length-append (take i w) (x ∷ [])))
            (rw (append_assoc, ← split_at w i 0 h) e) d,
        tt,
      ),
    )
