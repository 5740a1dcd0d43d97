-- Facts about lists that the library lacks.
-- Assumes nothing.
use Rattle.std.specs.Prelude.{ℕ, zero, suc, ◌≤◌, ◌<◌, ◌≡◌, refl, List, [], ◌∷◌, ◌++◌, length, get_or}
use Rattle.std.proofs.Common.{arith, le_of_suc-le-suc}

-- Within a list the element does not depend on what stands in for one past its end.
pub get_d_any : {A : Type 0} (l : List A) (i : ℕ) (d e : A) → i < length l → get_or l i d ≡ get_or l i e
get_d_any [] i d e h = absurd (omega arith)
get_d_any (x ∷ l) zero d e h = refl
get_d_any (x ∷ l) (suc i) d e h = get_d_any l i d e (le_of_suc-le-suc h)

-- The front of two lists, one behind the other.
pub get_d_front : {A : Type 0} (l m : List A) (i : ℕ) (d : A) → i < length l → get_or (l ++ m) i d ≡ get_or l i d
get_d_front [] m i d h = absurd (omega arith)
get_d_front (x ∷ l) m zero d h = refl
get_d_front (x ∷ l) m (suc i) d h = get_d_front l m i d (le_of_suc-le-suc h)

-- Past its end stands the one that stands in.
pub get_d_past : {A : Type 0} (l : List A) (i : ℕ) (d : A) → length l ≤ i → get_or l i d ≡ d
get_d_past [] i d h = refl
get_d_past (x ∷ l) zero d h = absurd (omega arith)
get_d_past (x ∷ l) (suc i) d h = get_d_past l i d (le_of_suc-le-suc h)
