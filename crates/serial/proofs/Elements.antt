-- A list is its elements.
-- Assumes nothing.
use Prim.Native.Nat.{ℕ, zero, suc, ◌+◌}
use native.Mathlib.Omega.{arith}
use mathlib.Core.Path.{◌≡◌}
use mathlib.Core.List.{List, [], ◌∷◌}
use lib.ListN.{length, get_or, drop, drop_of_length-le}
use lib.Seq.{drop-cons}

-- So many elements, from a place on.
abbrev pub elements : List ℕ → (place count : ℕ) → List ℕ
elements l place zero = []
elements l place (suc count) = get_or l place 0 ∷ elements l (suc place) count

pub rest_is_its_elements : (l : List ℕ) (place count : ℕ) → length l ≡ place + count → drop place l ≡ elements l place count
rest_is_its_elements l place zero h = drop_of_length-le l {i = place} (omega arith)
rest_is_its_elements l place (suc count) h =
    let more : drop (suc place) l ≡ elements l (suc place) count = rest_is_its_elements l (suc place) count (omega arith) in
    rw (drop-cons l place 0 (omega arith), more)
