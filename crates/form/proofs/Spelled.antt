-- A list of so many bytes, byte by byte.
-- Assumes nothing.
use Prim.Native.Nat.{ℕ, zero, suc, ◌+◌}
use native.Mathlib.Omega.{arith}
use mathlib.Core.Path.{◌≡◌, ◌∙◌, ap}
use mathlib.Core.List.{List, [], ◌∷◌}
use lib.ListN.{length, get_or, drop, drop_of_length-le}
use lib.Seq.{drop-cons}

-- So many bytes from a place on.
abbrev pub bytes_from : List ℕ → (at n : ℕ) → List ℕ
bytes_from l at zero = []
bytes_from l at (suc n) = get_or l at 0 ∷ bytes_from l (suc at) n

pub spelled_from : (l : List ℕ) (at n : ℕ) → at + n ≡ length l → drop at l ≡ bytes_from l at n
spelled_from l at zero e = drop_of_length-le l {i = at} (omega arith)
spelled_from l at (suc n) e =
    drop-cons l at 0 (omega arith) ∙ ap (λ (r : List ℕ). get_or l at 0 ∷ r) (spelled_from l (suc at) n (omega arith))

pub spelled : (l : List ℕ) (n : ℕ) → length l ≡ n → l ≡ bytes_from l 0 n
spelled l n e = spelled_from l 0 n (omega arith)
