-- Lists of bytes: what a `[u8]` holds.
-- Assumes nothing.
use Rattle.std.specs.Prelude.{ℕ, suc, ◌+◌, ◌<◌, List, ◌∷◌, length, get_or, take, drop}
use Rattle.std.proofs.Common.{suc-le-suc, arith, length-take, length-drop, get_or-take, get_or-drop}

-- Every element is a byte.
abbrev pub Bytes : List ℕ → Type 0
Bytes l = (i : ℕ) → i < length l → get_or l i 0 < 256

pub tail_bytes : (x : ℕ) (l : List ℕ) → Bytes (x ∷ l) → Bytes l
tail_bytes x l b i h = b (suc i) (suc-le-suc h)

pub take_bytes : (n : ℕ) (l : List ℕ) → Bytes l → Bytes (take n l)
take_bytes n l b i h =
    let g : i < length (take n l) = h in
    rw (get_or-take n l i 0 (omega (arith, length-take n l))) (b i (omega (arith, length-take n l)))

pub drop_bytes : (n : ℕ) (l : List ℕ) → Bytes l → Bytes (drop n l)
drop_bytes n l b i h = rw get_or-drop (b (n + i) (omega (arith, length-drop n l)))
