-- Places that hold a run, at any capacity, and records that move by one place; places are counted from 0, and `blank`
-- is the record of a place that holds none.
-- Assumes nothing.
use Rattle.std.specs.Prelude.{if◌then◌else◌, ℕ, zero, suc, ◌+◌, ◌-◌, List, [], ◌∷◌, ◌++◌, ltb, length, get_or, set, take, drop, replicate}

-- The `n` places that hold these records: behind them all blank.
unfoldable pub filled : {R : Type 0} (n : ℕ) → R → List R → List R
filled n blank l = l ++ replicate (n - length l) blank

-- A record put in at a place, and the record there at the next, over so many places: what the last one held is carried
-- out.
unfoldable pub carried_up : {R : Type 0} → R → List R → (at n : ℕ) → R → List R
carried_up blank run at zero r = run
carried_up blank run at (suc n) r = carried_up blank (set run at r) (suc at) n (get_or run at blank)

-- The same from the last of so many places down to the first.
unfoldable pub carried_down : {R : Type 0} → R → List R → (from n : ℕ) → R → List R
carried_down blank run from zero r = run
carried_down blank run from (suc n) r =
    carried_down blank (set run (from + n) r) from n (get_or run (from + n) blank)

-- From one place to another, if the run has the other.
unfoldable pub moved_up : {R : Type 0} → R → List R → (from last : ℕ) → R → List R
moved_up blank run from last r =
    if ltb last (length run) then carried_up blank run from (suc last - from) r else run

unfoldable pub moved_down : {R : Type 0} → R → List R → (from last : ℕ) → R → List R
moved_down blank run from last r =
    if ltb last (length run) then carried_down blank run from (suc last - from) r else run

-- A record put in at a place: those behind it move up by one, and the last place falls off.
unfoldable pub inserted : {R : Type 0} → List R → (place : ℕ) → R → List R
inserted run place r = take (length run) (take place run ++ r ∷ drop place run)

-- A place given back: those behind it move down by one, and the last becomes blank.
unfoldable pub removed : {R : Type 0} → R → List R → (place : ℕ) → List R
removed blank run place = take place run ++ drop (suc place) run ++ blank ∷ []
