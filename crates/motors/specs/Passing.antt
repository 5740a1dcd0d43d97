-- One pass over the records held, from the last place to the first (row 19, and the order of records).
-- Assumes nothing.
use Rattle.std.specs.Prelude.{if◌then◌else◌, ℕ, suc, List, [], ◌∷◌, ltb}
use Rattle.motors.specs.Motor.{key_number, right_beside_line}
use Rattle.motors.specs.Register.{held}
use Rattle.motors.specs.declared.motor.Motor.{Motor}
use Rattle.motors.specs.declared.passing.Passing.{Passing}

abbrev pub passing : ℕ → ℕ → ℕ → Passing
passing next place there = record { next = next; place = place; there = there }

-- Line 4 would begin here.
abbrev pub behind_all : ℕ
behind_all = 0x400000000

-- Behind the last record: every key of a line is smaller.
abbrev pub begun : ℕ → Passing
begun count = passing behind_all count 0

-- A right record before the next leaves its key, any other 0, which no key is below.
unfoldable pub next_by : Passing → ℕ → Motor → ℕ
next_by p number x = if ltb number p.next then if right_beside_line x then number else 0 else 0

-- A record is passed: the first that is not before the key is at the key's place.
unfoldable pub past : Passing → ℕ → Motor → ℕ → Passing
past p wanted x at =
    if ltb (key_number x) wanted then passing (next_by p (key_number x) x) p.place p.there else
    passing (next_by p (key_number x) x) at (key_number x)

-- All the records from a place on, the last one first.
unfoldable pub passed_from : (wanted at : ℕ) → Passing → List Motor → Passing
passed_from wanted at p [] = p
passed_from wanted at p (x ∷ l) = past (passed_from wanted (suc at) p l) wanted x at

abbrev pub passed_of : List Motor → ℕ → ℕ → Passing
passed_of run count wanted = passed_from wanted 0 (begun count) (held run count)
