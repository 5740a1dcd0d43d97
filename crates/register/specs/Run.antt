-- A lent run: numbers of places, and places that are set.
-- Assumes nothing.
use Rattle.std.specs.Prelude.{if◌then◌else◌, ℕ, List, ◌++◌, ltb, length, take, drop}
use Rattle.runs.specs.Places.{filled}
use Rattle.motors.specs.Motor.{zeros}
use Rattle.motors.specs.declared.motor.Motor.{Motor}
use Rattle.form.specs.Layout.{listed}

-- Of the records counted, as many as there are places.
abbrev pub fewer : ℕ → ℕ → ℕ
fewer count n = if ltb count n then count else n

-- The first places, so many of them, each with the motor that belongs there; the others as they were.
unfoldable pub first_set : (ℕ → Motor) → ℕ → List Motor → List Motor
first_set motor_at count run = listed motor_at 0 (fewer count (length run)) ++ drop count run

-- The first places as they were, the others all zeros.
unfoldable pub others_cleared : ℕ → List Motor → List Motor
others_cleared count run = filled (length run) zeros (take count run)
