-- What stands at a place when a form of so many motors is read.
-- Assumes nothing.
use Prim.Native.Nat.{ℕ, ◌≤◌, ◌<◌}
use mathlib.Core.Path.{◌≡◌, ◌∙◌, sym}
use mathlib.Core.Logic.{◌≢◌}
use mathlib.Core.List.{List}
use lib.Dec.{leb, eqb}
use lib.ListN.{length}
use borrow.Author.Tests.{le-leb, lt-leb, eq-eqb, ne_eqb, lt-ltb, le-ltb}
use Rattle.meaning.specs.Cases.{by_test}
use Rattle.motors.specs.Motor.{zeros}
use Rattle.motors.specs.Register.{places}
use Rattle.motors.specs.declared.motor.Motor.{Motor}
use Rattle.form.specs.Shape.{Shape}
use Rattle.form.specs.Layout.{form_length, motor_in}
use Rattle.form.specs.Reading.{place_of}

module _ (s : Shape) (count : ℕ) (b : List ℕ) (at : ℕ) where
  pub too_many : places < count → zeros ≡ place_of s count b at
  unfolding place_of
  too_many h = rw (lt-leb count places h)

  pub of_another_length : length b ≢ form_length s count → zeros ≡ place_of s count b at
  unfolding place_of
  of_another_length h = rw (ne_eqb (length b) (form_length s count) h) (by_test (leb count places) (λ t. rw t) (λ t. rw t))

  pub behind_the_last : count ≤ at → zeros ≡ place_of s count b at
  unfolding place_of
  behind_the_last h =
      rw (le-ltb at count h)
      (by_test (leb count places)
      (λ t. by_test (eqb (length b) (form_length s count)) (λ u. rw (t, u)) (λ u. rw (t, u)))
      (λ t. rw t))

  pub at_its_place : count ≤ places → length b ≡ form_length s count → at < count → {m : Motor} → m ≡ motor_in s count b at
      → m ≡ place_of s count b at
  unfolding place_of
  at_its_place few long h e = e ∙ sym (rw (le-leb count places few, eq-eqb (length b) (form_length s count) long, lt-ltb at count h))

-- What the code cites of a motor at its place, and of a place where none stands.
pub ruleset place_laws = (too_many, of_another_length, behind_the_last, at_its_place)
