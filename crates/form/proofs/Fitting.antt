-- A buffer with room for a form, and what is then laid in it.
-- Assumes nothing.
use Prim.Native.Nat.{ℕ, ◌≤◌, ◌<◌}
use mathlib.Core.Path.{◌≡◌, ◌∙◌, sym}
use mathlib.Core.Bool.{true, false}
use mathlib.Core.List.{List}
use lib.Dec.{leb}
use lib.ListN.{length}
use borrow.Author.Tests.{leb-true, le-leb, lt-ltb, le-ltb}
use Rattle.meaning.specs.Cases.{passed_both}
use Rattle.motors.specs.Register.{places}
use Rattle.motors.specs.declared.motor.Motor.{Motor}
use Rattle.form.specs.Shape.{Shape}
use Rattle.form.specs.Layout.{form_length, entry_place, body_place, head_bytes, entry_bytes}
use Rattle.form.specs.Writing.{over_from, fits, head_over, motor_over}

module _ (s : Shape) (count : ℕ) where
  pub few_that_fit : (room : ℕ) → fits s count room ≡ true → count ≤ places
  few_that_fit room e = leb-true count places (passed_both (leb count places) _ e).0

  pub room_that_fits : (room : ℕ) → fits s count room ≡ true → form_length s count ≤ room
  room_that_fits room e = leb-true (form_length s count) room (passed_both (leb count places) _ e).1

  pub so_it_fits : (room : ℕ) → count ≤ places → form_length s count ≤ room → fits s count room ≡ true
  so_it_fits room few h = rw (le-leb count places few) (le-leb (form_length s count) room h)

  module _ (buffer : List ℕ) where
    -- ---- the head
    pub no_head : fits s count (length buffer) ≡ false → buffer ≡ head_over s count buffer
    unfolding head_over
    no_head e = rw e

    pub head_put : fits s count (length buffer) ≡ true → (head after : List ℕ) → head ≡ head_bytes s count → after ≡ over_from 0 head buffer
        → after ≡ head_over s count buffer
    unfolding head_over
    head_put e head after h f = f ∙ rw (e, h)

    -- ---- a motor
    module _ (at : ℕ) (m : Motor) where
      pub no_place : count ≤ at → buffer ≡ motor_over s count at m buffer
      unfolding motor_over
      no_place h = rw (le-ltb at count h)

      pub no_motor_lem : fits s count (length buffer) ≡ false → at < count → buffer ≡ motor_over s count at m buffer
      unfolding motor_over
      no_motor_lem e h = rw (lt-ltb at count h, e)

      pub motor_put : fits s count (length buffer) ≡ true → at < count → (place from : ℕ) → place ≡ body_place s count at → from ≡ entry_place at
          → (entry body first second : List ℕ) → entry ≡ entry_bytes m place → body ≡ s.body_of m
          → first ≡ over_from from entry buffer → second ≡ over_from place body first → second ≡ motor_over s count at m buffer
      unfolding motor_over
      motor_put e h place from p q entry body first second f g a b = b ∙ rw (a, f, g, p, q) (sym (rw (lt-ltb at count h, e)))

-- What the code cites: room found, and what is then laid or not.
pub ruleset head_laws = (few_that_fit, room_that_fits, no_head, head_put)

pub ruleset motor_laws = (few_that_fit, room_that_fits, no_place, no_motor_lem, motor_put)
