-- What the check of a form says: a form that is counted passes every row.
-- Assumes nothing.
use Prim.Native.Nat.{ℕ, ◌≤◌}
use mathlib.Core.Path.{◌≡◌}
use mathlib.Core.Bool.{true}
use mathlib.Core.List.{List}
use lib.ListN.{length, get_or}
use Rattle.meaning.specs.Tables.{of_decided}
use Rattle.motors.specs.Register.{places}
use Rattle.form.specs.Shape.{Shape}
use Rattle.form.specs.Layout.{form_length, count_in, contents_right, bodies_right}
use Rattle.form.specs.Reading.{read_table, checked}
use Rattle.motors.specs.Answer.{Answer}
use Rattle.std.specs.Prelude.{Ok, Err}

pub record Accepted (s : Shape) (b : List ℕ) (n : ℕ) : Type 0 where
  pub begins_as_the_shape_says : get_or b 0 0 ≡ s.first_byte
  pub at_most_256 : count_in b ≤ places
  pub as_long_as_it_says : length b ≡ form_length s (count_in b)
  pub contents_right_lem : contents_right s (count_in b) b ≡ true
  pub bodies_right_lem : bodies_right s (count_in b) b ≡ true
  pub number : n ≡ count_in b

abbrev pub Checked : Shape → List ℕ → Answer → Type 0
Checked s b (Ok n) = Accepted s b n
Checked s b (Err r) = Unit {0}

pub checked_as : (s : Shape) (run : ℕ) (b : List ℕ) → Checked s b (checked s run b)
unfolding checked
checked_as s run b = of_decided (Checked s b) (read_table s run b) (Ok (count_in b)) (search) (λ facts. search)
