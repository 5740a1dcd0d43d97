-- What a table of the form decides: a row's answer, from the facts of the rows that are passed over and its own, or the rest.
-- Assumes nothing.
use Prim.Native.Nat.{ℕ}
use mathlib.Core.Path.{◌≡◌, sym}
use mathlib.Core.List.{List}
use Rattle.meaning.specs.Tables.{Applies, answer_at, decided}
use Rattle.motors.specs.declared.motor.Motor.{Motor}
use Rattle.form.specs.Shape.{Shape}
use Rattle.form.specs.Layout.{form_length, count_in}
use Rattle.form.specs.FormOne.{form_one}
use Rattle.form.specs.Reading.{read_table, checked}
use Rattle.form.specs.Writing.{write_form_table, written_of, room_table, room_for}
use Rattle.std.specs.Prelude.{Ok}

pub checked_by_lem : (s : Shape) (n : ℕ) (b : List ℕ) (passed : ℕ) → Applies passed (read_table s n b)
    → answer_at passed (read_table s n b) (Ok (count_in b)) ≡ checked s n b
unfolding checked
checked_by_lem s n b passed facts = sym (decided passed (read_table s n b) (Ok (count_in b)) facts)

pub written_by : (run : List Motor) (count room passed : ℕ) → Applies passed (write_form_table run count room)
    → written_of run count room ≡ answer_at passed (write_form_table run count room) (Ok (form_length form_one count))
unfolding written_of
written_by run count room passed facts = decided passed (write_form_table run count room) (Ok (form_length form_one count)) facts

pub room_by : (count room passed : ℕ) → Applies passed (room_table count room)
    → room_for count room ≡ answer_at passed (room_table count room) (Ok (form_length form_one count))
unfolding room_for
room_by count room passed facts = decided passed (room_table count room) (Ok (form_length form_one count)) facts
