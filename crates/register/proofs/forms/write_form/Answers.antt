-- What the lookup finds says whether the form is written: a refusal leaves the buffer, and where it is written all the motors held are laid.
-- Assumes nothing.
use Rattle.std.proofs.Common.{◌≡◌, ◌∙◌, sym, ap, ℕ, List, arith, length, rules, Ok, Err}
use lib.Dec.{ltb}
use borrow.Author.Tests.{ltb-false}
use Rattle.meaning.specs.Cases.{by_test}
use Rattle.motors.specs.declared.found.Found.{Found}
use Rattle.motors.specs.declared.motor.Motor.{Motor}
use Rattle.motors.proofs.Sound.{sound_is}
use Rattle.form.specs.Writing.{room_of, written_of, laid_up_to}
use Rattle.form.proofs.InPlace.{room_is_the_answer, written_where, laying_ends, refused_leaves_the_buffer}
use Rattle.register.specs.Run.{fewer}
use Rattle.register.proofs.forms.write_form.Goals as goal

-- Where the form is written the run is a register: all the records counted have places.
all_counted : (run : List Motor) (count room n : ℕ) → written_of run count room ≡ Ok n → fewer count (length run) ≡ count
all_counted run count room n e =
    let sound = sound_is run count (written_where run count room n e).0 in
    by_test (ltb count (length run))
    (λ t. rw t)
    (λ t. let many = ltb-false count (length run) t in rw t (omega (arith, sound.of_256_places, sound.at_most_256)))

pub returns-in_err-size : goal.returns-in_err-size
returns-in_err-size c =
    let run = c.args.run.now in
    let buffer = c.args.buffer.now in
    let answer =
    c.room.ensures ∙ ap (λ (f : Found). room_of f c.args.count (length buffer)) c.look_up-found.ensures
    ∙ room_is_the_answer run c.args.count (length buffer) c.unread.result in
    let refused : written_of run c.args.count (length buffer) ≡ Err c.in_err-size.field-0.0 = sym answer ∙ c.in_err-size.was in
    (rw refused (search rules), sym (refused_leaves_the_buffer run c.args.count buffer _ refused))

pub returns : goal.returns
returns c =
    let run = c.args.run.now in
    let buffer = c.args.buffer.now in
    let count = c.args.count in
    let answer =
    c.room.ensures ∙ ap (λ (f : Found). room_of f count (length buffer)) c.look_up-found.ensures
    ∙ room_is_the_answer run count (length buffer) c.unread.result in
    let written : written_of run count (length buffer) ≡ Ok c.in_ok-size.size = sym answer ∙ c.in_ok-size.was in (
      sym written,
      c.lay.ensures ∙ ap (laid_up_to run count buffer) (all_counted run count (length buffer) c.in_ok-size.size written)
          ∙ laying_ends run count buffer c.in_ok-size.size written,
    )
