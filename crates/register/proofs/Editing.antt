-- What `enrol`, `file` and `strike_out` share: an edit is made of what is found and applied, and its answer is returned.
-- Assumes nothing.
use Rattle.std.proofs.Common.{◌≡◌, ◌∙◌, ap, List}
use Rattle.motors.specs.Edit.{applied}
use Rattle.motors.specs.declared.answer.Next.{Next}
use Rattle.motors.specs.declared.edit.Edit.{Edit}
use Rattle.motors.specs.declared.motor.Motor.{Motor}
use Rattle.motors.proofs.InPlace.{edited}

-- An edit that comes to an outcome gives its answer and leaves its records.
pub edit_comes_to : (run after : List Motor) (edit made : Edit) (next : Next) → edit ≡ made → edited run made ≡ next → after ≡ applied run edit
    → (edit.answer ≡ next.answer) × (after ≡ next.motors)
edit_comes_to run after edit made next e law left = (
  ap (λ (e : Edit). e.answer) e ∙ ap (λ (n : Next). n.answer) law,
  left ∙ ap (λ (e : Edit). applied run e) e ∙ ap (λ (n : Next). n.motors) law,
)
