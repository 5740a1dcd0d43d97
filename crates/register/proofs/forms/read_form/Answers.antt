-- Where a form is accepted, a run whose first places are set and whose others are cleared is what the reading leaves.
-- Assumes nothing.
use Rattle.std.proofs.Common.{◌≡◌, ◌∙◌, sym, ap, length, Ok}
use Rattle.form.specs.Reading.{check_of}
use Rattle.form.proofs.InPlace.{the_check_is_the_answer}
use Rattle.register.specs.Run.{others_cleared}
use Rattle.register.proofs.Filled.{accepted_is_set}
use Rattle.register.proofs.forms.read_form.Goals as goal

pub returns : goal.returns
returns c =
    let run = c.args.run.now in
    let form = c.args.bytes.now in
    let count = c.in_ok-count.count in
    let accepted : check_of (length run) form ≡ Ok count = sym c.check.ensures ∙ c.in_ok-count.was in (
      sym accepted ∙ the_check_is_the_answer run form,
      c.clear.ensures ∙ ap (others_cleared count) c.fill.ensures ∙ accepted_is_set run form count accepted,
    )
