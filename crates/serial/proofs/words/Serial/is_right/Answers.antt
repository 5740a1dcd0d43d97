-- Of twelve characters the first six decide, and then the rest.
-- Assumes nothing.
use Rattle.std.proofs.Common.{ap, ◌∙◌}
use Rattle.serial.specs.Serial.{is_origin}
use Rattle.serial.proofs.WordLaws.{twelve}
use Rattle.serial.proofs.words.Serial.is_right.Goals as goal

pub returns-then-begins_with : goal.returns-then-begins_with
returns-then-begins_with c =
    rw (twelve, ← c.begins_with.ensures, c.if-begins_with.true) (c.is_origin.ensures ∙ ap is_origin c.origin.ensures)

pub returns-else-begins_with : goal.returns-else-begins_with
returns-else-begins_with c = rw (twelve, ← c.begins_with.ensures, c.if-begins_with.false)
