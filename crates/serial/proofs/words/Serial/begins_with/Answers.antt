-- Each pair of digits as its callee gives it.
-- Assumes nothing.
use Rattle.std.proofs.Common.{eq-eqb, ne_eqb}
use Rattle.serial.proofs.WordLaws.{digits_by_words}
use Rattle.serial.proofs.words.Serial.begins_with.Goals as goal

pub returns-then-self-two_digits : goal.returns-then-self-two_digits
returns-then-self-two_digits c =
    rw (
      digits_by_words,
      ← c.two_digits.ensures,
      ← c.two_digits-2.ensures,
      eq-eqb _ _ c.if-self-two_digits.true,
      ← c.two_digits-then-self-two_digits.ensures,
    )

pub returns-else-self-two_digits : goal.returns-else-self-two_digits
returns-else-self-two_digits c =
    rw (digits_by_words, ← c.two_digits.ensures, ← c.two_digits-2.ensures, ne_eqb _ _ c.if-self-two_digits.false)
