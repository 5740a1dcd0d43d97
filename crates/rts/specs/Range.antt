-- The range of a field of DATA (002).
-- Assumes nothing.
use Rattle.std.specs.Prelude.{ℕ, ◌%◌, true, false}
use Rattle.meaning.specs.Tests.{Test, ◌at_least◌, ◌at_most◌, ◌is◌, fails, ◌and◌, ◌or◌}
use Rattle.rts.specs.declared.field.Range.{Range}

-- From the lowest number to the highest; and the even ones from 0.
abbrev pub ◌to◌ : ℕ → ℕ → Range
◌to◌ low high = record { low = low; high = high; even = false }

abbrev pub even_to : ℕ → Range
even_to high = record { low = 0; high = high; even = true }

abbrev pub ◌takes◌ : Range → ℕ → Test
◌takes◌ r number = number at_least r.low and (number at_most r.high and (fails r.even or (number % 2) is 0))

infix 72 ◌to◌ ◌takes◌
