-- A number as a pulse, as a percent, as an IP number.
-- Assumes nothing.
use Rattle.std.specs.Prelude.{ℕ}
use Rattle.meaning.specs.Tests.{Test, ◌at_least◌, ◌at_most◌, ◌and◌}
use Rattle.travel.specs.declared.IpIndex.{IpIndex}
use Rattle.travel.specs.declared.Percent.{Percent}
use Rattle.travel.specs.declared.Pulse.{Pulse}

abbrev pub pulse : ℕ → Pulse
pulse number = record { 0 = number }

abbrev pub percent : ℕ → Percent
percent number = record { 0 = number }

abbrev pub ip : ℕ → IpIndex
ip number = record { 0 = number }

-- IPs are numbered from 1 to 16.
abbrev pub an_ip : ℕ → Test
an_ip number = number at_least 1 and number at_most 16
