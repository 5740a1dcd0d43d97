-- An address is three bytes as one number, the low byte first (document 01; 003).
-- Assumes nothing.
use Rattle.std.specs.Prelude.{ℕ, ◌+◌, ◌*◌, ◌/◌, ◌%◌, List, [], ◌∷◌}
use Rattle.meaning.specs.Tests.{Test, ◌at_least◌, ◌at_most◌, ◌and◌}
use Rattle.frame.specs.declared.address.Address.{Address}

abbrev pub address : ℕ → Address
address n = record { 0 = n }

-- The mark of a frame for a group, and that of a frame for everyone.
abbrev pub group : Address
group = address 0x000000

abbrev pub broadcast : Address
broadcast = address 0xFFFFFF

-- The address of three bytes, and the three bytes of an address.
abbrev pub address_of : ℕ → ℕ → ℕ → Address
address_of low middle high = address (low + 256 * middle + 65536 * high)

abbrev pub bytes_of : Address → List ℕ
bytes_of a = a.0 % 256 ∷ a.0 / 256 % 256 ∷ a.0 / 65536 % 256 ∷ []

-- A NodeID: 000001h to FFFEFFh (rows 21 and 32).
abbrev pub a_node_id : Address → Test
a_node_id a = a.0 at_least 0x000001 and a.0 at_most 0xFFFEFF
