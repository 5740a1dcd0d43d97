-- What a command is answered.
-- Assumes nothing.
use Rattle.std.specs.Prelude.{ℕ, List, Option, Some, None}
use Rattle.console.specs.declared.said.Said.{Said}

-- The bytes of a row `wire`; none of another row.
unfoldable pub wire_of : Said → Option (List ℕ)
wire_of (Said.Wire bytes) = Some bytes.now
wire_of _ = None
