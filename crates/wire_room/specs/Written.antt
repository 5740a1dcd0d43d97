-- Which command of the wire writes a frame.
-- Assumes nothing.
use Rattle.std.specs.Prelude.{Bool, true, false}
use Rattle.console.specs.declared.command.WireCommand.{WireCommand}

unfoldable pub is_write : WireCommand → Bool
is_write (WireCommand.Write header content) = true
is_write _ = false
