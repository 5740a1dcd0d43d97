-- What the board's own motor and supply report.
-- Assumes nothing.
use Rattle.board.specs.Events.{after_pulse, after_blocked, after_cleared, after_power_up}
use Rattle.board.specs.declared.events.After.{After}
use Rattle.board.specs.declared.whole.Node.{Node}
use Rattle.console.specs.declared.command.Event.{Event}

-- What the board answers an event.
unfoldable pub after_event : Node → Event → After
after_event n (Event.Pulse pulse) = after_pulse n pulse
after_event n (Event.Blocked cause) = after_blocked n cause
after_event n Event.Cleared = after_cleared n
after_event n Event.Power = after_power_up n
