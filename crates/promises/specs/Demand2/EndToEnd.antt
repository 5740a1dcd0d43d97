-- Demand 2, end to end: what a board tells of itself, filed from its line, is what is found of it.
-- Assumes nothing.
use Rattle.std.specs.Prelude.{ℕ, ◌≤◌, ◌<◌, ◌≡◌, List, Ok}
use Rattle.std.proofs.Math.Option.{some}
use Rattle.travel.specs.Position.{percent_of_pulse}
use Rattle.board.specs.{Favourites.{reported_ip}, declared.whole.Node.{Node}}
use Rattle.node.specs.Frames.{turn_of}
use Rattle.motors.specs.{Register.{found}, Filing.{filed_of}, declared.{motor.Motor.{Motor}, answer.Next.{Next}}}
use Rattle.promises.specs.Groups.{Groups}
use Rattle.promises.specs.Typed.{Typed, TypedTable}
use Rattle.promises.specs.Wire.{message}
use Rattle.promises.specs.Reply.{sent, reply_in}
use Rattle.promises.specs.RegisterInRange.{Holds, RegisterInRange}
use Rattle.promises.specs.Demand2.Effects.{Arrives}

-- The register has a record of the board under this line: its pulse, its percent and the IP that it reports.
pub record FoundAsTold (n : Node) (line : ℕ) (after : Next) : Type 0 where
  pub count : ℕ
  pub is_filed : after.answer ≡ Ok count
  pub motor : Motor
  pub is_found : found after.motors count line n.settings.id.0 ≡ some motor
  pub as_told :
      Holds motor line n.settings.id.0 1 n.drive.position.0
      (percent_of_pulse n.drive.position n.settings.travel).0
      (reported_ip n.favourites n.drive.position)

pub record EndToEnd : Type 0 where
  -- the reply to a 0Ch, filed where there is a place for one more
  pub what_a_board_tells_is_what_is_found :
      (n : Node) (g : Groups) (b : List ℕ) → Arrives n g b → Typed n → TypedTable g → message b ≡ 0x0C
      → (run : List Motor) (count line : ℕ) → RegisterInRange run count → count < 256 → line ≤ 3
      → FoundAsTold n line (filed_of run count line (sent (reply_in (turn_of n g b))))
