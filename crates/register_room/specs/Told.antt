-- What the register's commands are answered.
-- Assumes nothing.
use Rattle.std.specs.Prelude.{ℕ, List, Option, Some, None}
use Rattle.motors.specs.Filing.{filed_of, struck_of}
use Rattle.motors.specs.declared.answer.Next.{Next}
use Rattle.motors.specs.declared.motor.Motor.{Motor}
use Rattle.form.specs.Reading.{read_of}
use Rattle.console.specs.declared.command.RegisterCommand.{RegisterCommand}

-- The motors behind a command and its answer; none where it only looks.
unfoldable pub told : List Motor → ℕ → RegisterCommand → Option Next
told run count (RegisterCommand.Line line bundle) = Some (filed_of run count line bundle.now)
told run count (RegisterCommand.Strike line id) = Some (struck_of run count line id.0)
told run count (RegisterCommand.Load bytes) = Some (read_of run bytes.now)
told run count _ = None
