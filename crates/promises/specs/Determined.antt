-- For every public contract, any two outcomes that it allows are equal, what stands in lent memory included.
-- Assumes nothing.
use Rattle.std.specs.Prelude.{◌≤◌, ◌≡◌}
use seplogic.Ra.Ura.{Ura}
use base.Logic.{SProp}
use contract.Monad.{Fun}
use types.Logic.{Logic}
use prog.Memory.{Memory}
use prog.Routine.{Routine}
use Rattle.meaning.specs.Determined.{Once}
use Rattle.refusal.specs.Number.{number_of}
use Rattle.refusal.proofs.Refusal.number.Kinds as number_kinds
use Rattle.refusal.proofs.Determined as Refusal
use Rattle.serial.proofs.Determined as Serial
use Rattle.frame.proofs.Determined as Frame
use Rattle.line.proofs.Determined as Line
use Rattle.travel.proofs.Determined as Travel
use Rattle.board.proofs.Determined as Board
use Rattle.messages.proofs.Determined as Messages
use Rattle.node.proofs.Determined as Node
use Rattle.rts.proofs.Determined as Rts
use Rattle.motors.proofs.Determined as Motors
use Rattle.form.proofs.Determined as Form
use Rattle.register.proofs.Determined as Register

-- Every crate but the lent slice of motors.
pub record Determined : Type 0 where
  pub refusal : Refusal.Determined
  pub serial : Serial.Determined
  pub frame : Frame.Determined
  pub line : Line.Determined
  pub travel : Travel.Determined
  pub board : Board.Determined
  pub messages : Messages.Determined
  pub node : Node.Determined
  pub rts : Rts.Determined
  pub motors : Motors.Determined
  pub form : Form.Determined

-- The sentence tells contracts apart. Of `Refusal::number`: where the contract fixes the answer it holds, where it only
-- bounds the answer it does not.
pub record Sense : Type 0 where
  pub a_fixed_answer_is_determined : Once number_kinds.ps number_kinds.r (λ κs a x s. x ≡ number_of a.0)
  pub a_bounded_answer_is_not : ¬ Once number_kinds.ps number_kinds.r (λ κs a x s. x ≤ number_of a.0)

-- The lent slice of motors: the same of its contracts, in the program logic that they are proved in, whatever it is built
-- on.
pub record LentSliceDetermined : Type 2 where
  pub register :
      {M : Type 1} {𝓤 : Ura M} (𝓛 : Logic 𝓤) (mem : Memory → SProp 𝓤) (run : Routine → Fun 𝓤)
      → Register.Determined 𝓛 mem run
