-- Every public contract is determined.
-- Assumes nothing.
use native.Mathlib.Omega.{arith}
use mathlib.Core.Path.{◌∙◌, sym}
use Rattle.refusal.specs.declared.Refusal.TheVariants.{TooShort}
use Rattle.refusal.proofs.Determined as Refusal
use Rattle.serial.proofs.Determined as Serial
use Rattle.frame.proofs.Determined as Frame
use Rattle.line.proofs.Determined as Line
use Rattle.travel.proofs.Determined as Travel
use Rattle.board.proofs.Determined as Board
use Rattle.messages.proofs.Determined as Messages
use Rattle.node.proofs.Determined as Node
use Rattle.meaning.specs.Cases.{zero_is_one}
use Rattle.rts.proofs.Determined as Rts
use Rattle.motors.proofs.Determined as Motors
use Rattle.form.proofs.Determined as Form
use Rattle.register.proofs.Determined as Register
use Rattle.promises.specs.Determined.{Determined, Sense, LentSliceDetermined}

pub determined : Determined
determined =
    record {
      refusal = Refusal.determined;
      serial = Serial.determined;
      frame = Frame.determined;
      line = Line.determined;
      travel = Travel.determined;
      board = Board.determined;
      messages = Messages.determined;
      node = Node.determined;
      rts = Rts.determined;
      motors = Motors.determined;
      form = Form.determined;
    }

-- The outcomes 0 and 1 are both within row 1's number.
pub sense : Sense
sense =
    record {
      a_fixed_answer_is_determined = λ κs a x y s t p q. p ∙ sym q;
      a_bounded_answer_is_not = λ once. zero_is_one (once tt (TooShort, tt) 0 1 (TooShort, tt) (TooShort, tt) (omega arith) (omega arith));
    }

pub lent_slice_determined : LentSliceDetermined
lent_slice_determined = record { register = Register.determined }
