-- The contracts in the source are the meanings that the demands speak of: no public function is proved of anything
-- else. A meaning is given in numbers and fields where that is short, else by the definition that the source cites.
-- Assumes nothing.
use seplogic.Ra.Ura.{Ura}
use base.Logic.{SProp}
use contract.Monad.{Fun}
use types.Logic.{Logic}
use prog.Memory.{Memory}
use prog.Routine.{Routine}
pub mod Says
pub mod Refusal
pub mod Serial
pub mod Frame
pub mod Line
pub mod Travel
pub mod Drive
pub mod Favourites
pub mod Lock
pub mod Board
pub mod Messages
pub mod Node
pub mod Rts
pub mod Motors
pub mod Form
pub mod Register

pub record Contracts : Type 0 where
  pub refusal : Refusal.RefusalContracts
  pub serial : Serial.SerialContracts
  pub frame : Frame.FrameContracts
  pub line : Line.LineContracts
  pub travel : Travel.TravelContracts
  pub board : Board.BoardContracts
  pub messages : Messages.MessagesContracts
  pub node : Node.NodeContracts
  pub rts : Rts.RtsContracts
  pub motors : Motors.MotorsContracts
  pub form : Form.FormContracts

-- The calls on the register, whatever the logic is built on.
pub record LentSliceContracts : Type 2 where
  pub register :
      {M : Type 1} {𝓤 : Ura M} (𝓛 : Logic 𝓤) (mem : Memory → SProp 𝓤) (run : Routine → Fun 𝓤)
      → Register.SliceContracts 𝓛 mem run
