-- The contracts of `register`, whose functions are lent a run of records: of the source's own clauses, in the program
-- logic that they are proved in.
-- Assumes nothing.
use Rattle.std.specs.Prelude.{length}
use seplogic.Ra.Ura.{Ura}
use base.Logic.{SProp}
use contract.Monad.{Fun}
use types.Logic.{Logic}
use prog.Memory.{Memory}
use prog.Routine.{Routine}
use Rattle.motors.specs.Filing.{filed_of, struck_of}
use Rattle.form.specs.{Reading.{read_of}, Writing.{written_of, buffer_after}}
use Rattle.register.specs.contracts.receive as receive
use Rattle.register.specs.contracts.strike_out as strike_out
use Rattle.register.specs.contracts.read_form as read_form
use Rattle.register.specs.contracts.write_form as write_form
use Rattle.register.specs.contracts.received as received
use Rattle.register.specs.contracts.struck_out as struck_out
use Rattle.register.specs.contracts.restored as restored
use Rattle.register.specs.contracts.stored as stored
use Rattle.promises.specs.Contracts.Says.{SaysHeld, SaysByHand}

pub record SliceContracts {M : Type 1} {𝓤 : Ura M} (𝓛 : Logic 𝓤)
    (mem : Memory → SProp 𝓤) (run : Routine → Fun 𝓤) : Type 1 where
  -- A frame received, a motor struck out, the stored form read and written, where the records stand.
  pub receive_is :
      SaysHeld 𝓤 receive.ended (receive.clauses 𝓛 mem run)
      (λ κs (motors, (count, (line, (bundle, _)))). (filed_of motors.now count line bundle.now).answer)
      (λ κs (motors, _). motors.now)
      (λ κs (motors, (count, (line, (bundle, _)))). (filed_of motors.now count line bundle.now).motors)
  pub strike_out_is :
      SaysHeld 𝓤 strike_out.ended (strike_out.clauses 𝓛 mem run)
      (λ κs (motors, (count, (line, (node, _)))). (struck_of motors.now count line node).answer)
      (λ κs (motors, _). motors.now)
      (λ κs (motors, (count, (line, (node, _)))). (struck_of motors.now count line node).motors)
  pub read_form_is :
      SaysHeld 𝓤 read_form.ended (read_form.clauses 𝓛 mem run)
      (λ κs (motors, (bytes, _)). (read_of motors.now bytes.now).answer)
      (λ κs (motors, _). motors.now)
      (λ κs (motors, (bytes, _)). (read_of motors.now bytes.now).motors)
  pub write_form_is :
      SaysHeld 𝓤 write_form.ended (write_form.clauses 𝓛 mem run)
      (λ κs (motors, (count, (buffer, _))). written_of motors.now count (length buffer.now))
      (λ κs (_, (_, (buffer, _))). buffer.now)
      (λ κs (motors, (count, (buffer, _))). buffer_after motors.now count buffer.now)
  -- The same by value.
  pub received_is :
      SaysByHand 𝓤 received.ended (received.clauses 𝓛 mem run)
      (λ κs (motors, (count, (line, (bundle, _)))). filed_of motors count line bundle.now)
  pub struck_out_is :
      SaysByHand 𝓤 struck_out.ended (struck_out.clauses 𝓛 mem run)
      (λ κs (motors, (count, (line, (node, _)))). struck_of motors count line node)
  pub restored_is :
      SaysByHand 𝓤 restored.ended (restored.clauses 𝓛 mem run)
      (λ κs (motors, (bytes, _)). read_of motors bytes.now)
  pub stored_is :
      SaysHeld 𝓤 stored.ended (stored.clauses 𝓛 mem run)
      (λ κs (motors, (count, (buffer, _))). written_of motors count (length buffer.now))
      (λ κs (_, (_, (buffer, _))). buffer.now)
      (λ κs (motors, (count, (buffer, _))). buffer_after motors count buffer.now)
