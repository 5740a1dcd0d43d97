-- Each contract of the register is its meaning.
-- Assumes nothing.
use mathlib.Core.Path.{refl}
use seplogic.Ra.Ura.{Ura}
use base.Logic.{SProp, emp, id⊢}
use contract.Monad.{Fun}
use types.Logic.{Logic}
use prog.Memory.{Memory}
use prog.Routine.{Routine}
use Rattle.promises.specs.Contracts.Register.{SliceContracts}

pub slice_contracts :
    {M : Type 1} {𝓤 : Ura M} (𝓛 : Logic 𝓤) (mem : Memory → SProp 𝓤) (run : Routine → Fun 𝓤) → SliceContracts 𝓛 mem run
slice_contracts {𝓤 = 𝓤} 𝓛 mem run =
    record {
      receive_is = λ κs a. (refl, (tt, λ g. (id⊢ 𝓤 (emp 𝓤), λ x s. id⊢ 𝓤 _)));
      strike_out_is = λ κs a. (refl, (tt, λ g. (id⊢ 𝓤 (emp 𝓤), λ x s. id⊢ 𝓤 _)));
      read_form_is = λ κs a. (refl, (tt, λ g. (id⊢ 𝓤 (emp 𝓤), λ x s. id⊢ 𝓤 _)));
      write_form_is = λ κs a. (refl, (tt, λ g. (id⊢ 𝓤 (emp 𝓤), λ x s. id⊢ 𝓤 _)));
      received_is = λ κs a. (refl, (tt, λ g. (id⊢ 𝓤 (emp 𝓤), λ x s. id⊢ 𝓤 _)));
      struck_out_is = λ κs a. (refl, (tt, λ g. (id⊢ 𝓤 (emp 𝓤), λ x s. id⊢ 𝓤 _)));
      restored_is = λ κs a. (refl, (tt, λ g. (id⊢ 𝓤 (emp 𝓤), λ x s. id⊢ 𝓤 _)));
      stored_is = λ κs a. (refl, (tt, λ g. (id⊢ 𝓤 (emp 𝓤), λ x s. id⊢ 𝓤 _)));
    }
