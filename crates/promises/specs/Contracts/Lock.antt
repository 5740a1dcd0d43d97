-- The contracts of `board`'s lock.
-- Assumes nothing.
use Rattle.std.specs.Prelude.{if◌then◌else◌, Bool, true, false, leb}
use Rattle.board.specs.declared.lock.Lock.{Lock}
use Rattle.board.proofs.lock.Lock as Lock
use Rattle.promises.specs.Contracts.Says.{Says}

-- Not locked, the holder and the priority zero.
abbrev pub no_holder : (saved : Bool) → Lock
no_holder saved = record { holder = record { 0 = 0 }; locked = false; priority = 0; saved = saved }

pub record LockContracts : Type 0 where
  pub lock_none_is :
      Says Lock.none.Kinds.ps Lock.none.Kinds.r Lock.none.Reads.Pre Lock.none.Reads.Post
      (λ κs _. no_holder false)
  -- A priority at least the holder's if locked.
  pub admits_is :
      Says Lock.admits.Kinds.ps Lock.admits.Kinds.r Lock.admits.Reads.Pre Lock.admits.Reads.Post
      (λ κs (lock, (priority, _)). if lock.locked then leb lock.priority priority else true)
  -- Lock, unlock, "saved".
  pub locked_is :
      Says Lock.locked.Kinds.ps Lock.locked.Kinds.r Lock.locked.Reads.Pre Lock.locked.Reads.Post
      (λ κs (lock, (source, (priority, _))).
      record { holder = source; locked = true; priority = priority; saved = lock.saved })
  pub unlocked_is :
      Says Lock.unlocked.Kinds.ps Lock.unlocked.Kinds.r Lock.unlocked.Reads.Pre Lock.unlocked.Reads.Post
      (λ κs (lock, _). no_holder lock.saved)
  pub saving_is :
      Says Lock.saving.Kinds.ps Lock.saving.Kinds.r Lock.saving.Reads.Pre Lock.saving.Reads.Post
      (λ κs (lock, (saved, _)).
      record { holder = lock.holder; locked = lock.locked; priority = lock.priority; saved = saved })
  -- Dropped and zeroed unless saved.
  pub over_power_up_is :
      Says Lock.over_power_up.Kinds.ps Lock.over_power_up.Kinds.r
      Lock.over_power_up.Reads.Pre Lock.over_power_up.Reads.Post
      (λ κs (lock, _). if lock.saved then lock else no_holder false)
