-- A lock survives power-up exactly when saved.
-- Assumes nothing.
use mathlib.Core.Path.{◌≡◌, refl, sym, ap, ◌∙◌}
use mathlib.Core.Bool.{Bool, true, false, false≢true}
use mathlib.Core.Logic.{◌↔◌}
use Rattle.meaning.specs.Chosen.{chosen, passed}
use Rattle.board.specs.Lock.{no_lock, over_power_up}
use Rattle.board.specs.declared.lock.Lock.{Lock}

module _ (l : Lock) where
  saved_kept : l.saved ≡ true → over_power_up l ≡ l
  saved_kept e = chosen l.saved l no_lock e

  unsaved_dropped : l.saved ≡ false → over_power_up l ≡ no_lock
  unsaved_dropped e = passed l.saved l no_lock e

  survives : (saved : Bool) → l.saved ≡ saved → (over_power_up l).locked ≡ true → l.saved ≡ true
  survives true e k = e
  survives false e k = absurd (false≢true (sym (ap (λ (x : Lock). x.locked) (unsaved_dropped e)) ∙ k))

  pub lock_survives_exactly_when_saved : l.locked ≡ true → ((over_power_up l).locked ≡ true) ↔ (l.saved ≡ true)
  lock_survives_exactly_when_saved k = (survives l.saved refl, λ e. ap (λ (x : Lock). x.locked) (saved_kept e) ∙ k)
