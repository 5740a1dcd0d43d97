-- Every public contract of the crate is determined: two outcomes that it allows have one answer, and leave the same in the lent run and the lent
-- buffer. The contracts are those of the source, `clauses` of each function.
-- Assumes nothing.
use Prim.Native.Nat.{ℕ}
use mathlib.Core.Path.{◌≡◌, refl, ◌∙◌, sym}
use mathlib.Core.List.{List, []}
use seplogic.Ra.Ura.{Ura}
use base.Logic.{SProp, ent, sep, fst∗, snd∗}
use contract.Lifetimes.{Lfts}
use contract.Monad.{Fun, fact, fact_i, fact_use}
use denote.Triple.Clauses.{Ended, Clauses, AtExit}
use denote.Triple.Entry.{Args, Res}
use types.Logic.{Logic}
use prog.Memory.{Memory}
use prog.Routine.{Routine}
use Rattle.register.specs.contracts.run.receive as receive
use Rattle.register.specs.contracts.run.strike_out as strike_out
use Rattle.register.specs.contracts.forms.read_form as read_form
use Rattle.register.specs.contracts.forms.write_form as write_form
use Rattle.register.specs.contracts.by_value.received as received
use Rattle.register.specs.contracts.by_value.struck_out as struck_out
use Rattle.register.specs.contracts.by_value.restored as restored
use Rattle.register.specs.contracts.by_value.stored as stored

both : {M : Type 1} (𝓤 : Ura M) (P Q R : Type 0) → (P → Q → R) → ent 𝓤 (sep 𝓤 (fact 𝓤 P) (fact 𝓤 Q)) (fact 𝓤 R)
both 𝓤 P Q R f =
    fact_use 𝓤 P (fst∗ 𝓤 (fact 𝓤 P) (fact 𝓤 Q)) (λ p.
    fact_use 𝓤 Q (snd∗ 𝓤 (fact 𝓤 P) (fact 𝓤 Q)) (λ q. fact_i 𝓤 R (sep 𝓤 (fact 𝓤 P) (fact 𝓤 Q)) (f p q)))

-- At any arguments, two outcomes that the contract allows are one; `left` is what stands in lent memory at the end.
abbrev pub OnceHeld : {M : Type 1} (𝓤 : Ura M) {A : Type 0} (T : Ended) (c : Clauses 𝓤 T)
    → ((κs : Lfts T.signature.lifetimes) → AtExit T κs → List A) → Type 1
OnceHeld 𝓤 {A} T c left =
    (κs : Lfts T.signature.lifetimes) (a : Args T.signature κs) (g : (c κs a).ghost) (x y : Res T.signature κs) (s t : AtExit T κs)
    → ent 𝓤 (sep 𝓤 ((c κs a).ensures g x s) ((c κs a).ensures g y t)) (fact 𝓤 ((x ≡ y) × (left κs s ≡ left κs t)))

pub record Determined {M : Type 1} {𝓤 : Ura M} (𝓛 : Logic 𝓤) (mem : Memory → SProp 𝓤) (run : Routine → Fun 𝓤) : Type 1 where
  pub receive_once : OnceHeld 𝓤 receive.ended (receive.clauses 𝓛 mem run) (λ κs s. s.0.now)
  pub strike_out_once : OnceHeld 𝓤 strike_out.ended (strike_out.clauses 𝓛 mem run) (λ κs s. s.0.now)
  pub read_form_once : OnceHeld 𝓤 read_form.ended (read_form.clauses 𝓛 mem run) (λ κs s. s.0.now)
  pub write_form_once : OnceHeld 𝓤 write_form.ended (write_form.clauses 𝓛 mem run) (λ κs s. s.1.1.0.now)
  pub received_once : OnceHeld 𝓤 {A = ℕ} received.ended (received.clauses 𝓛 mem run) (λ κs s. [])
  pub struck_out_once : OnceHeld 𝓤 {A = ℕ} struck_out.ended (struck_out.clauses 𝓛 mem run) (λ κs s. [])
  pub restored_once : OnceHeld 𝓤 {A = ℕ} restored.ended (restored.clauses 𝓛 mem run) (λ κs s. [])
  pub stored_once : OnceHeld 𝓤 stored.ended (stored.clauses 𝓛 mem run) (λ κs s. s.1.1.0.now)

pub determined : {M : Type 1} {𝓤 : Ura M} (𝓛 : Logic 𝓤) (mem : Memory → SProp 𝓤) (run : Routine → Fun 𝓤) → Determined 𝓛 mem run
determined {𝓤 = 𝓤} 𝓛 mem run =
    record {
      receive_once = λ κs a g x y s t. both 𝓤 _ _ _ (λ p q. (p.0 ∙ sym q.0, p.1 ∙ sym q.1));
      strike_out_once = λ κs a g x y s t. both 𝓤 _ _ _ (λ p q. (p.0 ∙ sym q.0, p.1 ∙ sym q.1));
      read_form_once = λ κs a g x y s t. both 𝓤 _ _ _ (λ p q. (p.0 ∙ sym q.0, p.1 ∙ sym q.1));
      write_form_once = λ κs a g x y s t. both 𝓤 _ _ _ (λ p q. (p.0 ∙ sym q.0, p.1 ∙ sym q.1));
      received_once = λ κs a g x y s t. both 𝓤 _ _ _ (λ p q. (p ∙ sym q, refl));
      struck_out_once = λ κs a g x y s t. both 𝓤 _ _ _ (λ p q. (p ∙ sym q, refl));
      restored_once = λ κs a g x y s t. both 𝓤 _ _ _ (λ p q. (p ∙ sym q, refl));
      stored_once = λ κs a g x y s t. both 𝓤 _ _ _ (λ p q. (p.0 ∙ sym q.0, p.1 ∙ sym q.1));
    }
