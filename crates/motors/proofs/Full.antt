-- Row 24 in the paper's words: a new motor while 256 are held, and never otherwise; any other report is taken.
-- Assumes nothing.
use Prim.Native.Nat.{ℕ, ◌+◌, ◌≤◌, ◌<◌}
use native.Mathlib.Omega.{arith}
use mathlib.Core.Path.{◌≡◌, refl, ◌∙◌, sym, ap}
use mathlib.Core.Logic.{◌↔◌, ◌⊎◌, inl, inr}
use mathlib.Core.Bool.{true, false≢true}
use mathlib.Core.List.{List}
use mathlib.Core.Option.{Option, none, some}
use lib.Dec.{leb}
use lib.ListN.{length}
use borrow.Author.Tests.{leb-true, leb-false}
use Rattle.meaning.specs.Cases.{by_test}
use Rattle.refusal.specs.declared.Refusal.{Refusal}
use Rattle.motors.specs.Register.{held, sound_of, found}
use Rattle.motors.specs.Report.{report_of, Report}
use Rattle.runs.specs.Ordered.{is_some}
use Rattle.motors.specs.Filing.{entered, kept_of, filing_of, filed_of}
use Rattle.motors.specs.declared.answer.Next.{Next}
use Rattle.motors.specs.declared.motor.Motor.{Motor}
use Rattle.motors.proofs.Sound.{sound_is, length_held}
use Rattle.motors.proofs.Entered.{more, entered_number}
use Rattle.motors.proofs.Rows.{kept_by, as_reported}
use Rattle.motors.specs.Answer.{Answer}
use Rattle.std.specs.Prelude.{Ok, Err}

pub never_both : (a : Answer) (n : ℕ) (r : Refusal) → a ≡ Ok n → a ≡ Err r → ⊥
never_both a n r p q = let z : ◌≡◌ {A = ℕ} 0 1 = cc in omega arith

module _ (run : List Motor) (count : ℕ) (m : Motor) (ok : sound_of run count ≡ true) where
  number : length (entered (held run count) m) ≡ more (found run count m.line m.node) + count
  number =
      entered_number (held run count) m (sound_is run count ok).ascending
      ∙ ap (λ (n : ℕ). more (found run count m.line m.node) + n) (length_held run count ok)

  taken : length (entered (held run count) m) ≤ 256 → (kept_of run (entered (held run count) m)).answer ≡ Ok (length (entered (held run count) m))
  taken h = ap (λ (x : Next). x.answer) (kept_by run (entered (held run count) m) 1 (h, tt))

  full : 256 < length (entered (held run count) m) → (kept_of run (entered (held run count) m)).answer ≡ Err Refusal.RegisterFull
  full h = ap (λ (x : Next). x.answer) (kept_by run (entered (held run count) m) 0 h)

  new_and_full : (f : Option Motor) → found run count m.line m.node ≡ f → 256 < more f + count → (f ≡ none) × (count ≡ 256)
  new_and_full none e h = (refl, omega (arith, (sound_is run count ok).at_most_256))
  new_and_full (some x) e h = absurd (omega (arith, (sound_is run count ok).at_most_256))

  -- What is entered would be a 257th record exactly when the motor is new and 256 are held.
  pub beyond_exactly_when : (256 < length (entered (held run count) m)) ↔ ((found run count m.line m.node ≡ none) × (count ≡ 256))
  beyond_exactly_when =
      (λ h. new_and_full (found run count m.line m.node) refl (omega (arith, number)), λ s. omega (arith, number, ap more s.0, s.1))

  only_then : (kept_of run (entered (held run count) m)).answer ≡ Err Refusal.RegisterFull
      → (found run count m.line m.node ≡ none) × (count ≡ 256)
  only_then e =
      by_test (leb (length (entered (held run count) m)) 256)
      (λ t. absurd (never_both (kept_of run (entered (held run count) m)).answer (length (entered (held run count) m)) Refusal.RegisterFull
      (taken (leb-true _ _ t)) e))
      (λ t. beyond_exactly_when.0 (leb-false (length (entered (held run count) m)) 256 t))

  then_too : (found run count m.line m.node ≡ none) × (count ≡ 256)
      → (kept_of run (entered (held run count) m)).answer ≡ Err Refusal.RegisterFull
  then_too s = full (beyond_exactly_when.1 s)

  -- A report is taken exactly when its motor is held already, or there is a place for one more.
  abbrev HasAPlace : Type 0
  HasAPlace = (is_some (found run count m.line m.node) ≡ true) ⊎ (count < 256)

  place_for : (f : Option Motor) → more f + count ≤ 256 → (is_some f ≡ true) ⊎ (count < 256)
  place_for none h = inr (omega arith)
  place_for (some x) h = inl refl

  few_enough : (f : Option Motor) → (is_some f ≡ true) ⊎ (count < 256) → more f + count ≤ 256
  few_enough none (inl e) = absurd (false≢true e)
  few_enough none (inr h) = omega arith
  few_enough (some x) h = omega (arith, (sound_is run count ok).at_most_256)

  with_a_place : ((n : ℕ) × ((kept_of run (entered (held run count) m)).answer ≡ Ok n)) → HasAPlace
  with_a_place (n, e) =
      by_test (leb (length (entered (held run count) m)) 256)
      (λ t. place_for (found run count m.line m.node) (omega (arith, number, leb-true (length (entered (held run count) m)) 256 t)))
      (λ t. absurd (never_both (kept_of run (entered (held run count) m)).answer n Refusal.RegisterFull e (full (leb-false _ _ t))))

  pub taken_exactly_when : HasAPlace ↔ ((n : ℕ) × ((kept_of run (entered (held run count) m)).answer ≡ Ok n))
  taken_exactly_when =
      (λ h. (length (entered (held run count) m), taken (omega (arith, number, few_enough (found run count m.line m.node) h))), with_a_place)

  pub full_exactly_when : (line : ℕ) (b : List ℕ) → report_of line b ≡ Ok m
      → ((filed_of run count line b).answer ≡ Err Refusal.RegisterFull) ↔ ((found run count m.line m.node ≡ none) × (count ≡ 256))
  full_exactly_when line b e =
      let same : (filed_of run count line b).answer ≡ (kept_of run (entered (held run count) m)).answer =
      ap (λ (r : Report). (filing_of entered run count r).answer) e ∙ ap (λ (x : Next). x.answer) (as_reported entered run count (Ok m) ok) in
      (λ r. only_then (sym same ∙ r), λ s. same ∙ then_too s)
