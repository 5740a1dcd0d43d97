-- Records moved by one place by a copy of the places that they leave, and the motor set where a place comes free.
-- Assumes nothing.
use Prim.Native.Nat.{ℕ, suc, ◌+◌, ◌-◌, ◌<◌, ◌≤◌}
use native.Mathlib.Omega.{arith}
use native.Mathlib.Numerals.{add-one}
use mathlib.Core.Path.{◌≡◌, ◌∙◌, sym, ap, ap₂}
use mathlib.Core.Logic.{◌⊎◌, inl, inr}
use mathlib.Core.List.{List, [], ◌∷◌, ◌++◌, append_assoc}
use lib.Dec.{ltb}
use lib.ListN.{length, get_or, set, take, drop, length-drop}
use lib.Seq.{paste, take-suc, drop-cons, drop-drop, set_at, length-take-le, length_paste_head}
use borrow.Author.Tests.{ltb-true, ltb-false}
use Rattle.meaning.specs.Cases.{by_test}
use Rattle.runs.specs.Places.{carried_up, carried_down, moved_up, moved_down}
use Rattle.runs.proofs.Moving.{up_starts, up_not, up_ends, down_starts, down_not, down_ends, carried_up_comes_to, carried_down_comes_to}
use Rattle.motors.specs.Motor.{zeros}
use Rattle.motors.specs.declared.motor.Motor.{Motor}

module _ (run : List Motor) (from last : ℕ) (m : Motor) where
  module _ (on : from ≤ last) (within : last < length run) where
    -- The places behind the first one, up to the last.
    abbrev n : ℕ
    n = last - from

    reaches : n < length (drop from run)
    reaches = rw length-drop (omega arith)

    behind : drop (suc last) run ≡ drop (suc n) (drop from run)
    behind = let at : suc last ≡ from + suc n = omega arith in ap (λ (k : ℕ). drop k run) at ∙ sym (drop-drop (suc n) from run)

    pub copied_up : set (paste run (from + 1) (drop from run) (last - from)) from m ≡ moved_up zeros run from last m
    copied_up =
        let first : take (from + 1) run ≡ take from run ++ (get_or run from zeros ∷ []) = rw add-one (take-suc run from zeros (omega arith)) in
        let far : drop (from + 1 + n) run ≡ drop (suc n) (drop from run) =
        let at : from + 1 + n ≡ suc last = omega arith in ap (λ (k : ℕ). drop k run) at ∙ behind in
        let apart : paste run (from + 1) (drop from run) n
        ≡ take from run ++ (get_or run from zeros ∷ (take n (drop from run) ++ drop (suc n) (drop from run))) =
        ap₂ (λ (f b : List Motor). (f ++ take n (drop from run)) ++ b) first far ∙ simp append_assoc in
        let number : suc last - from ≡ suc n = omega arith in
        ap (λ (l : List Motor). set l from m) apart
        ∙ set_at (take from run) (get_or run from zeros) (take n (drop from run) ++ drop (suc n) (drop from run)) m from
        (length-take-le from run (omega arith))
        ∙ sym (up_starts zeros run last from m within ∙ ap (λ (k : ℕ). carried_up zeros run from k m) number
        ∙ carried_up_comes_to zeros run from n m reaches)

    pub copied_down : set (paste run from (drop (from + 1) run) (last + 1 - (from + 1))) last m ≡ moved_down zeros run from last m
    copied_down =
        let moved : List Motor = take from run ++ take n (drop (suc from) run) in
        let size : last + 1 - (from + 1) ≡ n = omega arith in
        let reach : n ≤ length (drop (suc from) run) = rw length-drop (omega arith) in
        let at : from + n ≡ last = omega arith in
        let long : length moved ≡ last = length_paste_head run from (drop (suc from) run) n (omega arith) reach ∙ at in
        let apart : paste run from (drop (from + 1) run) (last + 1 - (from + 1)) ≡ moved ++ (get_or run last zeros ∷ drop (suc last) run) =
        rw (size, add-one) (ap (λ (k : ℕ). moved ++ drop k run) at ∙ ap (λ (b : List Motor). moved ++ b) (drop-cons run last zeros within)) in
        let number : last + 1 - from ≡ suc n = omega arith in
        ap (λ (l : List Motor). set l last m) apart
        ∙ set_at moved (get_or run last zeros) (drop (suc last) run) m last long
        ∙ append_assoc (take from run) (take n (drop (suc from) run)) (m ∷ drop (suc last) run)
        ∙ ap (λ (b : List Motor). take from run ++ (take n (drop (suc from) run) ++ (m ∷ b))) behind
        ∙ sym (down_starts zeros run last from m within ∙ ap (λ (k : ℕ). carried_down zeros run from k m) number
        ∙ carried_down_comes_to zeros run from n m reaches)

  -- Where there is no place, or the run has not the last one, nothing moves.
  pub not_up : (last < from) ⊎ (length run ≤ last) → run ≡ moved_up zeros run from last m
  not_up (inr h) = sym (up_not zeros run last from m h)
  not_up (inl h) =
      by_test (ltb last (length run))
      (λ t. sym (up_starts zeros run last from m (ltb-true last (length run) t) ∙ up_ends zeros run last from m h))
      (λ t. sym (up_not zeros run last from m (ltb-false last (length run) t)))

  pub not_down : (last < from) ⊎ (length run ≤ last) → run ≡ moved_down zeros run from last m
  not_down (inr h) = sym (down_not zeros run last from m h)
  not_down (inl h) =
      by_test (ltb last (length run))
      (λ t. sym (down_starts zeros run last from m (ltb-true last (length run) t) ∙ down_ends zeros run from (last + 1) m (omega arith)))
      (λ t. sym (down_not zeros run last from m (ltb-false last (length run) t)))
