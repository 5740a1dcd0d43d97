-- Each answer of the reader, from the tests that passed before it and the one that decides.
-- Assumes nothing.
use Prim.Native.Nat.{ℕ, ◌≤◌, ◌<◌}
use mathlib.Core.Path.{◌≡◌, refl, ◌∙◌, sym, ap}
use mathlib.Core.Logic.{◌≢◌}
use mathlib.Core.Bool.{Bool, true, false}
use borrow.Author.Tests.{eqb-true, eqb-false, ltb-true, ltb-false, le-leb, lt-leb, lt-ltb, le-ltb, eq-eqb, ne_eqb}
use mathlib.Core.List.{List}
use lib.ListN.{length, take, drop}
use lib.Dec.{eqb, ltb}
use Rattle.meaning.specs.Choice.{either}
use Rattle.refusal.specs.declared.Refusal.{Refusal}
use Rattle.frame.specs.Reading.{reading_of, Reading}
use Rattle.line.specs.Telling.{said}
use Rattle.line.specs.declared.reader.Stepped.{Stepped}
use Rattle.line.specs.Reader.{is_sound, ended_with, answered_by, broken, begun, joined, fresh, stepped, step_of, close_of, refusing, run_of, ran_of, no_bytes, Answer}
use Rattle.line.specs.declared.reader.Reader.{Reader}
use Rattle.std.specs.Prelude.{Ok, Err, Some, None}

module _ (r next : Reader) where
  pub ended_empty : r.count ≡ 0 → ended_with r next ≡ stepped next (Ok None) no_bytes
  unfolding ended_with
  ended_empty e = rw (eq-eqb r.count 0 e)

  pub ended_too_long : r.count ≢ 0 → 31 < r.count → ended_with r next ≡ stepped next (Err Refusal.TooLong) no_bytes
  unfolding ended_with
  ended_too_long n h = rw (ne_eqb r.count 0 n, lt-ltb 31 r.count h)

  pub ended_read : r.count ≢ 0 → r.count ≤ 31 → ended_with r next ≡ answered_by (reading_of (take r.count r.kept)) r.kept next
  unfolding ended_with
  ended_read n h = rw (ne_eqb r.count 0 n, le-ltb 31 r.count h)

-- The same from what the bundle reads as.
pub ended_as : (r next : Reader) {q : Reading} → r.count ≢ 0 → r.count ≤ 31 → reading_of (take r.count r.kept) ≡ q
    → answered_by q r.kept next ≡ ended_with r next
ended_as r next n h e = sym (ended_read r next n h ∙ ap (λ (p : Reading). answered_by p r.kept next) e)

-- The reader goes on as the next, and what is told does not depend on it.
next_of : (q : Reading) (kept : List ℕ) (next : Reader) → (answered_by q kept next).reader ≡ next
next_of (Ok (h, n)) kept next = refl
next_of (Err r) kept next = refl

pub goes_on_as : (r next : Reader) → (ended_with r next).reader ≡ next
unfolding ended_with
goes_on_as r next =
    either (λ (s : Stepped). s.reader ≡ next) (eqb r.count 0) (λ t. refl) λ some.
    either (λ (s : Stepped). s.reader ≡ next) (ltb 31 r.count) (λ t. refl) λ short.
    next_of (reading_of (take r.count r.kept)) r.kept next

same_told : (q : Reading) (kept : List ℕ) (next other : Reader) → said (answered_by q kept next) ≡ said (answered_by q kept other)
same_told (Ok (h, n)) kept next other = refl
same_told (Err r) kept next other = refl

pub told_alike : (r next other : Reader) → said (ended_with r next) ≡ said (ended_with r other)
told_alike r next other = go (eqb r.count 0) refl (ltb 31 r.count) refl
  where
    go : (t : Bool) → eqb r.count 0 ≡ t → (u : Bool) → ltb 31 r.count ≡ u → said (ended_with r next) ≡ said (ended_with r other)
    go true t u v = rw (ended_empty r next (eqb-true r.count 0 t), ended_empty r other (eqb-true r.count 0 t))
    go false t true v =
        let n = eqb-false r.count 0 t in
        rw (ended_too_long r next n (ltb-true 31 r.count v), ended_too_long r other n (ltb-true 31 r.count v))
    go false t false v =
        let n = eqb-false r.count 0 t in
        rw (ended_read r next n (ltb-false 31 r.count v), ended_read r other n (ltb-false 31 r.count v))
        (same_told (reading_of (take r.count r.kept)) r.kept next other)

-- The answer says what stands beside it: a frame has its bytes, and any other answer none.
abbrev pub beside : Answer → List ℕ → Reader → Stepped
beside (Ok None) kept next = stepped next (Ok None) no_bytes
beside (Ok (Some (h, n))) kept next = stepped next (Ok (Some (h, n))) kept
beside (Err q) kept next = stepped next (Err q) no_bytes

same_answer : (q : Reading) (kept : List ℕ) (next other : Reader) → answered_by q kept next ≡ beside (answered_by q kept other).answer kept next
same_answer (Ok (h, n)) kept next other = refl
same_answer (Err r) kept next other = refl

ended_by_answer : (r next other : Reader) → ended_with r next ≡ beside (ended_with r other).answer r.kept next
ended_by_answer r next other = go (eqb r.count 0) refl (ltb 31 r.count) refl
  where
    go : (t : Bool) → eqb r.count 0 ≡ t → (u : Bool) → ltb 31 r.count ≡ u → ended_with r next ≡ beside (ended_with r other).answer r.kept next
    go true t u v = rw (ended_empty r next (eqb-true r.count 0 t), ended_empty r other (eqb-true r.count 0 t))
    go false t true v =
        let n = eqb-false r.count 0 t in
        rw (ended_too_long r next n (ltb-true 31 r.count v), ended_too_long r other n (ltb-true 31 r.count v))
    go false t false v =
        let n = eqb-false r.count 0 t in
        rw (ended_read r next n (ltb-false 31 r.count v), ended_read r other n (ltb-false 31 r.count v))
        (same_answer (reading_of (take r.count r.kept)) r.kept next other)

pub ended_as_answered : (r next other : Reader) {a : Answer} → (ended_with r other).answer ≡ a → beside a r.kept next ≡ ended_with r next
ended_as_answered r next other e = sym (ended_by_answer r next other ∙ ap (λ (a : Answer). beside a r.kept next) e)

module _ (r : Reader) (byte silence : ℕ) where
  pub step_broken : is_sound r ≡ false → step_of r byte silence ≡ broken r
  unfolding step_of
  step_broken e = rw e

  pub step-ends : is_sound r ≡ true → 30 ≤ silence → step_of r byte silence ≡ ended_with r (begun byte)
  unfolding step_of
  step-ends e h = rw (e, le-leb 30 silence h)

  pub step_joins : is_sound r ≡ true → silence < 30 → step_of r byte silence ≡ stepped (joined r byte) (Ok None) no_bytes
  unfolding step_of
  step_joins e h = rw (e, lt-leb 30 silence h)

module _ (r : Reader) where
  pub close_broken : is_sound r ≡ false → close_of r ≡ broken r
  unfolding close_of
  close_broken e = rw e

  pub close_ends : is_sound r ≡ true → close_of r ≡ ended_with r fresh
  unfolding close_of
  close_ends e = rw e

module _ (r : Reader) (bytes silences : List ℕ) (place : ℕ) where
  pub run_broken : is_sound r ≡ false → ran_of r bytes silences place ≡ refusing r Refusal.BrokenReader place
  unfolding ran_of
  run_broken e = rw e

  pub run_unequal : is_sound r ≡ true → length bytes ≢ length silences → ran_of r bytes silences place ≡ refusing r Refusal.UnequalRuns place
  unfolding ran_of
  run_unequal e n = rw (e, ne_eqb (length bytes) (length silences) n)

  pub run_past_end : is_sound r ≡ true → length bytes ≡ length silences → length bytes < place
      → ran_of r bytes silences place ≡ refusing r Refusal.PlacePastEnd place
  unfolding ran_of
  run_past_end e n h = rw (e, eq-eqb (length bytes) (length silences) n, lt-ltb (length bytes) place h)

  pub run_goes : is_sound r ≡ true → length bytes ≡ length silences → place ≤ length bytes
      → ran_of r bytes silences place ≡ run_of r (drop place bytes) (drop place silences) place
  unfolding ran_of
  run_goes e n h = rw (e, eq-eqb (length bytes) (length silences) n, le-ltb (length bytes) place h)
