-- A run is single steps, and run after run tells what single steps tell: each run that answers leaves fewer entries.
-- Assumes nothing.
use Prim.Native.Nat.{ℕ, zero, suc, ◌+◌, ◌-◌, ◌≤◌, ◌<◌}
use native.Mathlib.Omega.{arith}
use native.Mathlib.Numerals.{add-one}
use mathlib.Core.Path.{◌≡◌, refl, ◌∙◌, sym, ap}
use mathlib.Core.Logic.{◌≢◌}
use mathlib.Core.Bool.{true, false, false≢true}
use mathlib.Core.List.{List, [], ◌∷◌, ◌++◌}
use lib.ListN.{length, get_or, drop, drop_of_length-le}
use lib.Seq.{drop-cons}
use Rattle.meaning.specs.Cases.{by_test}
use Rattle.meaning.specs.Choice.{either}
use Rattle.line.specs.Reader.{goes_on, close_of, run_of, ran_of, Answer}
use Rattle.line.specs.Telling.{Entry, after, Told, said, wholly, entries}
use Rattle.line.specs.declared.reader.Reader.{Reader}
use Rattle.line.specs.declared.reader.Stepped.{Stepped}
use Rattle.line.specs.declared.reader.Ran.{Ran}
use Rattle.line.proofs.Steps.{run_goes}
use Rattle.promises.specs.ReaderInRange.{ReaderInRange}
use Rattle.promises.specs.Demand3.{step_at, SingleSteps, at_the_end, answered, unanswered, RunAfterRun, answers, closes}
use Rattle.promises.proofs.ReaderInRange.{is_sound_lem, stays_in_range}
use Rattle.std.specs.Prelude.{Ok, Err, Some, None}

-- A run goes on exactly while nothing is answered.
is_nothing : (a : Answer) → goes_on a ≡ true → a ≡ (Ok None)
is_nothing (Ok None) e = refl
is_nothing (Ok (Some (h, n))) e = absurd (false≢true e)
is_nothing (Err q) e = absurd (false≢true e)

is_something : (a : Answer) → goes_on a ≡ false → a ≢ (Ok None)
is_something a e n = false≢true (sym e ∙ ap goes_on n)

tells_nothing : (s : Stepped) → s.answer ≡ (Ok None) → said s ≡ []
tells_nothing s e = rw e

module _ (bytes silences : List ℕ) (same : length bytes ≡ length silences) where
  -- ---- a run is single steps
  steps_from : (left : ℕ) (r : Reader) (place : ℕ) → place + left ≡ length bytes
      → SingleSteps bytes silences r place (run_of r (drop place bytes) (drop place silences) place)
  unfolding run_of
  steps_from zero r place e = rw (drop_of_length-le bytes {i = place} (omega arith)) (at_the_end {place = place} (omega arith))
  steps_from (suc left) r place e =
      let h : place < length bytes = omega arith in
      let s = step_at bytes silences r place in
      rw (drop-cons bytes place 0 h, drop-cons silences place 0 (omega arith))
      (either (SingleSteps bytes silences r place) (goes_on s.answer)
      (λ t. unanswered h (is_nothing _ t) (rw (add-one place) (steps_from left s.reader (suc place) (omega arith))))
      (λ t. rw (← add-one place) (answered h (is_something _ t))))

  pub single_steps : (r : Reader) (place : ℕ) → ReaderInRange r → place ≤ length bytes
      → SingleSteps bytes silences r place (ran_of r bytes silences place)
  single_steps r place i within =
      rw (run_goes r bytes silences place (is_sound_lem r i) same within) (steps_from (length bytes - place) r place (omega arith))

  -- ---- what is told from a place on
  abbrev rest : ℕ → List Entry
  rest place = entries (drop place bytes) (drop place silences)

  next_entry : (place : ℕ) → place < length bytes → rest place ≡ after (get_or silences place 0) (get_or bytes place 0) ∷ rest (place + 1)
  next_entry place h = rw (drop-cons bytes place 0 h, drop-cons silences place 0 (omega arith), add-one place)

  step_in_range : (r : Reader) (place : ℕ) → ReaderInRange r → ReaderInRange (step_at bytes silences r place).reader
  step_in_range r place = stays_in_range r (get_or bytes place 0) (get_or silences place 0)

  -- Single steps tell their part, and leave a reader in range that tells the rest; they stop early only to answer.
  record Onward (r : Reader) (place : ℕ) (x : Ran) : Type 0 where
    within : x.place ≤ length bytes
    further : x.stepped.answer ≢ (Ok None) → place < x.place
    to_the_end : x.stepped.answer ≡ (Ok None) → x.place ≡ length bytes
    in_range_lem : ReaderInRange x.stepped.reader
    tells : wholly r (rest place) ≡ said x.stepped ++ wholly x.stepped.reader (rest x.place)

  onward : {r : Reader} {place : ℕ} {x : Ran} → SingleSteps bytes silences r place x → ReaderInRange r → place ≤ length bytes → Onward r place x
  onward (at_the_end h) i w =
      record { within = w; further = λ n. absurd (n refl); to_the_end = λ e. omega arith; in_range_lem = i; tells = refl }
  onward (answered {r = r} {place = place} h n) i w =
      record {
        within = omega arith;
        further = λ n. omega arith;
        to_the_end = λ e. absurd (n e);
        in_range_lem = step_in_range r place i;
        tells = ap (wholly r) (next_entry place h);
      }
  onward (unanswered {r = r} {place = place} h e s) i w =
      let o = onward s (step_in_range r place i) (omega arith) in
      let one = step_at bytes silences r place in
      record {
        within = o.within;
        further = λ n. omega (arith, o.further n);
        to_the_end = o.to_the_end;
        in_range_lem = o.in_range_lem;
        tells =
            ap (wholly r) (next_entry place h)
            ∙ ap (λ (told : List Told). told ++ wholly one.reader (rest (place + 1))) (tells_nothing one e)
            ∙ o.tells;
      }

  -- ---- run after run
  module _ (r : Reader) (place : ℕ) (o : Onward r place (ran_of r bytes silences place)) where
    abbrev x : Ran
    x = ran_of r bytes silences place

    closed : x.stepped.answer ≡ (Ok None) → RunAfterRun bytes silences r place (wholly r (rest place))
    closed e =
        let done : rest x.place ≡ [] = rw (drop_of_length-le bytes {i = x.place} (omega (arith, o.to_the_end e))) in
        let all : wholly r (rest place) ≡ said (close_of x.stepped.reader) = o.tells ∙ rw (tells_nothing x.stepped e, done) in
        rw all (closes e)

    continued : x.stepped.answer ≢ (Ok None)
        → RunAfterRun bytes silences x.stepped.reader x.place (wholly x.stepped.reader (rest x.place))
        → RunAfterRun bytes silences r place (wholly r (rest place))
    continued n later = rw o.tells (answers n later)

  from_place : (left : ℕ) (r : Reader) (place : ℕ) → ReaderInRange r → place ≤ length bytes → length bytes - place < left
      → RunAfterRun bytes silences r place (wholly r (rest place))
  from_place zero r place i w h = absurd (omega arith)
  from_place (suc left) r place i w h =
      let x = ran_of r bytes silences place in
      let o = onward (single_steps r place i w) i w in
      by_test (goes_on x.stepped.answer) (λ t. closed r place o (is_nothing _ t))
      (λ t.
      let n = is_something _ t in
      continued r place o n (from_place left x.stepped.reader x.place o.in_range_lem o.within (omega (arith, o.further n, o.within))))

  pub as_single_steps : (r : Reader) → ReaderInRange r → RunAfterRun bytes silences r 0 (wholly r (entries bytes silences))
  as_single_steps r i = from_place (suc (length bytes)) r 0 i (omega arith) (omega arith)

-- Each call goes one way.
pub one_thing : (bytes silences : List ℕ) (r : Reader) (place : ℕ) (told other : List Told)
    → RunAfterRun bytes silences r place told → RunAfterRun bytes silences r place other → told ≡ other
one_thing bytes silences r place told other (answers n later) (answers m same) =
    ap (λ (more : List Told). said (ran_of r bytes silences place).stepped ++ more) (one_thing bytes silences _ _ _ _ later same)
one_thing bytes silences r place told other (answers n later) (closes e) = absurd (n e)
one_thing bytes silences r place told other (closes e) (answers n later) = absurd (n e)
one_thing bytes silences r place told other (closes e) (closes f) = refl
