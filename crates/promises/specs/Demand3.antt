-- Demand 3: of any recording of valid frames in which each frame suffers at most one fault, a fresh reader hands out
-- exactly the unharmed
-- frames, in order, and numbered refusals for the rest.
-- Assumes nothing.
use Rattle.std.specs.Prelude.{ℕ, ◌+◌, ◌≤◌, ◌<◌, ◌≡◌, ◌≢◌, List, ◌++◌, map, length, get_or, Ok, None}
use Rattle.line.specs.Reader.{fresh, step_of, close_of, ran_of}
use Rattle.line.specs.declared.reader.Reader.{Reader}
use Rattle.line.specs.declared.reader.Stepped.{Stepped}
use Rattle.line.specs.declared.reader.Ran.{Ran}
use Rattle.line.specs.Telling.{Entry, Told, said, wholly, entries}
use Rattle.line.specs.Bundles.{bundles, bundle_told}
use Rattle.line.specs.Damage.{Sent, Recording, unharmed, handed, Numbered, Owed}
use Rattle.promises.specs.ReaderInRange.{ReaderInRange, without_answer}

-- The step of the byte and the silence at a place of two lent runs.
abbrev pub step_at : (bytes silences : List ℕ) → Reader → ℕ → Stepped
step_at bytes silences r place = step_of r (get_or bytes place 0) (get_or silences place 0)

-- Single steps over two lent runs, from a reader and a place on: up to the first that answers, or to the end.
pub data SingleSteps (bytes silences : List ℕ) : Reader → ℕ → Ran → Type 0 where
  at_the_end : {r : Reader} {place : ℕ} → length bytes ≤ place
      → SingleSteps bytes silences r place (record { stepped = without_answer r; place = place })
  answered : {r : Reader} {place : ℕ} → place < length bytes → (step_at bytes silences r place).answer ≢ (Ok None)
      → SingleSteps bytes silences r place (record { stepped = step_at bytes silences r place; place = place + 1 })
  unanswered : {r : Reader} {place : ℕ} {x : Ran} → place < length bytes
      → (step_at bytes silences r place).answer ≡ (Ok None)
      → SingleSteps bytes silences (step_at bytes silences r place).reader (place + 1) x
      → SingleSteps bytes silences r place x

-- Run after run over two lent runs, from a reader and a place on: while a run answers, what it tells, and on from the
-- reader and the place that it leaves; then what the close tells.
pub data RunAfterRun (bytes silences : List ℕ) : Reader → ℕ → List Told → Type 0 where
  answers : {r : Reader} {place : ℕ} {later : List Told} → (ran_of r bytes silences place).stepped.answer ≢ (Ok None)
      → RunAfterRun bytes silences (ran_of r bytes silences place).stepped.reader
      (ran_of r bytes silences place).place later
      → RunAfterRun bytes silences r place (said (ran_of r bytes silences place).stepped ++ later)
  closes : {r : Reader} {place : ℕ} → (ran_of r bytes silences place).stepped.answer ≡ (Ok None)
      → RunAfterRun bytes silences r place (said (close_of (ran_of r bytes silences place).stepped.reader))

pub record Demand3 : Type 0 where
  pub unharmed_only : (ss : List Sent) (es : List Entry) → Recording ss es
      → (handed (wholly fresh es) ≡ unharmed ss) × Numbered (wholly fresh es) × Owed ss (wholly fresh es)
  -- such recordings exist, whatever was sent and whatever befell it
  pub recordings_exist : (ss : List Sent) → (es : List Entry) × Recording ss es
  -- and the reader tells what splitting a recording into bundles tells
  pub bundle_by_bundle : (es : List Entry) → wholly fresh es ≡ map bundle_told (bundles es)
  -- and a run over two lent runs of bytes and silences hands back what single steps would: the reader, the answer, the
  -- bytes handed out and the place reached
  pub a_run_is_single_steps :
      (r : Reader) (bytes silences : List ℕ) (place : ℕ) → ReaderInRange r → length bytes ≡ length silences
      → place ≤ length bytes
      → SingleSteps bytes silences r place (ran_of r bytes silences place)
  -- so that run after run tells the same, and nothing else
  pub run_after_run_tells_what_single_steps_tell :
      (r : Reader) (bytes silences : List ℕ) → ReaderInRange r → length bytes ≡ length silences
      → RunAfterRun bytes silences r 0 (wholly r (entries bytes silences))
  pub run_after_run_tells_one_thing :
      (bytes silences : List ℕ) (r : Reader) (place : ℕ) (told other : List Told)
      → RunAfterRun bytes silences r place told → RunAfterRun bytes silences r place other → told ≡ other
  -- and of such a recording in two lent runs what the demand says
  pub run_after_run :
      (ss : List Sent) (bytes silences : List ℕ) → length bytes ≡ length silences
      → Recording ss (entries bytes silences)
      → (told : List Told) × RunAfterRun bytes silences fresh 0 told
      × (handed told ≡ unharmed ss) × Numbered told × Owed ss told
