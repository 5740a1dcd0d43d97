-- Demand 3 is kept.
-- Assumes nothing.
use Prim.Native.Nat.{ℕ}
use mathlib.Core.Path.{◌≡◌}
use mathlib.Core.List.{List}
use lib.ListN.{length}
use Rattle.line.specs.Reader.{fresh}
use Rattle.line.specs.Telling.{Told, wholly, entries}
use Rattle.line.specs.Damage.{Sent, Recording, unharmed, handed, Numbered, Owed}
use Rattle.line.proofs.Demand3.{demand_3}
use Rattle.line.proofs.Machine.{agrees}
use Rattle.line.proofs.Sense.{recorded}
use Rattle.promises.specs.Demand3.{RunAfterRun, Demand3}
use Rattle.promises.proofs.ReaderInRange.{fresh_in_range}
use Rattle.promises.proofs.RunAfterRun.{single_steps, as_single_steps, one_thing}

over_lent_runs : (ss : List Sent) (bytes silences : List ℕ) → length bytes ≡ length silences → Recording ss (entries bytes silences)
    → (told : List Told) × RunAfterRun bytes silences fresh 0 told × (handed told ≡ unharmed ss) × Numbered told × Owed ss told
over_lent_runs ss bytes silences same r =
    let d = demand_3 ss (entries bytes silences) r in
    (wholly fresh (entries bytes silences), as_single_steps bytes silences same fresh fresh_in_range, d.0, d.1, d.2)

pub kept : Demand3
kept =
    record {
      unharmed_only = demand_3;
      recordings_exist = recorded;
      bundle_by_bundle = agrees;
      a_run_is_single_steps = λ r bytes silences place i same. single_steps bytes silences same r place i;
      run_after_run_tells_what_single_steps_tell = λ r bytes silences i same. as_single_steps bytes silences same r i;
      run_after_run_tells_one_thing = one_thing;
      run_after_run = over_lent_runs;
    }
