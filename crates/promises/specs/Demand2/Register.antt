-- Demand 2, the register: each reading is filed under line AND NodeID, and no other motor's record is touched.
-- Assumes nothing.
use Rattle.std.specs.Prelude.{ℕ, ◌+◌, ◌*◌, ◌<◌, ◌≡◌, ◌≢◌, ◌↔◌, List, Ok, Err}
use Rattle.std.proofs.Math.Option.{none, some}
use Rattle.motors.specs.{Register.{found}, Filing.{filed_of, struck_of}, declared.{motor.Motor.{Motor}}}
use Rattle.promises.specs.Wire.{raw, message, source}
use Rattle.promises.specs.RegisterInRange.{Holds, no_motors, at, RegisterInRange}
use Rattle.promises.specs.Fileable.{IsHeld, Fileable, Strikeable}
use Rattle.motors.specs.Answer.{Answer}

-- How many motors are held after a call: as many as it answers, or as before where it refuses.
abbrev pub held_after : (before : ℕ) → Answer → ℕ
held_after before (Ok n) = n
held_after before (Err refusal) = before

-- What holds when a bundle from a line is filed in a run with its count: then `n` motors are held, in the run `after`.
pub record Filed (run : List Motor) (count line : ℕ) (b : List ℕ) (after : List Motor) (n : ℕ) : Type 0 where
  pub a_reading_is_found_under_line_and_node_id :
      message b ≡ 0x0D
      → (m : Motor) × ((found after n line (source b) ≡ some m)
      × Holds m line (source b) 1 (raw b 9 + 256 * raw b 10) (raw b 11) (raw b 13))
  pub a_new_motor_that_names_itself_is_held :
      message b ≡ 0x60 → found run count line (source b) ≡ none
      → (m : Motor) × ((found after n line (source b) ≡ some m) × Holds m line (source b) 0 0 0 0)
  pub a_60h_changes_no_reading :
      message b ≡ 0x60 → (m : Motor) → found run count line (source b) ≡ some m
      → found after n line (source b) ≡ some m
  pub a_60h_of_a_motor_held_changes_no_place : message b ≡ 0x60 → IsHeld run count line (source b) → after ≡ run
  pub every_other_motor_is_as_before :
      (line' node' : ℕ) → (line ≡ line' → source b ≡ node' → ⊥)
      → found after n line' node' ≡ found run count line' node'
  pub two_wings_one_number : (line' : ℕ) → line ≢ line'
      → found after n line' (source b) ≡ found run count line' (source b)
  pub no_motor_held_is_lost : (line' node' : ℕ) → IsHeld run count line' node' → IsHeld after n line' node'
  pub a_motor_held_is_not_counted_again : IsHeld run count line (source b) → n ≡ count
  pub a_new_motor_is_one_more : found run count line (source b) ≡ none → n ≡ count + 1

-- What holds when a motor is struck out: the same of `after` and `n`.
pub record StruckOut (run : List Motor) (count line node : ℕ) (after : List Motor) (n : ℕ) : Type 0 where
  pub the_motor_is_gone : found after n line node ≡ none
  pub every_other_motor_stays : (line' node' : ℕ) → (line ≡ line' → node ≡ node' → ⊥)
      → found after n line' node' ≡ found run count line' node'
  pub its_place_is_given_back : n + 1 ≡ count

pub record Register : Type 0 where
  pub a_run_of_zeros_holds_no_motor : RegisterInRange no_motors 0
  pub found_exactly_when_it_stands_in_the_run :
      (run : List Motor) (count : ℕ) → RegisterInRange run count → (line node : ℕ) (m : Motor)
      → (found run count line node ≡ some m)
      ↔ ((place : ℕ) × ((place < count) × ((at run place ≡ m) × ((m.line ≡ line) × (m.node ≡ node)))))
  pub the_count_is_the_records_held :
      (run : List Motor) (count : ℕ) → RegisterInRange run count → (place : ℕ) → place < 256
      → ((at run place).node ≢ 0) ↔ (place < count)
  pub filed_exactly_when_fileable :
      (run : List Motor) (count line : ℕ) (b : List ℕ)
      → Fileable run count line b ↔ ((n : ℕ) × ((filed_of run count line b).answer ≡ Ok n))
  pub what_is_filed :
      (run : List Motor) (count line : ℕ) (b : List ℕ) (n : ℕ) → (filed_of run count line b).answer ≡ Ok n
      → Filed run count line b (filed_of run count line b).motors n
  pub struck_out_exactly_when_held :
      (run : List Motor) (count line node : ℕ)
      → Strikeable run count line node ↔ ((n : ℕ) × ((struck_of run count line node).answer ≡ Ok n))
  pub what_is_struck_out :
      (run : List Motor) (count line node n : ℕ) → (struck_of run count line node).answer ≡ Ok n
      → StruckOut run count line node (struck_of run count line node).motors n
  -- row 19 never applies after a call, done or refused: in order, in range, zeros behind the records held
  pub register_once_sound_always_sound :
      (run : List Motor) (count line : ℕ) (b : List ℕ) → RegisterInRange run count
      → RegisterInRange (filed_of run count line b).motors (held_after count (filed_of run count line b).answer)
  pub struck_out_still_sound :
      (run : List Motor) (count line node : ℕ) → RegisterInRange run count
      → RegisterInRange (struck_of run count line node).motors (held_after count (struck_of run count line node).answer)
