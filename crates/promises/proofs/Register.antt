-- Demand 2 of the register is kept.
-- Assumes nothing.
use Prim.Native.Nat.{ℕ, ◌<◌}
use native.Mathlib.Omega.{arith}
use mathlib.Core.Path.{◌≡◌, refl, ap}
use mathlib.Core.Logic.{◌≢◌, ◌↔◌}
use mathlib.Core.List.{List}
use lib.Dec.{ltb}
use lib.ListN.{get_or-replicate}
use borrow.Author.Tests.{ltb-true, ltb-false}
use Rattle.meaning.specs.Cases.{by_test}
use Rattle.frame.specs.Layout.{source}
use Rattle.motors.specs.Register.{found}
use Rattle.motors.specs.Filing.{filed_of, struck_of}
use Rattle.motors.specs.declared.motor.Motor.{Motor}
use Rattle.motors.proofs.Entered.{more}
use Rattle.motors.proofs.FilingLaws.{
  a_60h_changes_no_reading,
  a_60h_of_a_motor_held_changes_no_place,
  every_other_motor_is_untouched,
  the_same_number_on_another_line_is_untouched,
  no_motor_held_is_lost,
  the_count_grows_for_a_new_motor_alone,
}
use Rattle.motors.proofs.FilingLaws as filing
use Rattle.motors.proofs.StrikingLaws.{the_motor_struck_out_is_gone, every_other_motor_stays, one_place_is_given_back}
use Rattle.motors.proofs.StrikingLaws as striking
use Rattle.promises.specs.RegisterInRange.{no_motor, no_motors, at, RegisterInRange}
use Rattle.promises.specs.Demand2.Register.{held_after, Filed, StruckOut, Register}
use Rattle.promises.proofs.Held.{found_some}
use Rattle.promises.proofs.RegisterInRange.{zeros_hold, row_19, so_sound, found_exactly_when}
use Rattle.promises.proofs.Readings.{read_from_the_bytes, named}
use Rattle.promises.proofs.Fileable.{filed_exactly_when, struck_exactly_when}
use Rattle.std.specs.Prelude.{Ok}

no_motors_lem : RegisterInRange no_motors 0
no_motors_lem =
    record {
      of_256_places = refl;
      at_most_256_motors = omega arith;
      every_record_held_is_in_range = λ place h. absurd (omega arith);
      records_ascend_by_line_then_node_id = λ first later h k. absurd (omega arith);
      every_other_place_is_zeros = λ place h k. zeros_hold (at no_motors place) (get_or-replicate 256 place no_motor no_motor k);
    }

-- A place holds a motor exactly when it is one of those counted.
counted : (run : List Motor) (count : ℕ) → RegisterInRange run count → (place : ℕ) → place < 256 → ((at run place).node ≢ 0) ↔ (place < count)
counted run count r place h = (within, λ k e. omega (arith, e, (r.every_record_held_is_in_range place k).node_id_from_000001h))
  where
    within : (at run place).node ≢ 0 → place < count
    within some =
        by_test (ltb place count) (ltb-true place count)
        (λ t. absurd (some (r.every_other_place_is_zeros place (ltb-false place count t) h).the_node_id))

filed : (run : List Motor) (count line : ℕ) (b : List ℕ) (n : ℕ) → (filed_of run count line b).answer ≡ Ok n
    → Filed run count line b (filed_of run count line b).motors n
filed run count line b n e =
    let before = found run count line (source b).0 in
    let number = the_count_grows_for_a_new_motor_alone run count line b n e in
    record {
      a_reading_is_found_under_line_and_node_id = read_from_the_bytes run count line b n e;
      a_new_motor_that_names_itself_is_held = named run count line b n e;
      a_60h_changes_no_reading = a_60h_changes_no_reading run count line b n e;
      a_60h_of_a_motor_held_changes_no_place =
          λ m held. a_60h_of_a_motor_held_changes_no_place run count line b n e m ((found_some before).0 held);
      every_other_motor_is_as_before = every_other_motor_is_untouched run count line b n e;
      two_wings_one_number = the_same_number_on_another_line_is_untouched run count line b n e;
      no_motor_held_is_lost =
          λ line' node' held. (found_some _).1 (no_motor_held_is_lost run count line b n e line' node' ((found_some _).0 held));
      a_motor_held_is_not_counted_again = λ held. omega (arith, number, ap more held.1);
      a_new_motor_is_one_more = λ new. omega (arith, number, ap more new);
    }

struck_out : (run : List Motor) (count line node n : ℕ) → (struck_of run count line node).answer ≡ Ok n
    → StruckOut run count line node (struck_of run count line node).motors n
struck_out run count line node n e =
    record {
      the_motor_is_gone = the_motor_struck_out_is_gone run count line node n e;
      every_other_motor_stays = every_other_motor_stays run count line node n e;
      its_place_is_given_back = omega (arith, one_place_is_given_back run count line node n e);
    }

still_in_range : (run : List Motor) (count line : ℕ) (b : List ℕ) → RegisterInRange run count
    → RegisterInRange (filed_of run count line b).motors (held_after count (filed_of run count line b).answer)
still_in_range run count line b r = row_19 _ _ (filing.a_sound_register_stays_sound run count line b (so_sound run count r))

pub register : Register
register =
    record {
      a_run_of_zeros_holds_no_motor = no_motors_lem;
      found_exactly_when_it_stands_in_the_run = λ run count r. found_exactly_when run count (so_sound run count r);
      the_count_is_the_records_held = counted;
      filed_exactly_when_fileable = filed_exactly_when;
      what_is_filed = filed;
      struck_out_exactly_when_held = struck_exactly_when;
      what_is_struck_out = struck_out;
      register_once_sound_always_sound = still_in_range;
      struck_out_still_sound = λ run count line node r. row_19 _ _ (striking.a_sound_register_stays_sound run count line node (so_sound run count r));
    }
