-- What is promised of striking a motor out.
-- Assumes nothing.
use Prim.Native.Nat.{ℕ, suc, ◌≤◌, ◌<◌}
use native.Mathlib.Omega.{arith}
use mathlib.Core.Path.{◌≡◌, refl, ◌∙◌, ap, ap₂, subst}
use mathlib.Core.Logic.{◌≢◌}
use mathlib.Core.Bool.{true}
use mathlib.Core.List.{List}
use mathlib.Core.Option.{none}
use lib.ListN.{length}
use Rattle.meaning.specs.Tables.{of_decided}
use Rattle.refusal.specs.declared.Refusal.{Refusal}
use Rattle.motors.specs.Register.{held, filled, sound_of, found_in, found, Right}
use Rattle.motors.specs.Report.{report_of, Report}
use Rattle.runs.specs.Ordered.{is_some, without}
use Rattle.runs.proofs.Order.{else_false}
use Rattle.runs.proofs.Removing.{
  without_it_the_key_is_gone,
  without_leaves_every_other_key,
  without_keeps_the_order,
  without_one_held_is_one_less,
  without_keeps_the_kind,
}
use Rattle.motors.specs.Order.{by_line_and_node, Key, same, same_is}
use Rattle.motors.specs.Filing.{keeping, strike_table, struck_of, filing_of, filed_of, kept_of, entered, count_after}
use Rattle.motors.specs.declared.answer.Next.{Next}
use Rattle.motors.specs.declared.motor.Motor.{Motor}
use Rattle.motors.proofs.Sound.{sound_is, is_sound_lem, length_held, held_again}
use Rattle.motors.proofs.Entered.{entered_at_most_one_more}
use Rattle.motors.proofs.Rows.{kept_by, as_reported}
use Rattle.motors.specs.Answer.{Answer}
use Rattle.std.specs.Prelude.{Ok, Err}

module _ (run : List Motor) (count line node : ℕ) where
  -- A motor that is struck out: the register was sound and held it.
  record Gone (motors : List Motor) (n : ℕ) : Type 0 where
    ok : sound_of run count ≡ true
    was_held : is_some (found run count line node) ≡ true
    places : motors ≡ filled (without by_line_and_node (held run count) (line, node))
    number : n ≡ length (without by_line_and_node (held run count) (line, node))

  abbrev Struck : Next → Answer → Type 0
  Struck x (Ok n) = Gone x.motors n
  Struck x (Err r) = x.motors ≡ run

  abbrev As : Next → Type 0
  As x = Struck x x.answer

  struck_as : As (struck_of run count line node)
  unfolding struck_of
  struck_as =
      of_decided As (strike_table run count line node) (keeping (without by_line_and_node (held run count) (line, node))) (search) (λ facts. search)

  abbrev after : Next
  after = struck_of run count line node

  -- ---- demand 1
  pub a_refused_striking_changes_no_record : (r : Refusal) → after.answer ≡ Err r → after.motors ≡ run
  a_refused_striking_changes_no_record r e = subst (Struck after) e struck_as

  module _ (n : ℕ) (accepted : after.answer ≡ Ok n) where
    done : Gone after.motors n
    done = subst (Struck after) accepted struck_as

    records : held after.motors n ≡ without by_line_and_node (held run count) (line, node)
    records = ap₂ held done.places done.number ∙ held_again (without by_line_and_node (held run count) (line, node))

    pub the_motor_struck_out_is_gone : found after.motors n line node ≡ none
    the_motor_struck_out_is_gone =
        ap (λ (l : List Motor). found_in l line node) records
        ∙ without_it_the_key_is_gone by_line_and_node (held run count) (line, node) (sound_is run count done.ok).ascending

    pub every_other_motor_stays : (line' node' : ℕ) → (line ≡ line' → node ≡ node' → ⊥)
        → found after.motors n line' node' ≡ found run count line' node'
    every_other_motor_stays line' node' other =
        ap (λ (l : List Motor). found_in l line' node') records
        ∙ without_leaves_every_other_key by_line_and_node (held run count) (line, node) (line', node')
        (else_false (same (line, node) (line', node')) (λ s.
        let its = same_is (line, node) (line', node') s in
        other (ap (λ (k : Key). k.0) its) (ap (λ (k : Key). k.1) its)))

    pub the_same_number_on_another_line_stays : (line' : ℕ) → line ≢ line' → found after.motors n line' node ≡ found run count line' node
    the_same_number_on_another_line_stays line' other = every_other_motor_stays line' node (λ l k. other l)

    -- ---- the place is given back
    pub one_place_is_given_back : suc n ≡ count
    one_place_is_given_back =
        ap suc done.number ∙ without_one_held_is_one_less by_line_and_node (held run count) (line, node) done.was_held
        ∙ length_held run count done.ok

    pub the_register_stays_sound : sound_of after.motors n ≡ true
    the_register_stays_sound =
        let l = without by_line_and_node (held run count) (line, node) in
        let few : length l ≤ 256 = omega (arith, one_place_is_given_back, done.number, (sound_is run count done.ok).at_most_256) in
        let sound = sound_is run count done.ok in
        ap₂ sound_of done.places done.number
        ∙ is_sound_lem l few
        (without_keeps_the_kind by_line_and_node Right (held run count) (line, node) sound.all_right)
        (without_keeps_the_order by_line_and_node (held run count) (line, node) sound.ascending)

  still_sound : (x : Answer) → after.answer ≡ x → sound_of run count ≡ true → sound_of after.motors (count_after count x) ≡ true
  still_sound (Ok n) e ok = the_register_stays_sound n e
  still_sound (Err r) e ok = ap (λ (l : List Motor). sound_of l count) (a_refused_striking_changes_no_record r e) ∙ ok

  pub a_sound_register_stays_sound : sound_of run count ≡ true → sound_of after.motors (count_after count after.answer) ≡ true
  a_sound_register_stays_sound ok = still_sound after.answer refl ok

-- With room for one more, whatever a frame reports is entered.
module _ (run : List Motor) (count line : ℕ) (b : List ℕ) (ok : sound_of run count ≡ true) (room : count < 256) where
  with_room : (m : Motor) → (kept_of run (entered (held run count) m)).answer ≡ Ok (length (entered (held run count) m))
  with_room m =
      let most = (entered_at_most_one_more (held run count) m (sound_is run count ok).ascending).1 in
      ap (λ (x : Next). x.answer) (kept_by run (entered (held run count) m) 1 (omega (arith, most, length_held run count ok), tt))

  pub a_motor_reported_gets_a_place : (m : Motor) → report_of line b ≡ Ok m
      → (filed_of run count line b).answer ≡ Ok (length (entered (held run count) m))
  a_motor_reported_gets_a_place m e =
      ap (λ (r : Report). (filing_of entered run count r).answer) e ∙ ap (λ (x : Next). x.answer) (as_reported entered run count (Ok m) ok)
      ∙ with_room m

-- The place given back serves whatever motor is reported next, even where 256 were held.
pub a_later_enrolment_may_use_the_place : (run : List Motor) (count line node n : ℕ) → (struck_of run count line node).answer ≡ Ok n
    → (line' : ℕ) (b : List ℕ) (m : Motor) → report_of line' b ≡ Ok m
    → (filed_of (struck_of run count line node).motors n line' b).answer ≡ Ok (length (entered (held (struck_of run count line node).motors n) m))
a_later_enrolment_may_use_the_place run count line node n e line' b m r =
    let sound = the_register_stays_sound run count line node n e in
    a_motor_reported_gets_a_place (struck_of run count line node).motors n line' b sound
    (omega (arith, one_place_is_given_back run count line node n e, few_before run count line node n e)) m r
  where
    few_before : (run : List Motor) (count line node n : ℕ) → (struck_of run count line node).answer ≡ Ok n → count ≤ 256
    few_before run count line node n e = (sound_is run count (done run count line node n e).ok).at_most_256
