-- What is promised of a frame that is filed.
-- Assumes nothing.
use Prim.Native.Nat.{ℕ, suc, ◌+◌, ◌≤◌}
use native.Mathlib.Omega.{arith}
use mathlib.Core.Path.{◌≡◌, refl, ◌∙◌, sym, ap, ap₂, subst}
use mathlib.Core.Logic.{◌≢◌}
use mathlib.Core.Bool.{true}
use mathlib.Core.List.{List}
use mathlib.Core.Option.{Option, none, some}
use lib.ListN.{length}
use Rattle.meaning.specs.Tables.{of_decided}
use Rattle.refusal.specs.declared.Refusal.{Refusal}
use Rattle.frame.specs.Layout.{message, source, header_of, data_of}
use Rattle.frame.specs.Reading.{IsFrame}
use Rattle.runs.proofs.Order.{else_false}
use Rattle.motors.specs.Motor.{unread, with_reading, marked}
use Rattle.motors.specs.Register.{held, filled, sound_of, found_in, found}
use Rattle.motors.specs.Report.{report_of, pulse_in, percent_in, ip_in, Report}
use Rattle.runs.specs.Ordered.{is_some}
use Rattle.motors.specs.Order.{Key, key_of, same, same_is}
use Rattle.motors.specs.Filing.{keeping, entered, keep_table, kept_of, reported_by, file_table, filing_of, filed_of, count_after}
use Rattle.motors.specs.declared.answer.Next.{Next}
use Rattle.motors.specs.declared.motor.Motor.{Motor}
use Rattle.motors.proofs.Sound.{sound_is, is_sound_lem, length_held, held_again}
use Rattle.motors.proofs.Entered.{
  renewed_if,
  more,
  entered_itself,
  entered_again,
  entered_another,
  entered_keeps,
  entered_number,
  entered_at_most_one_more,
  entered_ascends,
  entered_right,
}
use Rattle.motors.proofs.Shown.{Shown, seen}
use Rattle.motors.specs.Answer.{Answer}
use Rattle.std.specs.Prelude.{Ok, Err}

-- A reading takes the place of whatever was there.
latest : (f : Option Motor) (line node pulse percent ip : ℕ)
    → renewed_if f (with_reading line node pulse percent ip) ≡ with_reading line node pulse percent ip
latest none line node pulse percent ip = refl
latest (some x) line node pulse percent ip = refl

module _ (run : List Motor) (count line : ℕ) (b : List ℕ) where
  -- A frame that is filed: the register was sound, and the motor that the frame shows is entered.
  record Entered (motors : List Motor) (n : ℕ) : Type 0 where
    ok : sound_of run count ≡ true
    motor : Motor
    is_frame : IsFrame b
    shown : Shown line (header_of b) (data_of b) motor
    at_most_256 : length (entered (held run count) motor) ≤ 256
    places : motors ≡ filled (entered (held run count) motor)
    number : n ≡ length (entered (held run count) motor)

  abbrev Filed : Next → Answer → Type 0
  Filed x (Ok n) = Entered x.motors n
  Filed x (Err r) = x.motors ≡ run

  abbrev As : Next → Type 0
  As x = Filed x x.answer

  entered_as : sound_of run count ≡ true → (m : Motor) → report_of line b ≡ Ok m → As (kept_of run (entered (held run count) m))
  unfolding kept_of
  entered_as ok m e =
      let s = seen line b m e in
      of_decided As (keep_table run (entered (held run count) m)) (keeping (entered (held run count) m)) (refl, tt)
      (λ facts. record {
        ok = ok;
        motor = m;
        is_frame = s.0;
        shown = s.1;
        at_most_256 = facts.0;
        places = refl;
        number = refl;
      })

  reported_as : sound_of run count ≡ true → (r : Report) → report_of line b ≡ r → As (reported_by entered run count r)
  reported_as ok (Ok m) e = entered_as ok m e
  reported_as ok (Err q) e = refl

  filed_as : As (filed_of run count line b)
  unfolding filing_of
  filed_as =
      of_decided As (file_table run count) (reported_by entered run count (report_of line b)) (refl, tt)
      (λ facts. reported_as facts.0 (report_of line b) refl)

  abbrev after : Next
  after = filed_of run count line b

  -- ---- demand 1
  pub a_refused_frame_changes_no_record : (r : Refusal) → after.answer ≡ Err r → after.motors ≡ run
  a_refused_frame_changes_no_record r e = subst (Filed after) e filed_as

  module _ (n : ℕ) (accepted : after.answer ≡ Ok n) where
    done : Entered after.motors n
    done = subst (Filed after) accepted filed_as

    records : held after.motors n ≡ entered (held run count) done.motor
    records = ap₂ held done.places done.number ∙ held_again (entered (held run count) done.motor)

    same_line : done.motor.line ≡ line
    same_line = done.shown.on_its_line

    same_number : done.motor.node ≡ (source b).0
    same_number = done.shown.of_the_sender

    found_now : found after.motors n line (source b).0 ≡ some (renewed_if (found run count line (source b).0) done.motor)
    found_now =
        ap₂ (found_in (held after.motors n)) (sym same_line) (sym same_number)
        ∙ ap (λ (l : List Motor). found_in l done.motor.line done.motor.node) records
        ∙ entered_itself (held run count) done.motor
        ∙ ap₂ (λ (l k : ℕ). some (renewed_if (found run count l k) done.motor)) same_line same_number

    -- ---- demand 2: what is filed is found under its line and NodeID
    pub a_position_report_is_kept : message b ≡ 0x0D
        → found after.motors n line (source b).0
        ≡ some (with_reading line (source b).0 (pulse_in (data_of b)) (percent_in (data_of b)) (ip_in (data_of b)))
    a_position_report_is_kept e =
        found_now
        ∙ ap (λ (m : Motor). some (renewed_if (found run count line (source b).0) m)) (done.shown.by_0dh e)
        ∙ ap some (latest (found run count line (source b).0) line (source b).0 (pulse_in (data_of b)) (percent_in (data_of b)) (ip_in (data_of b)))

    pub a_motor_that_names_itself_is_held : message b ≡ 0x60 → found run count line (source b).0 ≡ none
        → found after.motors n line (source b).0 ≡ some (unread line (source b).0)
    a_motor_that_names_itself_is_held e new =
        found_now ∙ ap₂ (λ (f : Option Motor) (m : Motor). some (renewed_if f m)) new (done.shown.by_60h e)

    pub a_60h_changes_no_reading : message b ≡ 0x60 → (x : Motor) → found run count line (source b).0 ≡ some x
        → found after.motors n line (source b).0 ≡ some x
    a_60h_changes_no_reading e x old =
        found_now ∙ ap₂ (λ (f : Option Motor) (m : Motor). some (renewed_if f m)) old (done.shown.by_60h e)

    pub a_60h_of_a_motor_held_changes_no_place : message b ≡ 0x60 → is_some (found run count line (source b).0) ≡ true → after.motors ≡ run
    a_60h_of_a_motor_held_changes_no_place e h =
        let there = ap₂ (λ (l k : ℕ). is_some (found run count l k)) same_line same_number ∙ h in
        done.places
        ∙ ap filled (entered_again (held run count) done.motor (ap marked (done.shown.by_60h e)) there)
        ∙ sym (sound_is run count done.ok).zeros_behind

    -- ---- nothing else changes: the same number on another line is another motor
    pub every_other_motor_is_untouched : (line' node' : ℕ) → (line ≡ line' → (source b).0 ≡ node' → ⊥)
        → found after.motors n line' node' ≡ found run count line' node'
    every_other_motor_is_untouched line' node' other =
        ap (λ (l : List Motor). found_in l line' node') records
        ∙ entered_another (held run count) done.motor (line', node') (else_false (same (key_of done.motor) (line', node')) differs)
      where
        differs : same (key_of done.motor) (line', node') ≡ true → ⊥
        differs s =
            let its = same_is (key_of done.motor) (line', node') s in
            other (sym same_line ∙ ap (λ (k : Key). k.0) its) (sym same_number ∙ ap (λ (k : Key). k.1) its)

    pub the_same_number_on_another_line_is_untouched : (line' : ℕ) → line ≢ line'
        → found after.motors n line' (source b).0 ≡ found run count line' (source b).0
    the_same_number_on_another_line_is_untouched line' other = every_other_motor_is_untouched line' (source b).0 (λ l k. other l)

    -- ---- nothing held is lost
    pub no_motor_held_is_lost : (line' node' : ℕ) → is_some (found run count line' node') ≡ true → is_some (found after.motors n line' node') ≡ true
    no_motor_held_is_lost line' node' h =
        ap (λ (l : List Motor). is_some (found_in l line' node')) records ∙ entered_keeps (held run count) done.motor (line', node') h

    -- ---- the count
    pub the_count_grows_for_a_new_motor_alone : n ≡ more (found run count line (source b).0) + count
    the_count_grows_for_a_new_motor_alone =
        done.number
        ∙ entered_number (held run count) done.motor (sound_is run count done.ok).ascending
        ∙ ap₂ ◌+◌ (ap₂ (λ (l k : ℕ). more (found run count l k)) same_line same_number) (length_held run count done.ok)

    pub the_count_grows_by_at_most_one : (count ≤ n) × (n ≤ suc count)
    the_count_grows_by_at_most_one =
        let g = entered_at_most_one_more (held run count) done.motor (sound_is run count done.ok).ascending in
        (omega (arith, g.0, done.number, length_held run count done.ok), omega (arith, g.1, done.number, length_held run count done.ok))

    -- ---- row 19 is kept
    pub the_register_stays_sound : sound_of after.motors n ≡ true
    the_register_stays_sound =
        let sound = sound_is run count done.ok in
        ap₂ sound_of done.places done.number
        ∙ is_sound_lem (entered (held run count) done.motor) done.at_most_256
        (entered_right (held run count) done.motor sound.all_right done.shown.right)
        (entered_ascends (held run count) done.motor sound.ascending)

  -- A register once sound stays so, whatever is filed.
  still_sound : (x : Answer) → after.answer ≡ x → sound_of run count ≡ true → sound_of after.motors (count_after count x) ≡ true
  still_sound (Ok n) e ok = the_register_stays_sound n e
  still_sound (Err r) e ok = ap (λ (l : List Motor). sound_of l count) (a_refused_frame_changes_no_record r e) ∙ ok

  pub a_sound_register_stays_sound : sound_of run count ≡ true → sound_of after.motors (count_after count after.answer) ≡ true
  a_sound_register_stays_sound ok = still_sound after.answer refl ok
