-- Every public contract of the crate is determined.
-- Assumes nothing.
use mathlib.Core.Path.{◌∙◌, sym}
use Rattle.meaning.specs.Determined.{Once}
use Rattle.motors.proofs.motor.unread.Kinds as unread_kinds
use Rattle.motors.proofs.motor.unread.Reads as unread
use Rattle.motors.proofs.motor.key.Kinds as key_kinds
use Rattle.motors.proofs.motor.key.Reads as key
use Rattle.motors.proofs.motor.is_reading.Kinds as is_reading_kinds
use Rattle.motors.proofs.motor.is_reading.Reads as is_reading_lem
use Rattle.motors.proofs.motor.follows.Kinds as follows_kinds
use Rattle.motors.proofs.motor.follows.Reads as follows
use Rattle.motors.proofs.found.found_by.Kinds as found_by_kinds
use Rattle.motors.proofs.found.found_by.Reads as found_by_lem
use Rattle.motors.proofs.found.gather.Kinds as gather_kinds
use Rattle.motors.proofs.found.gather.Reads as gather
use Rattle.motors.proofs.passing.Passing.begun.Kinds as begun_kinds
use Rattle.motors.proofs.passing.Passing.begun.Reads as begun
use Rattle.motors.proofs.passing.Passing.past.Kinds as past_kinds
use Rattle.motors.proofs.passing.Passing.past.Reads as past
use Rattle.motors.proofs.edit.to_enrol.Kinds as to_enrol_kinds
use Rattle.motors.proofs.edit.to_enrol.Reads as to_enrol_lem
use Rattle.motors.proofs.edit.to_file.Kinds as to_file_kinds
use Rattle.motors.proofs.edit.to_file.Reads as to_file_lem
use Rattle.motors.proofs.edit.to_strike.Kinds as to_strike_kinds
use Rattle.motors.proofs.edit.to_strike.Reads as to_strike_lem
use Rattle.motors.proofs.report.read_report.Kinds as read_report_kinds
use Rattle.motors.proofs.report.read_report.Reads as read_report
use Rattle.motors.proofs.report.subject.Kinds as subject_kinds
use Rattle.motors.proofs.report.subject.Reads as subject
use Rattle.motors.proofs.report.shows_reading.Kinds as shows_reading_kinds
use Rattle.motors.proofs.report.shows_reading.Reads as shows_reading_lem

pub record Determined : Type 0 where
  pub unread_once : Once unread_kinds.ps unread_kinds.r unread.Post
  pub key_once : Once key_kinds.ps key_kinds.r key.Post
  pub is_reading_once : Once is_reading_kinds.ps is_reading_kinds.r is_reading_lem.Post
  pub follows_once : Once follows_kinds.ps follows_kinds.r follows.Post
  pub found_by_once : Once found_by_kinds.ps found_by_kinds.r found_by_lem.Post
  pub gather_once : Once gather_kinds.ps gather_kinds.r gather.Post
  pub begun_once : Once begun_kinds.ps begun_kinds.r begun.Post
  pub past_once : Once past_kinds.ps past_kinds.r past.Post
  pub to_enrol_once : Once to_enrol_kinds.ps to_enrol_kinds.r to_enrol_lem.Post
  pub to_file_once : Once to_file_kinds.ps to_file_kinds.r to_file_lem.Post
  pub to_strike_once : Once to_strike_kinds.ps to_strike_kinds.r to_strike_lem.Post
  pub read_report_once : Once read_report_kinds.ps read_report_kinds.r read_report.Post
  pub subject_once : Once subject_kinds.ps subject_kinds.r subject.Post
  pub shows_reading_once : Once shows_reading_kinds.ps shows_reading_kinds.r shows_reading_lem.Post

pub determined : Determined
determined =
    record {
      unread_once = λ κs a x y s t p q. p ∙ sym q;
      key_once = λ κs a x y s t p q. p ∙ sym q;
      is_reading_once = λ κs a x y s t p q. p ∙ sym q;
      follows_once = λ κs a x y s t p q. p ∙ sym q;
      found_by_once = λ κs a x y s t p q. p ∙ sym q;
      gather_once = λ κs a x y s t p q. p ∙ sym q;
      begun_once = λ κs a x y s t p q. p ∙ sym q;
      past_once = λ κs a x y s t p q. p ∙ sym q;
      to_enrol_once = λ κs a x y s t p q. p ∙ sym q;
      to_file_once = λ κs a x y s t p q. p ∙ sym q;
      to_strike_once = λ κs a x y s t p q. p ∙ sym q;
      read_report_once = λ κs a x y s t p q. p ∙ sym q;
      subject_once = λ κs a x y s t p q. p ∙ sym q;
      shows_reading_once = λ κs a x y s t p q. p ∙ sym q;
    }
