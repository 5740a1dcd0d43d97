-- Each contract gives the whole result, so any two outcomes that it allows are equal.
-- Assumes nothing.
use mathlib.Core.Path.{sym, ◌∙◌}
use Rattle.meaning.specs.Determined.{Once}
use Rattle.serial.proofs.serial_of.Kinds as serial_of_kinds
use Rattle.serial.proofs.serial_of.Reads as serial_of_lem
use Rattle.serial.proofs.origin.is_origin.Kinds as is_origin_kinds
use Rattle.serial.proofs.origin.is_origin.Reads as is_origin_lem
use Rattle.serial.proofs.words.Serial.none.Kinds as none_kinds
use Rattle.serial.proofs.words.Serial.none.Reads as none
use Rattle.serial.proofs.words.Serial.of.Kinds as of_kinds
use Rattle.serial.proofs.words.Serial.of.Reads as of
use Rattle.serial.proofs.words.Serial.characters.Kinds as characters_kinds
use Rattle.serial.proofs.words.Serial.characters.Reads as characters
use Rattle.serial.proofs.words.Serial.is_none.Kinds as is_none_kinds
use Rattle.serial.proofs.words.Serial.is_none.Reads as is_none
use Rattle.serial.proofs.words.Serial.is_right.Kinds as is_right_kinds
use Rattle.serial.proofs.words.Serial.is_right.Reads as is_right
use Rattle.serial.proofs.words.Serial.is_before.Kinds as is_before_kinds
use Rattle.serial.proofs.words.Serial.is_before.Reads as is_before
use Rattle.serial.proofs.words.Serial.is_same.Kinds as is_same_kinds
use Rattle.serial.proofs.words.Serial.is_same.Reads as is_same

pub record Determined : Type 0 where
  pub serial_of_once : Once serial_of_kinds.ps serial_of_kinds.r serial_of_lem.Post
  pub is_origin_once : Once is_origin_kinds.ps is_origin_kinds.r is_origin_lem.Post
  pub none_once : Once none_kinds.ps none_kinds.r none.Post
  pub of_once : Once of_kinds.ps of_kinds.r of.Post
  pub characters_once : Once characters_kinds.ps characters_kinds.r characters.Post
  pub is_none_once : Once is_none_kinds.ps is_none_kinds.r is_none.Post
  pub is_right_once : Once is_right_kinds.ps is_right_kinds.r is_right.Post
  pub is_before_once : Once is_before_kinds.ps is_before_kinds.r is_before.Post
  pub is_same_once : Once is_same_kinds.ps is_same_kinds.r is_same.Post

pub determined : Determined
determined = record {
  serial_of_once = λ κs a x y s t p q. p ∙ sym q;
  is_origin_once = λ κs a x y s t p q. p ∙ sym q;
  none_once = λ κs a x y s t p q. p ∙ sym q;
  of_once = λ κs a x y s t p q. p ∙ sym q;
  characters_once = λ κs a x y s t p q. p ∙ sym q;
  is_none_once = λ κs a x y s t p q. p ∙ sym q;
  is_right_once = λ κs a x y s t p q. p ∙ sym q;
  is_before_once = λ κs a x y s t p q. p ∙ sym q;
  is_same_once = λ κs a x y s t p q. p ∙ sym q;
}
