-- Every public contract of the crate is determined, what stands in the lent buffer included.
-- Assumes nothing.
use mathlib.Core.Path.{refl, ◌∙◌, sym}
use Rattle.meaning.specs.Determined.{Once, OnceLent}
use Rattle.form.proofs.reading.check.Kinds as check_kinds
use Rattle.form.proofs.reading.check.Reads as check
use Rattle.form.proofs.reading.place.Kinds as place_kinds
use Rattle.form.proofs.reading.place.Reads as place
use Rattle.form.proofs.reading.refuses.Kinds as refuses_kinds
use Rattle.form.proofs.reading.refuses.Reads as refuses
use Rattle.form.proofs.reading.counted.Kinds as counted_kinds
use Rattle.form.proofs.reading.counted.Reads as counted
use Rattle.form.proofs.writing.room.Kinds as room_kinds
use Rattle.form.proofs.writing.room.Reads as room
use Rattle.form.proofs.writing.is_refused.Kinds as is_refused_kinds
use Rattle.form.proofs.writing.is_refused.Reads as is_refused_lem
use Rattle.form.proofs.writing.lay_head.Kinds as lay_head_kinds
use Rattle.form.proofs.writing.lay_head.Reads as lay_head
use Rattle.form.proofs.writing.lay_motor.Kinds as lay_motor_kinds
use Rattle.form.proofs.writing.lay_motor.Reads as lay_motor

pub record Determined : Type 0 where
  pub check_once : Once check_kinds.ps check_kinds.r check.Post
  pub place_once : Once place_kinds.ps place_kinds.r place.Post
  pub refuses_once : Once refuses_kinds.ps refuses_kinds.r refuses.Post
  pub counted_once : Once counted_kinds.ps counted_kinds.r counted.Post
  pub room_once : Once room_kinds.ps room_kinds.r room.Post
  pub is_refused_once : Once is_refused_kinds.ps is_refused_kinds.r is_refused_lem.Post
  pub lay_head_once : OnceLent lay_head_kinds.ps lay_head_kinds.r lay_head.Post (λ κs s. s.0.now)
  pub lay_motor_once : OnceLent lay_motor_kinds.ps lay_motor_kinds.r lay_motor.Post (λ κs s. s.0.now)

pub determined : Determined
determined =
    record {
      check_once = λ κs a x y s t p q. p ∙ sym q;
      place_once = λ κs a x y s t p q. p ∙ sym q;
      refuses_once = λ κs a x y s t p q. p ∙ sym q;
      counted_once = λ κs a x y s t p q. p ∙ sym q;
      room_once = λ κs a x y s t p q. p ∙ sym q;
      is_refused_once = λ κs a x y s t p q. p ∙ sym q;
      lay_head_once = λ κs a x y s t p q. (refl, p ∙ sym q);
      lay_motor_once = λ κs a x y s t p q. (refl, p ∙ sym q);
    }
