-- The contracts of `form`: stored form 1, a motor at a time.
-- Assumes nothing.
use Rattle.std.specs.Prelude.{ℕ, Bool, true, false, Ok, Err}
use Rattle.motors.specs.Answer.{Answer}
use Rattle.form.specs.{Reading.{check_of, place_in}, Writing.{room_of, head_laid, motor_laid, Written}}
use Rattle.form.proofs as form
use Rattle.promises.specs.Contracts.Says.{Says, SaysLent}

-- Whether a form was refused, and how many motors were read.
abbrev pub not_read : Answer → Bool
not_read (Ok n) = false
not_read (Err r) = true

abbrev pub read_from : Answer → ℕ
read_from (Ok n) = n
read_from (Err r) = 0

abbrev pub not_written : Written → Bool
not_written (Ok n) = false
not_written (Err r) = true

pub record FormContracts : Type 0 where
  -- A form checked and read.
  pub check_is :
      Says form.check.Kinds.ps form.check.Kinds.r form.check.Reads.Pre form.check.Reads.Post
      (λ κs (places, (bytes, _)). check_of places bytes.now)
  pub place_is :
      Says form.place.Kinds.ps form.place.Kinds.r form.place.Reads.Pre form.place.Reads.Post
      (λ κs (bytes, (count, (at, _))). place_in count bytes.now at)
  pub refuses_is :
      Says form.refuses.Kinds.ps form.refuses.Kinds.r form.refuses.Reads.Pre form.refuses.Reads.Post
      (λ κs (answer, _). not_read answer)
  pub counted_is :
      Says form.counted.Kinds.ps form.counted.Kinds.r form.counted.Reads.Pre form.counted.Reads.Post
      (λ κs (answer, _). read_from answer)
  -- Room for a form, and the form laid in a lent buffer.
  pub room_is :
      Says form.room.Kinds.ps form.room.Kinds.r form.room.Reads.Pre form.room.Reads.Post
      (λ κs (found, (count, (room, _))). room_of found count room)
  pub is_refused_is :
      Says form.is_refused.Kinds.ps form.is_refused.Kinds.r form.is_refused.Reads.Pre form.is_refused.Reads.Post
      (λ κs (written, _). not_written written)
  pub lay_head_is :
      SaysLent form.lay_head.Kinds.ps form.lay_head.Kinds.r form.lay_head.Reads.Pre form.lay_head.Reads.Post
      (λ κs _. tt)
      (λ κs (buffer, _). buffer.now)
      (λ κs (buffer, (count, _)). head_laid count buffer.now)
  pub lay_motor_is :
      SaysLent form.lay_motor.Kinds.ps form.lay_motor.Kinds.r form.lay_motor.Reads.Pre form.lay_motor.Reads.Post
      (λ κs _. tt)
      (λ κs (buffer, _). buffer.now)
      (λ κs (buffer, (count, (at, (motor, _)))). motor_laid count at motor buffer.now)
