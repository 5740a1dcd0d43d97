-- The contracts of `serial`: a motor's serial number and its origin.
-- Assumes nothing.
use Rattle.std.specs.Prelude.{◌≡◌, [], ◌∷◌}
use mir.Syntax.{ty_int, ty_array, w8, w32}
use Rattle.serial.specs.Serial.{serial_of, is_origin}
use Rattle.serial.proofs as serial
use Rattle.promises.specs.Contracts.Says.{types_of, Says}

pub record SerialContracts : Type 0 where
  pub serial_of_is :
      Says serial.serial_of.Kinds.ps serial.serial_of.Kinds.r serial.serial_of.Reads.Pre serial.serial_of.Reads.Post
      (λ κs (id, (origin, _)). serial_of id origin)
  pub is_origin_is :
      Says serial.is_origin.Kinds.ps serial.is_origin.Kinds.r serial.is_origin.Reads.Pre serial.is_origin.Reads.Post
      (λ κs (origin, _). is_origin origin)
  -- A NodeID is taken whole, and an origin is six bytes.
  pub a_serial_is_of_32_bits_and_six_bytes :
      types_of serial.serial_of.Kinds.ps ≡ ty_int w32 ∷ ty_array (ty_int w8) 6 ∷ []
  pub an_origin_is_six_bytes : types_of serial.is_origin.Kinds.ps ≡ ty_array (ty_int w8) 6 ∷ []
