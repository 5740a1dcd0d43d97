-- The contracts of `travel`: pulses, percents and IPs that share the travel.
-- Assumes nothing.
use Rattle.std.specs.Prelude.{◌≡◌, [], ◌∷◌, map}
use mir.Syntax.{ty_int, tnil, tcons, w16}
use Rattle.travel.specs.{
  Position.{percent_of_pulse, pulse_of_percent},
  Share.{share_of},
}
use Rattle.travel.proofs as travel
use Rattle.promises.specs.Contracts.Says.{types_of, fields_of, Says}

pub record TravelContracts : Type 0 where
  pub percent_of_pulse_is :
      Says travel.percent_of_pulse.Kinds.ps travel.percent_of_pulse.Kinds.r
      travel.percent_of_pulse.Reads.Pre travel.percent_of_pulse.Reads.Post
      (λ κs (pulse, (travel, _)). percent_of_pulse pulse travel)
  pub pulse_of_percent_is :
      Says travel.pulse_of_percent.Kinds.ps travel.pulse_of_percent.Kinds.r
      travel.pulse_of_percent.Reads.Pre travel.pulse_of_percent.Reads.Post
      (λ κs (percent, (travel, _)). pulse_of_percent percent travel)
  pub share_of_is :
      Says travel.share_of.Kinds.ps travel.share_of.Kinds.r travel.share_of.Reads.Pre travel.share_of.Reads.Post
      (λ κs (i, (n, _)). share_of i n)
  -- A pulse, and so a travel, is 16 bits: row 32's 65,535 bounds it by its type.
  pub a_pulse_is_16_bits :
      map fields_of (types_of travel.percent_of_pulse.Kinds.ps) ≡ tcons (ty_int w16) tnil ∷ tcons (ty_int w16) tnil ∷ []
