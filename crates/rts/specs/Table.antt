-- 002's tables as one: of each message MSG, and its fields with their ranges. Where the LEN column disagrees with the count
-- of DATA, the count decides (document 02).
-- Assumes nothing.
use Rattle.std.specs.Prelude.{ℕ, List, [], map}
use Rattle.meaning.specs.Tests.{Test}
use Rattle.rts.specs.Fields.{
  value_of,
  fit,
  line_as,
  position,
  step,
  mode,
  counts,
  frames,
  sun,
  contact,
  channel,
  inputs,
}
use Rattle.rts.specs.declared.field.Field.{Field}
use Rattle.rts.specs.declared.message.Message.{Message}
use Rattle.rts.specs.declared.message.Message.TheVariants.{
  CtrlPosition,
  CtrlTilt,
  CtrlDim,
  SetChannelMode,
  SetTiltFramecount,
  SetDimFramecount,
  SetSunAuto,
  SetDctLock,
  SetChannel,
  SetOpenProg,
  SetIp,
  GetChannelMode,
  GetTiltFramecount,
  GetDimFramecount,
  GetDctLock,
  PostChannelMode,
  PostTiltFramecount,
  PostDimFramecount,
  PostDctLock,
}
use Rattle.rts.specs.declared.table.Line.{Line}

pub record Row : Type 0 where
  pub number : ℕ
  pub fields : List Field

abbrev pub ◌has◌ : ℕ → List Field → Row
◌has◌ number fields = record { number = number; fields = fields }

infix 20 ◌has◌
abbrev pub row_of : Message → Row
row_of (CtrlPosition d) = 0x80 has position d
row_of (CtrlTilt d) = 0x81 has step d
row_of (CtrlDim d) = 0x82 has step d
row_of (SetChannelMode d) = 0x90 has mode d
row_of (SetTiltFramecount d) = 0x91 has counts d
row_of (SetDimFramecount d) = 0x92 has frames d
row_of (SetSunAuto d) = 0x93 has sun d
row_of (SetDctLock d) = 0x94 has contact d
row_of (SetChannel c) = 0x97 has channel c
row_of (SetOpenProg c) = 0x98 has channel c
row_of (SetIp c) = 0x9A has channel c
row_of (GetChannelMode c) = 0xA0 has channel c
row_of (GetTiltFramecount c) = 0xA1 has channel c
row_of (GetDimFramecount c) = 0xA2 has channel c
row_of GetDctLock = 0xA4 has []
row_of (PostChannelMode d) = 0xB0 has mode d
row_of (PostTiltFramecount d) = 0xB1 has counts d
row_of (PostDimFramecount d) = 0xB2 has frames d
row_of (PostDctLock locked) = 0xB4 has inputs locked

-- What a row says: MSG, DATA, and that every field is in its range.
abbrev pub number_of : Message → ℕ
number_of m = (row_of m).number

abbrev pub data_of : Message → List ℕ
data_of m = map value_of (row_of m).fields

abbrev pub in_range : Message → Test
in_range m = fit (row_of m).fields

abbrev pub line_of : Message → Line
line_of m = line_as (number_of m) (row_of m).fields
