-- The message that MSG and the bytes of DATA spell: the list of 002, row by row.
-- Assumes nothing.
use Rattle.std.specs.Prelude.{ℕ, Bool, List, [], ◌∷◌, length, get_or, Option, Some, None}
use Rattle.meaning.specs.Tests.{◌is◌}
use Rattle.meaning.specs.Tables.{Row, ◌when◌, decide}
use Rattle.rts.specs.declared.message.Message.TheVariants.{
  CtrlPosition,
  CtrlTilt,
  CtrlDim,
  SetChannelMode,
  SetTiltFramecount,
  SetDimFramecount,
  SetSunAuto,
  SetDctLock,
  SetChannel,
  SetOpenProg,
  SetIp,
  GetChannelMode,
  GetTiltFramecount,
  GetDimFramecount,
  GetDctLock,
  PostChannelMode,
  PostTiltFramecount,
  PostDimFramecount,
  PostDctLock,
}
use Rattle.rts.specs.declared.message.Message.{Message}
use Rattle.rts.specs.Table.{data_of, in_range}

-- The message of the list, or none.
abbrev pub Spelled : Type 0
Spelled = Option Message

-- B1h is channel, US count, CE count (document 02).
abbrev pub spellings : (number first second third fourth : ℕ) → List (Row Spelled)
spellings number first second third fourth =
    Some (CtrlPosition (record { channel = first; order = second })) when number is 0x80
    ∷ Some (CtrlTilt (record { channel = first; direction = second; value = third })) when number is 0x81
    ∷ Some (CtrlDim (record { channel = first; direction = second; value = third })) when number is 0x82
    ∷ Some (SetChannelMode (record { channel = first; ergonomics = second; movement = third; modulis = fourth })) when number is 0x90
    ∷ Some (SetTiltFramecount (record { channel = first; us = second; ce = third })) when number is 0x91
    ∷ Some (SetDimFramecount (record { channel = first; count = second })) when number is 0x92
    ∷ Some (SetSunAuto (record { channel = first; off = second })) when number is 0x93
    ∷ Some (SetDctLock (record { input = first; lock = second })) when number is 0x94
    ∷ Some (SetChannel first) when number is 0x97
    ∷ Some (SetOpenProg first) when number is 0x98
    ∷ Some (SetIp first) when number is 0x9A
    ∷ Some (GetChannelMode first) when number is 0xA0
    ∷ Some (GetTiltFramecount first) when number is 0xA1
    ∷ Some (GetDimFramecount first) when number is 0xA2
    ∷ Some GetDctLock when number is 0xA4
    ∷ Some (PostChannelMode (record { channel = first; ergonomics = second; movement = third; modulis = fourth })) when number is 0xB0
    ∷ Some (PostTiltFramecount (record { channel = first; us = second; ce = third })) when number is 0xB1
    ∷ Some (PostDimFramecount (record { channel = first; count = second })) when number is 0xB2
    ∷ Some (PostDctLock first) when number is 0xB4
    ∷ []

unfoldable pub spelled_by : (number : ℕ) → (fields : List ℕ) → Spelled
spelled_by number fields =
    decide (spellings number (get_or fields 0 0) (get_or fields 1 0) (get_or fields 2 0) (get_or fields 3 0)) None

-- What the list has under it: how many bytes of DATA, whether every field is in its range, and the message; or nothing.
abbrev pub entry_of : Spelled → Option (ℕ × Bool × Message)
entry_of (Some m) = Some (length (data_of m), (in_range m).holds, m)
entry_of None = None
