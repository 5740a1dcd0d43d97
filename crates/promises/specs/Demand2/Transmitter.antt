-- Demand 2, the RTS transmitter's messages (document 02, 2026-04; 002): MSG, DATA and ranges of each; a bundle is read as
-- a message exactly when it is a frame that says it; a message is written as the frame writer writes its MSG and DATA;
-- writing and reading undo each other.
-- Assumes nothing.
use Rattle.std.specs.Prelude.{ℕ, ◌+◌, ◌/◌, ◌%◌, ◌≤◌, ◌≡◌, ◌≢◌, ◌↔◌, true, List, [], ◌∷◌, length, take, drop, Ok, Some, None}
use Rattle.frame.specs.{Writing.{writing_of, buffer_after as frame_written}, declared.{header.Header.{Header}}}
use Rattle.rts.specs.{
  Spelling.{spelled_by},
  Table.{number_of, data_of as content_of, in_range},
  Reading.{received_of},
  Writing.{written_of, buffer_after},
  declared.{
    envelope.Envelope.{Envelope},
    message.Message.{Message},
    message.Message.TheVariants.{
      CtrlPosition,
      CtrlTilt,
      CtrlDim,
      SetChannelMode,
      SetTiltFramecount,
      SetDimFramecount,
      SetSunAuto,
      SetDctLock,
      SetChannel,
      SetOpenProg,
      SetIp,
      GetChannelMode,
      GetTiltFramecount,
      GetDimFramecount,
      GetDctLock,
      PostChannelMode,
      PostTiltFramecount,
      PostDimFramecount,
      PostDctLock,
    },
  },
}
use Rattle.promises.specs.Wire.{
  Bytes,
  message,
  AsksForAnAnswer,
  sender,
  receiver,
  source,
  destination,
  data_of,
  FrameRules,
}
use Rattle.promises.specs.Demand2.Frames.{CanBeWritten, FrameAt}

-- Every field of a message is in its range.
abbrev pub InRange : Message → Type 0
InRange m = (in_range m).holds ≡ true

-- A message has this DATA, and is in range exactly by these rules.
pub record Has (m : Message) (content : List ℕ) (rules : Type 0) : Type 0 where
  pub its_data : content_of m ≡ content
  pub in_range_exactly_when : InRange m ↔ rules

-- MSG of each message: there is no other message, and so no other MSG.
abbrev pub MSG : Message → ℕ
MSG (CtrlPosition d) = 0x80
MSG (CtrlTilt d) = 0x81
MSG (CtrlDim d) = 0x82
MSG (SetChannelMode d) = 0x90
MSG (SetTiltFramecount d) = 0x91
MSG (SetDimFramecount d) = 0x92
MSG (SetSunAuto d) = 0x93
MSG (SetDctLock d) = 0x94
MSG (SetChannel channel) = 0x97
MSG (SetOpenProg channel) = 0x98
MSG (SetIp channel) = 0x9A
MSG (GetChannelMode channel) = 0xA0
MSG (GetTiltFramecount channel) = 0xA1
MSG (GetDimFramecount channel) = 0xA2
MSG GetDctLock = 0xA4
MSG (PostChannelMode d) = 0xB0
MSG (PostTiltFramecount d) = 0xB1
MSG (PostDimFramecount d) = 0xB2
MSG (PostDctLock locked) = 0xB4

-- The ranges of 002, by the kind of DATA.
abbrev pub IsChannel : ℕ → Type 0
IsChannel channel = channel ≤ 15

abbrev pub PositionRules : (channel order : ℕ) → Type 0
PositionRules channel order = IsChannel channel × ((1 ≤ order) × (order ≤ 4))

-- 0 plus, 1 minus
abbrev pub StepRules : (channel direction value : ℕ) → Type 0
StepRules channel direction value = IsChannel channel × ((direction ≤ 1) × ((1 ≤ value) × (value ≤ 127)))

-- 0 CE, 1 US; 0 rolling, 1 tilting; 0 normal, 1 Modulis
abbrev pub ModeRules : (channel ergonomics movement modulis : ℕ) → Type 0
ModeRules channel ergonomics movement modulis =
    IsChannel channel × ((ergonomics ≤ 1) × ((movement ≤ 1) × (modulis ≤ 1)))

abbrev pub CountsRules : (channel us ce : ℕ) → Type 0
CountsRules channel us ce = IsChannel channel × ((4 ≤ us) × ((us ≤ 255) × ((2 ≤ ce) × (ce ≤ 13))))

abbrev pub FramesRules : (channel count : ℕ) → Type 0
FramesRules channel count = IsChannel channel × ((4 ≤ count) × (count ≤ 255))

-- 0 sun auto on, 1 off
abbrev pub SunRules : (channel off : ℕ) → Type 0
SunRules channel off = IsChannel channel × (off ≤ 1)

-- 0 all inputs, 1 to 5 that one; 0 unlock, 1 lock
abbrev pub ContactRules : (input lock : ℕ) → Type 0
ContactRules input lock = (input ≤ 5) × (lock ≤ 1)

-- bit 0 is 0, and so are bits 6 and 7
abbrev pub InputsRules : (locked : ℕ) → Type 0
InputsRules locked = (locked % 2 ≡ 0) × (locked / 64 ≡ 0)

-- DATA of each message, in 002's order; a POST has its SET's ranges.
pub record Messages : Type 0 where
  pub CTRL_POSITION :
      (channel order : ℕ)
      → Has (CtrlPosition (record { channel = channel; order = order }))
      (channel ∷ order ∷ []) (PositionRules channel order)
  pub CTRL_TILT :
      (channel direction value : ℕ)
      → Has (CtrlTilt (record { channel = channel; direction = direction; value = value }))
      (channel ∷ direction ∷ value ∷ []) (StepRules channel direction value)
  pub CTRL_DIM :
      (channel direction value : ℕ)
      → Has (CtrlDim (record { channel = channel; direction = direction; value = value }))
      (channel ∷ direction ∷ value ∷ []) (StepRules channel direction value)
  pub SET_CHANNEL_MODE :
      (channel ergonomics movement modulis : ℕ)
      → Has (SetChannelMode (record { channel = channel; ergonomics = ergonomics; movement = movement; modulis = modulis }))
      (channel ∷ ergonomics ∷ movement ∷ modulis ∷ []) (ModeRules channel ergonomics movement modulis)
  pub SET_TILT_FRAMECOUNT :
      (channel us ce : ℕ)
      → Has (SetTiltFramecount (record { channel = channel; us = us; ce = ce }))
      (channel ∷ us ∷ ce ∷ []) (CountsRules channel us ce)
  pub SET_DIM_FRAMECOUNT :
      (channel count : ℕ)
      → Has (SetDimFramecount (record { channel = channel; count = count }))
      (channel ∷ count ∷ []) (FramesRules channel count)
  pub SET_SUN_AUTO :
      (channel off : ℕ)
      → Has (SetSunAuto (record { channel = channel; off = off })) (channel ∷ off ∷ []) (SunRules channel off)
  -- two bytes, whatever 002's LEN column says
  pub SET_DCT_LOCK :
      (input lock : ℕ)
      → Has (SetDctLock (record { input = input; lock = lock })) (input ∷ lock ∷ []) (ContactRules input lock)
  pub SET_CHANNEL : (channel : ℕ) → Has (SetChannel channel) (channel ∷ []) (IsChannel channel)
  pub SET_OPEN_PROG : (channel : ℕ) → Has (SetOpenProg channel) (channel ∷ []) (IsChannel channel)
  pub SET_IP : (channel : ℕ) → Has (SetIp channel) (channel ∷ []) (IsChannel channel)
  pub GET_CHANNEL_MODE : (channel : ℕ) → Has (GetChannelMode channel) (channel ∷ []) (IsChannel channel)
  pub GET_TILT_FRAMECOUNT : (channel : ℕ) → Has (GetTiltFramecount channel) (channel ∷ []) (IsChannel channel)
  pub GET_DIM_FRAMECOUNT : (channel : ℕ) → Has (GetDimFramecount channel) (channel ∷ []) (IsChannel channel)
  pub GET_DCT_LOCK : Has GetDctLock [] (Unit {0})
  pub POST_CHANNEL_MODE :
      (channel ergonomics movement modulis : ℕ)
      → Has (PostChannelMode (record { channel = channel; ergonomics = ergonomics; movement = movement; modulis = modulis }))
      (channel ∷ ergonomics ∷ movement ∷ modulis ∷ []) (ModeRules channel ergonomics movement modulis)
  -- US before CE
  pub POST_TILT_FRAMECOUNT :
      (channel us ce : ℕ)
      → Has (PostTiltFramecount (record { channel = channel; us = us; ce = ce }))
      (channel ∷ us ∷ ce ∷ []) (CountsRules channel us ce)
  pub POST_DIM_FRAMECOUNT :
      (channel count : ℕ)
      → Has (PostDimFramecount (record { channel = channel; count = count }))
      (channel ∷ count ∷ []) (FramesRules channel count)
  pub POST_DCT_LOCK : (locked : ℕ) → Has (PostDctLock locked) (locked ∷ []) (InputsRules locked)

-- A bundle is a frame that says this message in this envelope.
pub record MessageSays (b : List ℕ) (e : Envelope) (m : Message) : Type 0 where
  pub it_is_a_frame : FrameRules b
  pub its_msg : message b ≡ number_of m
  pub its_data : data_of b ≡ content_of m
  pub in_range_lem : InRange m
  pub its_ack_bit : (e.ack ≡ true) ↔ AsksForAnAnswer b
  pub its_type_of_the_sender : e.sender ≡ sender b
  pub its_type_of_the_receiver : e.receiver ≡ receiver b
  pub its_source : e.source.0 ≡ source b
  pub its_dest : e.destination.0 ≡ destination b

-- The header of a message in its envelope.
abbrev pub header_of : Envelope → Message → Header
header_of e m =
    record {
      message = number_of m;
      ack = e.ack;
      sender = e.sender;
      receiver = e.receiver;
      source = e.source;
      destination = e.destination;
    }

pub record Transmitter : Type 0 where
  pub messages : Messages
  pub there_is_no_other_message : (m : Message) → number_of m ≡ MSG m
  -- which message four bytes spell
  pub a_msg_and_four_bytes_spell_the_message_whose_data_they_begin_with :
      (number : ℕ) (fields : List ℕ) (m : Message) → length fields ≡ 4
      → (spelled_by number fields ≡ Some m)
      ↔ ((number_of m ≡ number) × (take (length (content_of m)) fields ≡ content_of m))
  pub any_other_msg_is_unlisted :
      (number : ℕ) (fields : List ℕ)
      → (spelled_by number fields ≡ None) ↔ ((m : Message) → MSG m ≢ number)
  pub one_message_for_msg_and_data :
      (m other : Message) → number_of m ≡ number_of other → content_of m ≡ content_of other → m ≡ other
  -- read
  pub a_message_is_read_exactly_when_a_frame_says_it :
      (b : List ℕ) (e : Envelope) (m : Message) → (received_of b ≡ Ok (e, m)) ↔ MessageSays b e m
  -- written, in range: the frame writer's answer and its bytes, whatever else it is asked
  pub in_range_it_is_written_by_the_frame_writer :
      (buffer : List ℕ) (place : ℕ) (e : Envelope) (m : Message) → InRange m
      → (written_of (length buffer) place e m ≡ writing_of (length buffer) place (header_of e m) (content_of m))
      × (buffer_after buffer place e m ≡ frame_written buffer place (header_of e m) (content_of m))
  pub each_byte_is_written_as_envelope_and_message_say :
      (buffer : List ℕ) (place : ℕ) (e : Envelope) (m : Message) → InRange m
      → CanBeWritten (length buffer) place (header_of e m) (content_of m)
      → FrameAt (buffer_after buffer place e m) place (header_of e m) (content_of m)
  pub the_answer_is_the_place_after_the_message :
      (buffer : List ℕ) (place : ℕ) (e : Envelope) (m : Message) → InRange m
      → CanBeWritten (length buffer) place (header_of e m) (content_of m)
      → written_of (length buffer) place e m ≡ Ok (place + (11 + length (content_of m)))
  pub no_byte_before_the_message_is_changed :
      (buffer : List ℕ) (place : ℕ) (e : Envelope) (m : Message)
      → take place (buffer_after buffer place e m) ≡ take place buffer
  pub no_byte_behind_the_message_is_changed :
      (buffer : List ℕ) (place : ℕ) (e : Envelope) (m : Message)
      → drop (place + (11 + length (content_of m))) (buffer_after buffer place e m)
      ≡ drop (place + (11 + length (content_of m))) buffer
  -- writing and reading undo each other
  pub a_message_written_is_read :
      (buffer : List ℕ) (place : ℕ) (e : Envelope) (m : Message) → InRange m
      → CanBeWritten (length buffer) place (header_of e m) (content_of m)
      → received_of (take (11 + length (content_of m)) (drop place (buffer_after buffer place e m)))
      ≡ Ok (e, m)
  pub a_message_read_and_written_again_gives_its_own_bytes :
      (b : List ℕ) → Bytes b → (e : Envelope) (m : Message) → received_of b ≡ Ok (e, m)
      → (buffer : List ℕ) (place : ℕ) → place + length b ≤ length buffer
      → take (length b) (drop place (buffer_after buffer place e m)) ≡ b
