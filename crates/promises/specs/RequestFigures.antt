-- The worked figures of the change requests (document 02), in bytes and numbers: one list, one statement.
-- Assumes nothing.
use Rattle.std.specs.Prelude.{ℕ, ◌-◌, ◌≡◌, true, false, List, [], ◌∷◌, ◌++◌, map, length, replicate, Ok, Some, None}
use Rattle.travel.specs.Position.{percent_of_pulse}
use Rattle.serial.specs.Serial.{serial_of}
use Rattle.board.specs.declared.whole.Node.{Node}
use Rattle.node.specs.{Frames.{turn_of}, declared.turn.Turn.{Turn}}
use Rattle.rts.specs.{
  Reading.{received_of},
  Writing.{written_of, buffer_after as message_written},
  declared.{
    envelope.Envelope.{Envelope},
    message.Message.{Message},
    message.Message.TheVariants.{
      CtrlPosition,
      CtrlTilt,
      SetSunAuto,
      SetDctLock,
      SetIp,
      GetChannelMode,
      PostChannelMode,
      PostTiltFramecount,
      PostDctLock,
    },
  },
}
use Rattle.promises.specs.Numbers.{write_number, received_number}
use Rattle.promises.specs.BoardParts.{
  address,
  pulse,
  plate,
  drive,
  lock,
  empty_table,
  with_drive,
  with_favourites,
  with_lock,
  fresh_node,
}
use Rattle.promises.specs.Figures.{header, sent}

-- A turn that ends with this board, its table as it was, and replies these bytes, zeros behind them to the 31st.
abbrev pub replies : Node → List ℕ → Turn
replies n reply =
    record {
      node = n;
      change = None;
      answer = Ok (Some (record { count = length reply; bytes = reply ++ replicate (31 - length reply) 0 }));
    }

-- 2026-01: GD, 2009, week 45.
abbrev pub made : List ℕ
made = 0x47 ∷ 0x44 ∷ 0x30 ∷ 0x39 ∷ 0x34 ∷ 0x35 ∷ []

-- 2026-01: with 01:02:03 it reads 010203GD0945.
abbrev pub serial_number : List ℕ
serial_number = 0x30 ∷ 0x31 ∷ 0x30 ∷ 0x32 ∷ 0x30 ∷ 0x33 ∷ made

abbrev pub r01_serial : Type 0
r01_serial = serial_of 0x010203 made ≡ serial_number

-- 2026-01: GET serial number, 4Ch, from FF:FF:00 to 01:02:03, type 2.
abbrev pub get_serial : List ℕ
get_serial = 0xB3 ∷ 0xF4 ∷ 0xFD ∷ 0xFF ∷ 0x00 ∷ 0x00 ∷ 0xFC ∷ 0xFD ∷ 0xFE ∷ 0x06 ∷ 0x9A ∷ []

abbrev pub r01_asked : Type 0
r01_asked = sent 11 (header 0x4C 0 2 0xFFFF00 0x010203) [] ≡ get_serial

-- 2026-01: a fresh board with that number and plate, and its 6Ch: 23 bytes, then zeros.
abbrev pub plated : Node
plated = fresh_node (record { id = address 0x010203; kind = 2; travel = pulse 1000; plate = plate 0 0x41 0 made })

abbrev pub serial_told : List ℕ
serial_told =
    0x93 ∷ 0xE8 ∷ 0xDF ∷ 0xFC ∷ 0xFD ∷ 0xFE ∷ 0xFF ∷ 0x00 ∷ 0x00
    ∷ 0xCF ∷ 0xCE ∷ 0xCF ∷ 0xCD ∷ 0xCF ∷ 0xCC ∷ 0xB8 ∷ 0xBB ∷ 0xCF ∷ 0xC6 ∷ 0xCB ∷ 0xCA
    ∷ 0x0F ∷ 0xC1 ∷ []

abbrev pub r01_told : Type 0
r01_told = turn_of plated empty_table get_serial ≡ replies plated serial_told

-- 2026-01: 003's reference 5063486, A, 02, low byte first: GET version, 74h, asked like the above, and its 75h: 17 bytes, then
-- zeros.
abbrev pub versioned : Node
versioned =
    fresh_node (record { id = address 0x010203; kind = 2; travel = pulse 1000; plate = plate 5063486 0x41 0x02 made })

abbrev pub get_version : List ℕ
get_version = 0x8B ∷ 0xF4 ∷ 0xFD ∷ 0xFF ∷ 0x00 ∷ 0x00 ∷ 0xFC ∷ 0xFD ∷ 0xFE ∷ 0x06 ∷ 0x72 ∷ []

abbrev pub version_told : List ℕ
version_told =
    0x8A ∷ 0xEE ∷ 0xDF ∷ 0xFC ∷ 0xFD ∷ 0xFE ∷ 0xFF ∷ 0x00 ∷ 0x00
    ∷ 0xC1 ∷ 0xBC ∷ 0xB2 ∷ 0xBE ∷ 0xFD ∷ 0x00 ∷ 0x0A ∷ 0x37 ∷ []

abbrev pub r01_version : Type 0
r01_version = turn_of versioned empty_table get_version ≡ replies versioned version_told

-- 2026-02: the percents of pulses about a half, at both ends of a travel of 1,000, and of 65,535.
abbrev pub percents : (travel : ℕ) → (pulses : List ℕ) → List ℕ
percents travel = map (λ (p : ℕ). (percent_of_pulse (pulse p) (pulse travel)).0)

abbrev pub r02_halves : Type 0
r02_halves =
    (percents 1000 (4 ∷ 5 ∷ 994 ∷ 995 ∷ []) ≡ 0 ∷ 1 ∷ 99 ∷ 100 ∷ [])
    × (percents 65535 (327 ∷ 328 ∷ 65207 ∷ 65208 ∷ []) ≡ 0 ∷ 1 ∷ 99 ∷ 100 ∷ [])

-- 2026-03: the board of the serial number, of travel 1,000, with one IP set, at pulse 400.
abbrev pub first : Node
first = with_favourites plated (record { slots = Some (pulse 400) ∷ replicate 15 None })

abbrev pub last : Node
last = with_favourites plated (record { slots = replicate 15 None ++ (Some (pulse 400) ∷ []) })

-- 2026-03: it runs there, from pulse 0, down.
abbrev pub running : Node → Node
running n = with_drive n (drive (pulse 0) (Some (pulse 400)) 0 1 1 false)

-- 2026-03: SET_MOTOR_IP, 15h, function 3, index 1, 40 percent, with the ACK bit; and its 7Fh.
abbrev pub store_first : List ℕ
store_first =
    0xEA ∷ 0x70 ∷ 0xFD ∷ 0xFF ∷ 0x00 ∷ 0x00 ∷ 0xFC ∷ 0xFD ∷ 0xFE ∷ 0xFC ∷ 0xFE ∷ 0xD7 ∷ 0xFF ∷ 0x0A ∷ 0x1D ∷ []

abbrev pub done : List ℕ
done = 0x80 ∷ 0xF4 ∷ 0xDF ∷ 0xFC ∷ 0xFD ∷ 0xFE ∷ 0xFF ∷ 0x00 ∷ 0x00 ∷ 0x06 ∷ 0x49 ∷ []

abbrev pub r03_stored : Type 0
r03_stored = turn_of plated empty_table store_first ≡ replies first done

-- 2026-03: MOVETO, 03h, function 2, with the ACK bit: position 1, and 16.
abbrev pub call_first : List ℕ
call_first =
    0xFC ∷ 0x70 ∷ 0xFD ∷ 0xFF ∷ 0x00 ∷ 0x00 ∷ 0xFC ∷ 0xFD ∷ 0xFE ∷ 0xFD ∷ 0xFE ∷ 0xFF ∷ 0xFF ∷ 0x0A ∷ 0x58 ∷ []

abbrev pub call_last : List ℕ
call_last =
    0xFC ∷ 0x70 ∷ 0xFD ∷ 0xFF ∷ 0x00 ∷ 0x00 ∷ 0xFC ∷ 0xFD ∷ 0xFE ∷ 0xFD ∷ 0xEF ∷ 0xFF ∷ 0xFF ∷ 0x0A ∷ 0x49 ∷ []

abbrev pub r03_called : Type 0
r03_called =
    (turn_of first empty_table call_first ≡ replies (running first) done)
    × (turn_of last empty_table call_last ≡ replies (running last) done)

-- 2026-03: positions 0, 17 and 257 on a locked board, and their 6Fh with code 01h.
abbrev pub call_none : List ℕ
call_none =
    0xFC ∷ 0x70 ∷ 0xFD ∷ 0xFF ∷ 0x00 ∷ 0x00 ∷ 0xFC ∷ 0xFD ∷ 0xFE ∷ 0xFD ∷ 0xFF ∷ 0xFF ∷ 0xFF ∷ 0x0A ∷ 0x59 ∷ []

abbrev pub call_beyond : List ℕ
call_beyond =
    0xFC ∷ 0x70 ∷ 0xFD ∷ 0xFF ∷ 0x00 ∷ 0x00 ∷ 0xFC ∷ 0xFD ∷ 0xFE ∷ 0xFD ∷ 0xEE ∷ 0xFF ∷ 0xFF ∷ 0x0A ∷ 0x48 ∷ []

abbrev pub call_far_beyond : List ℕ
call_far_beyond =
    0xFC ∷ 0x70 ∷ 0xFD ∷ 0xFF ∷ 0x00 ∷ 0x00 ∷ 0xFC ∷ 0xFD ∷ 0xFE ∷ 0xFD ∷ 0xFE ∷ 0xFE ∷ 0xFF ∷ 0x0A ∷ 0x57 ∷ []

abbrev pub out_of_range : List ℕ
out_of_range = 0x90 ∷ 0xF3 ∷ 0xDF ∷ 0xFC ∷ 0xFD ∷ 0xFE ∷ 0xFF ∷ 0x00 ∷ 0x00 ∷ 0xFE ∷ 0x07 ∷ 0x56 ∷ []

abbrev pub held : Node
held = with_lock first (lock true (address 0xFFFF00) 1 false)

abbrev pub r03_refused : Type 0
r03_refused =
    (turn_of held empty_table call_none ≡ replies held out_of_range)
    × (turn_of held empty_table call_beyond ≡ replies held out_of_range)
    × (turn_of held empty_table call_far_beyond ≡ replies held out_of_range)

-- 2026-03: position 2, not set, on a board that is locked and blocked, on one that is blocked, and on one that is neither: 20h, FFh, 23h.
abbrev pub call_second : List ℕ
call_second =
    0xFC ∷ 0x70 ∷ 0xFD ∷ 0xFF ∷ 0x00 ∷ 0x00 ∷ 0xFC ∷ 0xFD ∷ 0xFE ∷ 0xFD ∷ 0xFD ∷ 0xFF ∷ 0xFF ∷ 0x0A ∷ 0x57 ∷ []

abbrev pub is_locked : List ℕ
is_locked = 0x90 ∷ 0xF3 ∷ 0xDF ∷ 0xFC ∷ 0xFD ∷ 0xFE ∷ 0xFF ∷ 0x00 ∷ 0x00 ∷ 0xDF ∷ 0x07 ∷ 0x37 ∷ []

abbrev pub is_blocked : List ℕ
is_blocked = 0x90 ∷ 0xF3 ∷ 0xDF ∷ 0xFC ∷ 0xFD ∷ 0xFE ∷ 0xFF ∷ 0x00 ∷ 0x00 ∷ 0x00 ∷ 0x06 ∷ 0x58 ∷ []

abbrev pub is_not_set : List ℕ
is_not_set = 0x90 ∷ 0xF3 ∷ 0xDF ∷ 0xFC ∷ 0xFD ∷ 0xFE ∷ 0xFF ∷ 0x00 ∷ 0x00 ∷ 0xDC ∷ 0x07 ∷ 0x34 ∷ []

abbrev pub blocked : Node → Node
blocked n = with_drive n (drive (pulse 0) None 0xFF 0 0x20 true)

abbrev pub r03_in_order : Type 0
r03_in_order =
    (turn_of (blocked held) empty_table call_second ≡ replies (blocked held) is_locked)
    × (turn_of (blocked first) empty_table call_second ≡ replies (blocked first) is_blocked)
    × (turn_of first empty_table call_second ≡ replies first is_not_set)

-- 2026-04: 002's host FF:FF:00 and its transmitter 05:00:02, type 5; a message from one to the other and back, without the ACK bit.
abbrev pub to_transmitter : Envelope
to_transmitter =
    record { ack = false; sender = 0; receiver = 5; source = address 0xFFFF00; destination = address 0x050002 }

abbrev pub from_transmitter : Envelope
from_transmitter =
    record { ack = false; sender = 5; receiver = 0; source = address 0x050002; destination = address 0xFFFF00 }

-- 2026-04: a message written at the start of a buffer of this length that has zeros, and read.
abbrev pub IsOnTheWire : Envelope → Message → List ℕ → Type 0
IsOnTheWire e m wire =
    (message_written (replicate (length wire) 0) 0 e m ≡ wire) × (received_of wire ≡ Ok (e, m))

-- 2026-04: 002's four worked frames. CTRL_POSITION, channel 4, down (2).
abbrev pub position_down : List ℕ
position_down = 0x7F ∷ 0xF2 ∷ 0xFA ∷ 0xFF ∷ 0x00 ∷ 0x00 ∷ 0xFD ∷ 0xFF ∷ 0xFA ∷ 0xFB ∷ 0xFD ∷ 0x08 ∷ 0x58 ∷ []

abbrev pub r04_position : Type 0
r04_position = IsOnTheWire to_transmitter (CtrlPosition (record { channel = 4; order = 2 })) position_down

-- 2026-04: CTRL_TILT, channel 8, minus (1), 30.
abbrev pub tilt_minus : List ℕ
tilt_minus = 0x7E ∷ 0xF1 ∷ 0xFA ∷ 0xFF ∷ 0x00 ∷ 0x00 ∷ 0xFD ∷ 0xFF ∷ 0xFA ∷ 0xF7 ∷ 0xFE ∷ 0xE1 ∷ 0x09 ∷ 0x34 ∷ []

abbrev pub r04_tilt : Type 0
r04_tilt = IsOnTheWire to_transmitter (CtrlTilt (record { channel = 8; direction = 1; value = 30 })) tilt_minus

-- 2026-04: GET_CHANNEL_MODE, channel 6, and its POST: US (1), rolling (0), Modulis (1).
abbrev pub get_mode : List ℕ
get_mode = 0x5F ∷ 0xF3 ∷ 0xFA ∷ 0xFF ∷ 0x00 ∷ 0x00 ∷ 0xFD ∷ 0xFF ∷ 0xFA ∷ 0xF9 ∷ 0x07 ∷ 0x3A ∷ []

abbrev pub post_mode : List ℕ
post_mode =
    0x4F ∷ 0xF0 ∷ 0xAF ∷ 0xFD ∷ 0xFF ∷ 0xFA ∷ 0xFF ∷ 0x00 ∷ 0x00 ∷ 0xF9 ∷ 0xFE ∷ 0xFF ∷ 0xFE ∷ 0x09 ∷ 0xD7 ∷ []

abbrev pub r04_mode : Type 0
r04_mode =
    IsOnTheWire to_transmitter (GetChannelMode 6) get_mode
    × IsOnTheWire from_transmitter
    (PostChannelMode (record { channel = 6; ergonomics = 1; movement = 0; modulis = 1 })) post_mode

-- 2026-04: SET_SUN_AUTO, channel 3: sun auto on is 0, off is 1.
abbrev pub sun_on : List ℕ
sun_on = 0x6C ∷ 0xF2 ∷ 0xFA ∷ 0xFF ∷ 0x00 ∷ 0x00 ∷ 0xFD ∷ 0xFF ∷ 0xFA ∷ 0xFC ∷ 0xFF ∷ 0x08 ∷ 0x48 ∷ []

abbrev pub sun_off : List ℕ
sun_off = 0x6C ∷ 0xF2 ∷ 0xFA ∷ 0xFF ∷ 0x00 ∷ 0x00 ∷ 0xFD ∷ 0xFF ∷ 0xFA ∷ 0xFC ∷ 0xFE ∷ 0x08 ∷ 0x47 ∷ []

abbrev pub r04_sun : Type 0
r04_sun =
    IsOnTheWire to_transmitter (SetSunAuto (record { channel = 3; off = 0 })) sun_on
    × IsOnTheWire to_transmitter (SetSunAuto (record { channel = 3; off = 1 })) sun_off

-- 2026-04: SET_DCT_LOCK, input 2, lock (1): thirteen bytes. With the LEN that 002 prints, 0Ch, they are no frame; twelve
-- bytes are a frame, with one byte of DATA.
abbrev pub lock_two : List ℕ
lock_two = 0x6B ∷ 0xF2 ∷ 0xFA ∷ 0xFF ∷ 0x00 ∷ 0x00 ∷ 0xFD ∷ 0xFF ∷ 0xFA ∷ 0xFD ∷ 0xFE ∷ 0x08 ∷ 0x47 ∷ []

abbrev pub lock_by_printed_length : List ℕ
lock_by_printed_length = 0x6B ∷ 0xF3 ∷ 0xFA ∷ 0xFF ∷ 0x00 ∷ 0x00 ∷ 0xFD ∷ 0xFF ∷ 0xFA ∷ 0xFD ∷ 0xFE ∷ 0x08 ∷ 0x48 ∷ []

abbrev pub lock_in_twelve : List ℕ
lock_in_twelve = 0x6B ∷ 0xF3 ∷ 0xFA ∷ 0xFF ∷ 0x00 ∷ 0x00 ∷ 0xFD ∷ 0xFF ∷ 0xFA ∷ 0xFD ∷ 0x07 ∷ 0x4A ∷ []

abbrev pub r04_lock : Type 0
r04_lock =
    IsOnTheWire to_transmitter (SetDctLock (record { input = 2; lock = 1 })) lock_two
    × (received_number (received_of lock_by_printed_length) ≡ 4)
    × (received_number (received_of lock_in_twelve) ≡ 16)

-- 2026-04: POST_TILT_FRAMECOUNT, channel 6, US 4, CE 13; and with the counts exchanged.
abbrev pub post_counts : List ℕ
post_counts = 0x4E ∷ 0xF1 ∷ 0xAF ∷ 0xFD ∷ 0xFF ∷ 0xFA ∷ 0xFF ∷ 0x00 ∷ 0x00 ∷ 0xF9 ∷ 0xFB ∷ 0xF2 ∷ 0x08 ∷ 0xC9 ∷ []

abbrev pub counts_exchanged : List ℕ
counts_exchanged =
    0x4E ∷ 0xF1 ∷ 0xAF ∷ 0xFD ∷ 0xFF ∷ 0xFA ∷ 0xFF ∷ 0x00 ∷ 0x00 ∷ 0xF9 ∷ 0xF2 ∷ 0xFB ∷ 0x08 ∷ 0xC9 ∷ []

abbrev pub r04_counts : Type 0
r04_counts =
    IsOnTheWire from_transmitter (PostTiltFramecount (record { channel = 6; us = 4; ce = 13 })) post_counts
    × (received_of counts_exchanged ≡ Ok (from_transmitter, PostTiltFramecount (record { channel = 6; us = 13; ce = 4 })))

-- 2026-04: POST_DCT_LOCK with all five inputs locked; with bit 6; and 83h, which is no message of the list.
abbrev pub all_locked : List ℕ
all_locked = 0x4B ∷ 0xF3 ∷ 0xAF ∷ 0xFD ∷ 0xFF ∷ 0xFA ∷ 0xFF ∷ 0x00 ∷ 0x00 ∷ 0xC1 ∷ 0x06 ∷ 0xA3 ∷ []

abbrev pub bit_six : List ℕ
bit_six = 0x4B ∷ 0xF3 ∷ 0xAF ∷ 0xFD ∷ 0xFF ∷ 0xFA ∷ 0xFF ∷ 0x00 ∷ 0x00 ∷ 0xBF ∷ 0x06 ∷ 0xA1 ∷ []

abbrev pub unlisted : List ℕ
unlisted = 0x7C ∷ 0xF2 ∷ 0xFA ∷ 0xFF ∷ 0x00 ∷ 0x00 ∷ 0xFD ∷ 0xFF ∷ 0xFA ∷ 0xFB ∷ 0xFD ∷ 0x08 ∷ 0x55 ∷ []

abbrev pub r04_refused : Type 0
r04_refused =
    IsOnTheWire from_transmitter (PostDctLock 0x3E) all_locked
    × (received_number (received_of bit_six) ≡ 15)
    × (received_number (received_of unlisted) ≡ 18)

-- 2026-04: SET_CHANNEL with channel 16, and with a byte of DATA too many behind it: its count comes before its range.
abbrev pub channel_sixteen : List ℕ
channel_sixteen = 0x68 ∷ 0xF3 ∷ 0xFA ∷ 0xFF ∷ 0x00 ∷ 0x00 ∷ 0xFD ∷ 0xFF ∷ 0xFA ∷ 0xEF ∷ 0x07 ∷ 0x39 ∷ []

abbrev pub one_byte_more : List ℕ
one_byte_more = 0x68 ∷ 0xF2 ∷ 0xFA ∷ 0xFF ∷ 0x00 ∷ 0x00 ∷ 0xFD ∷ 0xFF ∷ 0xFA ∷ 0xEF ∷ 0xFF ∷ 0x08 ∷ 0x37 ∷ []

abbrev pub r04_count_first : Type 0
r04_count_first =
    (received_number (received_of channel_sixteen) ≡ 15) × (received_number (received_of one_byte_more) ≡ 16)

-- 2026-04: the order of the writer's refusals, in a buffer without room: 10, 11, 15, 14.
abbrev pub too_far : Envelope
too_far =
    record { ack = false; sender = 16; receiver = 5; source = address 0xFFFF00; destination = address 0x1000000 }

abbrev pub too_high : Envelope
too_high = record { ack = false; sender = 16; receiver = 5; source = address 0xFFFF00; destination = address 0x050002 }

abbrev pub r04_order : Type 0
r04_order =
    (map (λ (e : Envelope). write_number (written_of 11 0 e (SetIp 16))) (too_far ∷ too_high ∷ to_transmitter ∷ []) ≡ 10 ∷ 11 ∷ 15 ∷ [])
    × (write_number (written_of 11 0 to_transmitter (SetIp 15)) ≡ 14)

abbrev pub request_figures : List (Type 0)
request_figures =
    r01_serial
    ∷ r01_asked
    ∷ r01_told
    ∷ r01_version
    ∷ r02_halves
    ∷ r03_stored
    ∷ r03_called
    ∷ r03_refused
    ∷ r03_in_order
    ∷ r04_position
    ∷ r04_tilt
    ∷ r04_mode
    ∷ r04_sun
    ∷ r04_lock
    ∷ r04_counts
    ∷ r04_refused
    ∷ r04_count_first
    ∷ r04_order
    ∷ []
