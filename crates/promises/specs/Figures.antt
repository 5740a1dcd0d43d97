-- Document 01's worked figures P1 to P11, in bytes and numbers: one list, one statement.
-- Assumes nothing.
use Rattle.std.specs.Prelude.{ℕ, ◌≡◌, false, List, [], ◌∷◌, ◌++◌, map, take, replicate, Ok, Some, None}
use Rattle.std.proofs.Math.Option.{some}
use Rattle.frame.specs.{
  Reading.{reading_of},
  Writing.{buffer_after},
  declared.header.Header.{Header},
}
use Rattle.travel.specs.{Position.{percent_of_pulse, pulse_of_percent}, Share.{share_of}}
use Rattle.board.specs.declared.whole.Node.{Node}
use Rattle.node.specs.Frames.{turn_of}
use Rattle.motors.specs.{Register.{found}, Filing.{filed_of}, declared.{motor.Motor.{Motor}}}
use Rattle.form.specs.{Reading.{read_of}, Writing.{written_of, buffer_after as form_written}}
use Rattle.promises.specs.Wire.{inverted}
use Rattle.promises.specs.Numbers.{read_number}
use Rattle.promises.specs.BoardParts.{
  address,
  pulse,
  percent,
  ip,
  plain_plate,
  drive,
  lock,
  no_ips,
  spaces,
  empty_table,
}
use Rattle.promises.specs.RegisterInRange.{no_motor, no_motors}

-- A header without the ACK bit.
abbrev pub header : (message sender receiver source destination : ℕ) → Header
header message sender receiver source destination =
    record {
      message = message;
      ack = false;
      sender = sender;
      receiver = receiver;
      source = address source;
      destination = address destination;
    }

-- What goes out of a header and DATA: what the writer leaves of so many zeros, as many as the frame has bytes.
abbrev pub sent : (size : ℕ) → Header → List ℕ → List ℕ
sent size h d = buffer_after (replicate size 0) 0 h d

-- 002: raw bytes, from FF:FF:00 to 05:00:02, type 5, and as they go out.
abbrev pub raw_bytes : List ℕ
raw_bytes = 0x80 ∷ 0x0D ∷ 0x05 ∷ 0x00 ∷ 0xFF ∷ 0xFF ∷ 0x02 ∷ 0x00 ∷ 0x05 ∷ 0x04 ∷ 0x02 ∷ []

abbrev pub wire_bytes : List ℕ
wire_bytes = 0x7F ∷ 0xF2 ∷ 0xFA ∷ 0xFF ∷ 0x00 ∷ 0x00 ∷ 0xFD ∷ 0xFF ∷ 0xFA ∷ 0xFB ∷ 0xFD ∷ 0x08 ∷ 0x58 ∷ []

abbrev pub P1 : Type 0
P1 =
    (sent 13 (header 0x80 0 5 0xFFFF00 0x050002) (0x04 ∷ 0x02 ∷ []) ≡ wire_bytes)
    × (map inverted (take 11 wire_bytes) ≡ raw_bytes)

-- 002: its A0h frame.
abbrev pub P2 : Type 0
P2 =
    sent 12 (header 0xA0 0 5 0xFFFF00 0x050002) (0x06 ∷ [])
    ≡ 0x5F ∷ 0xF3 ∷ 0xFA ∷ 0xFF ∷ 0x00 ∷ 0x00 ∷ 0xFD ∷ 0xFF ∷ 0xFA ∷ 0xF9 ∷ 0x07 ∷ 0x3A ∷ []

-- GET position from FF:FF:00 to 05:04:03, type 2.
abbrev pub get_position : List ℕ
get_position = 0xF3 ∷ 0xF4 ∷ 0xFD ∷ 0xFF ∷ 0x00 ∷ 0x00 ∷ 0xFC ∷ 0xFB ∷ 0xFA ∷ 0x06 ∷ 0xD4 ∷ []

abbrev pub P3 : Type 0
P3 = sent 11 (header 0x0C 0 2 0xFFFF00 0x050403) [] ≡ get_position

-- 05:04:03, type 2, with travel 1,000, at pulse 333, no IP; else a fresh node.
abbrev pub awning : Node
awning =
    record {
      settings = record { id = address 0x050403; kind = 2; travel = pulse 1000; plate = plain_plate };
      drive = drive (pulse 333) None 0xFF 0 0xFF false;
      favourites = no_ips;
      lock = lock false (address 0x000000) 0 false;
      label = spaces;
    }

-- Its reply to P3: 16 bytes, then zeros.
abbrev pub position_told : List ℕ
position_told =
    0xF2 ∷ 0xEF ∷ 0xDF ∷ 0xFC ∷ 0xFB ∷ 0xFA ∷ 0xFF ∷ 0x00 ∷ 0x00 ∷ 0xB2 ∷ 0xFE ∷ 0xDE ∷ 0x00 ∷ 0x00 ∷ 0x09 ∷ 0x3E ∷ []

abbrev pub P4 : Type 0
P4 =
    turn_of awning empty_table get_position
    ≡ record {
      node = awning;
      change = None;
      answer = Ok (Some (record { count = 16; bytes = position_told ++ replicate 15 0 }));
    }

-- P3 with 00 put in front, without its last byte, and with last byte D5.
abbrev pub P5 : Type 0
P5 = read_number (reading_of (0x00 ∷ get_position)) ≡ 6

abbrev pub P6 : Type 0
P6 = read_number (reading_of (take 10 get_position)) ≡ 1

abbrev pub P7 : Type 0
P7 = read_number (reading_of (take 10 get_position ++ 0xD5 ∷ [])) ≡ 5

-- Travel 1,000.
abbrev pub P8 : Type 0
P8 = (percent_of_pulse (pulse 334) (pulse 1000) ≡ percent 33) × (percent_of_pulse (pulse 335) (pulse 1000) ≡ percent 34)

-- Travel 101, and back.
abbrev pub P9 : Type 0
P9 = (pulse_of_percent (percent 50) (pulse 101) ≡ pulse 51) × (percent_of_pulse (pulse 51) (pulse 101) ≡ percent 50)

-- The percents of two IPs, and of three, that share the travel.
abbrev pub P10 : Type 0
P10 =
    (share_of (ip 1) 2 ≡ percent 33)
    × (share_of (ip 2) 2 ≡ percent 66)
    × (share_of (ip 1) 3 ≡ percent 25)
    × (share_of (ip 2) 3 ≡ percent 50)
    × (share_of (ip 3) 3 ≡ percent 75)

-- A record.
abbrev pub motor : (line node mark pulse percent ip : ℕ) → Motor
motor line node mark pulse percent ip =
    record { node = node; line = line; mark = mark; pulse = pulse; percent = percent; ip = ip }

-- NodeID 05:04:03 on line 0, read 333, 33, FFh, and on line 1, with no reading.
abbrev pub on_line0 : Motor
on_line0 = motor 0 0x050403 1 333 33 0xFF

abbrev pub on_line1 : Motor
on_line1 = motor 1 0x050403 0 0 0 0

abbrev pub one_motor : List Motor
one_motor = on_line0 ∷ replicate 255 no_motor

abbrev pub two_motors : List Motor
two_motors = on_line0 ∷ on_line1 ∷ replicate 254 no_motor

abbrev pub whole_file : List ℕ
whole_file =
    0x01 ∷ 0x02 ∷ 0x00 ∷
    0x00 ∷ 0x03 ∷ 0x04 ∷ 0x05 ∷ 0x0F ∷ 0x00 ∷
    0x01 ∷ 0x03 ∷ 0x04 ∷ 0x05 ∷ 0x14 ∷ 0x00 ∷
    0x01 ∷ 0x4D ∷ 0x01 ∷ 0x21 ∷ 0xFF ∷
    0x00 ∷ 0x00 ∷ 0x00 ∷ 0x00 ∷ 0x00 ∷ []

-- The whole file, written and read; both motors found under line and NodeID; and P4's reply, filed on line 0.
abbrev pub P11 : Type 0
P11 =
    (written_of two_motors 2 25 ≡ Ok 25)
    × (form_written two_motors 2 (replicate 25 0) ≡ whole_file)
    × (read_of no_motors whole_file ≡ record { motors = two_motors; answer = Ok 2 })
    × (found two_motors 2 0 0x050403 ≡ some on_line0)
    × (found two_motors 2 1 0x050403 ≡ some on_line1)
    × (filed_of no_motors 0 0 position_told ≡ record { motors = one_motor; answer = Ok 1 })

abbrev pub figures : List (Type 0)
figures = P1 ∷ P2 ∷ P3 ∷ P4 ∷ P5 ∷ P6 ∷ P7 ∷ P8 ∷ P9 ∷ P10 ∷ P11 ∷ []

abbrev pub AllHold : List (Type 0) → Type 0
AllHold [] = Unit {0}
AllHold (figure ∷ rest) = figure × AllHold rest
