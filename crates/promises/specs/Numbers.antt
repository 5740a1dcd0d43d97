-- Document 01's number of every refusal, row by row, and of every answer: that of its refusal, 0 where nothing is
-- refused.
-- Assumes nothing.
use Rattle.std.specs.Prelude.{ℕ, List, [], ◌∷◌, Some, None, Ok, Err}
use Rattle.refusal.specs.declared.Refusal.{Refusal}
use Rattle.frame.specs.Reading.{Reading}
use Rattle.frame.specs.Writing.{Writing}
use Rattle.line.specs.Reader.{Answer as Stepping}
use Rattle.board.specs.Events.{Verdict}
use Rattle.node.specs.Turn.{Answer as Turning}
use Rattle.motors.specs.Answer.{Answer}
use Rattle.form.specs.Writing.{Written}
use Rattle.rts.specs.Reading.{Received}

-- The table "Numbers given back".
abbrev pub number_of : Refusal → ℕ
number_of Refusal.TooShort = 1
number_of Refusal.TooLong = 2
number_of Refusal.Extended = 3
number_of Refusal.WrongLength = 4
number_of Refusal.WrongChecksum = 5
number_of Refusal.ReservedMessage = 6
number_of Refusal.UnequalRuns = 7
number_of Refusal.PlacePastEnd = 8
number_of Refusal.BrokenReader = 9
number_of Refusal.AddressTooLarge = 10
number_of Refusal.TypeTooLarge = 11
number_of Refusal.TooMuchData = 12
number_of Refusal.ReservedToWrite = 13
number_of Refusal.NoRoom = 14
number_of Refusal.FieldOutOfRange = 15
number_of Refusal.WrongDataCount = 16
number_of Refusal.UnlistedMessage = 18
number_of Refusal.BrokenRegister = 19
number_of Refusal.NoSuchLine = 20
number_of Refusal.NoMotor = 21
number_of Refusal.NotForRegister = 22
number_of Refusal.BadReading = 23
number_of Refusal.RegisterFull = 24
number_of Refusal.NotHeld = 25
number_of Refusal.BeyondTravel = 30
number_of Refusal.NotBlocking = 31
number_of Refusal.BadSettings = 32
number_of Refusal.BrokenNode = 33
number_of Refusal.NotFormOne = 40
number_of Refusal.TooManyMotors = 41
number_of Refusal.WrongFormLength = 42
number_of Refusal.BadContents = 43
number_of Refusal.BadBody = 44
number_of Refusal.NoRoomForForm = 45

abbrev pub read_number : Reading → ℕ
read_number (Ok (header, count)) = 0
read_number (Err refusal) = number_of refusal

abbrev pub write_number : Writing → ℕ
write_number (Ok place) = 0
write_number (Err refusal) = number_of refusal

abbrev pub line_number : Stepping → ℕ
line_number (Ok None) = 0
line_number (Ok (Some (header, count))) = 0
line_number (Err refusal) = number_of refusal

abbrev pub event_number : Verdict → ℕ
event_number (Ok tt) = 0
event_number (Err refusal) = number_of refusal

abbrev pub turn_number : Turning → ℕ
turn_number (Ok None) = 0
turn_number (Ok (Some reply)) = 0
turn_number (Err refusal) = number_of refusal

abbrev pub register_number : Answer → ℕ
register_number (Ok count) = 0
register_number (Err refusal) = number_of refusal

abbrev pub form_number : Written → ℕ
form_number (Ok count) = 0
form_number (Err refusal) = number_of refusal

abbrev pub received_number : Received → ℕ
received_number (Ok (envelope, message)) = 0
received_number (Err refusal) = number_of refusal

-- Rows 1 to 6: a bundle is no frame.
abbrev pub no_frame : List ℕ
no_frame = 1 ∷ 2 ∷ 3 ∷ 4 ∷ 5 ∷ 6 ∷ []
