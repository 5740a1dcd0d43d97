-- The paper's number of each refusal (document 01, "Numbers given back").
-- Assumes nothing.
use Rattle.std.specs.Prelude.{ℕ}
use Rattle.refusal.specs.declared.Refusal.{Refusal}

abbrev pub number_of : Refusal → ℕ
number_of Refusal.TooShort = 1
number_of Refusal.TooLong = 2
number_of Refusal.Extended = 3
number_of Refusal.WrongLength = 4
number_of Refusal.WrongChecksum = 5
number_of Refusal.ReservedMessage = 6
number_of Refusal.UnequalRuns = 7
number_of Refusal.PlacePastEnd = 8
number_of Refusal.BrokenReader = 9
number_of Refusal.AddressTooLarge = 10
number_of Refusal.TypeTooLarge = 11
number_of Refusal.TooMuchData = 12
number_of Refusal.ReservedToWrite = 13
number_of Refusal.NoRoom = 14
number_of Refusal.FieldOutOfRange = 15
number_of Refusal.WrongDataCount = 16
number_of Refusal.UnlistedMessage = 18
number_of Refusal.BrokenRegister = 19
number_of Refusal.NoSuchLine = 20
number_of Refusal.NoMotor = 21
number_of Refusal.NotForRegister = 22
number_of Refusal.BadReading = 23
number_of Refusal.RegisterFull = 24
number_of Refusal.NotHeld = 25
number_of Refusal.BeyondTravel = 30
number_of Refusal.NotBlocking = 31
number_of Refusal.BadSettings = 32
number_of Refusal.BrokenNode = 33
number_of Refusal.NotFormOne = 40
number_of Refusal.TooManyMotors = 41
number_of Refusal.WrongFormLength = 42
number_of Refusal.BadContents = 43
number_of Refusal.BadBody = 44
number_of Refusal.NoRoomForForm = 45
