-- No two rows of the table share a number: the table finds each refusal by its number.
-- Assumes nothing.
use Rattle.std.specs.Prelude.{if◌then◌else◌, ℕ, ◌≡◌, refl, List, [], ◌∷◌, eqb}
use Rattle.std.proofs.Common.{◌∙◌, sym, ap}
use Rattle.refusal.specs.Number.{number_of}
use Rattle.refusal.specs.declared.Refusal.{Refusal}
use Rattle.refusal.specs.declared.Refusal.TheVariants.{
  TooShort,
  TooLong,
  Extended,
  WrongLength,
  WrongChecksum,
  ReservedMessage,
  UnequalRuns,
  PlacePastEnd,
  BrokenReader,
  AddressTooLarge,
  TypeTooLarge,
  TooMuchData,
  ReservedToWrite,
  NoRoom,
  FieldOutOfRange,
  WrongDataCount,
  UnlistedMessage,
  BrokenRegister,
  NoSuchLine,
  NoMotor,
  NotForRegister,
  BadReading,
  RegisterFull,
  NotHeld,
  BeyondTravel,
  NotBlocking,
  BadSettings,
  BrokenNode,
  NotFormOne,
  TooManyMotors,
  WrongFormLength,
  BadContents,
  BadBody,
  NoRoomForForm,
}

-- The rows: bundles, lent runs, the writer, typed messages, the register, the node, stored forms.
abbrev table : List Refusal
table =
    TooShort ∷ TooLong ∷ Extended ∷ WrongLength ∷ WrongChecksum ∷ ReservedMessage ∷
    UnequalRuns ∷ PlacePastEnd ∷ BrokenReader ∷
    AddressTooLarge ∷ TypeTooLarge ∷ TooMuchData ∷ ReservedToWrite ∷ NoRoom ∷
    FieldOutOfRange ∷ WrongDataCount ∷ UnlistedMessage ∷
    BrokenRegister ∷ NoSuchLine ∷ NoMotor ∷ NotForRegister ∷ BadReading ∷ RegisterFull ∷ NotHeld ∷
    BeyondTravel ∷ NotBlocking ∷ BadSettings ∷ BrokenNode ∷
    NotFormOne ∷ TooManyMotors ∷ WrongFormLength ∷ BadContents ∷ BadBody ∷ NoRoomForForm ∷
    []

-- The first refusal of a list that has this number, `TooShort` where none has.
abbrev numbered : ℕ → List Refusal → Refusal
numbered k [] = TooShort
numbered k (r ∷ rs) = if eqb (number_of r) k then r else numbered k rs

found : (r : Refusal) → numbered (number_of r) table ≡ r
found TooShort = refl
found TooLong = refl
found Extended = refl
found WrongLength = refl
found WrongChecksum = refl
found ReservedMessage = refl
found UnequalRuns = refl
found PlacePastEnd = refl
found BrokenReader = refl
found AddressTooLarge = refl
found TypeTooLarge = refl
found TooMuchData = refl
found ReservedToWrite = refl
found NoRoom = refl
found FieldOutOfRange = refl
found WrongDataCount = refl
found UnlistedMessage = refl
found BrokenRegister = refl
found NoSuchLine = refl
found NoMotor = refl
found NotForRegister = refl
found BadReading = refl
found RegisterFull = refl
found NotHeld = refl
found BeyondTravel = refl
found NotBlocking = refl
found BadSettings = refl
found BrokenNode = refl
found NotFormOne = refl
found TooManyMotors = refl
found WrongFormLength = refl
found BadContents = refl
found BadBody = refl
found NoRoomForForm = refl

pub one_row_one_number : (r s : Refusal) → number_of r ≡ number_of s → r ≡ s
one_row_one_number r s e = sym (found r) ∙ ap (λ (k : ℕ). numbered k table) e ∙ found s
