-- The table line by line: what each message's MSG and DATA have to do with the list that they are read by.
-- Assumes nothing.
use Prim.Native.Nat.{ℕ, zero, suc, ◌≤◌, ◌<◌}
use native.Mathlib.Omega.{arith}
use native.Mathlib.Nat.{lt_of_le_of_lt, le_of_suc-le-suc}
use mathlib.Core.Path.{◌≡◌, refl, ◌∙◌}
use mathlib.Core.Bool.{Bool, true}
use mathlib.Core.List.{List, [], ◌∷◌, map}
use borrow.Author.Tests.{ltb-true}
use lib.Dec.{ltb}
use lib.ListN.{length}
use Rattle.std.specs.List.{list_all}
use Rattle.meaning.specs.Bytes.{Bytes}
use Rattle.meaning.specs.Cases.{both}
use Rattle.meaning.specs.Tests.{Test, ◌at_most◌, ◌below◌, succeeds, ◌and◌}
use Rattle.rts.specs.Spelling.{spelled_by}
use Rattle.rts.specs.Fields.{value_of, fits, four_of}
use Rattle.rts.specs.Table.{row_of, number_of, data_of, in_range}
use Rattle.rts.specs.declared.field.Field.{Field}
use Rattle.rts.specs.declared.message.Message.{Message}
use Rattle.rts.specs.declared.message.Message.TheVariants.{
  CtrlPosition,
  CtrlTilt,
  CtrlDim,
  SetChannelMode,
  SetTiltFramecount,
  SetDimFramecount,
  SetSunAuto,
  SetDctLock,
  SetChannel,
  SetOpenProg,
  SetIp,
  GetChannelMode,
  GetTiltFramecount,
  GetDimFramecount,
  GetDctLock,
  PostChannelMode,
  PostTiltFramecount,
  PostDimFramecount,
  PostDctLock,
}
use Rattle.rts.proofs.Fitting.{all_fit}
use Rattle.std.specs.Prelude.{Some}

-- Nothing over a byte is in range.
abbrev pub narrow : List Field → Bool
narrow fields = list_all (λ field. ltb field.range.high 256) fields

-- At most four fields, of a byte each, and a number that a frame may have.
abbrev pub ordinary : Message → Test
ordinary m = length (data_of m) at_most 4 and (number_of m below 255 and succeeds (narrow (row_of m).fields))

-- A number of the list spells, whatever the bytes, a message with as many fields.
abbrev Listed : Message → Type 0
Listed m =
    (fields : List ℕ)
    → (spelled : Message)
    × ((spelled_by (number_of m) fields ≡ Some spelled) × (length (data_of spelled) ≡ length (data_of m)))

pub record Line (m : Message) : Type 0 where
  pub is_ordinary : (ordinary m).holds ≡ true
  pub spelled_again : spelled_by (number_of m) (four_of (data_of m)) ≡ Some m
  pub listed : Listed m

by_table : {m : Message} → (ordinary m).holds ≡ true → spelled_by (number_of m) (four_of (data_of m)) ≡ Some m → Listed m → Line m
by_table plain again listed = record { is_ordinary = plain; spelled_again = again; listed = listed }

pub line : (m : Message) → Line m
unfolding spelled_by
line (CtrlPosition d) = by_table refl refl (λ f. (_, (refl, refl)))
line (CtrlTilt d) = by_table refl refl (λ f. (_, (refl, refl)))
line (CtrlDim d) = by_table refl refl (λ f. (_, (refl, refl)))
line (SetChannelMode d) = by_table refl refl (λ f. (_, (refl, refl)))
line (SetTiltFramecount d) = by_table refl refl (λ f. (_, (refl, refl)))
line (SetDimFramecount d) = by_table refl refl (λ f. (_, (refl, refl)))
line (SetSunAuto d) = by_table refl refl (λ f. (_, (refl, refl)))
line (SetDctLock d) = by_table refl refl (λ f. (_, (refl, refl)))
line (SetChannel a) = by_table refl refl (λ f. (_, (refl, refl)))
line (SetOpenProg a) = by_table refl refl (λ f. (_, (refl, refl)))
line (SetIp a) = by_table refl refl (λ f. (_, (refl, refl)))
line (GetChannelMode a) = by_table refl refl (λ f. (_, (refl, refl)))
line (GetTiltFramecount a) = by_table refl refl (λ f. (_, (refl, refl)))
line (GetDimFramecount a) = by_table refl refl (λ f. (_, (refl, refl)))
line GetDctLock = by_table refl refl (λ f. (_, (refl, refl)))
line (PostChannelMode d) = by_table refl refl (λ f. (_, (refl, refl)))
line (PostTiltFramecount d) = by_table refl refl (λ f. (_, (refl, refl)))
line (PostDimFramecount d) = by_table refl refl (λ f. (_, (refl, refl)))
line (PostDctLock a) = by_table refl refl (λ f. (_, (refl, refl)))

pub at_most_four : (m : Message) → length (data_of m) ≤ 4
at_most_four m = ((ordinary m).is_fact (line m).is_ordinary).0

pub no_reserved_number : (m : Message) → number_of m < 255
no_reserved_number m = ((ordinary m).is_fact (line m).is_ordinary).1.0

-- In range, every field is a byte.
bytes_that_fit : (fields : List Field) → narrow fields ≡ true → list_all (λ field. (fits field).holds) fields ≡ true → Bytes (map value_of fields)
bytes_that_fit [] few fine i h = absurd (omega arith)
bytes_that_fit (field ∷ fields) few fine zero h =
    lt_of_le_of_lt ((fits field).is_fact (both (fits field).holds _ fine).0).1.0 (ltb-true field.range.high 256 (both _ (narrow fields) few).0)
bytes_that_fit (field ∷ fields) few fine (suc i) h =
    bytes_that_fit fields (both (ltb field.range.high 256) (narrow fields) few).1 (both (fits field).holds _ fine).1 i (le_of_suc-le-suc h)

pub bytes_in_range : (m : Message) → (in_range m).holds ≡ true → Bytes (data_of m)
bytes_in_range m fine =
    bytes_that_fit (row_of m).fields ((ordinary m).is_fact (line m).is_ordinary).1.1 (all_fit (row_of m).fields ∙ fine)
