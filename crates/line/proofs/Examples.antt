-- Computed examples: P3's frame with each fault and whole at both ends, and bundles of 31, 32 and 40 bytes.
-- Assumes nothing.
use Prim.Native.Nat.{ℕ, zero, suc}
use native.Mathlib.Omega.{arith}
use mathlib.Core.Path.{◌≡◌, refl}
use mathlib.Core.List.{List, [], ◌∷◌}
use Rattle.frame.specs.Layout.{header_of}
use Rattle.frame.specs.Reading.{IsFrame, reading_of}
use Rattle.line.specs.Reader.{fresh, step_of, close_of, ended_with, all_zeros}
use Rattle.line.specs.Telling.{Entry, after, Told, frame, refused, wholly}
use Rattle.line.specs.Damage.{Sent, whole, harmed, change, lose, insert, pause, lose_pause}
use Rattle.line.proofs.Sense.{recorded}

abbrev get_position : List ℕ
get_position = 0xF3 ∷ 0xF4 ∷ 0xFD ∷ 0xFF ∷ 0x00 ∷ 0x00 ∷ 0xFC ∷ 0xFB ∷ 0xFA ∷ 0x06 ∷ 0xD4 ∷ []

is_frame : IsFrame get_position
is_frame =
    record {
      from_11_bytes = omega arith;
      to_31_bytes = omega arith;
      no_extension = refl;
      states_its_length = refl;
      states_its_sum = refl;
      has_a_message = omega arith;
    }

sents : List Sent
sents =
    whole get_position is_frame
    ∷ harmed get_position is_frame (change 4 1) (omega arith)
    ∷ harmed get_position is_frame (lose 0) (omega arith)
    ∷ harmed get_position is_frame (insert 0 0) (omega arith)
    ∷ harmed get_position is_frame (insert 11 7) (omega arith)
    ∷ harmed get_position is_frame (pause 10) (omega arith)
    ∷ harmed get_position is_frame (lose_pause 5) (omega arith)
    ∷ harmed get_position is_frame (lose_pause 0) (omega arith)
    ∷ whole get_position is_frame
    ∷ []

abbrev itself : Told
itself = frame (header_of get_position) 0 get_position

of_each : wholly fresh (recorded sents).0
    ≡ itself ∷ refused 5 ∷ refused 1 ∷ refused 6 ∷ refused 4 ∷ refused 1 ∷ refused 1 ∷ refused 1 ∷ refused 1 ∷ refused 1 ∷ itself ∷ []
unfolding sents recorded step_of close_of ended_with all_zeros reading_of
of_each = refl

-- Bytes FFh, which are raw 0: EXT is 0, and LEN 0.
many : ℕ → List Entry
many zero = []
many (suc n) = after 0 0xFF ∷ many n

thirty_one : wholly fresh (many 31) ≡ refused 4 ∷ []
unfolding many step_of close_of ended_with all_zeros reading_of
thirty_one = refl

thirty_two : wholly fresh (many 32) ≡ refused 2 ∷ []
unfolding many step_of close_of ended_with all_zeros reading_of
thirty_two = refl

forty : wholly fresh (many 40) ≡ refused 2 ∷ []
unfolding many step_of close_of ended_with all_zeros reading_of
forty = refl
