-- Who writes by the frame writer and has one more reason to refuse has the writer's rules: where the reason does not apply he
-- is the frame writer, and where it does the writer's rows 10 to 13 come before it.
-- Assumes nothing.
use Prim.Native.Nat.{ℕ, ◌+◌}
use native.Mathlib.Omega.{arith}
use mathlib.Core.Path.{◌≡◌, refl, ◌∙◌, sym, ap}
use mathlib.Core.Logic.{inr}
use mathlib.Core.List.{List, ◌∷◌}
use lib.ListN.{length}
use Rattle.meaning.specs.Tests.{Test, holds_by, passed_by}
use Rattle.meaning.specs.Tables.{◌when◌, decide, decided, decides_on, changes_the_rest}
use Rattle.refusal.specs.declared.Refusal.{Refusal}
use Rattle.frame.specs.Writing.{frame_table, room_table, writing_of, writing_with, in_place_of_room, Writing}
use Rattle.frame.specs.declared.header.Header.{Header}
use Rattle.std.specs.Prelude.{Ok, Err}

module _ (room place : ℕ) (h : Header) (d : List ℕ) where
  abbrev next : Writing
  next = Ok (place + (11 + length d))

  -- Lent no room, the writer answers by its rows 10 to 13, or else by 14.
  without_room : writing_of 0 0 h d ≡ decide (frame_table h d) (Err Refusal.NoRoom)
  unfolding writing_of
  without_room =
      decides_on (frame_table h d) (room_table 0 0 d) (Ok (0 + (11 + length d)))
      ∙ ap (decide (frame_table h d)) (decided 0 (room_table 0 0 d) (Ok (0 + (11 + length d))) (inr (omega arith)))

  module _ (reason : Test) (refusal : Refusal) where
    pub as_the_writer : reason.other → writing_with (Err refusal when reason) room place h d ≡ writing_of room place h d
    unfolding writing_with writing_of
    as_the_writer o =
        decides_on (frame_table h d) (Err refusal when reason ∷ room_table room place d) next
        ∙ ap (decide (frame_table h d)) (rw (passed_by reason o))
        ∙ sym (decides_on (frame_table h d) (room_table room place d) next)

    pub behind_its_rows : reason.fact
        → writing_with (Err refusal when reason) room place h d ≡ in_place_of_room refusal (writing_of 0 0 h d)
    unfolding writing_with
    behind_its_rows f =
        decides_on (frame_table h d) (Err refusal when reason ∷ room_table room place d) next
        ∙ ap (decide (frame_table h d)) (rw (holds_by reason f))
        ∙ sym (ap (in_place_of_room refusal) without_room
        ∙ changes_the_rest (in_place_of_room refusal) (frame_table h d) (Err Refusal.NoRoom) (refl, (refl, (refl, (refl, tt)))))
