-- A label's own test finds whether each of its characters is in range, and so does that of the first sixteen bytes of DATA.
-- Assumes nothing.
use Prim.Native.Nat.{ℕ, ◌<◌}
use native.Mathlib.Omega.{arith}
use mathlib.Core.Path.{◌≡◌, sym, subst}
use mathlib.Core.Logic.{◌↔◌}
use mathlib.Core.Bool.{true}
use mathlib.Core.List.{List}
use borrow.Author.Tests.{le-leb, leb-true}
use lib.Dec.{leb}
use lib.ListN.{length}
use Rattle.meaning.specs.Cases.{both, and_so}
use Rattle.meaning.specs.Every.{each_passes, every_by}
use Rattle.board.specs.Label.{is_character, is_label}
use Rattle.messages.specs.Identity.{label_in}
use Rattle.messages.proofs.FirstBytes.{so_many, each_of_them}
use Rattle.promises.specs.Wire.{byte_at}
use Rattle.promises.specs.BoardInRange.{IsCharacter}

module _ (character : ℕ) where
  is_one : is_character character ≡ true → IsCharacter character
  is_one e =
      let (from, to) = both (leb 0x20 character) (leb character 0x7E) e in
      record { from = leb-true 0x20 character from; to = leb-true character 0x7E to }

  one_so : IsCharacter character → is_character character ≡ true
  one_so c = and_so (leb 0x20 character) (leb character 0x7E) (le-leb 0x20 character c.from) (le-leb character 0x7E c.to)

module _ (l : List ℕ) where
  pub characters_are : is_label l ≡ true → (place : ℕ) → place < length l → IsCharacter (byte_at l place)
  characters_are e place h = is_one (byte_at l place) (each_passes is_character l 0 e place h)

  pub characters_so : ((place : ℕ) → place < length l → IsCharacter (byte_at l place)) → is_label l ≡ true
  characters_so f = every_by is_character l 0 (λ place h. one_so (byte_at l place) (f place h))

-- DATA of 55h.
module _ (d : List ℕ) where
  abbrev InRange : Type 0
  InRange = (place : ℕ) → place < 16 → IsCharacter (byte_at d place)

  so : InRange → is_label (label_in d) ≡ true
  so f =
      characters_so (label_in d) (λ place h.
      let k : place < 16 = omega (arith, so_many 16 d) in
      subst IsCharacter (sym (each_of_them 16 d place k)) (f place k))

  are : is_label (label_in d) ≡ true → InRange
  are e place h = subst IsCharacter (each_of_them 16 d place h) (characters_are (label_in d) e place (omega (arith, so_many 16 d)))

  pub a_label_exactly_when : InRange ↔ (is_label (label_in d) ≡ true)
  a_label_exactly_when = (so, are)
