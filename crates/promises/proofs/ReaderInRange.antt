-- Row 9 place by place is the reader's own test, and a step keeps it; of 31 bytes, those behind the count are zeros.
-- Assumes nothing.
use Rattle.std.specs.Prelude.{if◌then◌else◌}
use Prim.Native.Nat.{ℕ, zero, suc, ◌+◌, ◌-◌, ◌≤◌, ◌<◌}
use native.Mathlib.Omega.{arith}
use mathlib.Core.Path.{◌≡◌, refl, ◌∙◌, sym, ap}
use mathlib.Core.Logic.{◌↔◌}
use mathlib.Core.Bool.{Bool, true, false}
use mathlib.Core.List.{List, [], ◌∷◌, ◌++◌}
use borrow.Author.Tests.{leb-true, leb-false, le-leb, eqb-true, eq-eqb, ltb-true}
use lib.Dec.{leb, ltb, eqb}
use lib.ListN.{length, get_or, take, drop, set, replicate, length-drop, length-replicate, get_or-replicate, take-append-drop}
use lib.Seq.{get_or-drop, get_or-set_other, ext_get_or, set_split}
use Rattle.meaning.specs.Cases.{by_test, passed_both}
use Rattle.line.specs.Reader.{all_zeros, is_sound, reader, fresh, begun, joined, step_of}
use Rattle.line.specs.declared.reader.Reader.{Reader}
use Rattle.line.proofs.Steps.{step-ends, step_joins, goes_on_as}
use Rattle.promises.specs.ReaderInRange.{ReaderInRange}
use Rattle.promises.proofs.First.{fails_exactly_when}

-- ---- row 9
all_zeros_so : (l : List ℕ) → ((place : ℕ) → get_or l place 0 ≡ 0) → all_zeros l ≡ true
unfolding all_zeros
all_zeros_so [] z = refl
all_zeros_so (x ∷ l) z = rw (eq-eqb x 0 (z 0)) (all_zeros_so l (λ place. z (suc place)))

all_zeros_is : (l : List ℕ) → all_zeros l ≡ true → (place : ℕ) → get_or l place 0 ≡ 0
unfolding all_zeros
all_zeros_is [] e place = refl
all_zeros_is (x ∷ l) e zero = eqb-true x 0 (passed_both (eqb x 0) (all_zeros l) e).0
all_zeros_is (x ∷ l) e (suc place) = all_zeros_is l (passed_both (eqb x 0) (all_zeros l) e).1 place

module _ (r : Reader) where
  pub is_sound_lem : ReaderInRange r → is_sound r ≡ true
  is_sound_lem i =
      rw (le-leb r.count 32 i.at_most_32_counted)
      (all_zeros_so (drop r.count r.kept)
      (λ place. get_or-drop r.count r.kept place 0 ∙ i.zeros_behind_the_count (r.count + place) (omega arith)))

  in_range_lem : is_sound r ≡ true → ReaderInRange r
  in_range_lem e =
      let (c, z) = passed_both (leb r.count 32) (all_zeros (drop r.count r.kept)) e in
      record {
        at_most_32_counted = leb-true r.count 32 c;
        zeros_behind_the_count =
            λ place h.
            let there : r.count + (place - r.count) ≡ place = omega arith in
            ap (λ (k : ℕ). get_or r.kept k 0) (sym there)
            ∙ sym (get_or-drop r.count r.kept (place - r.count) 0)
            ∙ all_zeros_is (drop r.count r.kept) z (place - r.count);
      }

  pub in_range_exactly_when : ReaderInRange r ↔ (is_sound r ≡ true)
  in_range_exactly_when = (is_sound_lem, in_range_lem)

  pub is_broken : ¬ ReaderInRange r → is_sound r ≡ false
  is_broken = (fails_exactly_when (is_sound r) in_range_exactly_when).1

-- ---- a step keeps it
begun_in_range : (byte : ℕ) → ReaderInRange (begun byte)
unfolding all_zeros
begun_in_range byte = in_range_lem (begun byte) refl

pub fresh_in_range : ReaderInRange fresh
unfolding all_zeros
fresh_in_range = in_range_lem fresh refl

joined_in_range : (r : Reader) (byte : ℕ) → ReaderInRange r → ReaderInRange (joined r byte)
joined_in_range r byte i = go (ltb r.count 31) refl
  where
    go : (t : Bool) → ltb r.count 31 ≡ t
        → ReaderInRange (reader (if t then set r.kept r.count byte else r.kept) (if t then r.count + 1 else 32))
    go true t =
        let room = ltb-true r.count 31 t in
        record {
          at_most_32_counted = omega arith;
          zeros_behind_the_count =
              λ place h. get_or-set_other r.kept r.count place byte 0 (omega arith) ∙ i.zeros_behind_the_count place (omega arith);
        }
    go false t =
        let counted = i.at_most_32_counted in
        record { at_most_32_counted = omega arith; zeros_behind_the_count = λ place h. i.zeros_behind_the_count place (omega arith) }

pub stays_in_range : (r : Reader) (byte silence : ℕ) → ReaderInRange r → ReaderInRange (step_of r byte silence).reader
stays_in_range r byte silence i =
    by_test (leb 30 silence)
    (λ t. rw (step-ends r byte silence (is_sound_lem r i) (leb-true 30 silence t), goes_on_as r (begun byte)) (begun_in_range byte))
    (λ t. rw (step_joins r byte silence (is_sound_lem r i) (leb-false 30 silence t)) (joined_in_range r byte i))

-- ---- what is kept, of 31 bytes
module _ (r : Reader) (i : ReaderInRange r) (size : length r.kept ≡ 31) where
  zeros_from : (place : ℕ) → r.count ≤ place → drop place r.kept ≡ replicate (31 - place) 0
  zeros_from place h =
      ext_get_or 0 (drop place r.kept) (replicate (31 - place) 0) (simp (length-drop, length-replicate) (omega arith))
      (λ k l.
      get_or-drop place r.kept k 0
      ∙ i.zeros_behind_the_count (place + k) (omega arith)
      ∙ sym (get_or-replicate (31 - place) k 0 0 (omega (arith, l, length-drop place r.kept))))

  pub kept_is : r.kept ≡ take r.count r.kept ++ replicate (31 - r.count) 0
  kept_is =
      sym (take-append-drop r.count r.kept)
      ∙ ap (λ (l : List ℕ). take r.count r.kept ++ l) (zeros_from r.count (omega arith))

  pub kept_with : (byte : ℕ) → r.count < 31 → set r.kept r.count byte ≡ take r.count r.kept ++ byte ∷ replicate (30 - r.count) 0
  kept_with byte h =
      let less : 31 - suc r.count ≡ 30 - r.count = omega arith in
      set_split r.kept r.count byte (omega arith)
      ∙ ap (λ (l : List ℕ). take r.count r.kept ++ byte ∷ l) (rw less at (zeros_from (suc r.count) (omega arith)))
