-- MSG and DATA say which message it is: one count of bytes for a number, one message for a number and DATA.
-- Assumes nothing.
use Prim.Native.Nat.{ℕ, ◌≤◌}
use native.Mathlib.Omega.{arith}
use mathlib.Core.Path.{◌≡◌, refl, ◌∙◌, sym, ap, ap₂, subst}
use mathlib.Core.Logic.{◌≢◌, ◌↔◌}
use mathlib.Core.List.{List, [], ◌∷◌}
use lib.ListN.{length, get_or, take}
use Rattle.meaning.specs.Cases.{zero_is_one}
use Rattle.meaning.specs.Tables.{of_its_row}
use Rattle.rts.specs.Spelling.{spellings, spelled_by, Spelled}
use Rattle.rts.specs.Fields.{four_of}
use Rattle.rts.specs.Table.{number_of, data_of}
use Rattle.rts.specs.declared.message.Message.{Message}
use Rattle.rts.proofs.Lines.{line, at_most_four}
use Rattle.std.specs.Prelude.{Some, None}

-- What is spelled has the number and, of its fields, the bytes.
abbrev Right : (number : ℕ) → List ℕ → Spelled → Type 0
Right number d (Some m) = (number_of m ≡ number) × (data_of m ≡ take (length (data_of m)) (four_of d))
Right number d None = Unit {0}

spelled_right : (number : ℕ) (d : List ℕ) → Right number d (spelled_by number (four_of d))
unfolding spelled_by
spelled_right number d =
    of_its_row (Right number d) (spellings number (get_or d 0 0) (get_or d 1 0) (get_or d 2 0) (get_or d 3 0)) None
    (row, (row, (row, (row, (row, (row, (row, (row, (row, (row, (row, (row, (row, (row, (row, (row, (row, (row, (row, tt)))))))))))))))))))
    tt
  where
    row : {k : ℕ} {l : List ℕ} → number ≡ k → (k ≡ number) × (l ≡ l)
    row e = (sym e, refl)

-- DATA of at most four bytes is the first of its four.
pub first_of_four : (d : List ℕ) → length d ≤ 4 → take (length d) (four_of d) ≡ d
first_of_four [] h = refl
first_of_four (a ∷ []) h = refl
first_of_four (a ∷ b ∷ []) h = refl
first_of_four (a ∷ b ∷ c ∷ []) h = refl
first_of_four (a ∷ b ∷ c ∷ d ∷ []) h = refl
first_of_four (a ∷ b ∷ c ∷ d ∷ e ∷ l) h = absurd (omega arith)

-- A message that is spelled has the number; where its fields are as many as the bytes, they are the bytes.
module _ (number : ℕ) (d : List ℕ) (m : Message) (spelled : spelled_by number (four_of d) ≡ Some m) where
  right : Right number d (Some m)
  right = subst (Right number d) spelled (spelled_right number d)

  pub spelled_number : number_of m ≡ number
  spelled_number = right.0

  pub spelled_data : length d ≡ length (data_of m) → data_of m ≡ d
  spelled_data e =
      right.1 ∙ ap (λ (n : ℕ). take n (four_of d)) (sym e) ∙ first_of_four d (rw e (at_most_four m))

-- A message's own number and DATA spell it.
pub spells : (m : Message) → spelled_by (number_of m) (four_of (data_of m)) ≡ Some m
spells m = (line m).spelled_again

same_message : (m n : Message) → Some m ≡ Some n → m ≡ n
same_message m n e = cc

pub one_message : (m n : Message) → number_of m ≡ number_of n → data_of m ≡ data_of n → m ≡ n
one_message m n e f =
    same_message m n (sym (spells m) ∙ ap₂ (λ (k : ℕ) (d : List ℕ). spelled_by k (four_of d)) e f ∙ spells n)

pub one_count : (m n : Message) → number_of m ≡ number_of n → length (data_of m) ≡ length (data_of n)
one_count m n e =
    let (s, (spelled, as_m)) = (line m).listed [] in
    let (t, (spelled', as-n)) = (line n).listed [] in
    let same = same_message s t (sym spelled ∙ ap (λ (k : ℕ). spelled_by k []) e ∙ spelled') in
    sym as_m ∙ ap (λ (x : Message). length (data_of x)) same ∙ as-n

-- A number that spells none is no message's.
module _ (number : ℕ) (fields : List ℕ) where
  pub unlisted : spelled_by number fields ≡ None → (m : Message) → number_of m ≢ number
  unlisted none m e =
      let (s, (spelled, _)) = (line m).listed fields in
      let clash : Some s ≡ None = sym spelled ∙ ap (λ (k : ℕ). spelled_by k fields) e ∙ none in
      zero_is_one cc

  by_its_first_four : spelled_by number (four_of fields) ≡ spelled_by number fields
  unfolding spelled_by
  by_its_first_four = refl

  found : (s : Spelled) → spelled_by number fields ≡ s → ((m : Message) → number_of m ≢ number) → s ≡ None
  found (Some m) spelled none = absurd (none m (spelled_number number fields m (by_its_first_four ∙ spelled)))
  found None spelled none = refl

  pub unlisted_exactly_when : (spelled_by number fields ≡ None) ↔ ((m : Message) → number_of m ≢ number)
  unlisted_exactly_when = (unlisted, found (spelled_by number fields) refl)

-- Four bytes spell a message exactly when they begin with its DATA.
module _ (number : ℕ) (fields : List ℕ) (m : Message) where
  first_four : (l : List ℕ) → length l ≡ 4 → four_of l ≡ l
  first_four l four = ap (λ (n : ℕ). take n (four_of l)) (sym four) ∙ first_of_four l (omega arith)

  abbrev Begins : Type 0
  Begins = (number_of m ≡ number) × (take (length (data_of m)) fields ≡ data_of m)

  begins : length fields ≡ 4 → spelled_by number fields ≡ Some m → Begins
  begins four spelled =
      let found = right number fields m (ap (spelled_by number) (first_four fields four) ∙ spelled) in
      (found.0, ap (take (length (data_of m))) (sym (first_four fields four)) ∙ sym found.1)

  is_spelled : length fields ≡ 4 → Begins → spelled_by number fields ≡ Some m
  is_spelled four (e, f) =
      let (s, (spelled, same)) = (line m).listed fields in
      let found : spelled_by number (four_of fields) ≡ Some s = ap₂ spelled_by (sym e) (first_four fields four) ∙ spelled in
      let content : data_of s ≡ data_of m = (right number fields s found).1 ∙ ap₂ take same (first_four fields four) ∙ f in
      sym (ap (spelled_by number) (first_four fields four)) ∙ found ∙ ap Some (one_message s m ((right number fields s found).0 ∙ sym e) content)

  pub spelled_exactly_when : length fields ≡ 4 → (spelled_by number fields ≡ Some m) ↔ Begins
  spelled_exactly_when four = (begins four, is_spelled four)
