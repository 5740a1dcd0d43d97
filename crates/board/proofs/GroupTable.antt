-- SOURCE is in the group table exactly when it is an entry that is not empty; and what a change leaves of the table.
-- Assumes nothing.
use Rattle.std.specs.Prelude.{if◌then◌else◌, None}
use Prim.Native.Nat.{ℕ, zero, suc, ◌<◌, suc-le-suc}
use native.Mathlib.Omega.{arith}
use native.Mathlib.Nat.{le_of_suc-le-suc}
use mathlib.Core.Path.{◌≡◌, refl, ◌∙◌}
use mathlib.Core.Logic.{◌↔◌, ◌≢◌, ◌⊎◌, inl, inr, ⊎_elim}
use mathlib.Core.Bool.{Bool, true, false, false≢true}
use mathlib.Core.List.{List, [], ◌∷◌}
use borrow.Author.Tests.{eq-eqb, ne_eqb, eqb-true, eqb-false}
use lib.Dec.{eqb}
use lib.ListN.{length, get_or}
use Rattle.frame.specs.declared.address.Address.{Address}
use Rattle.board.specs.Groups.{Groups, group_of, is_entry_of, in_table, Member, applied}

-- An empty entry matches no SOURCE at all.
pub empty_entry_matches_nothing : (entry : List ℕ) (source : Address) → (group_of entry).0 ≡ 0x000000 → is_entry_of entry source ≡ false
empty_entry_matches_nothing entry source e = rw (eq-eqb (group_of entry).0 0x000000 e)

-- SOURCE 000000h is no group of any table.
pub no_group_is_000000h : (source : Address) (groups : Groups) → source.0 ≡ 0x000000 → ¬ Member source groups
no_group_is_000000h source groups e m = m.not_empty (m.is_source ∙ e)

entry_of : (entry : List ℕ) (source : Address) → is_entry_of entry source ≡ true → ((group_of entry).0 ≢ 0x000000) × ((group_of entry).0 ≡ source.0)
entry_of entry source e = by (eqb (group_of entry).0 0x000000) refl e
  where
    by : (t : Bool) → eqb (group_of entry).0 0x000000 ≡ t → (if t then false else eqb (group_of entry).0 source.0) ≡ true
        → ((group_of entry).0 ≢ 0x000000) × ((group_of entry).0 ≡ source.0)
    by true f g = absurd (false≢true g)
    by false f g = (eqb-false (group_of entry).0 0x000000 f, eqb-true (group_of entry).0 source.0 g)

of_entry : (entry : List ℕ) (source : Address) → (group_of entry).0 ≢ 0x000000 → (group_of entry).0 ≡ source.0 → is_entry_of entry source ≡ true
of_entry entry source n e = rw (ne_eqb (group_of entry).0 0x000000 n) (eq-eqb (group_of entry).0 source.0 e)

chosen_either : (t b : Bool) → (if t then true else b) ≡ true → (t ≡ true) ⊎ (b ≡ true)
chosen_either true b e = inl refl
chosen_either false b e = inr e

here : (entry : List ℕ) (source : Address) (groups : Groups) → is_entry_of entry source ≡ true → Member source (entry ∷ groups)
here entry source groups f =
    let k = entry_of entry source f in
    record { index = 0; in_table_lem = omega arith; not_empty = k.0; is_source = k.1 }

further : (entry : List ℕ) (source : Address) (groups : Groups) → Member source groups → Member source (entry ∷ groups)
further entry source groups m =
    record { index = suc m.index; in_table_lem = suc-le-suc m.in_table_lem; not_empty = m.not_empty; is_source = m.is_source }

member_of : (source : Address) (groups : Groups) → in_table source groups ≡ true → Member source groups
unfolding in_table
member_of source [] e = absurd (false≢true e)
member_of source (entry ∷ groups) e =
    ⊎_elim (λ f. here entry source groups f) (λ f. further entry source groups (member_of source groups f))
    (chosen_either (is_entry_of entry source) (in_table source groups) e)

table_has : (source : Address) (groups : Groups) (index : ℕ) → index < length groups
    → (group_of (get_or groups index [])).0 ≢ 0x000000 → (group_of (get_or groups index [])).0 ≡ source.0 → in_table source groups ≡ true
unfolding in_table
table_has source [] index h n e = absurd (omega arith)
table_has source (entry ∷ groups) zero h n e = rw (of_entry entry source n e)
table_has source (entry ∷ groups) (suc index) h n e =
    anyway (is_entry_of entry source) (table_has source groups index (le_of_suc-le-suc h) n e)
  where
    anyway : (t : Bool) → in_table source groups ≡ true → (if t then true else in_table source groups) ≡ true
    anyway true f = refl
    anyway false f = f

pub member_exactly_when : (source : Address) (groups : Groups) → Member source groups ↔ (in_table source groups ≡ true)
member_exactly_when source groups =
    (λ (m : Member source groups). table_has source groups m.index m.in_table_lem m.not_empty m.is_source, member_of source groups)

pub silence_keeps_the_table : (g : Groups) → applied g None ≡ g
silence_keeps_the_table g = refl
