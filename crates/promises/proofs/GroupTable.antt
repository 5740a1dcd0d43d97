-- The group table after a turn: one entry put, all others as before.
-- Assumes nothing.
use Prim.Native.Nat.{ℕ, ◌≤◌, ◌<◌}
use native.Mathlib.Omega.{arith}
use mathlib.Core.Path.{◌≡◌, refl, ap}
use mathlib.Core.Logic.{◌≢◌, ◌↔◌, ◌⊎◌, inl, inr}
use mathlib.Core.Bool.{true}
use mathlib.Core.List.{[], ◌∷◌}
use borrow.Author.Tests.{le-ltb, lt-ltb}
use lib.Dec.{ltb}
use lib.ListN.{length, get_or, length-set, get_or-replicate}
use lib.Seq.{get_or-set_same, get_or-set_other}
use Rattle.meaning.specs.Choice.{either}
use Rattle.frame.specs.declared.address.Address.{Address}
use Rattle.board.specs.Groups.{group_of, no_groups, in_table, applied, Change, put}
use Rattle.board.proofs.GroupTable.{member_exactly_when, silence_keeps_the_table}
use Rattle.promises.specs.Groups.{Groups, IsMember}
use Rattle.promises.specs.Demand2.Events.{GroupTable}
use Rattle.promises.proofs.Meant.{as_entry, is_member}
use Rattle.std.specs.Prelude.{Some, None}

in_the_table : (source : Address) (g : Groups) → IsMember source.0 g ↔ (in_table source g ≡ true)
in_the_table source g =
    let exactly = member_exactly_when source g in
    (λ m. exactly.0 (as_entry source g m), λ e. is_member source g (exactly.1 e))

-- Every entry of a fresh table is empty.
none_in_a_fresh_table : (source : ℕ) → ¬ IsMember source no_groups
none_in_a_fresh_table source m =
    m.not_empty (ap (λ (entry : _). (group_of entry).0) (get_or-replicate 16 m.index (0 ∷ 0 ∷ 0 ∷ []) [] m.in_the_table))

module _ (g : Groups) (index low middle high : ℕ) where
  put_so : length g ≡ 16 → index ≤ 15 → get_or (applied g (Some (put index low middle high))) index [] ≡ low ∷ middle ∷ high ∷ []
  put_so l h = rw (le-ltb 15 index h) (get_or-set_same g index (low ∷ middle ∷ high ∷ []) [] (omega arith))

  others : (other : ℕ) → other ≢ index → get_or (applied g (Some (put index low middle high))) other [] ≡ get_or g other []
  others other h =
      either (λ (after : Groups). get_or after other [] ≡ get_or g other []) (ltb 15 index) (λ t. refl)
      (λ t. get_or-set_other g index other (low ∷ middle ∷ high ∷ []) [] h)

  beyond_15 : 15 < index → applied g (Some (put index low middle high)) ≡ g
  beyond_15 h = rw (lt-ltb 15 index h)

kept_length : (g : Groups) (change : Change) → length (applied g change) ≡ length g
kept_length g None = refl
kept_length g (Some p) =
    either (λ (after : Groups). length after ≡ length g) (ltb 15 p.index) (λ t. refl) (λ t. length-set g p.index (p.low ∷ p.middle ∷ p.high ∷ []))

kept_or_put : (change : Change) → (change ≡ None)
    ⊎ ((index : ℕ) × (low : ℕ) × (middle : ℕ) × (high : ℕ) × (change ≡ Some (put index low middle high)))
kept_or_put None = inl refl
kept_or_put (Some p) = inr (p.index, p.low, p.middle, p.high, refl)

pub group_table : GroupTable
group_table =
    record {
      a_change_keeps_the_table_or_puts_an_entry = kept_or_put;
      a_fresh_table_is_sixteen_empty_entries = refl;
      no_source_is_in_a_fresh_table = none_in_a_fresh_table;
      in_the_table_exactly_when_a_member = in_the_table;
      a_table_kept_is_as_before = silence_keeps_the_table;
      the_entry_put_is_its_three_bytes = put_so;
      every_other_entry_is_as_before = others;
      no_entry_is_put_beyond_15 = beyond_15;
      the_table_keeps_its_length = kept_length;
    }
