-- Moving in the places that hold a run is inserting and removing; in the places of an ascending run it is placing a record and removing a key.
-- Assumes nothing.
use Prim.Native.Nat.{ℕ, suc, ◌+◌, ◌-◌, ◌<◌, ◌≤◌}
use native.Mathlib.Omega.{arith}
use mathlib.Core.Path.{◌≡◌, refl, ◌∙◌, sym, ap}
use mathlib.Core.Bool.{true, false}
use mathlib.Core.List.{List, [], ◌∷◌, ◌++◌, append_assoc}
use lib.ListN.{length, set, take, drop, replicate, length-drop}
use lib.Seq.{take-append-le, drop-append-le, take_at, drop_at}
use Rattle.runs.specs.Ordered.{Ordered, holds, place_of, placed, without, Ascending}
use Rattle.runs.specs.Places.{filled, inserted, removed, carried_up, carried_down, moved_up, moved_down}
use Rattle.runs.proofs.Place.{place-within, held_exactly_when_at_its_place, placed_where_held, placed_where_not_held, without_where_held}
use Rattle.runs.proofs.Filled.{
  filled_has_every_place,
  length-between,
  length_closed,
  set_in_the_places,
  inserted_in_the_places,
  removed_in_the_places,
}
use Rattle.runs.proofs.Moving.{up_starts, down_starts, carried_up_comes_to, carried_down_comes_to}

drop_one_blank : {R : Type 0} (blank : R) (a : List R) (k : ℕ) → drop (suc (length a)) (a ++ replicate (suc k) blank) ≡ replicate k blank
drop_one_blank blank [] k = refl
drop_one_blank blank (x ∷ a) k = drop_one_blank blank a k

-- The front of a run, the rest of it, and blanks behind: what the moving leaves of these three.
module _ {R : Type 0} (n : ℕ) (blank : R) (l : List R) (count : ℕ) (number : length l ≡ count) (p : ℕ) where
  abbrev blanks : List R
  blanks = replicate (n - length l) blank

  abbrev places : List R
  places = l ++ blanks

  many : count ≤ n → length places ≡ n
  unfolding filled
  many h = filled_has_every_place n blank l (omega arith)

  rest : (from : ℕ) → length (drop from l) ≡ count - from
  rest from = length-drop from l ∙ ap (λ (j : ℕ). j - from) number

  reaches : (i : ℕ) → count ≤ n → p + i < n → i < length (drop p places)
  reaches i h k = rw (length-drop p places, many h) (omega arith)

  -- ---- a record put in: those from its place to the end of the run move up
  with_it : (r : R) → p ≤ count → count < n
      → take p places ++ r ∷ (take (count - p) (drop p places) ++ drop (suc (count - p)) (drop p places))
      ≡ filled n blank (take p l ++ r ∷ drop p l)
  unfolding filled
  with_it r h room =
      let within : p ≤ length l = omega arith in
      let left : n - length l ≡ suc (n - suc count) = omega arith in
      let behind : drop (suc (count - p)) (drop p l ++ blanks) ≡ replicate (n - suc count) blank =
      rw (← rest p, left) (drop_one_blank blank (drop p l) (n - suc count)) in
      let fewer : n - length (take p l ++ r ∷ drop p l) ≡ n - suc count = omega (arith, length-between l p r) in
      rw (take-append-le p l blanks within, drop-append-le p l blanks within, take_at (drop p l) blanks (count - p) (rest p), behind, fewer)
      (sym (append_assoc (take p l) (r ∷ drop p l) (replicate (n - suc count) blank)))

  pub moved_up_is_the_run_with_it : (r : R) → p ≤ count → count < n
      → moved_up blank (filled n blank l) p count r ≡ filled n blank (take p l ++ r ∷ drop p l)
  unfolding filled
  moved_up_is_the_run_with_it r h room =
      up_starts blank places count p r (omega (arith, many (omega arith)))
      ∙ ap (λ (j : ℕ). carried_up blank places p j r) (omega arith)
      ∙ carried_up_comes_to blank places p (count - p) r (reaches (count - p) (omega arith) (omega arith))
      ∙ with_it r h room

  pub moved_up_is_inserted : (r : R) → p ≤ count → count < n
      → moved_up blank (filled n blank l) p count r ≡ inserted (filled n blank l) p r
  moved_up_is_inserted r h room =
      moved_up_is_the_run_with_it r h room ∙ sym (inserted_in_the_places n blank l p r (omega arith) (omega arith))

  -- ---- a place given back: those behind it move down, and a blank comes last
  without_it : p < count → count ≤ n
      → take p places ++ (take (count - suc p) (drop (suc p) places) ++ blank ∷ drop (suc (count - suc p)) (drop p places))
      ≡ filled n blank (take p l ++ drop (suc p) l)
  unfolding filled
  without_it h room =
      let within : suc p ≤ length l = omega arith in
      let whole : length (drop p l) ≡ suc (count - suc p) = rest p ∙ omega arith in
      let more : n - length (take p l ++ drop (suc p) l) ≡ suc (n - length l) = omega (arith, length_closed l p within) in
      rw (
        take-append-le p l blanks (omega arith),
        drop-append-le (suc p) l blanks within,
        drop-append-le p l blanks (omega arith),
        take_at (drop (suc p) l) blanks (count - suc p) (rest (suc p)),
        drop_at (drop p l) blanks (suc (count - suc p)) whole,
        more,
      ) (sym (append_assoc (take p l) (drop (suc p) l) (blank ∷ blanks)))

  pub moved_down_is_the_run_without_it : p < count → count ≤ n
      → moved_down blank (filled n blank l) p (count - 1) blank ≡ filled n blank (take p l ++ drop (suc p) l)
  unfolding filled
  moved_down_is_the_run_without_it h room =
      down_starts blank places (count - 1) p blank (omega (arith, many room))
      ∙ ap (λ (j : ℕ). carried_down blank places p j blank) (omega arith)
      ∙ carried_down_comes_to blank places p (count - suc p) blank (reaches (count - suc p) room (omega arith))
      ∙ without_it h room

  pub moved_down_is_removed : p < count → count ≤ n → moved_down blank (filled n blank l) p (count - 1) blank ≡ removed blank (filled n blank l) p
  moved_down_is_removed h room =
      moved_down_is_the_run_without_it h room ∙ sym (removed_in_the_places n blank l p (omega arith) (omega arith))

-- ---- in the places of an ascending run: a record placed, and a key removed
module _ {R : Type 0} (o : Ordered R) (n : ℕ) (blank : R) (l : List R) where
  pub set_at_its_place_is_placed : (r : R) → Ascending o l → holds o l (o.key r) ≡ true
      → set (filled n blank l) (place_of o l (o.key r)) r ≡ filled n blank (placed o l r)
  set_at_its_place_is_placed r a h =
      set_in_the_places n blank l (place_of o l (o.key r)) r ((held_exactly_when_at_its_place o blank l (o.key r) a).0 h).0
      ∙ ap (filled n blank) (sym (placed_where_held o l r a h))

  pub moved_up_from_its_place_is_placed : (r : R) → holds o l (o.key r) ≡ false → length l < n
      → moved_up blank (filled n blank l) (place_of o l (o.key r)) (length l) r ≡ filled n blank (placed o l r)
  moved_up_from_its_place_is_placed r h room =
      moved_up_is_the_run_with_it n blank l (length l) refl (place_of o l (o.key r)) r (place-within o l (o.key r)) room
      ∙ ap (filled n blank) (sym (placed_where_not_held o l r h))

  pub moved_down_to_its_place_is_without : (k : o.Key) → Ascending o l → holds o l k ≡ true → length l ≤ n
      → moved_down blank (filled n blank l) (place_of o l k) (length l - 1) blank ≡ filled n blank (without o l k)
  moved_down_to_its_place_is_without k a h room =
      moved_down_is_the_run_without_it n blank l (length l) refl (place_of o l k) ((held_exactly_when_at_its_place o blank l k a).0 h).0 room
      ∙ ap (filled n blank) (sym (without_where_held o l k a h))
