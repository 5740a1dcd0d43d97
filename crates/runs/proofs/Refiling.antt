-- A record that gets a later key: it moves past those between, which close its gap. What is found after it, the order, the number and the places.
-- Assumes nothing.
use Prim.Native.Nat.{ℕ, suc, ◌+◌, ◌-◌, ◌<◌, ◌≤◌}
use native.Mathlib.Omega.{arith}
use mathlib.Core.Path.{◌≡◌, ◌∙◌, sym, ap}
use mathlib.Core.Bool.{true, false}
use mathlib.Core.List.{List, [], ◌∷◌, ◌++◌, append_assoc}
use lib.ListN.{length, take, drop, replicate, length-append}
use lib.Seq.{take-append-le, drop-append-le}
use Rattle.meaning.specs.Cases.{by_test}
use Rattle.runs.specs.Ordered.{Ordered, is_some, holds, place_of, placed, without, Ascending}
use Rattle.runs.specs.Places.{filled, carried_down, moved_down}
use Rattle.runs.proofs.Order.{never_both, before_is_another, behind_ascends}
use Rattle.runs.proofs.Lookup.{holds_further, nothing_holds, not_held_from_behind}
use Rattle.runs.proofs.Placing.{placed_past, placed_new_is_one_more}
use Rattle.runs.proofs.Removing.{without_here, without_further, without_leaves_every_other_key, without_one_held_is_one_less}
use Rattle.runs.proofs.Place.{place-past, place_here, place-within, placed_where_not_held}
use Rattle.runs.proofs.Moving.{down_starts, down_past, down_to_the_first}

module _ {R : Type 0} (o : Ordered R) (blank : R) (r : R) (k : o.Key) (later : o.before k (o.key r) ≡ true) where
  abbrev new : o.Key
  new = o.key r

  -- A record that stands before the old key stands before the new one.
  before_both : (x : R) → o.before (o.key x) k ≡ true → o.before (o.key x) new ≡ true
  before_both x t = o.before_still (o.key x) k new t later

  pub the_new_place_is_behind : (l : List R) → Ascending o l → holds o l k ≡ true → place_of o l k < place_of o l new
  the_new_place_is_behind [] a h = absurd (never_both h (nothing_holds o k))
  the_new_place_is_behind (x ∷ l) a h =
      by_test (o.before (o.key x) k)
      (λ t.
      let on = the_new_place_is_behind l (behind_ascends o (o.key x) l a)
      (sym (holds_further o x l k (before_is_another o (o.key x) k t)) ∙ h) in
      rw (place-past o x l k t, place-past o x l new (before_both x t)) (omega (arith, on))) λ t.
      by_test (o.same (o.key x) k)
      (λ s.
      let past : o.before (o.key x) new ≡ true = rw (o.same_is (o.key x) k s) later in
      rw (place_here o x l k t, place-past o x l new past) (omega arith))
      (λ s. absurd (never_both h (not_held_from_behind o x l k a t s)))

  moved_past : (l z : List R) → Ascending o l → holds o l k ≡ true → holds o l new ≡ false
      → carried_down blank (l ++ z) (place_of o l k) (place_of o l new - place_of o l k) r ≡ placed o (without o l k) r ++ z
  moved_past [] z a h f = absurd (never_both h (nothing_holds o k))
  moved_past (x ∷ l) z a h f =
      by_test (o.before (o.key x) k)
      (λ t.
      let d = before_is_another o (o.key x) k t in
      let b = before_both x t in
      let gap : suc (place_of o l new) - suc (place_of o l k) ≡ place_of o l new - place_of o l k = omega arith in
      rw (place-past o x l k t, place-past o x l new b, gap, without_further o x l k d, placed_past o x (without o l k) r b)
      (down_past blank x (l ++ z) (place_of o l k) (place_of o l new - place_of o l k) r
      ∙ ap (λ (m : List R). x ∷ m)
      (moved_past l z (behind_ascends o (o.key x) l a) (sym (holds_further o x l k d) ∙ h)
      (sym (holds_further o x l new (before_is_another o (o.key x) new b)) ∙ f)))) λ t.
      by_test (o.same (o.key x) k)
      (λ s.
      let b : o.before (o.key x) new ≡ true = rw (o.same_is (o.key x) k s) later in
      let p = place_of o l new in
      let within = place-within o l new in
      let g = sym (holds_further o x l new (before_is_another o (o.key x) new b)) ∙ f in
      let gap : suc p - 0 ≡ suc p = omega arith in
      rw (place_here o x l k t, place-past o x l new b, gap, without_here o x l k s, placed_where_not_held o l r g)
      (down_to_the_first blank p x (l ++ z) r (rw length-append (omega (arith, within)))
      ∙ rw (take-append-le p l z within, drop-append-le p l z within)
      (sym (append_assoc (take p l) (r ∷ drop p l) z))))
      (λ s. absurd (never_both h (not_held_from_behind o x l k a t s)))

  -- In the places: those between move down by one, and the record stands before the first that is behind its new key.
  pub moved_down_past_those_between : (n : ℕ) (l : List R) → Ascending o l → holds o l k ≡ true → holds o l new ≡ false → length l ≤ n
      → moved_down blank (filled n blank l) (place_of o l k) (place_of o l new - 1) r ≡ filled n blank (placed o (without o l k) r)
  unfolding filled
  moved_down_past_those_between n l a h f room =
      let behind = the_new_place_is_behind l a h in
      let within = place-within o l new in
      let less = without_one_held_is_one_less o l k h in
      let still = ap is_some (without_leaves_every_other_key o l k new (before_is_another o k new later)) ∙ f in
      let same_number = placed_new_is_one_more o (without o l k) r still in
      let p = place_of o l new in
      let last : p - 1 + 1 - place_of o l k ≡ p - place_of o l k = omega (arith, behind) in
      let kept : n - length l ≡ n - length (placed o (without o l k) r) = omega (arith, same_number, less) in
      down_starts blank (l ++ replicate (n - length l) blank) (p - 1) (place_of o l k) r
      (rw length-append (omega (arith, within, behind)))
      ∙ rw (last, ← kept) (moved_past l (replicate (n - length l) blank) a h f)
