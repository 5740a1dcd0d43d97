-- Records that move by one place: what a loop's turn leaves to do, what the moving comes to, and where nothing moves.
-- Assumes nothing.
use Prim.Native.Nat.{ℕ, zero, suc, ◌+◌, ◌-◌, ◌<◌, ◌≤◌}
use native.Mathlib.Omega.{arith}
use native.Mathlib.Nat.{le_of_suc-le-suc, zero-add, suc-add}
use mathlib.Core.Path.{◌≡◌, refl, ◌∙◌, sym, ap}
use mathlib.Core.List.{List, [], ◌∷◌, ◌++◌, append_assoc}
use lib.Dec.{ltb}
use lib.ListN.{length, get_or, set, take, drop, length-set}
use lib.Seq.{take-suc, drop-cons, take-set-le, drop-set-lt, get_or-set_same}
use borrow.Author.Tests.{lt-ltb, le-ltb}
use Rattle.meaning.specs.Cases.{by_test}
use Rattle.runs.specs.Places.{carried_up, carried_down, moved_up, moved_down}

module _ {R : Type 0} (blank : R) where
  -- ---- a loop that moves records up, from place i on: its start, a turn, its end
  module _ (run : List R) (last : ℕ) where
    pub up_starts : (from : ℕ) (r : R) → last < length run → moved_up blank run from last r ≡ carried_up blank run from (suc last - from) r
    unfolding moved_up
    up_starts from r h = rw (lt-ltb last (length run) h)

    pub up_not : (from : ℕ) (r : R) → length run ≤ last → moved_up blank run from last r ≡ run
    unfolding moved_up
    up_not from r h = rw (le-ltb last (length run) h)

    pub up_turns : (i : ℕ) (c : R) → i ≤ last
        → carried_up blank run i (suc last - i) c ≡ carried_up blank (set run i c) (i + 1) (suc last - (i + 1)) (get_or run i blank)
    unfolding carried_up
    up_turns i c h =
        let one : suc last - i ≡ suc (suc last - (i + 1)) = omega arith in
        let up : i + 1 ≡ suc i = omega arith in
        rw (one, up)

    pub up_ends : (i : ℕ) (c : R) → last < i → carried_up blank run i (suc last - i) c ≡ run
    unfolding carried_up
    up_ends i c h =
        let none_left : suc last - i ≡ 0 = omega arith in
        rw none_left

    -- ---- a loop that moves records down, before place i
    pub down_starts : (from : ℕ) (r : R) → last < length run → moved_down blank run from last r ≡ carried_down blank run from (last + 1 - from) r
    unfolding moved_down
    down_starts from r h =
        let up : last + 1 ≡ suc last = omega arith in
        rw (lt-ltb last (length run) h, up)

    pub down_not : (from : ℕ) (r : R) → length run ≤ last → moved_down blank run from last r ≡ run
    unfolding moved_down
    down_not from r h = rw (le-ltb last (length run) h)

  module _ (run : List R) (from i : ℕ) (c : R) where
    pub down_turns : from < i
        → carried_down blank run from (i - from) c ≡ carried_down blank (set run (i - 1) c) from (i - 1 - from) (get_or run (i - 1) blank)
    unfolding carried_down
    down_turns h =
        let one : i - from ≡ suc (i - 1 - from) = omega arith in
        let at : from + (i - 1 - from) ≡ i - 1 = omega arith in
        ap (λ (n : ℕ). carried_down blank run from n c) one
        ∙ ap (λ (j : ℕ). carried_down blank (set run j c) from (i - 1 - from) (get_or run j blank)) at

    pub down_ends : i ≤ from → carried_down blank run from (i - from) c ≡ run
    unfolding carried_down
    down_ends h =
        let none_left : i - from ≡ 0 = omega arith in
        rw none_left

  -- ---- the number of places is kept
  pub carried_up_keeps_the_length : (run : List R) (at n : ℕ) (r : R) → length (carried_up blank run at n r) ≡ length run
  unfolding carried_up
  carried_up_keeps_the_length run at zero r = refl
  carried_up_keeps_the_length run at (suc n) r =
      carried_up_keeps_the_length (set run at r) (suc at) n (get_or run at blank) ∙ length-set run at r

  pub carried_down_keeps_the_length : (run : List R) (from n : ℕ) (r : R) → length (carried_down blank run from n r) ≡ length run
  unfolding carried_down
  carried_down_keeps_the_length run from zero r = refl
  carried_down_keeps_the_length run from (suc n) r =
      carried_down_keeps_the_length (set run (from + n) r) from n (get_or run (from + n) blank) ∙ length-set run (from + n) r

  module _ (run : List R) (from last : ℕ) (r : R) where
    pub moved_up_keeps_the_length : length (moved_up blank run from last r) ≡ length run
    unfolding moved_up
    moved_up_keeps_the_length =
        by_test (ltb last (length run)) (λ t. rw t (carried_up_keeps_the_length run from (suc last - from) r)) (λ t. rw t)

    pub moved_down_keeps_the_length : length (moved_down blank run from last r) ≡ length run
    unfolding moved_down
    moved_down_keeps_the_length =
        by_test (ltb last (length run)) (λ t. rw t (carried_down_keeps_the_length run from (suc last - from) r)) (λ t. rw t)

  -- ---- no place, and one place
  module _ (run : List R) (r : R) where
    pub from_1_to_0_nothing_moves_up : moved_up blank run 1 0 r ≡ run
    unfolding moved_up carried_up
    from_1_to_0_nothing_moves_up = by_test (ltb 0 (length run)) (λ t. rw t) (λ t. rw t)

    pub from_1_to_0_nothing_moves_down : moved_down blank run 1 0 r ≡ run
    unfolding moved_down carried_down
    from_1_to_0_nothing_moves_down = by_test (ltb 0 (length run)) (λ t. rw t) (λ t. rw t)

    pub moved_up_at_one_place_is_set : (p : ℕ) → p < length run → moved_up blank run p p r ≡ set run p r
    unfolding moved_up carried_up
    moved_up_at_one_place_is_set p h =
        let one : suc p - p ≡ 1 = omega arith in
        rw (lt-ltb p (length run) h, one)

    pub moved_down_at_one_place_is_set : (p : ℕ) → p < length run → moved_down blank run p p r ≡ set run p r
    unfolding moved_down carried_down
    moved_down_at_one_place_is_set p h =
        let one : suc p - p ≡ 1 = omega arith in
        let at : p + 0 ≡ p = omega arith in
        rw (lt-ltb p (length run) h, one, at)

  -- ---- what the moving comes to: those before the first place stay
  up_past : (x : R) (run : List R) (at n : ℕ) (r : R) → carried_up blank (x ∷ run) (suc at) n r ≡ x ∷ carried_up blank run at n r
  unfolding carried_up
  up_past x run at zero r = refl
  up_past x run at (suc n) r = up_past x (set run at r) (suc at) n (get_or run at blank)

  up_from_the_first : (run : List R) (n : ℕ) (r : R) → n < length run → carried_up blank run 0 (suc n) r ≡ r ∷ (take n run ++ drop (suc n) run)
  unfolding carried_up
  up_from_the_first [] n r h = absurd (omega arith)
  up_from_the_first (x ∷ run) zero r h = refl
  up_from_the_first (x ∷ run) (suc n) r h =
      up_past r run 0 (suc n) x ∙ ap (λ (m : List R). r ∷ m) (up_from_the_first run n x (le_of_suc-le-suc h))

  -- The record stands at the first place, those that stood there and behind it follow, and the last one's is gone.
  pub carried_up_comes_to : (run : List R) (at n : ℕ) (r : R) → n < length (drop at run)
      → carried_up blank run at (suc n) r ≡ take at run ++ r ∷ (take n (drop at run) ++ drop (suc n) (drop at run))
  carried_up_comes_to run zero n r h = up_from_the_first run n r h
  carried_up_comes_to [] (suc at) n r h = absurd (omega arith)
  carried_up_comes_to (x ∷ run) (suc at) n r h = up_past x run at (suc n) r ∙ ap (λ (m : List R). x ∷ m) (carried_up_comes_to run at n r h)

  pub down_past : (x : R) (run : List R) (from n : ℕ) (r : R) → carried_down blank (x ∷ run) (suc from) n r ≡ x ∷ carried_down blank run from n r
  unfolding carried_down
  down_past x run from zero r = refl
  down_past x run from (suc n) r = rw suc-add (down_past x (set run (from + n) r) from n (get_or run (from + n) blank))

  pub down_to_the_first : (n : ℕ) (x : R) (run : List R) (r : R) → n ≤ length run
      → carried_down blank (x ∷ run) 0 (suc n) r ≡ take n run ++ r ∷ drop n run
  unfolding carried_down
  down_to_the_first zero x run r h = refl
  down_to_the_first (suc n) x run r h =
      let back : drop n (set run n r) ≡ r ∷ drop (suc n) run =
      drop-cons (set run n r) n blank (rw length-set h) ∙ rw (get_or-set_same run n r blank h, drop-set-lt (suc n) run n r (omega arith)) in
      rw zero-add (down_to_the_first n x (set run n r) (get_or run n blank) (rw length-set (omega arith))
      ∙ rw (take-set-le n run n r (omega arith), back, take-suc run n blank h)
      (sym (append_assoc (take n run) (get_or run n blank ∷ []) (r ∷ drop (suc n) run))))

  -- Those behind the first place follow those before it, the record stands at the last place, and the first one's is gone.
  pub carried_down_comes_to : (run : List R) (from n : ℕ) (r : R) → n < length (drop from run)
      → carried_down blank run from (suc n) r ≡ take from run ++ (take n (drop (suc from) run) ++ r ∷ drop (suc n) (drop from run))
  carried_down_comes_to [] zero n r h = absurd (omega arith)
  carried_down_comes_to [] (suc from) n r h = absurd (omega arith)
  carried_down_comes_to (x ∷ run) zero n r h = down_to_the_first n x run r (le_of_suc-le-suc h)
  carried_down_comes_to (x ∷ run) (suc from) n r h =
      down_past x run from (suc n) r ∙ ap (λ (m : List R). x ∷ m) (carried_down_comes_to run from n r h)
