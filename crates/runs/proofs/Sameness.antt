-- Two ascending runs that find the same record of every key are the same run.
-- Assumes nothing.
use mathlib.Core.Path.{◌≡◌, refl, ◌∙◌, sym, ap, ap₂}
use mathlib.Core.Bool.{true, false≢true}
use mathlib.Core.List.{List, [], ◌∷◌}
use Rattle.meaning.specs.Cases.{by_test}
use Rattle.runs.specs.Ordered.{Ordered, looked_up, is_some, Behind, Ascending}
use Rattle.runs.proofs.Order.{behind_ascends}
use Rattle.runs.proofs.Lookup.{here, further, not_found_behind}

module _ {R : Type 0} (o : Ordered R) where
  -- The first record is found in no run of which it stands before all.
  first_is_not_behind : (x : R) (l l' : List R) → Behind o (o.key x) l' → looked_up o (x ∷ l) (o.key x) ≡ looked_up o l' (o.key x) → ⊥
  first_is_not_behind x l l' h e =
      let s = sym (not_found_behind o (o.key x) l' h) ∙ sym e ∙ here o x l (o.key x) (o.itself (o.key x)) in
      false≢true (ap is_some s)

  pub same_everywhere_is_equal : (l l' : List R) → Ascending o l → Ascending o l'
      → ((k : o.Key) → looked_up o l k ≡ looked_up o l' k) → l ≡ l'
  same_everywhere_is_equal [] [] a a' e = refl
  same_everywhere_is_equal [] (y ∷ l') a a' e = absurd (first_is_not_behind y l' [] tt (sym (e (o.key y))))
  same_everywhere_is_equal (x ∷ l) [] a a' e = absurd (first_is_not_behind x l [] tt (e (o.key x)))
  same_everywhere_is_equal (x ∷ l) (y ∷ l') a a' e =
      by_test (o.before (o.key x) (o.key y)) (λ t. absurd (first_is_not_behind x l (y ∷ l') (t, a') (e (o.key x)))) λ t.
      by_test (o.same (o.key x) (o.key y))
      (λ s. ap₂ (λ (z : R) (r : List R). z ∷ r) (first s)
      (same_everywhere_is_equal l l' (behind_ascends o (o.key x) l a) (behind_ascends o (o.key y) l' a') (rest s)))
      (λ s. absurd (first_is_not_behind y l' (x ∷ l) (o.else_behind (o.key x) (o.key y) t s, a) (sym (e (o.key y)))))
    where
      first : o.same (o.key x) (o.key y) ≡ true → x ≡ y
      first s =
          let q = sym (here o x l (o.key y) s) ∙ e (o.key y) ∙ here o y l' (o.key y) (o.itself (o.key y)) in
          cc q

      rest : o.same (o.key x) (o.key y) ≡ true → (k : o.Key) → looked_up o l k ≡ looked_up o l' k
      rest s k =
          let p = o.same_is (o.key x) (o.key y) s in
          by_test (o.same (o.key x) k)
          (λ f.
          let on : Behind o k l = rw (o.same_is (o.key x) k f) at a in
          let on' : Behind o k l' = rw (sym p ∙ o.same_is (o.key x) k f) at a' in
          not_found_behind o k l on ∙ sym (not_found_behind o k l' on'))
          (λ f. sym (further o x l k f) ∙ e k ∙ further o y l' k (rw (sym p) f))
