-- The bytes of an entry and of a body, found from where it stands; what form 1 makes of them.
-- Assumes nothing.
use Rattle.std.specs.Prelude.{if◌then◌else◌}
use Prim.Native.Nat.{ℕ, suc, ◌-◌, ◌+◌, ◌*◌, ◌<◌}
use native.Mathlib.Omega.{arith}
use native.Mathlib.Nat.{add-zero}
use mathlib.Core.Path.{◌≡◌, ◌∙◌, sym, ap}
use mathlib.Core.Logic.{◌≢◌}
use mathlib.Core.Bool.{Bool, true, false}
use mathlib.Core.List.{List}
use lib.Dec.{eqb}
use lib.ListN.{get_or, drop}
use lib.Seq.{get_or-drop, get_or-take}
use borrow.Author.Tests.{eq-eqb, ne_eqb}
use Rattle.meaning.specs.Cases.{by_test}
use Rattle.motors.specs.Motor.{unread, with_reading, is_line, is_node, is_reading, unread_part, reading_part, right_beside_line, right_of, follows_of}
use Rattle.motors.specs.Order.{key_of}
use Rattle.motors.specs.declared.motor.Motor.{Motor}
use Rattle.form.specs.Layout.{
  entry_size,
  entry_place,
  body_place,
  part,
  line_in,
  node_in,
  pointer_in,
  body_in,
  motor_in,
  previous_in,
  entry_behind,
  entry_right,
}
use Rattle.form.specs.FormOne.{reading_right, motor_of_reading, form_one}

-- ---- the bytes of a part
module _ (size : ℕ) (b : List ℕ) (from at : ℕ) (e : from ≡ at) where
  pub first_byte : 0 < size → get_or b from 0 ≡ get_or (part size at b) 0 0
  first_byte h =
      sym (get_or-take size (drop at b) 0 0 h ∙ get_or-drop at b 0 0 ∙ ap (λ (i : ℕ). get_or b i 0) (add-zero at ∙ sym e))

  pub byte_on : (k : ℕ) → k < size → get_or b (from + k) 0 ≡ get_or (part size at b) k 0
  byte_on k h = sym (get_or-take size (drop at b) k 0 h ∙ get_or-drop at b k 0 ∙ ap (λ (i : ℕ). get_or b (i + k) 0) (sym e))

-- ---- an entry
module _ (b : List ℕ) (at from : ℕ) (e : from ≡ entry_place at) where
  pub pointer_read : (p : ℕ) → p ≡ get_or b (from + 4) 0 + 256 * get_or b (from + 5) 0 → p ≡ pointer_in b at
  pointer_read p q =
      let on = byte_on entry_size b from (entry_place at) e in
      q ∙ rw (on 4 (omega arith), on 5 (omega arith))

-- The motor of form 1 has the entry's line and NodeID.
pub key_of_the_entry : (line node : ℕ) (d : List ℕ) → key_of (motor_of_reading line node d) ≡ (line, node)
unfolding motor_of_reading
key_of_the_entry line node d = by_test (eqb (get_or d 0 0) 1) (λ t. rw t) (λ t. rw t)

module _ (count : ℕ) (b : List ℕ) (i : ℕ) where
  -- So its order is that of the entry before its reading is known.
  pub behind_by_entry : (previous : Motor)
      → entry_behind form_one previous count b i
      ≡ (if follows_of previous (unread (line_in b i) (node_in b i)) then eqb (pointer_in b i) (body_place form_one count i) else false)
  unfolding entry_behind follows_of right_of right_beside_line reading_part unread_part
  behind_by_entry previous =
      by_test (is_line (line_in b i))
      (λ l. by_test (is_node (node_in b i)) (λ n. rw (l, n, key_of_the_entry (line_in b i) (node_in b i) (body_in form_one count b i))) (λ n. rw (l, n)))
      (λ l. rw l)

  -- And the entry before stands in for the motor before, since the order is that of keys.
  module _ (previous m : Motor) (before : key_of previous ≡ key_of (previous_in form_one count b i)) (e : m ≡ unread (line_in b i) (node_in b i)) where
    by_keys : entry_behind form_one previous count b i ≡ entry_right form_one count b i
    unfolding entry_behind
    by_keys = rw before

    pub entry_wrong : follows_of previous m ≡ false → entry_right form_one count b i ≡ false
    entry_wrong f = sym by_keys ∙ behind_by_entry previous ∙ rw (← e, f)

    pub entry_placed : follows_of previous m ≡ true → (p place : ℕ) → p ≡ pointer_in b i → place ≡ body_place form_one count i
        → eqb p place ≡ entry_right form_one count b i
    entry_placed f p place q h = rw (q, h) (sym (sym by_keys ∙ behind_by_entry previous ∙ rw (← e, f)))

  pub key_before : i ≢ 0 → (m : Motor) → m ≡ unread (line_in b (i - 1)) (node_in b (i - 1)) → key_of m ≡ key_of (previous_in form_one count b i)
  key_before h m f =
      let next : i ≡ suc (i - 1) = omega arith in
      rw (next, f) (sym (key_of_the_entry (line_in b (i - 1)) (node_in b (i - 1)) (body_in form_one count b (i - 1))))

-- ---- a body
module _ (b : List ℕ) (count at from : ℕ) (e : from ≡ body_place form_one count at) where
  abbrev here : get_or b from 0 ≡ get_or (body_in form_one count b at) 0 0
  here = first_byte form_one.body_size b from (body_place form_one count at) e (omega arith)

  abbrev on : (k : ℕ) → k < form_one.body_size → get_or b (from + k) 0 ≡ get_or (body_in form_one count b at) k 0
  on = byte_on form_one.body_size b from (body_place form_one count at) e

  abbrev d : List ℕ
  d = body_in form_one count b at

  pub body-read : get_or b from 0 ≡ 1 → {r : Bool} → r ≡ is_reading (get_or b (from + 3) 0) (get_or b (from + 4) 0) → r ≡ reading_right d
  unfolding reading_right
  body-read h f = f ∙ sym (rw (← here, eq-eqb (get_or b from 0) 1 h, ← on 3 (omega arith), ← on 4 (omega arith)))

  module _ (no_reading : get_or b from 0 ≢ 1) where
    pub body_0 : get_or b from 0 ≢ 0 → reading_right d ≡ false
    unfolding reading_right
    body_0 n = rw (← here, ne_eqb _ _ no_reading, ne_eqb _ _ n)

    module _ (z₀ : get_or b from 0 ≡ 0) where
      pub body_1 : get_or b (from + 1) 0 ≢ 0 → reading_right d ≡ false
      unfolding reading_right
      body_1 n = rw (← here, ne_eqb _ _ no_reading, eq-eqb _ _ z₀, ← on 1 (omega arith), ne_eqb _ _ n)

      module _ (z₁ : get_or b (from + 1) 0 ≡ 0) where
        pub body_2 : get_or b (from + 2) 0 ≢ 0 → reading_right d ≡ false
        unfolding reading_right
        body_2 n =
            rw (← here, ne_eqb _ _ no_reading, eq-eqb _ _ z₀, ← on 1 (omega arith), eq-eqb _ _ z₁, ← on 2 (omega arith), ne_eqb _ _ n)

        module _ (z₂ : get_or b (from + 2) 0 ≡ 0) where
          -- The first three bytes are zeros.
          zeros_so_far : reading_right d ≡ (if eqb (get_or d 3 0) 0 then eqb (get_or d 4 0) 0 else false)
          unfolding reading_right
          zeros_so_far =
              rw (← here, ne_eqb _ _ no_reading, eq-eqb _ _ z₀, ← on 1 (omega arith), eq-eqb _ _ z₁, ← on 2 (omega arith), eq-eqb _ _ z₂)

          pub body_3 : get_or b (from + 3) 0 ≢ 0 → reading_right d ≡ false
          body_3 n = zeros_so_far ∙ rw (← on 3 (omega arith), ne_eqb _ _ n)

          pub body_4 : get_or b (from + 3) 0 ≡ 0 → reading_right d ≡ eqb (get_or b (from + 4) 0) 0
          body_4 z₃ = zeros_so_far ∙ rw (← on 3 (omega arith), eq-eqb _ _ z₃, ← on 4 (omega arith))

  module _ (m : Motor) (q : m ≡ unread (line_in b at) (node_in b at)) where
    pub motor_unread : get_or b from 0 ≢ 1 → m ≡ motor_in form_one count b at
    unfolding motor_of_reading
    motor_unread n = q ∙ sym (rw (← here, ne_eqb _ _ n))

    pub motor_read : get_or b from 0 ≡ 1 → (p : ℕ) → p ≡ get_or b (from + 1) 0 + 256 * get_or b (from + 2) 0
        → with_reading m.line m.node p (get_or b (from + 3) 0) (get_or b (from + 4) 0) ≡ motor_in form_one count b at
    unfolding motor_of_reading
    motor_read h p f =
        rw (q, f, on 1 (omega arith), on 2 (omega arith), on 3 (omega arith), on 4 (omega arith)) (sym (rw (← here, eq-eqb _ _ h)))
