-- The head and the motors laid one after the other leave the form at the start of the buffer: entries fill the contents, bodies what is behind.
-- Assumes nothing.
use Prim.Native.Nat.{ℕ, zero, suc, ◌+◌, ◌-◌, ◌*◌, ◌≤◌, ◌<◌}
use native.Mathlib.Omega.{arith}
use native.Mathlib.Nat.{mul-zero, mul-suc, add-mul, mul-le-mul_left}
use mathlib.Core.Path.{◌≡◌, refl, ◌∙◌, sym, ap, ap₂}
use mathlib.Core.Bool.{true}
use mathlib.Core.List.{List, [], ◌++◌, append-nil, append_assoc}
use lib.ListN.{length, get_or, take, drop, length-append, length-take, length-drop, take-append-drop, drop_of_length-le}
use lib.Seq.{take_all, length-take-le, get_or-take, drop-drop}
use lib.Dec.{ltb}
use borrow.Author.Tests.{lt-ltb, ltb-true}
use Rattle.meaning.specs.Choice.{either}
use Rattle.frame.specs.Writing.{over}
use Rattle.motors.specs.Motor.{zeros}
use Rattle.motors.specs.Register.{places}
use Rattle.motors.specs.declared.motor.Motor.{Motor}
use Rattle.form.specs.Shape.{Shape}
use Rattle.form.specs.Layout.{
  head_size,
  entry_size,
  form_length,
  entry_place,
  body_place,
  head_bytes,
  entry_of,
  body_of,
  in_turn,
  contents_of,
  bodies_of,
  form_of,
}
use Rattle.form.specs.Writing.{over_from, fits, head_over, motor_over, first_over}
use Rattle.form.proofs.Over.{length_kept, over_behind, over_before, over_next}
use Rattle.form.proofs.Turns.{one_more_in_turn, length_in_turn}
use Rattle.form.proofs.Fitting.{few_that_fit, room_that_fits, so_it_fits}

-- ---- where the parts end
module _ (s : Shape) (count : ℕ) where
  pub form_ends_behind_the_last_body : form_length s count ≡ body_place s count count
  form_ends_behind_the_last_body = omega (arith, add-mul entry_size s.body_size count)

  pub body_within : (i : ℕ) → i < count → body_place s count i + s.body_size ≤ form_length s count
  body_within i h =
      let more : s.body_size * suc i ≤ s.body_size * count = mul-le-mul_left s.body_size h in
      omega (arith, form_ends_behind_the_last_body, mul-suc s.body_size i, more)

module _ (s : Shape) (sized : (m : Motor) → length (s.body_of m) ≡ s.body_size) where
  -- ---- how long things are
  pub length_contents : (count : ℕ) (l : List Motor) → length (contents_of s count l) ≡ entry_size * length l
  length_contents count l = length_in_turn (entry_of s count) entry_size (λ i m. refl) 0 l

  pub length_bodies : (l : List Motor) → length (bodies_of s l) ≡ s.body_size * length l
  length_bodies l = length_in_turn (body_of s) s.body_size (λ i m. sized m) 0 l

  pub length_form : (l : List Motor) → length (form_of s l) ≡ form_length s (length l)
  unfolding form_of
  length_form l =
      rw (length-append (contents_of s (length l) l) (bodies_of s l), length_contents (length l) l, length_bodies l)
      (omega (arith, form_ends_behind_the_last_body s (length l)))

  -- ---- what laying keeps
  module _ (count : ℕ) where
    pub head_keeps_the_length : (buffer : List ℕ) → length (head_over s count buffer) ≡ length buffer
    unfolding head_over
    head_keeps_the_length buffer =
        either (λ (w : List ℕ). length w ≡ length buffer) (fits s count (length buffer))
        (λ e. length_kept 0 (head_bytes s count) buffer (omega (arith, room_that_fits s count (length buffer) e)))
        (λ e. refl)

    pub motor_keeps_the_length : (at : ℕ) (m : Motor) (buffer : List ℕ) → length (motor_over s count at m buffer) ≡ length buffer
    unfolding motor_over
    motor_keeps_the_length at m buffer =
        either (λ (w : List ℕ). length w ≡ length buffer) (ltb at count)
        (λ t. either (λ (w : List ℕ). length w ≡ length buffer) (fits s count (length buffer)) (λ e. both_kept (ltb-true at count t) e) (λ e. refl))
        (λ t. refl)
      where
        both_kept : at < count → fits s count (length buffer) ≡ true
            → length (over_from (body_place s count at) (s.body_of m) (over_from (entry_place at) (entry_of s count at m) buffer)) ≡ length buffer
        both_kept h e =
            let within = body_within s count at h in
            let room = room_that_fits s count (length buffer) e in
            let first : length (over_from (entry_place at) (entry_of s count at m) buffer) ≡ length buffer =
            length_kept (entry_place at) (entry_of s count at m) buffer (omega (arith, within, room)) in
            length_kept (body_place s count at) (s.body_of m) (over_from (entry_place at) (entry_of s count at m) buffer)
            (omega (arith, within, room, sized m, first))
            ∙ first

    pub first_keep_the_length : (run : List Motor) (buffer : List ℕ) (i : ℕ) → length (first_over s run count buffer i) ≡ length buffer
    unfolding first_over
    first_keep_the_length run buffer zero = head_keeps_the_length buffer
    first_keep_the_length run buffer (suc i) =
        motor_keeps_the_length i (get_or run i zeros) (first_over s run count buffer i) ∙ first_keep_the_length run buffer i

  -- ---- a motor over a head, contents and bodies
  module _ (count i : ℕ) (h : i < count) (m : Motor) (head contents bodies : List ℕ) where
    pub over_each_part : length head ≡ head_size → length contents ≡ entry_size * count → s.body_size * count ≤ length bodies → count ≤ places
        → motor_over s count i m (head ++ (contents ++ bodies))
        ≡ head ++ (over_from (entry_size * i) (entry_of s count i m) contents ++ over_from (s.body_size * i) (s.body_of m) bodies)
    unfolding motor_over
    over_each_part at_head at-contents at-bodies few =
        rw (lt-ltb i count h, whole) (ap (over_from (body_place s count i) (s.body_of m)) entry_in ∙ body_in_lem)
      where
        entry : List ℕ
        entry = entry_of s count i m

        whole : fits s count (length (head ++ (contents ++ bodies))) ≡ true
        whole =
            so_it_fits s count (length (head ++ (contents ++ bodies))) few
            (simp length-append (omega (arith, form_ends_behind_the_last_body s count)))

        entry_in : over_from (entry_place i) entry (head ++ (contents ++ bodies)) ≡ head ++ (over_from (entry_size * i) entry contents ++ bodies)
        entry_in =
            ap (λ (n : ℕ). over_from (n + entry_size * i) entry (head ++ (contents ++ bodies))) (sym at_head)
            ∙ over_behind head (contents ++ bodies) entry (entry_size * i)
            ∙ ap (λ (w : List ℕ). head ++ w) (over_before contents bodies entry (entry_size * i) (omega arith))

        filled : length (over_from (entry_size * i) entry contents) ≡ entry_size * count
        filled = length_kept (entry_size * i) entry contents (omega arith) ∙ at-contents

        body_in_lem : over_from (body_place s count i) (s.body_of m) (head ++ (over_from (entry_size * i) entry contents ++ bodies))
            ≡ head ++ (over_from (entry_size * i) entry contents ++ over_from (s.body_size * i) (s.body_of m) bodies)
        body_in_lem =
            let first = over_from (entry_size * i) entry contents in
            let place : body_place s count i ≡ length head + (length (over_from (entry_size * i) entry contents) + s.body_size * i) =
            omega (arith, filled) in
            ap (λ (n : ℕ). over_from n (s.body_of m) (head ++ (first ++ bodies))) place
            ∙ over_behind head (first ++ bodies) (s.body_of m) (length first + s.body_size * i)
            ∙ ap (λ (w : List ℕ). head ++ w) (over_behind first bodies (s.body_of m) (s.body_size * i))

  -- ---- the form, where there is room for it
  module _ (run : List Motor) (count : ℕ) (enough : count ≤ length run) (buffer : List ℕ) (e : fits s count (length buffer) ≡ true) where
    abbrev l : List Motor
    l = take count run

    -- What the contents and the bodies are laid over.
    abbrev under_contents : List ℕ
    under_contents = take (entry_size * count) (drop head_size buffer)

    abbrev under_bodies : List ℕ
    under_bodies = drop (entry_size * count) (drop head_size buffer)

    room : body_place s count count ≤ length buffer
    room = omega (arith, room_that_fits s count (length buffer) e, form_ends_behind_the_last_body s count)

    number : length l ≡ count
    number = length-take-le count run enough

    length_under_contents : length under_contents ≡ entry_size * count
    length_under_contents = simp (length-take, length-drop) (omega (arith, room))

    length_under_bodies : length under_bodies ≡ length buffer - body_place s count 0
    length_under_bodies = simp length-drop (omega (arith, room, mul-zero s.body_size))

    -- Bytes of one size laid in turn, over a part that has room for all.
    module _ (bytes : ℕ → Motor → List ℕ) (size : ℕ) (of_one_size : (i : ℕ) (m : Motor) → length (bytes i m) ≡ size) (under : List ℕ)
        (covers : size * count ≤ length under) where
      so_far : (i : ℕ) → i ≤ count → length (in_turn bytes 0 (take i l)) ≡ size * i
      so_far i h =
          length_in_turn bytes size of_one_size 0 (take i l)
          ∙ ap (λ (n : ℕ). size * n) (length-take-le i l (omega (arith, number)))

      within : (i : ℕ) → i ≤ count → size * i ≤ length under
      within i h = let all : size * i ≤ size * count = mul-le-mul_left size h in omega arith

      covered : (i : ℕ) → i ≤ count → length (over (in_turn bytes 0 (take i l)) under) ≡ length under
      covered i h = length_kept 0 (in_turn bytes 0 (take i l)) under (omega (arith, so_far i h, within i h))

      next_over : (i : ℕ) → i < count
          → over_from (size * i) (bytes i (get_or run i zeros)) (over (in_turn bytes 0 (take i l)) under) ≡ over (in_turn bytes 0 (take (suc i) l)) under
      next_over i h =
          over_next (in_turn bytes 0 (take i l)) (bytes i (get_or run i zeros)) under (size * i) (so_far i (omega arith)) (within i (omega arith))
          ∙ ap (λ (w : List ℕ). over w under) (sym (one_more_in_turn bytes 0 i l (omega (arith, number)) ∙ here))
        where
          here : in_turn bytes 0 (take i l) ++ bytes (0 + i) (get_or l i zeros) ≡ in_turn bytes 0 (take i l) ++ bytes i (get_or run i zeros)
          here =
              let start : 0 + i ≡ i = omega arith in
              ap₂ (λ (k : ℕ) (m : Motor). in_turn bytes 0 (take i l) ++ bytes k m) start (get_or-take count run i zeros h)

    abbrev laid : ℕ → List ℕ
    laid i = head_bytes s count ++ (over (contents_of s count (take i l)) under_contents ++ over (bodies_of s (take i l)) under_bodies)

    none_laid : head_over s count buffer ≡ laid 0
    unfolding head_over in_turn
    none_laid = rw e (ap (λ (w : List ℕ). head_bytes s count ++ w) (sym (take-append-drop (entry_size * count) (drop head_size buffer))))

    laid_so_far : (i : ℕ) → i ≤ count → first_over s run count buffer i ≡ laid i
    unfolding first_over
    laid_so_far zero h = none_laid
    laid_so_far (suc i) h =
        let entries : (i : ℕ) (m : Motor) → length (entry_of s count i m) ≡ entry_size = λ i m. refl in
        let bodies : (i : ℕ) (m : Motor) → length (body_of s i m) ≡ s.body_size = λ i m. sized m in
        let contents_fit : entry_size * count ≤ length under_contents = omega (arith, length_under_contents) in
        let bodies_fit : s.body_size * count ≤ length under_bodies = omega (arith, length_under_bodies, room, mul-zero s.body_size) in
        ap (motor_over s count i (get_or run i zeros)) (laid_so_far i (omega arith))
        ∙ over_each_part count i h (get_or run i zeros) (head_bytes s count) (over (contents_of s count (take i l)) under_contents)
        (over (bodies_of s (take i l)) under_bodies) refl
        (covered (entry_of s count) entry_size entries under_contents contents_fit i (omega arith) ∙ length_under_contents)
        (omega (arith, covered (body_of s) s.body_size bodies under_bodies bodies_fit i (omega arith), bodies_fit))
        (few_that_fit s count (length buffer) e)
        ∙ ap₂ (λ (c d : List ℕ). head_bytes s count ++ (c ++ d))
        (next_over (entry_of s count) entry_size entries under_contents contents_fit i h)
        (next_over (body_of s) s.body_size bodies under_bodies bodies_fit i h)

    -- All of them.
    contents_whole : over (contents_of s count l) under_contents ≡ contents_of s count l
    contents_whole =
        let none : drop (length (contents_of s count l)) under_contents ≡ [] =
        drop_of_length-le under_contents {i = length (contents_of s count l)}
        (omega (arith, length_contents count l, number, length_under_contents)) in
        rw none (append-nil (contents_of s count l))

    bodies_whole : over (bodies_of s l) under_bodies ≡ bodies_of s l ++ drop (form_length s count) buffer
    bodies_whole =
        let sizes : head_size + (entry_size * count + length (bodies_of s l)) ≡ form_length s count =
        omega (arith, length_bodies l, ap (λ (n : ℕ). s.body_size * n) number, form_ends_behind_the_last_body s count) in
        ap (λ (w : List ℕ). bodies_of s l ++ w)
        (drop-drop (length (bodies_of s l)) (entry_size * count) (drop head_size buffer)
        ∙ drop-drop (entry_size * count + length (bodies_of s l)) head_size buffer ∙ ap (λ (n : ℕ). drop n buffer) sizes)

    abbrev whole : List ℕ
    whole = head_bytes s count ++ (contents_of s count l ++ bodies_of s l)

    form_is : form_of s l ≡ whole
    unfolding form_of
    form_is = rw number

    form_parts : laid count ≡ over (form_of s l) buffer
    form_parts =
        let all : take count l ≡ l = take_all count l (omega (arith, number)) in
        let size : length (form_of s l) ≡ form_length s count = length_form l ∙ ap (form_length s) number in
        ap (λ (k : List Motor). head_bytes s count ++ (over (contents_of s count k) under_contents ++ over (bodies_of s k) under_bodies)) all
        ∙ ap₂ (λ (c d : List ℕ). head_bytes s count ++ (c ++ d)) contents_whole bodies_whole
        ∙ regrouped
        ∙ sym (ap₂ (λ (w : List ℕ) (n : ℕ). w ++ drop n buffer) form_is size)
      where
        regrouped : head_bytes s count ++ (contents_of s count l ++ (bodies_of s l ++ drop (form_length s count) buffer))
            ≡ whole ++ drop (form_length s count) buffer
        regrouped = simp append_assoc

    pub the_form_is_laid : first_over s run count buffer count ≡ over (form_of s l) buffer
    the_form_is_laid = laid_so_far count (omega arith) ∙ form_parts
