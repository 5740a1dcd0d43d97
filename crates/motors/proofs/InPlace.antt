-- What a call does to the places where they stand is what the meaning says of the records held.
-- Assumes nothing.
use Prim.Native.Nat.{ℕ, suc, ◌-◌, ◌<◌, ◌≤◌}
use native.Mathlib.Omega.{arith}
use mathlib.Core.Path.{◌≡◌, refl, ◌∙◌, sym, ap, ap₂, subst}
use mathlib.Core.Bool.{true, false}
use mathlib.Core.List.{List}
use mathlib.Core.Option.{Option, none, some}
use lib.Dec.{leb}
use lib.ListN.{length, set}
use borrow.Author.Tests.{leb-true, leb-false, ne_eqb}
use Rattle.meaning.specs.Cases.{by_test, passed_both}
use Rattle.refusal.specs.declared.Refusal.{Refusal}
use Rattle.runs.specs.Ordered.{is_some, looked_up, holds, place_of}
use Rattle.runs.specs.Places.{moved_up, moved_down}
use Rattle.runs.proofs.Lookup.{not_held_is_none, found_is_of_the_kind, found_has_the_key}
use Rattle.runs.proofs.Place.{held_exactly_when_at_its_place}
use Rattle.runs.proofs.Placing.{placed_over_one_held_keeps_the_number, placed_new_is_one_more}
use Rattle.runs.proofs.Removing.{without_one_held_is_one_less}
use Rattle.runs.proofs.Moving.{moved_up_keeps_the_length, moved_down_keeps_the_length, from_1_to_0_nothing_moves_up, moved_up_at_one_place_is_set}
use Rattle.runs.proofs.InPlace.{set_at_its_place_is_placed, moved_up_from_its_place_is_placed, moved_down_to_its_place_is_without}
use Rattle.motors.specs.Motor.{zeros, unread, is_line, right_of}
use Rattle.motors.specs.Order.{by_line_and_node, key_of, same_is}
use Rattle.motors.specs.Register.{held, sound_of, Right, Sound}
use Rattle.motors.specs.Report.{subject_of, shows_reading, Report}
use Rattle.motors.specs.Found.{found_of, standing}
use Rattle.motors.specs.Filing.{keeping, recorded, enrolled, entered, kept_of, reported_by, filing_of, struck_of}
use Rattle.motors.specs.Edit.{edit, leaving, adding, to_remove, to_miss, to_enrol, to_file, to_strike, moved, applied}
use Rattle.motors.specs.declared.answer.Next.{Next}
use Rattle.motors.specs.declared.edit.Edit.{Edit}
use Rattle.motors.specs.declared.edit.Way.{Way}
use Rattle.motors.specs.declared.edit.Way.TheVariants.{Up, Down}
use Rattle.motors.specs.declared.found.Found.TheVariants.{Broken, Held, New}
use Rattle.motors.specs.declared.motor.Motor.{Motor}
use Rattle.motors.proofs.Rows.{kept_by, filed_by, as_reported, struck_by}
pub use Rattle.motors.proofs.OnePass.{found_by_one_pass}
use Rattle.motors.proofs.Sound.{sound_is, length_held}
use Rattle.motors.specs.Answer.{Answer}
use Rattle.std.specs.Prelude.{Ok, Err}

abbrev next : List Motor → ℕ → Next
next motors number = record { motors = motors; answer = Ok number }

-- The places and the answer after an edit.
abbrev pub edited : List Motor → Edit → Next
edited run e = record { motors = applied run e; answer = e.answer }

length_moved : (w : Way) (run : List Motor) (from last : ℕ) (m : Motor) → length (moved w run from last m) ≡ length run
length_moved Up run from last m = moved_up_keeps_the_length zeros run from last m
length_moved Down run from last m = moved_down_keeps_the_length zeros run from last m

pub length_applied : (run : List Motor) (e : Edit) → length (applied run e) ≡ length run
length_applied run e = length_moved e.way run e.from e.last e.motor

-- An edit of no place.
left_alone : (run : List Motor) (a : Answer) → edited run (leaving a) ≡ record { motors = run; answer = a }
left_alone run a = ap (λ (l : List Motor). record { motors = l; answer = a }) (from_1_to_0_nothing_moves_up zeros run zeros)

-- ---- a sound register
module _ (run : List Motor) (count : ℕ) (ok : sound_of run count ≡ true) where
  abbrev l : List Motor
  l = held run count

  abbrev sound : Sound run count
  sound = sound_is run count ok

  number : length l ≡ count
  number = length_held run count ok

  few : length l ≤ 256
  few = omega (arith, number, sound.at_most_256)

  kept : (l' : List Motor) → length l' ≤ 256 → kept_of run l' ≡ keeping l'
  kept l' h = kept_by run l' 1 (h, tt)

  module _ (m : Motor) where
    abbrev p : ℕ
    p = place_of by_line_and_node l (key_of m)

    module _ (there : holds by_line_and_node l (key_of m) ≡ true) where
      pub confirmed : edited run (leaving (Ok count)) ≡ kept_of run l
      confirmed =
          left_alone run (Ok count) ∙ ap₂ next sound.zeros_behind (sym number) ∙ sym (kept l few)

      same_number : length (recorded l m) ≡ count
      same_number = placed_over_one_held_keeps_the_number by_line_and_node l m sound.ascending there ∙ number

      within : p < length run
      within =
          omega (arith, ((held_exactly_when_at_its_place by_line_and_node zeros l (key_of m) sound.ascending).0 there).0, few, sound.of_256_places)

      pub renewed : edited run (edit Up p p m (Ok count)) ≡ kept_of run (recorded l m)
      renewed =
          ap₂ next
          (moved_up_at_one_place_is_set zeros run m p within
          ∙ ap (λ (r : List Motor). set r p m) sound.zeros_behind
          ∙ set_at_its_place_is_placed by_line_and_node 256 zeros l m sound.ascending there)
          (sym same_number)
          ∙ sym (kept (recorded l m) (omega (arith, same_number, sound.at_most_256)))

    module _ (new : holds by_line_and_node l (key_of m) ≡ false) where
      one_more : length (recorded l m) ≡ suc count
      one_more = placed_new_is_one_more by_line_and_node l m new ∙ ap suc number

      pub added : edited run (adding p count m) ≡ kept_of run (recorded l m)
      unfolding adding
      added =
          by_test (leb 256 count)
          (λ t. rw t
          (left_alone run (Err Refusal.RegisterFull)
          ∙ sym (kept_by run (recorded l m) 0 (omega (arith, one_more, leb-true 256 count t)))))
          (λ t.
          let room = leb-false 256 count t in
          rw t
          (ap₂ next
          (ap₂ (λ (r : List Motor) (c : ℕ). moved_up zeros r p c m) sound.zeros_behind (sym number)
          ∙ moved_up_from_its_place_is_placed by_line_and_node 256 zeros l m new (omega (arith, number)))
          (omega (arith, one_more))
          ∙ sym (kept (recorded l m) (omega (arith, one_more, room)))))

  -- what is found, with what that says
  module _ (m : Motor) where
    found_is : found_of run count m ≡ standing (holds by_line_and_node l (key_of m)) (place_of by_line_and_node l (key_of m))
    unfolding found_of
    found_is = rw ok

    pub where_held : holds by_line_and_node l (key_of m) ≡ true → found_of run count m ≡ Held (place_of by_line_and_node l (key_of m))
    where_held h = found_is ∙ rw h

    pub where_new : holds by_line_and_node l (key_of m) ≡ false → found_of run count m ≡ New (place_of by_line_and_node l (key_of m))
    where_new h = found_is ∙ rw h

  enrols_sound : (r : Report) → edited run (to_enrol (found_of run count (subject_of r)) count r) ≡ reported_by enrolled run count r
  unfolding enrolled
  enrols_sound (Ok m) =
      by_test (holds by_line_and_node l (key_of m))
      (λ h. rw (where_held m h, h) (confirmed m h))
      (λ h. rw (where_new m h, h) (added m h))
  enrols_sound (Err q) =
      by_test (holds by_line_and_node l (key_of zeros))
      (λ h. rw (where_held zeros h) (left_alone run (Err q)))
      (λ h. rw (where_new zeros h) (left_alone run (Err q)))

  files_sound : (r : Report) → edited run (to_file (found_of run count (subject_of r)) count r) ≡ reported_by recorded run count r
  files_sound (Ok m) =
      by_test (holds by_line_and_node l (key_of m))
      (λ h. rw (where_held m h) (renewed m h))
      (λ h. rw (where_new m h) (added m h))
  files_sound (Err q) =
      by_test (holds by_line_and_node l (key_of zeros))
      (λ h. rw (where_held zeros h) (left_alone run (Err q)))
      (λ h. rw (where_new zeros h) (left_alone run (Err q)))

  module _ (line node : ℕ) where
    abbrev motor : Motor
    motor = unread line node

    -- a motor that is held is on one of the lines
    line_right : (f : Option Motor) → looked_up by_line_and_node l (line, node) ≡ f → is_some f ≡ true → is_line line ≡ true
    unfolding right_of
    line_right none e s = absurd (let z : ◌≡◌ {A = ℕ} 0 1 = cc in omega arith)
    line_right (some x) e s =
        let right = found_is_of_the_kind by_line_and_node Right l (line, node) x sound.all_right e in
        let its = same_is (key_of x) (line, node) (found_has_the_key by_line_and_node l (line, node) x e) in
        subst (λ (k : ℕ × ℕ). is_line k.0 ≡ true) its (passed_both (is_line x.line) _ right).0

    struck : holds by_line_and_node l (line, node) ≡ true
        → edited run (to_remove (place_of by_line_and_node l (line, node)) count) ≡ struck_of run count line node
    unfolding to_remove
    struck h =
        let there = ((held_exactly_when_at_its_place by_line_and_node zeros l (line, node) sound.ascending).0 h).0 in
        let less = without_one_held_is_one_less by_line_and_node l (line, node) h in
        rw (ne_eqb count 0 (λ e. omega (arith, e, number, there)))
        (ap₂ next
        (ap₂ (λ (r : List Motor) (c : ℕ). moved_down zeros r (place_of by_line_and_node l (line, node)) (c - 1) zeros) sound.zeros_behind (sym number)
        ∙ moved_down_to_its_place_is_without by_line_and_node 256 zeros l (line, node) sound.ascending h few)
        (omega (arith, less, number))
        ∙ sym (struck_by run count line node 3 (ok, (leb-true line 3 (line_right (looked_up by_line_and_node l (line, node)) refl h), (h, tt)))))

    missed : holds by_line_and_node l (line, node) ≡ false → edited run (to_miss line) ≡ struck_of run count line node
    unfolding to_miss
    missed h =
        by_test (is_line line)
        (λ t. rw t
        (left_alone run (Err Refusal.NotHeld)
        ∙ sym (struck_by run count line node 2 (ok, (leb-true line 3 t, not_held_is_none by_line_and_node l (line, node) h)))))
        (λ t. rw t (left_alone run (Err Refusal.NoSuchLine) ∙ sym (struck_by run count line node 1 (ok, leb-false line 3 t))))

    strikes_sound : edited run (to_strike (found_of run count motor) count line) ≡ struck_of run count line node
    strikes_sound =
        by_test (holds by_line_and_node l (line, node))
        (λ h. rw (where_held motor h) (struck h))
        (λ h. rw (where_new motor h) (missed h))

-- ---- any register: row 19 goes first
module _ (run : List Motor) (count : ℕ) where
  broken : (m : Motor) → sound_of run count ≡ false → found_of run count m ≡ Broken
  unfolding found_of
  broken m e = rw e

  pub enrols : (r : Report) → edited run (to_enrol (found_of run count (subject_of r)) count r) ≡ filing_of enrolled run count r
  enrols r =
      by_test (sound_of run count)
      (λ ok. enrols_sound run count ok r ∙ sym (as_reported enrolled run count r ok))
      (λ e. rw (broken (subject_of r) e) (left_alone run (Err Refusal.BrokenRegister) ∙ sym (filed_by enrolled run count r 0 e)))

  pub files : (r : Report) → edited run (to_file (found_of run count (subject_of r)) count r) ≡ filing_of recorded run count r
  files r =
      by_test (sound_of run count)
      (λ ok. files_sound run count ok r ∙ sym (as_reported recorded run count r ok))
      (λ e. rw (broken (subject_of r) e) (left_alone run (Err Refusal.BrokenRegister) ∙ sym (filed_by recorded run count r 0 e)))

  pub strikes : (line node : ℕ) → edited run (to_strike (found_of run count (unread line node)) count line) ≡ struck_of run count line node
  strikes line node =
      by_test (sound_of run count)
      (λ ok. strikes_sound run count ok line node)
      (λ e. rw (broken (unread line node) e) (left_alone run (Err Refusal.BrokenRegister) ∙ sym (struck_by run count line node 0 e)))

  -- Filing goes by what the report shows.
  reported_by_kind : (r : Report)
      → (shows_reading r ≡ true → reported_by entered run count r ≡ reported_by recorded run count r)
      × (shows_reading r ≡ false → reported_by entered run count r ≡ reported_by enrolled run count r)
  unfolding entered
  reported_by_kind (Ok m) = (λ t. rw t, λ t. rw t)
  reported_by_kind (Err q) = (λ t. refl, λ t. refl)

  pub by_kind : (r : Report)
      → (shows_reading r ≡ true → filing_of entered run count r ≡ filing_of recorded run count r)
      × (shows_reading r ≡ false → filing_of entered run count r ≡ filing_of enrolled run count r)
  unfolding filing_of
  by_kind r = (λ t. rw ((reported_by_kind r).0 t), λ t. rw ((reported_by_kind r).1 t))
