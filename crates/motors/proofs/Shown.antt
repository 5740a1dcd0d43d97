-- What a report that is not refused shows: the motor of the line and the sender, right in all its fields, as 60h or 0Dh has it.
-- Assumes nothing.
use Prim.Native.Nat.{ℕ}
use native.Mathlib.Omega.{arith}
use mathlib.Core.Path.{◌≡◌, refl, ◌∙◌, sym, ap, subst}
use mathlib.Core.Logic.{◌≢◌, ⊎_elim}
use mathlib.Core.Bool.{true}
use mathlib.Core.List.{List}
use lib.Dec.{eqb}
use borrow.Author.Tests.{eqb-true, eqb-false, le-leb}
use Rattle.meaning.specs.Choice.{either}
use Rattle.meaning.specs.Tests.{holds_by}
use Rattle.meaning.specs.Tables.{Passed, of_decided}
use Rattle.frame.specs.Layout.{header_of, data_of, data_count}
use Rattle.frame.specs.Reading.{reading_of, refused_by, IsFrame, Reading}
use Rattle.frame.specs.declared.header.Header.{Header}
use Rattle.frame.proofs.Frames.{frame_exactly_when, frame_is_read}
use Rattle.motors.specs.Motor.{unread, with_reading, is_line, a_node, is_node, a_reading, is_reading, unread_part, reading_part}
use Rattle.motors.specs.Motor.{right_beside_line, right_of}
use Rattle.motors.specs.Report.{report_table, shown_by, reported, report_by, report_of, pulse_in, percent_in, ip_in, Report}
use Rattle.motors.specs.declared.motor.Motor.{Motor}
use Rattle.std.specs.Prelude.{Ok, Err}

unread_right : (line node : ℕ) → is_line line ≡ true → is_node node ≡ true → right_of (unread line node) ≡ true
unfolding right_of right_beside_line reading_part unread_part
unread_right line node l n = rw (l, n)

reading_right_lem : (line node pulse percent ip : ℕ) → is_line line ≡ true → is_node node ≡ true → is_reading percent ip ≡ true
    → right_of (with_reading line node pulse percent ip) ≡ true
unfolding right_of right_beside_line reading_part
reading_right_lem line node pulse percent ip l n r = rw (l, n, r)

-- The record that a frame shows.
pub record Shown (line : ℕ) (h : Header) (d : List ℕ) (m : Motor) : Type 0 where
  pub right : right_of m ≡ true
  pub on_its_line : m.line ≡ line
  pub of_the_sender : m.node ≡ h.source.0
  pub by_60h : h.message ≡ 0x60 → m ≡ unread line h.source.0
  pub by_0dh : h.message ≡ 0x0D → m ≡ with_reading line h.source.0 (pulse_in d) (percent_in d) (ip_in d)

abbrev IfSeen : ℕ → Header → List ℕ → Report → Type 0
IfSeen line h d (Ok m) = Shown line h d m
IfSeen line h d (Err r) = Unit {0}

module _ (line : ℕ) (h : Header) (count : ℕ) (d : List ℕ) where
  -- The two messages that show a motor.
  shown_by_lem : Passed (report_table line h count d) → Shown line h d (shown_by line h d)
  unfolding is_node is_reading
  shown_by_lem (few, (sender, (named, (right, end)))) =
      either (Shown line h d) (eqb h.message 0x60)
      (λ t. record {
        right = unread_right line h.source.0 l n;
        on_its_line = refl;
        of_the_sender = refl;
        by_60h = λ e. refl;
        by_0dh = λ e. absurd (omega (arith, eqb-true h.message 0x60 t, e));
      })
      (λ t. record {
        right = reading_right_lem line h.source.0 (pulse_in d) (percent_in d) (ip_in d) l n (r (position (eqb-false h.message 0x60 t)));
        on_its_line = refl;
        of_the_sender = refl;
        by_60h = λ e. absurd (eqb-false h.message 0x60 t e);
        by_0dh = λ e. refl;
      })
    where
      l : is_line line ≡ true
      l = le-leb line 3 few

      n : is_node h.source.0 ≡ true
      n = holds_by (a_node h.source.0) sender.0

      position : h.message ≢ 0x60 → h.message ≡ 0x0D
      position other = ⊎_elim (λ e. absurd (other e)) (λ e. e) named

      r : h.message ≡ 0x0D → is_reading (percent_in d) (ip_in d) ≡ true
      r e = ⊎_elim (λ other. absurd (other e)) (λ x. holds_by (a_reading (percent_in d) (ip_in d)) x.1) right

  shown : IfSeen line h d (reported line h count d)
  unfolding reported
  shown = of_decided (IfSeen line h d) (report_table line h count d) (Ok (shown_by line h d)) (search) shown_by_lem

-- A bundle that shows a motor is a frame.
module _ (line : ℕ) (b : List ℕ) where
  abbrev IfSeenIn : Report → Type 0
  IfSeenIn (Ok m) = IsFrame b × Shown line (header_of b) (data_of b) m
  IfSeenIn (Err r) = Unit {0}

  framed : IsFrame b → (r : Report) → reported line (header_of b) (data_count b) (data_of b) ≡ r → IfSeenIn r
  framed f (Ok m) e = (f, subst (IfSeen line (header_of b) (data_of b)) e (shown line (header_of b) (data_count b) (data_of b)))
  framed f (Err q) e = tt

  read_as : (r : Reading) → reading_of b ≡ r → IfSeenIn (report_by line b r)
  read_as (Ok (h, k)) e =
      let f = (frame_exactly_when b).1 (ap refused_by e) in
      subst (λ (r : Reading). IfSeenIn (report_by line b r)) (sym (frame_is_read b f) ∙ e) (framed f _ refl)
  read_as (Err q) e = tt

  pub seen : (m : Motor) → report_of line b ≡ Ok m → IsFrame b × Shown line (header_of b) (data_of b) m
  seen m e = subst IfSeenIn e (read_as (reading_of b) refl)
