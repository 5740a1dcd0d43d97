-- What a table of the register decides: a row's answer, from the facts of the rows that are passed over and its own, or the rest.
-- Assumes nothing.
use Prim.Native.Nat.{ℕ, ◌+◌, ◌*◌, ◌≤◌, ◌<◌}
use mathlib.Core.Path.{◌≡◌, ◌∙◌, sym}
use mathlib.Core.Logic.{◌≢◌, ◌⊎◌}
use mathlib.Core.Bool.{Bool, true, false, not}
use mathlib.Core.List.{List}
use lib.Dec.{eqb}
use lib.ListN.{get_or}
use borrow.Author.Tests.{leb-true, leb-false, eqb-true, eqb-false, eq-eqb, ne_eqb}
use Rattle.std.specs.Prelude.{Ok}
use Rattle.meaning.specs.Chosen.{found_true, found_false}
use Rattle.meaning.specs.Tables.{Applies, answer_at, decided, no_row_applies}
use Rattle.frame.specs.declared.header.Header.{Header}
use Rattle.motors.specs.Motor.{unread, with_reading, is_line, a_node, is_node, a_reading, is_reading}
use Rattle.motors.specs.Register.{held, sound_of}
use Rattle.motors.specs.Report.{Report, percent_in, ip_in, report_table, shown_by, reported}
use Rattle.runs.specs.Ordered.{without}
use Rattle.motors.specs.Order.{by_line_and_node}
use Rattle.motors.specs.Filing.{keeping, keep_table, kept_of, file_table, filing_of, reported_by, strike_table, struck_of}
use Rattle.motors.specs.declared.motor.Motor.{Motor}

-- ---- a check of the code, and the fact that it found
module _ {asked : Bool} (line : ℕ) (e : asked ≡ is_line line) where
  pub line_found : not asked ≡ false → line ≤ 3
  line_found t = leb-true line 3 (found_true e t)

  pub line_missed : not asked ≡ true → 3 < line
  line_missed t = leb-false line 3 (found_false e t)

module _ {asked : Bool} (node : ℕ) (e : asked ≡ is_node node) where
  pub node_from : not asked ≡ false → 0x000001 ≤ node
  unfolding is_node
  node_from t = ((a_node node).is_fact (found_true e t)).0

  pub node_to : not asked ≡ false → node ≤ 0xFFFEFF
  unfolding is_node
  node_to t = ((a_node node).is_fact (found_true e t)).1

  pub node_missed : not asked ≡ true → (node < 0x000001) ⊎ (0xFFFEFF < node)
  unfolding is_node
  node_missed t = (a_node node).is_other (found_false e t)

module _ {asked : Bool} (a b : ℕ) (e : asked ≡ eqb a b) where
  pub group_found : asked ≡ true → a ≡ b
  group_found t = eqb-true a b (sym e ∙ t)

  pub group_missed : asked ≡ false → a ≢ b
  group_missed t = eqb-false a b (sym e ∙ t)

module _ {asked : Bool} {percent ip : ℕ} (d : List ℕ) (p : percent ≡ percent_in d) (i : ip ≡ ip_in d) (e : asked ≡ is_reading percent ip) where
  pub reading_found : not asked ≡ false → (a_reading (percent_in d) (ip_in d)).fact
  unfolding is_reading
  reading_found t = rw (p, i) at ((a_reading percent ip).is_fact (found_true e t))

  pub reading_missed : not asked ≡ true → (a_reading (percent_in d) (ip_in d)).other
  unfolding is_reading
  reading_missed t = rw (p, i) at ((a_reading percent ip).is_other (found_false e t))

-- ---- the motor that the code shows
-- By 60h, and by 0Dh with the bytes that the code read.
module _ (line : ℕ) (h : Header) (d : List ℕ) where
  pub named : h.message ≡ 0x60 → unread line h.source.0 ≡ shown_by line h d
  named m = rw (eq-eqb h.message 0x60 m)

  pub positioned : {low high percent ip : ℕ} → h.message ≢ 0x60 → low ≡ get_or d 0 0 → high ≡ get_or d 1 0 → percent ≡ percent_in d → ip ≡ ip_in d
      → with_reading line h.source.0 (low + 256 * high) percent ip ≡ shown_by line h d
  positioned m l k p i = rw (ne_eqb h.message 0x60 m, l, k, p, i)

-- ---- the tables
-- What a frame reports.
pub reported_by_lem : (line : ℕ) (h : Header) (count : ℕ) (d : List ℕ) (passed : ℕ) → Applies passed (report_table line h count d)
    → answer_at passed (report_table line h count d) (Ok (shown_by line h d)) ≡ reported line h count d
unfolding reported
reported_by_lem line h count d passed facts = sym (decided passed (report_table line h count d) (Ok (shown_by line h d)) facts)

-- Records kept, or row 24.
pub kept_by : (run l : List Motor) (passed : ℕ) → Applies passed (keep_table run l)
    → kept_of run l ≡ answer_at passed (keep_table run l) (keeping l)
unfolding kept_of
kept_by run l passed facts = decided passed (keep_table run l) (keeping l) facts

module _ (enter : List Motor → Motor → List Motor) (run : List Motor) (count : ℕ) where
  -- Filing: row 19, or what the frame reports.
  pub filed_by : (r : Report) (passed : ℕ) → Applies passed (file_table run count)
      → filing_of enter run count r ≡ answer_at passed (file_table run count) (reported_by enter run count r)
  unfolding filing_of
  filed_by r passed facts = decided passed (file_table run count) (reported_by enter run count r) facts

  -- A sound register does what the frame reports.
  pub as_reported : (r : Report) → sound_of run count ≡ true → filing_of enter run count r ≡ reported_by enter run count r
  unfolding filing_of
  as_reported r e = no_row_applies (file_table run count) (reported_by enter run count r) (e, tt)

-- Striking out.
pub struck_by : (run : List Motor) (count line node passed : ℕ) → Applies passed (strike_table run count line node)
    → struck_of run count line node
    ≡ answer_at passed (strike_table run count line node) (keeping (without by_line_and_node (held run count) (line, node)))
unfolding struck_of
struck_by run count line node passed facts =
    decided passed (strike_table run count line node) (keeping (without by_line_and_node (held run count) (line, node))) facts
