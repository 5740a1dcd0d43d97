-- The register files a frame exactly when it is fileable, and strikes a motor out exactly when it can: no row applies.
-- Assumes nothing.
use Prim.Native.Nat.{ℕ, ◌≤◌, ◌<◌}
use native.Mathlib.Omega.{arith}
use mathlib.Core.Path.{◌≡◌, refl, ◌∙◌, sym, ap, subst}
use mathlib.Core.Logic.{◌↔◌, ◌≢◌, ◌⊎◌, inl, inr, ⊎_elim}
use mathlib.Core.Bool.{true}
use mathlib.Core.List.{List}
use lib.ListN.{length}
use Rattle.meaning.specs.Cases.{by_test}
use Rattle.meaning.specs.Tables.{Row, Passed, no_row_applies, of_decided}
use Rattle.refusal.specs.declared.Refusal.{Refusal}
use Rattle.frame.specs.Layout.{message, source, header_of, data_of, data_count}
use Rattle.frame.specs.Reading.{IsFrame}
use Rattle.frame.proofs.Frames.{frame_is_read}
use Rattle.motors.specs.Motor.{a_reading}
use Rattle.motors.specs.Register.{held, sound_of, found}
use Rattle.motors.specs.Report.{percent_in, ip_in, report_table, shown_by, reported, report_by, report_of, Report}
use Rattle.runs.specs.Ordered.{is_some, without}
use Rattle.motors.specs.Order.{by_line_and_node}
use Rattle.motors.specs.Filing.{keeping, refusing, entered, reported_by, filing_of, filed_of, strike_table, struck_of}
use Rattle.motors.specs.declared.motor.Motor.{Motor}
use Rattle.motors.specs.declared.answer.Next.{Next}
use Rattle.promises.proofs.RegisterInRange.{sound_exactly_when}
use Rattle.motors.proofs.Rows.{filed_by, as_reported, struck_by}
use Rattle.motors.proofs.Shown.{seen}
use Rattle.motors.proofs.Full.{never_both, taken_exactly_when}
use Rattle.promises.specs.Wire.{raw}
use Rattle.promises.specs.Fileable.{IsHeld, Fileable, Reports, Strikeable}
use Rattle.promises.proofs.Frames.{to_rules, from_rules}
use Rattle.promises.proofs.Held.{found_some}
use Rattle.promises.proofs.ReportBytes.{report_byte}
use Rattle.std.specs.Prelude.{Ok, Err}

module _ (run : List Motor) (count line : ℕ) (b : List ℕ) where
  is_held : IsHeld run count line (source b).0 ↔ (is_some (found run count line (source b).0) ≡ true)
  is_held = found_some (found run count line (source b).0)

  abbrev HasAPlace : Type 0
  HasAPlace = (is_some (found run count line (source b).0) ≡ true) ⊎ (count < 256)

  abbrev IsFiled : Type 0
  IsFiled = (n : ℕ) × ((filed_of run count line b).answer ≡ Ok n)

  as_read : IsFrame b → report_of line b ≡ reported line (header_of b) (data_count b) (data_of b)
  as_read f = ap (report_by line b) (frame_is_read b f)

  -- The motor that a frame shows is its sender, on its line.
  same_motor : (m : Motor) → report_of line b ≡ Ok m → (m.line ≡ line) × (m.node ≡ (source b).0)
  same_motor m e =
      let s = (seen line b m e).1 in
      (s.on_its_line, s.of_the_sender)

  answer_of : (x : Report) → sound_of run count ≡ true → report_of line b ≡ x
      → (filed_of run count line b).answer ≡ (reported_by entered run count x).answer
  answer_of x ok e = ap (λ (r : Report). (filing_of entered run count r).answer) e ∙ ap (λ (y : Next). y.answer) (as_reported entered run count x ok)

  abbrev AReading : Type 0
  AReading = (a_reading (percent_in (data_of b)) (ip_in (data_of b))).fact

  percent_byte : 5 ≤ data_count b → percent_in (data_of b) ≡ raw b 11
  percent_byte long = report_byte b long 2 (omega arith)

  ip_byte : 5 ≤ data_count b → ip_in (data_of b) ≡ raw b 13
  ip_byte long = report_byte b long 4 (omega arith)

  -- What rows 22 and 23 leave of a message that they pass.
  abbrev NamesOrReports : Type 0
  NamesOrReports = (message b ≡ 0x60) ⊎ (message b ≡ 0x0D)

  abbrev HasItsReading : Type 0
  HasItsReading = (message b ≢ 0x0D) ⊎ ((5 ≤ data_count b) × AReading)

  -- ---- what is fileable shows a motor, and is filed
  abbrev table : List (Row Report)
  table = report_table line (header_of b) (data_count b) (data_of b)

  no_row : Fileable run count line b → Passed table
  no_row f =
      (f.from_line_0_to_3, (((f.sender_from_000001h, f.sender_to_fffeffh), f.not_to_a_group), by f.names_or_reports))
    where
      by : (message b ≡ 0x60) ⊎ Reports b → NamesOrReports × (HasItsReading × Unit {0})
      by (inl m) = (inl m, (inl (λ e. omega arith), tt))
      by (inr r) =
          let long = r.from_5_bytes_of_data in
          let reading : AReading = rw (percent_byte long, ip_byte long) (r.percent_to_100, ⊎_elim inr inl r.ip_1_to_16_or_ffh) in
          (inr r.is_0dh, (inr (long, reading), tt))

  shows : Fileable run count line b → (m : Motor) × (report_of line b ≡ Ok m)
  unfolding reported
  shows f =
      let m = shown_by line (header_of b) (data_of b) in
      (m, as_read (from_rules f.is_frame) ∙ no_row_applies table (Ok m) (no_row f))

  fileable_is_filed : Fileable run count line b → IsFiled
  fileable_is_filed f =
      let ok = (sound_exactly_when run count).0 f.sound_register in
      let (m, e) = shows f in
      let (l, k) = same_motor m e in
      let (n, t) = (taken_exactly_when run count m ok).0 (rw (l, k) (⊎_elim (λ h. inl (is_held.0 h)) inr f.has_a_place)) in
      (n, answer_of (Ok m) ok e ∙ t)

  -- ---- what is filed was fileable: each row that did not apply leaves its fact
  abbrev Asked : Report → Type 0
  Asked (Ok m) = Passed table
  Asked (Err q) = Unit {0}

  asked : Asked (reported line (header_of b) (data_count b) (data_of b))
  unfolding reported
  asked = of_decided Asked table (Ok (shown_by line (header_of b) (data_of b))) (search) (λ facts. facts)

  abbrev NoRowApplied : Type 0
  NoRowApplied = (sound_of run count ≡ true) × (IsFrame b × (HasAPlace × Passed table))

  by_report : sound_of run count ≡ true → (x : Report) → report_of line b ≡ x → IsFiled → NoRowApplied
  by_report ok (Ok m) e (n, a) =
      let f = (seen line b m e).0 in
      let (l, k) = same_motor m e in
      let place = (taken_exactly_when run count m ok).1 (n, sym (answer_of (Ok m) ok e) ∙ a) in
      (ok, (f, (rw (l, k) at place, subst Asked (sym (as_read f) ∙ e) asked)))
  by_report ok (Err q) e (n, a) = absurd (never_both _ n q a (answer_of (Err q) ok e))

  no_row_applied : IsFiled → NoRowApplied
  no_row_applied (n, a) =
      by_test (sound_of run count)
      (λ ok. by_report ok (report_of line b) refl (n, a))
      (λ broken.
      let refused = ap (λ (y : Next). y.answer) (filed_by entered run count (report_of line b) 0 broken) in
      absurd (never_both _ n Refusal.BrokenRegister a refused))

  -- A 0Dh that is filed has the bytes of a reading.
  pub a_report_filed_is_long : IsFiled → message b ≡ 0x0D → 5 ≤ data_count b
  a_report_filed_is_long filed m = by (no_row_applied filed).1.1.1.1.1.1.0
    where
      by : HasItsReading → 5 ≤ data_count b
      by (inl other) = absurd (other m)
      by (inr reading) = reading.0

  names_or_reports : NamesOrReports → HasItsReading → (message b ≡ 0x60) ⊎ Reports b
  names_or_reports (inl m) reading = inl m
  names_or_reports (inr p) (inl other) = absurd (other p)
  names_or_reports (inr p) (inr (long, reading)) =
      let (percent, ip) = rw (percent_byte long, ip_byte long) at reading in
      inr (record { is_0dh = p; from_5_bytes_of_data = long; percent_to_100 = percent; ip_1_to_16_or_ffh = ⊎_elim inr inl ip })

  facts : NoRowApplied → Fileable run count line b
  facts (ok, (f, (place, (few, (sender, (named, (reading, end))))))) =
      record {
        sound_register = (sound_exactly_when run count).1 ok;
        is_frame = to_rules f;
        from_line_0_to_3 = few;
        sender_from_000001h = sender.0.0;
        sender_to_fffeffh = sender.0.1;
        not_to_a_group = sender.1;
        names_or_reports = names_or_reports named reading;
        has_a_place = ⊎_elim (λ h. inl (is_held.1 h)) inr place;
      }

  pub filed_exactly_when : Fileable run count line b ↔ IsFiled
  filed_exactly_when = (fileable_is_filed, λ filed. facts (no_row_applied filed))

-- ---- striking out
module _ (run : List Motor) (count line node : ℕ) where
  abbrev IsStruck : Next → Type 0
  IsStruck x = (n : ℕ) × (x.answer ≡ Ok n)

  strikeable_is_struck : Strikeable run count line node → IsStruck (struck_of run count line node)
  strikeable_is_struck s =
      let sound = (sound_exactly_when run count).0 s.sound_register in (
        length (without by_line_and_node (held run count) (line, node)),
        ap (λ (y : Next). y.answer)
            (struck_by run count line node 3 (sound, (s.on_line_0_to_3, ((found_some (found run count line node)).0 s.is_held, tt)))),
      )

  abbrev WasStrikeable : Next → Type 0
  WasStrikeable x = IsStruck x → Strikeable run count line node

  refused : (r : Refusal) → WasStrikeable (refusing run r)
  refused r (n, a) = absurd (never_both _ n r a refl)

  struck_was_strikeable : WasStrikeable (struck_of run count line node)
  unfolding struck_of
  struck_was_strikeable =
      of_decided WasStrikeable (strike_table run count line node) (keeping (without by_line_and_node (held run count) (line, node)))
      (refused Refusal.BrokenRegister, (refused Refusal.NoSuchLine, (refused Refusal.NotHeld, tt)))
      λ (sound, (few, (there, end))) struck.
      record {
        sound_register = (sound_exactly_when run count).1 sound;
        on_line_0_to_3 = few;
        is_held = (found_some (found run count line node)).1 there;
      }

  pub struck_exactly_when : Strikeable run count line node ↔ IsStruck (struck_of run count line node)
  struck_exactly_when = (strikeable_is_struck, struck_was_strikeable)
