-- The DATA of a position report in the bundle's own bytes: pulse, percent, reserved, IP stand at places 9 to 13.
-- Assumes nothing.
use Prim.Native.Nat.{ℕ, ◌+◌, ◌≤◌, ◌<◌}
use native.Mathlib.Omega.{arith}
use mathlib.Core.Path.{◌≡◌}
use mathlib.Core.Logic.{◌↔◌, ◌⊎◌, inl, inr}
use mathlib.Core.List.{List}
use borrow.Author.Tests.{ltb-true, ltb-false}
use lib.Dec.{ltb}
use lib.ListN.{get_or}
use Rattle.meaning.specs.Cases.{by_test}
use Rattle.frame.proofs.Content.{data_at}
use Rattle.promises.specs.Wire.{raw, message, data_of, data_count}
use Rattle.promises.specs.Rows.{BadReading}

pub report_byte : (b : List ℕ) → 5 ≤ data_count b → (i : ℕ) → i < 5 → get_or (data_of b) i 0 ≡ raw b (9 + i)
report_byte b long i h = data_at b i (omega (arith, h, long))

-- Row 23, by a percent and an IP.
abbrev BadReport : List ℕ → (percent ip : ℕ) → Type 0
BadReport b percent ip = (message b ≡ 0x0D) × ((data_count b < 5) ⊎ BadReading percent ip)

-- A report is bad by its DATA exactly when it is by the bundle's bytes.
pub bad_by_its_bytes : (b : List ℕ) → BadReport b (get_or (data_of b) 2 0) (get_or (data_of b) 4 0) ↔ BadReport b (raw b 11) (raw b 13)
bad_by_its_bytes b = (to, from)
  where
    to : BadReport b (get_or (data_of b) 2 0) (get_or (data_of b) 4 0) → BadReport b (raw b 11) (raw b 13)
    to (m, inl short) = (m, inl short)
    to (m, inr bad) =
        by_test (ltb (data_count b) 5) (λ t. (m, inl (ltb-true (data_count b) 5 t)))
        (λ t.
        let long = ltb-false (data_count b) 5 t in
        (m, inr (rw (report_byte b long 2 (omega arith), report_byte b long 4 (omega arith)) at bad)))

    from : BadReport b (raw b 11) (raw b 13) → BadReport b (get_or (data_of b) 2 0) (get_or (data_of b) 4 0)
    from (m, inl short) = (m, inl short)
    from (m, inr bad) =
        by_test (ltb (data_count b) 5) (λ t. (m, inl (ltb-true (data_count b) 5 t)))
        (λ t.
        let long = ltb-false (data_count b) 5 t in
        (m, inr (rw (report_byte b long 2 (omega arith), report_byte b long 4 (omega arith)) bad)))
