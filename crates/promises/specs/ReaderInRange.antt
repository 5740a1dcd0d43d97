-- The line reader's values in plain numbers: in range by row 9 of document 01, no bundle open, and what hands out no
-- byte.
-- Assumes nothing.
use Rattle.std.specs.Prelude.{ℕ, ◌≤◌, ◌≡◌, List, ◌∷◌, get_or, take, replicate, Ok, Err, None}
use Rattle.refusal.specs.declared.Refusal.{Refusal}
use Rattle.line.specs.declared.reader.Reader.{Reader}
use Rattle.line.specs.declared.reader.Stepped.{Stepped}

-- Row 9 does not apply: 32 stands for too long, and zeros stand behind the bytes counted.
pub record ReaderInRange (r : Reader) : Type 0 where
  pub at_most_32_counted : r.count ≤ 32
  pub zeros_behind_the_count : (place : ℕ) → r.count ≤ place → get_or r.kept place 0 ≡ 0

-- The bytes of the open bundle.
abbrev pub open_bytes : Reader → List ℕ
open_bytes r = take r.count r.kept

-- No byte, in a value of 31.
abbrev pub zeros31 : List ℕ
zeros31 = replicate 31 0

-- No bundle is open.
abbrev pub none_open : Reader
none_open = record { kept = zeros31; count = 0 }

-- A byte has begun a bundle.
abbrev pub begun_with : ℕ → Reader
begun_with byte = record { kept = byte ∷ replicate 30 0; count = 1 }

-- No answer, and no byte handed out.
abbrev pub without_answer : Reader → Stepped
without_answer r = record { reader = r; answer = (Ok None); bundle = zeros31 }

-- A refusal, and no byte handed out.
abbrev pub with_refusal : Reader → Refusal → Stepped
with_refusal r q = record { reader = r; answer = Err q; bundle = zeros31 }
