-- What the reader tells of a recording, in the paper's words: single steps, one after another, and then the close.
-- Assumes nothing.
use Rattle.std.specs.Prelude.{ℕ, ◌+◌, List, [], ◌∷◌, ◌++◌, take, Ok, Err, Some, None}
use Rattle.refusal.specs.Number.{number_of}
use Rattle.frame.specs.declared.header.Header.{Header}
use Rattle.line.specs.Reader.{step_of, close_of, Answer}
use Rattle.line.specs.declared.reader.Reader.{Reader}
use Rattle.line.specs.declared.reader.Stepped.{Stepped}

-- A byte, with the tenths of a millisecond of silence before it.
pub data Entry : Type 0 where
  after : (silence byte : ℕ) → Entry

-- A bundle is told by its header, how many bytes of DATA it has and its bytes where it is a frame, and by the number of
-- its refusal where it is none.
pub data Told : Type 0 where
  frame : Header → (count : ℕ) → List ℕ → Told
  refused : ℕ → Told

abbrev pub told_by : Answer → List ℕ → List Told
told_by (Ok None) bundle = []
told_by (Ok (Some (h, n))) bundle = frame h n (take (11 + n) bundle) ∷ []
told_by (Err q) bundle = refused (number_of q) ∷ []

abbrev pub said : Stepped → List Told
said s = told_by s.answer s.bundle

-- Of a part of a recording: what the steps tell, and the reader after them.
abbrev pub telling : Reader → List Entry → List Told
telling r [] = []
telling r (after silence byte ∷ es) = said (step_of r byte silence) ++ telling (step_of r byte silence).reader es

abbrev pub reader_after : Reader → List Entry → Reader
reader_after r [] = r
reader_after r (after silence byte ∷ es) = reader_after (step_of r byte silence).reader es

-- Of a whole recording: what the steps tell, and then the close.
abbrev pub wholly : Reader → List Entry → List Told
wholly r [] = said (close_of r)
wholly r (after silence byte ∷ es) = said (step_of r byte silence) ++ wholly (step_of r byte silence).reader es

-- Two lent runs as a recording.
abbrev pub entries : (bytes silences : List ℕ) → List Entry
entries [] silences = []
entries (byte ∷ bytes) [] = []
entries (byte ∷ bytes) (silence ∷ silences) = after silence byte ∷ entries bytes silences
