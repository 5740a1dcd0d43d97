-- The reader of a line (document 01, "From wire to frame" and rows 7, 8, 9).
-- Assumes nothing.
use Rattle.std.specs.Prelude.{if◌then◌else◌, ℕ, suc, ◌+◌, Bool, true, false, not, List, [], ◌∷◌, eqb, leb, ltb, length, take, drop, set, replicate, Option, Some, None, Result, Ok, Err}
use Rattle.refusal.specs.declared.Refusal.{Refusal}
use Rattle.frame.specs.Reading.{reading_of, Reading}
use Rattle.frame.specs.declared.header.Header.{Header}
use Rattle.line.specs.declared.reader.Reader.{Reader}
use Rattle.line.specs.declared.reader.Stepped.{Stepped}
use Rattle.line.specs.declared.reader.Ran.{Ran}

-- What the reader answers: no bundle has ended, or a frame's header and its count of DATA, or a refusal.
abbrev pub Answer : Type 0
Answer = Result (Option (Header × ℕ)) Refusal

abbrev pub reader : List ℕ → ℕ → Reader
reader kept count = record { kept = kept; count = count }

-- A silence of 30 tenths of a millisecond or more ends the bundle before it.
abbrev pub ending_silence : ℕ
ending_silence = 30

-- No byte, in a value of 31.
abbrev pub no_bytes : List ℕ
no_bytes = replicate 31 0

-- No bundle is open.
abbrev pub fresh : Reader
fresh = reader no_bytes 0

-- A byte has begun a bundle.
abbrev pub begun : ℕ → Reader
begun byte = reader (set no_bytes 0 byte) 1

-- Row 9: at most 32 bytes counted, and zeros beyond the count.
unfoldable pub all_zeros : List ℕ → Bool
all_zeros [] = true
all_zeros (byte ∷ bytes) = if eqb byte 0 then all_zeros bytes else false

abbrev pub is_sound : Reader → Bool
is_sound r = if leb r.count 32 then all_zeros (drop r.count r.kept) else false

-- A byte joins the open bundle: the first 31 are kept, and from the 32nd on the count stays 32, too long.
abbrev pub kept_after : List ℕ → ℕ → ℕ → List ℕ
kept_after kept count byte = if ltb count 31 then set kept count byte else kept

abbrev pub count_after : ℕ → ℕ
count_after count = if ltb count 31 then count + 1 else 32

abbrev pub joined : Reader → ℕ → Reader
joined r byte = reader (kept_after r.kept r.count byte) (count_after r.count)

abbrev pub stepped : Reader → Answer → List ℕ → Stepped
stepped r answer bundle = record { reader = r; answer = answer; bundle = bundle }

-- What a bundle of these bytes is answered by, beside its bytes if it is a frame.
abbrev pub answered_by : Reading → List ℕ → Reader → Stepped
answered_by (Ok (h, n)) kept next = stepped next (Ok (Some (h, n))) kept
answered_by (Err q) kept next = stepped next (Err q) no_bytes

-- The open bundle ends. An empty one is never reported.
unfoldable pub ended_with : Reader → Reader → Stepped
ended_with r next =
    if eqb r.count 0 then stepped next (Ok None) no_bytes else
    if ltb 31 r.count then stepped next (Err Refusal.TooLong) no_bytes else
    answered_by (reading_of (take r.count r.kept)) r.kept next

-- A refusal by row 9 leaves the state as it is.
abbrev pub broken : Reader → Stepped
broken r = stepped r (Err Refusal.BrokenReader) no_bytes

-- A silence of 30 or more ends the bundle before it, and the byte begins a new one.
unfoldable pub step_of : Reader → (byte silence : ℕ) → Stepped
step_of r byte silence =
    if not (is_sound r) then broken r else
    if leb ending_silence silence then ended_with r (begun byte) else
    stepped (joined r byte) (Ok None) no_bytes

-- The end of the recording ends an open bundle.
unfoldable pub close_of : Reader → Stepped
close_of r =
    if not (is_sound r) then broken r else
    ended_with r fresh

abbrev pub ran : Stepped → ℕ → Ran
ran s place = record { stepped = s; place = place }

-- Over two runs: single steps, up to the byte that ends a bundle, or to the end.
abbrev pub goes_on : Answer → Bool
goes_on (Ok None) = true
goes_on (Ok (Some (h, n))) = false
goes_on (Err q) = false

unfoldable pub run_of : Reader → (bytes silences : List ℕ) → ℕ → Ran
run_of r [] silences place = ran (stepped r (Ok None) no_bytes) place
run_of r (byte ∷ bytes) [] place = ran (stepped r (Ok None) no_bytes) place
run_of r (byte ∷ bytes) (silence ∷ silences) place =
    let s = step_of r byte silence in
    if goes_on s.answer then run_of s.reader bytes silences (suc place) else ran s (suc place)

-- A refusal reads nothing, and leaves the state as it is.
abbrev pub refusing : Reader → Refusal → ℕ → Ran
refusing r q place = ran (stepped r (Err q) no_bytes) place

-- The same from a place of two lent runs: rows 9, 7, 8.
unfoldable pub ran_of : Reader → (bytes silences : List ℕ) → ℕ → Ran
ran_of r bytes silences place =
    if not (is_sound r) then refusing r Refusal.BrokenReader place else
    if not (eqb (length bytes) (length silences)) then refusing r Refusal.UnequalRuns place else
    if ltb (length bytes) place then refusing r Refusal.PlacePastEnd place else
    run_of r (drop place bytes) (drop place silences) place
