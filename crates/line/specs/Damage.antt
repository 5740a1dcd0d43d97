-- Demand 3's words: faults on the line, recordings of damaged frames, and what the reader owes of them.
-- Assumes nothing.
use Rattle.std.specs.Prelude.{ℕ, suc, ◌-◌, ◌≤◌, ◌<◌, ◌≢◌, List, [], ◌∷◌, ◌++◌, length, get_or, take, drop, set}
use Rattle.frame.specs.Layout.{header_of}
use Rattle.frame.specs.Reading.{IsFrame}
use Rattle.line.specs.Telling.{Entry, after, Told, frame, refused}

-- What can befall a frame, at the byte of index i: it is changed, lost, another is put in before it, a silence is put
-- in before it,
-- or it is lost with a silence in its place.
pub data Fault : Type 0 where
  change : (i v : ℕ) → Fault
  lose : (i : ℕ) → Fault
  insert : (i v : ℕ) → Fault
  pause : (i : ℕ) → Fault
  lose_pause : (i : ℕ) → Fault

-- The pieces, divided by silences of 30 or more, that are heard of a frame that suffered the fault. An empty piece is
-- not heard.
abbrev pub pieces : Fault → List ℕ → List (List ℕ)
pieces (change i v) w = set w i v ∷ []
pieces (lose i) w = (take i w ++ drop (suc i) w) ∷ []
pieces (insert i v) w = (take i w ++ v ∷ drop i w) ∷ []
pieces (pause i) w = take i w ∷ drop i w ∷ []
pieces (lose_pause i) w = take i w ∷ drop (suc i) w ∷ []

-- The fault can befall this frame: the byte is there, a change changes it, a silence stands between two bytes.
abbrev pub Befalls : Fault → List ℕ → Type 0
Befalls (change i v) w = (i < length w) × (v ≢ get_or w i 0)
Befalls (lose i) w = i < length w
Befalls (insert i v) w = i ≤ length w
Befalls (pause i) w = (0 < i) × (i < length w)
Befalls (lose_pause i) w = i < length w

-- A frame that was sent, and the one fault, if any, that befell it.
pub data Sent : Type 0 where
  whole : (w : List ℕ) → IsFrame w → Sent
  harmed : (w : List ℕ) → IsFrame w → (f : Fault) → Befalls f w → Sent

abbrev pub unharmed : List Sent → List (List ℕ)
unharmed [] = []
unharmed (whole w e ∷ ss) = w ∷ unharmed ss
unharmed (harmed w e f h ∷ ss) = unharmed ss

-- The pieces that are heard of the frames.
abbrev pub heard : List Sent → List (List ℕ)
heard [] = []
heard (whole w e ∷ ss) = w ∷ heard ss
heard (harmed w e f h ∷ ss) = pieces f w ++ heard ss

-- The entries are those of the pieces: the bytes are theirs, with less than 30 before each but the first of a piece,
-- at least m before the first of all, and at least 30 before the first of each later piece.
mutual
  pub data Pieces : ℕ → List (List ℕ) → List Entry → Type 0 where
    none : {m : ℕ} → Pieces m [] []
    empty : {m : ℕ} {ps : List (List ℕ)} {es : List Entry} → Pieces m ps es → Pieces m ([] ∷ ps) es
    begin : {m s b : ℕ} {p : List ℕ} {ps : List (List ℕ)} {es : List Entry} → m ≤ s → Rest p ps es
        → Pieces m ((b ∷ p) ∷ ps) (after s b ∷ es)

  pub data Rest : List ℕ → List (List ℕ) → List Entry → Type 0 where
    over : {ps : List (List ℕ)} {es : List Entry} → Pieces 30 ps es → Rest [] ps es
    within : {s b : ℕ} {p : List ℕ} {ps : List (List ℕ)} {es : List Entry} → s < 30 → Rest p ps es
        → Rest (b ∷ p) ps (after s b ∷ es)

-- A recording of these frames: the silences between frames stay, and the one before the first byte of all is any.
abbrev pub Recording : List Sent → List Entry → Type 0
Recording ss es = Pieces 0 (heard ss) es

-- What the reader hands out: the frames among what it tells.
abbrev pub handed : List Told → List (List ℕ)
handed [] = []
handed (frame h n b ∷ xs) = b ∷ handed xs
handed (refused k ∷ xs) = handed xs

-- A refusal of a bundle is by one of six numbers.
abbrev pub Number : ℕ → Type 0
Number k = (1 ≤ k) × (k ≤ 6)

-- All that is told beside the frames is numbered refusals.
abbrev pub Numbered : List Told → Type 0
Numbered [] = Unit {0}
Numbered (frame h n b ∷ xs) = Numbered xs
Numbered (refused k ∷ xs) = Number k × Numbered xs

-- What the reader owes of the frames, in their order: an unharmed one gives itself, all but 11 of its bytes counted as
-- DATA; a harmed one gives one refusal or two.
pub data Owed : List Sent → List Told → Type 0 where
  nothing : Owed [] []
  itself : {w : List ℕ} {e : IsFrame w} {ss : List Sent} {xs : List Told} → Owed ss xs
      → Owed (whole w e ∷ ss) (frame (header_of w) (length w - 11) w ∷ xs)
  once : {w : List ℕ} {e : IsFrame w} {f : Fault} {h : Befalls f w} {k : ℕ} {ss : List Sent} {xs : List Told}
      → Number k → Owed ss xs → Owed (harmed w e f h ∷ ss) (refused k ∷ xs)
  twice : {w : List ℕ} {e : IsFrame w} {f : Fault} {h : Befalls f w} {k j : ℕ} {ss : List Sent} {xs : List Told}
      → Number k → Number j → Owed ss xs → Owed (harmed w e f h ∷ ss) (refused k ∷ refused j ∷ xs)
