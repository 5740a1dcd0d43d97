-- Of a recording of frames, each with at most one fault, the bundles give the unharmed ones, in order, and refuse the rest.
-- Assumes nothing.
use Prim.Native.Nat.{ℕ, suc, ◌+◌, ◌-◌, ◌<◌}
use native.Mathlib.Omega.{arith}
use mathlib.Core.Path.{◌≡◌, refl, ap}
use mathlib.Core.Bool.{true}
use mathlib.Core.List.{List, [], ◌∷◌, ◌++◌, map}
use borrow.Author.Tests.{le-leb, lt-leb}
use lib.ListN.{length, take, drop, set, length-append, length-take, length-drop, length-set}
use Rattle.refusal.specs.Number.{number_of}
use Rattle.frame.specs.Layout.{header_of}
use Rattle.frame.specs.Reading.{IsFrame}
use Rattle.frame.proofs.Frames.{frame_is_read, refused_otherwise}
use Rattle.line.specs.Telling.{Entry, Told, frame, refused}
use Rattle.line.specs.Bundles.{ends, join, bundles, bundle_told}
use Rattle.line.specs.Damage.{
  Sent,
  whole,
  harmed,
  heard,
  unharmed,
  Pieces,
  none,
  empty,
  begin,
  Rest,
  over,
  within,
  handed,
  Number,
  Numbered,
  Owed,
  nothing,
  itself,
  once,
  twice,
  Fault,
  change,
  lose,
  insert,
  pause,
  lose_pause,
  Befalls,
  pieces,
}
use Rattle.line.proofs.Single.{all_refused}

-- the pieces that are heard: an empty one is not
abbrev pub heard_of : List (List ℕ) → List (List ℕ)
heard_of [] = []
heard_of ([] ∷ ps) = heard_of ps
heard_of ((b ∷ p) ∷ ps) = (b ∷ p) ∷ heard_of ps

new_after : {ps : List (List ℕ)} {es : List Entry} → Pieces 30 ps es → ends es ≡ true
new_after none = refl
new_after (empty r) = new_after r
new_after (begin {s = s} h r) = le-leb 30 s h

-- The bundles of a recording are its pieces.
mutual
  pub bundles_are : {m : ℕ} {ps : List (List ℕ)} {es : List Entry} → Pieces m ps es → bundles es ≡ heard_of ps
  bundles_are none = refl
  bundles_are (empty r) = bundles_are r
  bundles_are (begin {b = b} h r) = joined r b

  joined : {p : List ℕ} {ps : List (List ℕ)} {es : List Entry} → Rest p ps es → (b : ℕ) → join b (ends es) (bundles es) ≡ (b ∷ p) ∷ heard_of ps
  joined (over r) b = rw (new_after r) (ap (λ (bs : List (List ℕ)). (b ∷ []) ∷ bs) (bundles_are r))
  joined (within {s = s} {b = c} h r) b = rw (lt-leb 30 s h, joined r c)

-- What is told of a frame, and of what is none.
for_frame : (w : List ℕ) → IsFrame w → bundle_told w ≡ frame (header_of w) (length w - 11) w
for_frame w e = rw (frame_is_read w e)

for_other : (p : List ℕ) → ¬ IsFrame p → (k : ℕ) × (bundle_told p ≡ refused k) × Number k
for_other p n = let (q, e, l, u) = refused_otherwise p n in (number_of q, rw e, (l, u))

-- what is answered to pieces, of which an empty one is not heard
abbrev pub replies : List (List ℕ) → List Told
replies ps = map bundle_told (heard_of ps)

-- a harmed frame gives a piece, or two, that are not frames, and not both empty
one_piece : (w : List ℕ) (e : IsFrame w) (f : Fault) (h : Befalls f w) (p : List ℕ) (ps : List (List ℕ)) (ss : List Sent)
    → 0 < length p → ¬ IsFrame p → Owed ss (replies ps) → Owed (harmed w e f h ∷ ss) (replies (p ∷ ps))
one_piece w e f h [] ps ss g n o = absurd (omega arith)
one_piece w e f h (b ∷ p) ps ss g n o = let (k, t, i) = for_other (b ∷ p) n in rw t (once i o)

two_pieces : (w : List ℕ) (e : IsFrame w) (f : Fault) (h : Befalls f w) (p q : List ℕ) (ps : List (List ℕ)) (ss : List Sent)
    → 0 < length p + length q → ¬ IsFrame p → ¬ IsFrame q → Owed ss (replies ps) → Owed (harmed w e f h ∷ ss) (replies (p ∷ q ∷ ps))
two_pieces w e f h [] q ps ss g n m o = one_piece w e f h q ps ss (omega arith) m o
two_pieces w e f h (b ∷ p) [] ps ss g n m o = one_piece w e f h (b ∷ p) ps ss (omega arith) n o
two_pieces w e f h (b ∷ p) (c ∷ q) ps ss g n m o =
    let (k, t, i) = for_other (b ∷ p) n in
    let (l, u, j) = for_other (c ∷ q) m in
    rw (t, u) (twice i j o)

harmed_owed : (f : Fault) (w : List ℕ) (e : IsFrame w) (h : Befalls f w) (ss : List Sent)
    → Owed ss (replies (heard ss)) → Owed (harmed w e f h ∷ ss) (replies (pieces f w ++ heard ss))
harmed_owed (change i v) w e h ss o =
    let r = all_refused (change i v) w e h in
    one_piece w e (change i v) h (set w i v) (heard ss) ss (omega (arith, length-set w i v)) r.0 o
harmed_owed (lose i) w e h ss o =
    let r = all_refused (lose i) w e h in
    one_piece w e (lose i) h (take i w ++ drop (suc i) w) (heard ss) ss
    (omega (arith, length-append (take i w) (drop (suc i) w), length-take i w, length-drop (suc i) w)) r.0 o
harmed_owed (insert i v) w e h ss o =
    let r = all_refused (insert i v) w e h in
    one_piece w e (insert i v) h (take i w ++ v ∷ drop i w) (heard ss) ss (omega (arith, length-append (take i w) (v ∷ drop i w))) r.0 o
harmed_owed (pause i) w e h ss o =
    let r = all_refused (pause i) w e h in
    two_pieces w e (pause i) h (take i w) (drop i w) (heard ss) ss (omega (arith, length-take i w, h.0, h.1)) r.0 r.1.0 o
harmed_owed (lose_pause i) w e h ss o =
    let r = all_refused (lose_pause i) w e h in
    two_pieces w e (lose_pause i) h (take i w) (drop (suc i) w) (heard ss) ss (omega (arith, length-take i w, length-drop (suc i) w)) r.0
    r.1.0 o

pub all_owed : (ss : List Sent) → Owed ss (replies (heard ss))
all_owed [] = nothing
all_owed (whole [] e ∷ ss) = absurd (omega (arith, e.from_11_bytes))
all_owed (whole (b ∷ w) e ∷ ss) = rw (for_frame (b ∷ w) e) (itself (all_owed ss))
all_owed (harmed w e f h ∷ ss) = harmed_owed f w e h ss (all_owed ss)

-- What is owed holds what is handed out.
pub frames_of : {ss : List Sent} {xs : List Told} → Owed ss xs → handed xs ≡ unharmed ss
frames_of nothing = refl
frames_of (itself {w = w} o) = ap (λ (bs : List (List ℕ)). w ∷ bs) (frames_of o)
frames_of (once k o) = frames_of o
frames_of (twice k j o) = frames_of o

pub numbers_of : {ss : List Sent} {xs : List Told} → Owed ss xs → Numbered xs
numbers_of nothing = tt
numbers_of (itself o) = numbers_of o
numbers_of (once k o) = (k, numbers_of o)
numbers_of (twice k j o) = (k, (j, numbers_of o))
