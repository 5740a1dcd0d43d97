-- Demand 3. Of a recording of frames, each with at most one fault, a fresh reader, once closed, hands out exactly the unharmed ones,
-- in order, and only numbered refusals for the rest.
-- Assumes nothing.
use mathlib.Core.Path.{◌≡◌}
use mathlib.Core.List.{List}
use Rattle.line.specs.Reader.{fresh}
use Rattle.line.specs.Telling.{Entry, wholly}
use Rattle.line.specs.Damage.{Sent, Recording, unharmed, handed, Numbered, Owed}
use Rattle.line.proofs.Machine.{agrees}
use Rattle.line.proofs.Recording.{bundles_are, all_owed, frames_of, numbers_of}

-- Frame by frame, in the order of the recording: an unharmed one gives itself, a harmed one one numbered refusal or two.
pub frame_by_frame : (ss : List Sent) (es : List Entry) → Recording ss es → Owed ss (wholly fresh es)
frame_by_frame ss es r = rw (agrees es, bundles_are r) (all_owed ss)

-- The demand's sentence: exactly the unharmed frames, in order; numbered refusals; and these for the rest, each in its place.
pub demand_3 : (ss : List Sent) (es : List Entry) → Recording ss es
    → (handed (wholly fresh es) ≡ unharmed ss) × Numbered (wholly fresh es) × Owed ss (wholly fresh es)
demand_3 ss es r = let o = frame_by_frame ss es r in (frames_of o, numbers_of o, o)
