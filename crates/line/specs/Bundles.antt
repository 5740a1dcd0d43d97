-- The same said of whole bundles: a recording falls into bundles, and each is told by itself.
-- Assumes nothing.
use Rattle.std.specs.Prelude.{ℕ, Bool, true, false, List, [], ◌∷◌, leb, Ok, Err}
use Rattle.refusal.specs.Number.{number_of}
use Rattle.frame.specs.Reading.{reading_of, Reading}
use Rattle.line.specs.Telling.{Entry, after, Told, frame, refused}

-- A bundle ends where the recording does, and where the next byte comes after a silence of 30 or more.
abbrev pub ends : List Entry → Bool
ends [] = true
ends (after silence byte ∷ es) = leb 30 silence

-- A byte joins the bundle of the byte after it, unless its bundle ends at it.
abbrev pub join : ℕ → Bool → List (List ℕ) → List (List ℕ)
join byte true bundles = (byte ∷ []) ∷ bundles
join byte false [] = (byte ∷ []) ∷ []
join byte false (bundle ∷ bundles) = (byte ∷ bundle) ∷ bundles

abbrev pub bundles : List Entry → List (List ℕ)
bundles [] = []
bundles (after silence byte ∷ es) = join byte (ends es) (bundles es)

-- What is told of a bundle.
abbrev pub told_of : Reading → List ℕ → Told
told_of (Ok (h, n)) bundle = frame h n bundle
told_of (Err q) bundle = refused (number_of q)

abbrev pub bundle_told : List ℕ → Told
bundle_told bundle = told_of (reading_of bundle) bundle
