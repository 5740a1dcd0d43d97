-- Runs of records in ascending order of their keys, over any record: what is found, where a record stands, a record put
-- in and one taken out.
-- Assumes nothing.
use Rattle.std.specs.Prelude.{if◌then◌else◌, ℕ, suc, ◌≡◌, Bool, true, false, List, [], ◌∷◌}
use Rattle.std.proofs.Math.Option.{Option, none, some}
use Rattle.runs.specs.Keys.{Order}

-- A record has a key, and keys stand in a strict order of which any two are the same or one stands before the other.
pub record Ordered (R : Type 0) : Type 1 where
  pub Key : Type 0
  pub key : R → Key
  pub before : Key → Key → Bool
  pub same : Key → Key → Bool
  pub same_is : (a b : Key) → same a b ≡ true → a ≡ b
  pub itself : (a : Key) → same a a ≡ true
  pub never_before_itself : (a : Key) → before a a ≡ false
  pub before_still : (a b c : Key) → before a b ≡ true → before b c ≡ true → before a c ≡ true
  pub else_behind : (a b : Key) → before a b ≡ false → same a b ≡ false → before b a ≡ true

-- Records by a key of theirs.
abbrev pub ordered : {R K : Type 0} → (R → K) → Order K → Ordered R
ordered {K = K} key o =
    record {
      Key = K;
      key = key;
      before = o.before;
      same = o.same;
      same_is = o.same_is;
      itself = o.itself;
      never_before_itself = o.never_before_itself;
      before_still = o.before_still;
      else_behind = o.else_behind;
    }

-- The first record of a key.
unfoldable pub looked_up : {R : Type 0} (o : Ordered R) → List R → o.Key → Option R
looked_up o [] k = none
looked_up o (x ∷ l) k = if o.same (o.key x) k then some x else looked_up o l k

abbrev pub is_some : {R : Type 0} → Option R → Bool
is_some none = false
is_some (some x) = true

-- There is a record of the key.
abbrev pub holds : {R : Type 0} (o : Ordered R) → List R → o.Key → Bool
holds o l k = is_some (looked_up o l k)

-- How many of the first records stand before a key: the place where its record stands or would stand.
unfoldable pub place_of : {R : Type 0} (o : Ordered R) → List R → o.Key → ℕ
place_of o [] k = 0
place_of o (x ∷ l) k = if o.before (o.key x) k then suc (place_of o l k) else 0

-- A record put in at its place in the order: in the place of the one that has its key, or between.
unfoldable pub placed : {R : Type 0} (o : Ordered R) → List R → R → List R
placed o [] r = r ∷ []
placed o (x ∷ l) r =
    if o.before (o.key x) (o.key r) then x ∷ placed o l r else
    if o.same (o.key x) (o.key r) then r ∷ l else
    r ∷ x ∷ l

-- The run without the record of a key: the gap is closed.
unfoldable pub without : {R : Type 0} (o : Ordered R) → List R → o.Key → List R
without o [] k = []
without o (x ∷ l) k = if o.same (o.key x) k then l else x ∷ without o l k

-- Each record is behind the one before it, and the first behind a key.
abbrev pub Behind : {R : Type 0} (o : Ordered R) → o.Key → List R → Type 0
Behind o k [] = Unit {0}
Behind o k (x ∷ l) = (o.before k (o.key x) ≡ true) × Behind o (o.key x) l

-- Strictly ascending: each record is behind the one before it.
abbrev pub Ascending : {R : Type 0} (o : Ordered R) → List R → Type 0
Ascending o [] = Unit {0}
Ascending o (x ∷ l) = Behind o (o.key x) l

-- Every record of a run is of some kind.
abbrev pub All : {R : Type 0} → (R → Type 0) → List R → Type 0
All kind [] = Unit {0}
All kind (x ∷ l) = kind x × All kind l
