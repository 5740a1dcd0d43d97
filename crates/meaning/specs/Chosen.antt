-- A choice whose tests are known.
-- Assumes nothing.
use Rattle.std.specs.Prelude.{if◌then◌else◌, ◌≡◌, Bool, true, false, not}
use Rattle.std.proofs.Common.{◌∙◌, sym}
use Rattle.std.proofs.lemmas.Bool.{not-true, not-false}

module _ {A : Type 0} (test : Bool) (x y : A) where
  pub chosen : test ≡ true → (if test then x else y) ≡ x
  chosen e = rw e

  pub passed : test ≡ false → (if test then x else y) ≡ y
  passed e = rw e

-- A test as the code asked it, negated, and what its meaning is then.
pub found_false : {asked test : Bool} → asked ≡ test → not asked ≡ true → test ≡ false
found_false {asked} e n = sym e ∙ not-true asked n

pub found_true : {asked test : Bool} → asked ≡ test → not asked ≡ false → test ≡ true
found_true {asked} e n = sym e ∙ not-false asked n
