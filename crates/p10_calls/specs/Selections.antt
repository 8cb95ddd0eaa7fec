-- The elements of a list of which a fact holds.
use Rattle.std.specs.Prelude.{◌≡◌, ◌↔◌, List, Bool, true}
use Rattle.std.specs.List.{Contains, filter}

-- The elements of a list of which a fact holds, in their order and as often as they stand there: those that pass a test which
-- is true of an element of the list exactly where the fact holds.
pub record AreThose {A : Type 0} (P : A → Type 0) (all found : List A) : Type 0 where
  pub test : A → Bool
  pub exact : (x : A) → Contains all x → (test x ≡ true) ↔ P x
  pub are : found ≡ filter test all
