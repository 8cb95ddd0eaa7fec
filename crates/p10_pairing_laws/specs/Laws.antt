-- What is the same stays so where more structures are paired.
use Rattle.std.specs.Prelude.{◌≡◌, ◌⊎◌, ℕ, ◌+◌, ◌<◌, ◌≤◌, true, List, length}
use Rattle.p10_core.specs.Types.{PlainStructure}
use Rattle.p10_core.specs.Typed.{PlainFunction}
use Rattle.p10_elabx.specs.Scopes.{PlainScope}
use Rattle.p10_renaming.specs.Renaming.{Pairing, SameFunction}
use Rattle.p10_declaration_renaming.specs.Standings.{SameWholeScope}

-- each pair of the first is one of the second
pub record IsWithin (R Q : Pairing) : Type 0 where
  pub used : (n m : ℕ) → R.used n m ≡ true → Q.used n m ≡ true
  pub passed : (n m : ℕ) → R.passed n m ≡ true → Q.passed n m ≡ true

-- what the second pairs alone of those that are used are structures that neither program has yet
abbrev pub IsNewPast : Pairing → Pairing → List PlainStructure → List PlainStructure → Type 0
IsNewPast R Q these others = (n m : ℕ) → Q.used n m ≡ true → (R.used n m ≡ true) ⊎ ((length these ≤ n) × (length others ≤ m))

-- functions that are the same stay so
abbrev pub FunctionsStaySame : Type 0
FunctionsStaySame = (R Q : Pairing) → IsWithin R Q → (f g : PlainFunction) → SameFunction R f g → SameFunction Q f g

-- so do scopes, where the next structures are paired up to another bound
abbrev pub ScopesStaySame : Type 0
ScopesStaySame =
    (R Q : Pairing) → IsWithin R Q → (last later : ℕ) (s t : PlainScope) → IsNewPast R Q s.structures t.structures
    → ((i : ℕ) → i + length s.structures < later → Q.used (i + length s.structures) (i + length t.structures) ≡ true) → SameWholeScope R last s t → SameWholeScope Q later s t
