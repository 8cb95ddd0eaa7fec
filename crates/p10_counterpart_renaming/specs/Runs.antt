-- What is known of two programs in a row of counterparts.
use Rattle.std.specs.Prelude.{◌≡◌, ℕ, ◌+◌, ◌<◌, true, ◌&&◌, ◌||◌, nat_eq, nat_lt, nat_le, List, [], ◌∷◌, length, Some, slice_get}
use Rattle.p10_base.specs.declared.at.At.{At}
use Rattle.p10_syn.specs.Trees.{External, Outer, Defines}
use Rattle.p10_core.specs.Typed.{PlainFunction}
use Rattle.p10_core.specs.Completing.{AreBuilt}
use Rattle.p10_elabx.specs.First.{Keep}
use Rattle.p10_heads.specs.Heads.{Heads}
use Rattle.p10_elab.specs.Knowledge.{Known}
use Rattle.p10_elab.specs.Outer.{defined_outside}
use Rattle.p10_elab.specs.RootEnds.{known_after, root_begun, root_passed}
use Rattle.p10_renaming.specs.Renaming.{Pairs, Pairing, SameFunction}
use Rattle.p10_expression_renaming.specs.Knowing.{IsOneToOne}
use Rattle.p10_pairing_laws.specs.Laws.{IsWithin}
use Rattle.p10_root_renaming.specs.Roots.{SameKnown}
use Rattle.p10_touched_renaming.specs.Touched.{IsMade}

-- ## One program

-- how many structures there are
abbrev pub structures_in : Known → ℕ
structures_in k = length k.standing.scope.structures

-- each definition becomes a function, and structures are built after it
abbrev pub AreRegular : Keep → Heads → Known → List (External At) → Type 0
AreRegular h heads k [] = Unit {0}
AreRegular h heads k (Outer at d ∷ rest) = AreRegular h heads (known_after h heads k (Outer at d)) rest
AreRegular h heads k (Defines d ∷ rest) =
    (IsMade h heads k d × AreBuilt (defined_outside h heads k d).standing.scope.structures) × AreRegular h heads (known_after h heads k (Defines d)) rest

-- so it is in each root, one after the other
abbrev pub RootsAreRegular : Keep → Heads → Known → List (List (External At)) → Type 0
RootsAreRegular h heads k [] = Unit {0}
RootsAreRegular h heads k (root ∷ rest) = AreRegular h heads (root_begun k) root × RootsAreRegular h heads (root_passed h heads k root) rest

-- ## Both

-- pairs that there were, and this many more, from two numbers on
abbrev pub extended : Pairs → ℕ → ℕ → ℕ → Pairs
extended P from other count n m = P n m || ((nat_le from n && nat_lt n (from + count)) && nat_eq (m + from) (n + other))

-- the same is known, where structures that both have so far are paired
pub record SameSoFar (R : Pairing) (k j : Known) : Type 0 where
  pub one : IsOneToOne R
  pub low : (n m : ℕ) → R.passed n m ≡ true → n < structures_in k
  pub high : (n m : ℕ) → R.passed n m ≡ true → m < structures_in j
  pub known : SameKnown R (structures_in k) k j

-- with more structures that are paired
pub record SameWithMore (R : Pairing) (k j : Known) : Type 0 where
  pub pairing : Pairing
  pub within : IsWithin R pairing
  pub same : SameSoFar pairing k j

-- the functions with a number, if there are such
abbrev pub FunctionsSameAt : Pairing → ℕ → List PlainFunction → List PlainFunction → Type 0
FunctionsSameAt R n functions others = (f g : PlainFunction) → slice_get functions n ≡ Some f → slice_get others n ≡ Some g → SameFunction R f g
