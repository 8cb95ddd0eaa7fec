-- What stands where declarations do, and what they declare, in two programs that are the same but for places and for the numbers of objects,
-- literals and structures.
use Rattle.std.specs.Prelude.{◌≡◌, ℕ, ◌+◌, ◌<◌, ◌≤◌, true, List, [], ◌∷◌, length, Option, Some, None, slice_get}
use Rattle.p10_base.specs.declared.at.At.{At}
use Rattle.p10_syn.specs.Trees.{Identifier}
use Rattle.p10_core.specs.Types.{PlainType, PlainStructure}
use Rattle.p10_core.specs.Completing.{AreBuilt}
use Rattle.p10_elabx.specs.Scopes.{PlainScope}
use Rattle.p10_elabd.specs.Standing.{PlainStanding, Passed}
use Rattle.p10_elabd.specs.Shapes.{PlainParameter, FunctionType, PartFunction, ListedParameter, DeclaredType, of_type, of_open_array, of_function, of_part_function}
use Rattle.p10_renaming.specs.Renaming.{Pairing, SameType, SameParameterType}
use Rattle.p10_expression_renaming.specs.Knowing.{SameBindings, SameMembers}

-- both are made and the same, or neither is made
abbrev pub Both : {A : Type 0} → (A → A → Type 0) → Option A → Option A → Type 0
Both P None None = Unit {0}
Both P (Some a) (Some b) = P a b
Both P None (Some b) = ⊥
Both P (Some a) None = ⊥

-- ## Structures

-- two structures with the same tag, and the same members or none yet
pub record SameStructure (R : Pairing) (x y : PlainStructure) : Type 0 where
  pub tags : x.tag ≡ y.tag
  pub members : Both (λ b d. SameMembers R b.members d.members) x.body y.body
  pub representatives : R.used x.representative y.representative ≡ true

-- structures with paired numbers are the same
pub record SameTables (R : Pairing) (these others : List PlainStructure) : Type 0 where
  pub entries : (n m : ℕ) → R.used n m ≡ true → Both (SameStructure R) (slice_get these n) (slice_get others m)
  pub built : AreBuilt these
  pub other_built : AreBuilt others

-- ## What stands

-- the same names for the same, in blocks that begin at the same places of their lists, over structures that are the same; those that
-- are declared next have paired numbers, as long as there are no more than `last`
pub record SameWholeScope (R : Pairing) (last : ℕ) (s t : PlainScope) : Type 0 where
  pub tables : SameTables R s.structures t.structures
  pub names : SameBindings R s.names t.names
  pub tags : SameBindings R s.tags t.tags
  pub floors : s.floors ≡ t.floors
  pub next : (i : ℕ) → i + length s.structures < last → R.used (i + length s.structures) (i + length t.structures) ≡ true

abbrev pub SameStanding : Pairing → ℕ → PlainStanding → PlainStanding → Type 0
SameStanding R last s t = SameWholeScope R last s.scope t.scope

-- no row was found to hold so far, and there are at most `last` structures
pub record AreQuiet (last : ℕ) (s t : PlainStanding) : Type 0 where
  pub left : s.problems ≡ []
  pub right : t.problems ≡ []
  pub few : length s.scope.structures ≤ last

-- where nothing is refused up to the end, nothing was up to the start; and then something holds, and the same stands at the end
abbrev pub Leads : Pairing → ℕ → Type 0 → PlainStanding → PlainStanding → PlainStanding → PlainStanding → Type 0
Leads R last B s t u v = (AreQuiet last s t → SameStanding R last s t) → AreQuiet last u v → AreQuiet last s t × (B × SameStanding R last u v)

-- so it is with what is made on the way
abbrev pub Passes : {A : Type 0} → Pairing → ℕ → (A → A → Type 0) → PlainStanding → PlainStanding → Passed A → Passed A → Type 0
Passes R last P s t p q = Leads R last (Both P p.made q.made) s t p.after q.after

-- ## What declarators declare

-- names with the same letters, or none
abbrev pub SameNames : Option (Identifier At) → Option (Identifier At) → Type 0
SameNames a b = Both (λ x y. x.name ≡ y.name) a b

pub record SameParameter (R : Pairing) (p q : PlainParameter) : Type 0 where
  pub name : SameNames p.name q.name
  pub type : SameParameterType R p.type q.type

pub data SameParameters (R : Pairing) : List PlainParameter → List PlainParameter → Type 0 where
  same_no_parameters : SameParameters R [] []
  same_more_parameters : {p q : PlainParameter} {ps qs : List PlainParameter} → SameParameter R p q → SameParameters R ps qs → SameParameters R (p ∷ ps) (q ∷ qs)

pub record SameFunctionType (R : Pairing) (f g : FunctionType) : Type 0 where
  pub parameters : SameParameters R f.parameters g.parameters
  pub result : SameType R f.result g.result
  pub names : SameBindings R f.names g.names
  pub tags : SameBindings R f.tags g.tags

-- a parameter where it is listed
pub record SameListedParameter (R : Pairing) (p q : ListedParameter) : Type 0 where
  pub name : SameNames p.name q.name
  pub type : Both (SameParameterType R) p.type q.type

pub data SameListed (R : Pairing) : List ListedParameter → List ListedParameter → Type 0 where
  same_none_listed : SameListed R [] []
  same_more_listed : {p q : ListedParameter} {ps qs : List ListedParameter} → SameListedParameter R p q → SameListed R ps qs → SameListed R (p ∷ ps) (q ∷ qs)

-- functions that are refused in part, as far as they are known
pub record SamePartFunction (R : Pairing) (f g : PartFunction) : Type 0 where
  pub parameters : SameListed R f.parameters g.parameters
  pub list : f.list ≡ g.list
  pub result : Both (SameType R) f.result g.result

pub data SameDeclared (R : Pairing) : DeclaredType → DeclaredType → Type 0 where
  same_of_type : {t u : PlainType} → SameType R t u → SameDeclared R (of_type t) (of_type u)
  same_of_open_array : {t u : PlainType} → SameType R t u → SameDeclared R (of_open_array t) (of_open_array u)
  same_of_function : {f g : FunctionType} → SameFunctionType R f g → SameDeclared R (of_function f) (of_function g)
  same_of_part_function : {f g : PartFunction} → SamePartFunction R f g → SameDeclared R (of_part_function f) (of_part_function g)
