-- What is known in two programs that is the same but for places and for the numbers of objects, literals and structures.
use Rattle.std.specs.Prelude.{◌≡◌, ℕ, ℤ, Bool, true, nat_eq, List, [], ◌∷◌, Ok, Err}
use Rattle.p10_base.specs.Words.{Text}
use Rattle.p10_base.specs.declared.at.At.{At}
use Rattle.p10_core.specs.Types.{PlainType, PlainMember, PlainStructure, structure, members_of}
use Rattle.p10_core.specs.Sizes.{size_of}
use Rattle.p10_core.specs.Typed.{PlainValue, PlainPlace}
use Rattle.p10_elabx.specs.declared.operand.PlaceKind.{PlaceKind}
use Rattle.p10_elabx.specs.First.{Found, Ruled, lift}
use Rattle.p10_elabx.specs.Scopes.{Meaning, local, object, callable, number, named_type, tagged_type, unknown_name, unknown_tag, Binding, PlainScope}
use Rattle.p10_elabx.specs.Operands.{PlainOperand, a_value, a_place, a_function}
use Rattle.p10_renaming.specs.Renaming.{Pairing, passing, SameType, SameParameterType, SameValue, SamePlace}

-- ## What is found

-- where no row holds on either side, the same is found on both, or nothing is, since a name is used whose declaration was refused; nothing
-- is said where a row refuses one side
abbrev pub Together : {A : Type 0} → (A → A → Type 0) → Found A → Found A → Type 0
Together P (Ok a) (Ok b) = P a b
Together P (Ok a) (Err []) = ⊥
Together P (Ok a) (Err (r ∷ rs)) = Unit {0}
Together P (Err []) (Ok b) = ⊥
Together P (Err []) (Err rs) = Unit {0}
Together P (Err (r ∷ rs)) g = Unit {0}

-- the same of what one row says
abbrev pub Ruling : {A : Type 0} → (A → A → Type 0) → Ruled A → Ruled A → Type 0
Ruling P f g = Together P (lift f) (lift g)

pub data SameOperand (R : Pairing) : PlainOperand → PlainOperand → Type 0 where
  same_a_value : {v w : PlainValue} → SameValue R v w → SameOperand R (a_value v) (a_value w)
  same_a_place : {kind : PlaceKind} {q r : PlainPlace} → SamePlace R q r → SameOperand R (a_place kind q) (a_place kind r)
  same_a_function : {at to : At} → SameOperand R (a_function at) (a_function to)

-- ## Scopes

pub data SameTypes (R : Pairing) : List PlainType → List PlainType → Type 0 where
  same_no_types : SameTypes R [] []
  same_more_types : {t u : PlainType} {ts us : List PlainType} → SameType R t u → SameTypes R ts us → SameTypes R (t ∷ ts) (u ∷ us)

-- types of parameters, in order
pub data SameParameterTypes (R : Pairing) : List PlainType → List PlainType → Type 0 where
  same_no_parameter_types : SameParameterTypes R [] []
  same_more_parameter_types : {t u : PlainType} {ts us : List PlainType} → SameParameterType R t u → SameParameterTypes R ts us → SameParameterTypes R (t ∷ ts) (u ∷ us)

pub data SameMeaning (R : Pairing) : Meaning → Meaning → Type 0 where
  same_local : {n : ℕ} {t u : PlainType} {frame : Bool} → SameType R t u → SameMeaning R (local n t frame) (local n u frame)
  same_object : {n m : ℕ} {t u : PlainType} {sensor : Bool} → SameType R t u → SameMeaning R (object n t sensor) (object m u sensor)
  same_callable : {n : ℕ} {ts us : List PlainType} {t u : PlainType} → SameParameterTypes (passing R) ts us → SameType R t u → SameMeaning R (callable n ts t) (callable n us u)
  same_number : {z : ℤ} → SameMeaning R (number z) (number z)
  same_named_type : {t u : PlainType} → SameType R t u → SameMeaning R (named_type t) (named_type u)
  same_tagged_type : {t u : PlainType} → SameType R t u → SameMeaning R (tagged_type t) (tagged_type u)
  same_unknown_name : SameMeaning R unknown_name unknown_name
  same_unknown_tag : SameMeaning R unknown_tag unknown_tag

pub data SameBindings (R : Pairing) : List Binding → List Binding → Type 0 where
  same_no_bindings : SameBindings R [] []
  same_more_bindings : {name : Text} {a b : Meaning} {xs ys : List Binding} → SameMeaning R a b → SameBindings R xs ys → SameBindings R (record { name = name; what = a } ∷ xs) (record { name = name; what = b } ∷ ys)

pub data SameMembers (R : Pairing) : List PlainMember → List PlainMember → Type 0 where
  same_no_members : SameMembers R [] []
  same_more_members : {name : Text} {t u : PlainType} {xs ys : List PlainMember} → SameType R t u → SameMembers R xs ys → SameMembers R (record { name = name; type = t } ∷ xs) (record { name = name; type = u } ∷ ys)

-- structures that are paired have the same members and sizes
pub record SameStructures (R : Pairing) (these others : List PlainStructure) : Type 0 where
  pub members : (n m : ℕ) → R.used n m ≡ true → SameMembers R (members_of these n) (members_of others m)
  pub sizes : (c : Bool) (n m : ℕ) → R.used n m ≡ true → size_of these (structure c n) ≡ size_of others (structure c m)

-- the same names, for the same
pub record SameScope (R : Pairing) (s t : PlainScope) : Type 0 where
  pub structures : SameStructures R s.structures t.structures
  pub names : SameBindings R s.names t.names
  pub tags : SameBindings R s.tags t.tags

-- each structure is one of the other program, and those that are used are among all
pub record IsOneToOne (R : Pairing) : Type 0 where
  pub numbers : (n m i j : ℕ) → R.passed n i ≡ true → R.passed m j ≡ true → nat_eq n m ≡ nat_eq i j
  pub within : (n m : ℕ) → R.used n m ≡ true → R.passed n m ≡ true
