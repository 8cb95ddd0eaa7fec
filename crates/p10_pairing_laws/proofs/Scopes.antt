-- Scopes that are the same stay so where more structures are paired.
use Rattle.std.proofs.Common.{inl, inr, List, Option, Some, None, slice_get}
use Rattle.std.proofs.lemmas.Option.{slice_get_past}
use Rattle.p10_core.specs.Types.{PlainType, PlainMember, PlainStructure}
use Rattle.p10_elabx.specs.Scopes.{Meaning, Binding}
use Rattle.p10_renaming.specs.Renaming.{Pairing, passing}
use Rattle.p10_expression_renaming.specs.Knowing.{SameParameterTypes, same_no_parameter_types, same_more_parameter_types, SameMeaning, same_local, same_object, same_callable, same_number, same_named_type, same_tagged_type, same_unknown_name, same_unknown_tag, SameBindings, same_no_bindings, same_more_bindings, SameMembers, same_no_members, same_more_members}
use Rattle.p10_declaration_renaming.specs.Standings.{Both, SameStructure, SameTables}
use Rattle.p10_declaration_renaming.proofs.Boths.{both_by}
use Rattle.p10_pairing_laws.specs.Laws.{IsWithin, IsNewPast, ScopesStaySame}
use Rattle.p10_pairing_laws.proofs.Trees.{type_stays, within_passing, parameter_type_stays}

pub both_stays : {A : Type 0} (P Q : A → A → Type 0) → ((a b : A) → P a b → Q a b) → (m n : Option A) → Both P m n → Both Q m n
both_stays P Q each None None h = tt
both_stays P Q each (Some a) (Some b) h = each a b h
both_stays P Q each None (Some b) h = absurd h
both_stays P Q each (Some a) None h = absurd h

-- ## Names

pub parameter_types_stay : (R Q : Pairing) → IsWithin R Q → {ts us : List PlainType} → SameParameterTypes R ts us → SameParameterTypes Q ts us
parameter_types_stay R Q more same_no_parameter_types = same_no_parameter_types
parameter_types_stay R Q more (same_more_parameter_types h rest) = same_more_parameter_types (parameter_type_stays R Q more h) (parameter_types_stay R Q more rest)

pub meaning_stays : (R Q : Pairing) → IsWithin R Q → {a b : Meaning} → SameMeaning R a b → SameMeaning Q a b
meaning_stays R Q more (same_local h) = same_local (type_stays R Q more h)
meaning_stays R Q more (same_object h) = same_object (type_stays R Q more h)
meaning_stays R Q more (same_callable ts h) = same_callable (parameter_types_stay (passing R) (passing Q) (within_passing R Q more) ts) (type_stays R Q more h)
meaning_stays R Q more same_number = same_number
meaning_stays R Q more (same_named_type h) = same_named_type (type_stays R Q more h)
meaning_stays R Q more (same_tagged_type h) = same_tagged_type (type_stays R Q more h)
meaning_stays R Q more same_unknown_name = same_unknown_name
meaning_stays R Q more same_unknown_tag = same_unknown_tag

pub bindings_stay : (R Q : Pairing) → IsWithin R Q → {xs ys : List Binding} → SameBindings R xs ys → SameBindings Q xs ys
bindings_stay R Q more same_no_bindings = same_no_bindings
bindings_stay R Q more (same_more_bindings h rest) = same_more_bindings (meaning_stays R Q more h) (bindings_stay R Q more rest)

-- ## Structures

members_stay : (R Q : Pairing) → IsWithin R Q → {xs ys : List PlainMember} → SameMembers R xs ys → SameMembers Q xs ys
members_stay R Q more same_no_members = same_no_members
members_stay R Q more (same_more_members h rest) = same_more_members (type_stays R Q more h) (members_stay R Q more rest)

structure_stays : (R Q : Pairing) → IsWithin R Q → (x y : PlainStructure) → SameStructure R x y → SameStructure Q x y
structure_stays R Q more x y h = record {
  tags = h.tags;
  members = both_stays (λ b d. SameMembers R b.members d.members) (λ b d. SameMembers Q b.members d.members) (λ b d k. members_stay R Q more k) x.body y.body h.members;
  representatives = more.used x.representative y.representative h.representatives;
}

pub tables_stay : (R Q : Pairing) → IsWithin R Q → (these others : List PlainStructure) → IsNewPast R Q these others → SameTables R these others → SameTables Q these others
tables_stay R Q more these others past know = record {
  entries = λ n m paired. elim (past n m paired) [
    | inl old ↦ both_stays (SameStructure R) (SameStructure Q) (structure_stays R Q more) (slice_get these n) (slice_get others m) (know.entries n m old)
    | inr new ↦ both_by (SameStructure Q) (slice_get_past these n new.0) (slice_get_past others m new.1) tt
  ];
  built = know.built;
  other_built = know.other_built;
}

pub scopes_stay_same : ScopesStaySame
scopes_stay_same R Q more last later s t past next know = record {
  tables = tables_stay R Q more s.structures t.structures past know.tables;
  names = bindings_stay R Q more know.names;
  tags = bindings_stay R Q more know.tags;
  floors = know.floors;
  next = next;
}
