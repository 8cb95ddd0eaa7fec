-- Scopes that are the same: what names stand for in them, and what leaves them the same.
use Rattle.std.proofs.Common.{◌≡◌, refl, ap, subst, arith, ℕ, zero, suc, ◌+◌, ◌-◌, ◌<◌, ◌≤◌, true, List, [], ◌∷◌, ◌++◌, length, take, drop, Option, Some}
use Rattle.p10_base.specs.Words.{Text}
use Rattle.p10_core.specs.Completing.{with_structure}
use Rattle.p10_elabx.specs.Scopes.{Meaning, Binding, PlainScope, named, tagged, last_floor, entered, left, declared}
use Rattle.p10_elabx.specs.Innermost.{tagged_here, hidden}
use Rattle.p10_elabd.specs.Tags.{with_tag, with_unknown, with_tags}
use Rattle.p10_renaming.specs.Renaming.{Pairing, same_structure}
use Rattle.p10_expression_renaming.specs.Knowing.{SameMeaning, same_local, same_object, same_callable, same_number, same_named_type, same_tagged_type, same_unknown_name, same_unknown_tag, SameBindings, same_no_bindings, same_more_bindings, SameScope, IsOneToOne}
use Rattle.p10_expression_renaming.proofs.Sameness.{SameNamed, same_nothing_named, same_one_named}
use Rattle.p10_expression_renaming.proofs.Calls.{last_both}
use Rattle.p10_declaration_renaming.specs.Standings.{SameWholeScope}
use Rattle.p10_declaration_renaming.proofs.Growing.{count_more, tags_more}
use Rattle.p10_declaration_renaming.proofs.Tables.{structures_same, tables_more}

-- ## Lists of names

pub bindings_more : (R : Pairing) {xs ys : List Binding} → SameBindings R xs ys → (name : Text) {a b : Meaning} → SameMeaning R a b → SameBindings R (xs ++ record { name = name; what = a } ∷ []) (ys ++ record { name = name; what = b } ∷ [])
bindings_more R same_no_bindings name h = same_more_bindings h same_no_bindings
bindings_more R (same_more_bindings k rest) name h = same_more_bindings k (bindings_more R rest name h)

pub bindings_joined : (R : Pairing) {xs ys us vs : List Binding} → SameBindings R xs ys → SameBindings R us vs → SameBindings R (xs ++ us) (ys ++ vs)
bindings_joined R same_no_bindings h = h
bindings_joined R (same_more_bindings k rest) h = same_more_bindings k (bindings_joined R rest h)

pub bindings_taken : (R : Pairing) (n : ℕ) {xs ys : List Binding} → SameBindings R xs ys → SameBindings R (take n xs) (take n ys)
bindings_taken R zero same_no_bindings = same_no_bindings
bindings_taken R zero (same_more_bindings h rest) = same_no_bindings
bindings_taken R (suc n) same_no_bindings = same_no_bindings
bindings_taken R (suc n) (same_more_bindings h rest) = same_more_bindings h (bindings_taken R n rest)

pub bindings_dropped : (R : Pairing) (n : ℕ) {xs ys : List Binding} → SameBindings R xs ys → SameBindings R (drop n xs) (drop n ys)
bindings_dropped R zero same_no_bindings = same_no_bindings
bindings_dropped R zero (same_more_bindings h rest) = same_more_bindings h rest
bindings_dropped R (suc n) same_no_bindings = same_no_bindings
bindings_dropped R (suc n) (same_more_bindings h rest) = bindings_dropped R n rest

pub bindings_length : (R : Pairing) {xs ys : List Binding} → SameBindings R xs ys → length xs ≡ length ys
bindings_length R same_no_bindings = refl
bindings_length R (same_more_bindings h rest) = ap suc (bindings_length R rest)

-- ## What names stand for

pub scope_same : (R : Pairing) (last : ℕ) (s t : PlainScope) → SameWholeScope R last s t → SameScope R s t
scope_same R last s t know = record { structures = structures_same R s.structures t.structures know.tables; names = know.names; tags = know.tags }

-- the names of the innermost block
pub names_inside : (R : Pairing) (last : ℕ) (s t : PlainScope) → SameWholeScope R last s t → SameBindings R (drop (last_floor s.floors).0 s.names) (drop (last_floor t.floors).0 t.names)
names_inside R last s t know = subst (λ f. SameBindings R (drop (last_floor s.floors).0 s.names) (drop (last_floor f).0 t.names)) know.floors (bindings_dropped R (last_floor s.floors).0 know.names)

pub tags_inside : (R : Pairing) (last : ℕ) (s t : PlainScope) → SameWholeScope R last s t → SameBindings R (drop (last_floor s.floors).1 s.tags) (drop (last_floor t.floors).1 t.tags)
tags_inside R last s t know = subst (λ f. SameBindings R (drop (last_floor s.floors).1 s.tags) (drop (last_floor f).1 t.tags)) know.floors (bindings_dropped R (last_floor s.floors).1 know.tags)

pub named_same : (R : Pairing) (last : ℕ) (s t : PlainScope) → SameWholeScope R last s t → (name : Text) → SameNamed R (named s name) (named t name)
named_same R last s t know name = last_both R name know.names same_nothing_named

pub tagged_same : (R : Pairing) (last : ℕ) (s t : PlainScope) → SameWholeScope R last s t → (name : Text) → SameNamed R (tagged s name) (tagged t name)
tagged_same R last s t know name = last_both R name know.tags same_nothing_named

pub tagged_here_same : (R : Pairing) (last : ℕ) (s t : PlainScope) → SameWholeScope R last s t → (name : Text) → SameNamed R (tagged_here s name) (tagged_here t name)
tagged_here_same R last s t know name = last_both R name (tags_inside R last s t know) same_nothing_named

-- ## Names more, and blocks

pub with_names_same : (R : Pairing) (last : ℕ) (s t : PlainScope) → SameWholeScope R last s t → {ns ms : List Binding} → SameBindings R ns ms → SameWholeScope R last (record s { names = ns }) (record t { names = ms })
with_names_same R last s t know h = record { tables = know.tables; names = h; tags = know.tags; floors = know.floors; next = know.next }

pub with_tags_same : (R : Pairing) (last : ℕ) (s t : PlainScope) → SameWholeScope R last s t → {ns ms : List Binding} → SameBindings R ns ms → SameWholeScope R last (record s { tags = ns }) (record t { tags = ms })
with_tags_same R last s t know h = record { tables = know.tables; names = know.names; tags = h; floors = know.floors; next = know.next }

-- a name is declared
pub declared_same : (R : Pairing) (last : ℕ) (s t : PlainScope) → SameWholeScope R last s t → (name : Text) {a b : Meaning} → SameMeaning R a b → SameWholeScope R last (declared s name a) (declared t name b)
declared_same R last s t know name (same_local h) = with_names_same R last s t know (bindings_more R know.names name (same_local h))
declared_same R last s t know name (same_object h) = with_names_same R last s t know (bindings_more R know.names name (same_object h))
declared_same R last s t know name (same_callable ts h) = with_names_same R last s t know (bindings_more R know.names name (same_callable ts h))
declared_same R last s t know name same_number = with_names_same R last s t know (bindings_more R know.names name same_number)
declared_same R last s t know name (same_named_type h) = with_names_same R last s t know (bindings_more R know.names name (same_named_type h))
declared_same R last s t know name (same_tagged_type h) = with_tags_same R last s t know (bindings_more R know.tags name (same_tagged_type h))
declared_same R last s t know name same_unknown_name = with_names_same R last s t know (bindings_more R know.names name same_unknown_name)
declared_same R last s t know name same_unknown_tag = with_tags_same R last s t know (bindings_more R know.tags name same_unknown_tag)

-- a tag that names nothing yet
pub hidden_same : (R : Pairing) (last : ℕ) (s t : PlainScope) → SameWholeScope R last s t → (name : Text) → SameWholeScope R last (hidden s name) (hidden t name)
hidden_same R last s t know name = with_tags_same R last s t know (bindings_more R know.tags name same_unknown_name)

-- a block is opened
pub entered_same : (R : Pairing) (last : ℕ) (s t : PlainScope) → SameWholeScope R last s t → SameWholeScope R last (entered s) (entered t)
entered_same R last s t know = record {
  tables = know.tables;
  names = know.names;
  tags = know.tags;
  floors = λ i. know.floors i ++ (bindings_length R know.names i, bindings_length R know.tags i) ∷ [];
  next = know.next;
}

-- a block is closed
pub left_same : (R : Pairing) (last : ℕ) (s t : PlainScope) → SameWholeScope R last s t → SameWholeScope R last (left s) (left t)
left_same R last s t know = record {
  tables = know.tables;
  names = subst (λ f. SameBindings R (take (last_floor s.floors).0 s.names) (take (last_floor f).0 t.names)) know.floors (bindings_taken R (last_floor s.floors).0 know.names);
  tags = subst (λ f. SameBindings R (take (last_floor s.floors).1 s.tags) (take (last_floor f).1 t.tags)) know.floors (bindings_taken R (last_floor s.floors).1 know.tags);
  floors = ap (λ (f : List (ℕ × ℕ)). take (length f - 1) f) know.floors;
  next = know.next;
}

-- ## Structures more

-- the next structures of both have paired numbers
pub next_now : (R : Pairing) (last : ℕ) (s t : PlainScope) → SameWholeScope R last s t → length s.structures < last → R.used (length s.structures) (length t.structures) ≡ true
next_now R last s t know low =
    let one : 0 + length s.structures ≡ length s.structures = omega arith in
    let other : 0 + length t.structures ≡ length t.structures = omega arith in
    subst (λ x. R.used x (length t.structures) ≡ true) one (subst (λ y. R.used (0 + length s.structures) y ≡ true) other (know.next 0 (omega (arith, low))))

next_after : (R : Pairing) (n m k j i : ℕ) → k ≡ suc n → j ≡ suc m → R.used (suc i + n) (suc i + m) ≡ true → R.used (i + k) (i + j) ≡ true
next_after R n m k j i e d h =
    let one : suc i + n ≡ i + k = omega (arith, e) in
    let other : suc i + m ≡ i + j = omega (arith, d) in
    subst (λ x. R.used x (i + j) ≡ true) one (subst (λ y. R.used (suc i + n) y ≡ true) other h)

pub structure_more_same : (R : Pairing) → IsOneToOne R → (last : ℕ) (s t : PlainScope) → SameWholeScope R last s t → length s.structures < last → (tag : Option Text)
    → SameWholeScope R last (record s { structures = with_structure s.structures tag }) (record t { structures = with_structure t.structures tag })
structure_more_same R one last s t know low tag = record {
  tables = tables_more R one s.structures t.structures know.tables (next_now R last s t know low) tag;
  names = know.names;
  tags = know.tags;
  floors = know.floors;
  next = λ i below. next_after R (length s.structures) (length t.structures) _ _ i (count_more s.structures tag) (count_more t.structures tag) (know.next (suc i) (omega (arith, below, count_more s.structures tag)));
}

pub with_tag_same : (R : Pairing) → IsOneToOne R → (last : ℕ) (s t : PlainScope) → SameWholeScope R last s t → length s.structures < last → (name : Text) → SameWholeScope R last (with_tag s name) (with_tag t name)
with_tag_same R one last s t know low name =
    declared_same R last (record s { structures = with_structure s.structures (Some name) }) (record t { structures = with_structure t.structures (Some name) }) (structure_more_same R one last s t know low (Some name)) name
    (same_tagged_type (same_structure (next_now R last s t know low)))

unknown_same : (R : Pairing) → IsOneToOne R → (last : ℕ) (s t : PlainScope) → SameWholeScope R last s t → (name : Text) {a b : Option Meaning} → SameNamed R a b → length (with_unknown a s name).structures ≤ last
    → SameWholeScope R last (with_unknown a s name) (with_unknown b t name)
unknown_same R one last s t know name same_nothing_named few = with_tag_same R one last s t know (omega (arith, count_more s.structures (Some name), few)) name
unknown_same R one last s t know name (same_one_named h) few = know

-- the tags of an expression
pub expression_tags_same : (R : Pairing) → IsOneToOne R → (last : ℕ) (s t : PlainScope) → SameWholeScope R last s t → (names : List Text) → length (with_tags s names).structures ≤ last
    → SameWholeScope R last (with_tags s names) (with_tags t names)
expression_tags_same R one last s t know [] few = know
expression_tags_same R one last s t know (name ∷ rest) few =
    let x : PlainScope = with_unknown (tagged s name) s name in
    let y : PlainScope = with_unknown (tagged t name) t name in
    expression_tags_same R one last x y (unknown_same R one last s t know name (tagged_same R last s t know name) (omega (arith, tags_more x rest, few))) rest few
