-- What there is to initialise of types that are the same, and the values for it.
use Rattle.std.proofs.Common.{◌≡◌, refl, ap, subst, ℕ, suc, ◌+◌, List, [], ◌∷◌, ◌++◌, map, length, slice_get, Option, Some, None, Ok}
use Rattle.std.specs.Prelude.{pos}
use Rattle.p10_base.specs.declared.at.At.{At}
use Rattle.p10_core.specs.Types.{PlainType, void, integer, pointer, structure, PlainMember, PlainStructure}
use Rattle.p10_core.specs.Sizes.{scalars_of}
use Rattle.p10_core.specs.Completing.{is_object_type}
use Rattle.p10_core.specs.Rows.{is_scalar, is_integer, int_type}
use Rattle.p10_core.specs.Typed.{PlainValue, value, constant, at_of, type_of, PlainPlace, PlainWritten, one_scalar, PlainItem, single, copied}
use Rattle.p10_elabx.specs.First.{ruled}
use Rattle.p10_elabx.specs.Operators.{fitted}
use Rattle.p10_elabd.specs.declared.lifetime.Lifetime.{Lifetime}
use Rattle.p10_elabd.specs.declared.lifetime.Lifetime.TheVariants as life_is
use Rattle.p10_elabd.specs.Expressions.{constant_number}
use Rattle.p10_elabd.specs.StaticValues.{address_part, address_stop, constant_address}
use Rattle.p10_elabd.specs.Initializers.{living, scalar_value, copied_place, copied_value, scalar_count, item_added, scalar_item, zero_item, expression_ruled, Slots, elements, members, no_slots, slots_of, has_slot, slot_type, after_slot, element_of, length_of, as_value, only_value, value_for}
use Rattle.p10_renaming.specs.Renaming.{Pairing, SameType, same_void, same_integer, same_pointer, same_array, same_structure, SameValue, same_value, same_constant, same_read, SameWritten, same_scalar, same_text, SameItems, same_no_items, same_more_items, SameInitializer, same_single, same_copied}
use Rattle.p10_expression_renaming.specs.Knowing.{Ruling, SameTypes, same_no_types, same_more_types, SameMembers, same_no_members, same_more_members, IsOneToOne}
use Rattle.p10_expression_renaming.proofs.Finding.{by_same, when_both, ruled_both}
use Rattle.p10_expression_renaming.proofs.Types.{is_integer_same}
use Rattle.p10_expression_renaming.proofs.Values.{type_same}
use Rattle.p10_expression_renaming.proofs.Operands.{converted_both}
use Rattle.p10_expression_renaming.proofs.Operators.{fitted_both}
use Rattle.p10_declaration_renaming.specs.Standings.{Both, SameTables}
use Rattle.p10_declaration_renaming.proofs.Lying.{lies_same}
use Rattle.p10_declaration_renaming.proofs.Tables.{structures_same, object_same}
use Rattle.p10_declaration_renaming.proofs.Expressions.{SameNumber, constant_number_both}

-- ## Values

address_both : (R : Pairing) (v w : PlainValue) → SameValue R v w → (o q a b : Option At) → Ruling (SameValue R) (constant_address v o a) (constant_address w q b)
address_both R v w k None None None None = k
address_both R v w k None None None (Some r) = tt
address_both R v w k None (Some r) None b = tt
address_both R v w k None q (Some r) b = tt
address_both R v w k (Some r) q a b = tt

living_both : (R : Pairing) (life : Lifetime) (v w : PlainValue) → SameValue R v w → Ruling (SameValue R) (living life v) (living life w)
living_both R life_is.Automatic v w k = k
living_both R life_is.Static v w k =
    by_same (Ruling (SameValue R)) (is_integer (type_of v)) (is_integer (type_of w)) (is_integer_same R (type_same R k)) (ruled (constant_number v) (λ z. Ok v)) (constant_address v (address_part v) (address_stop v))
    (ruled (constant_number w) (λ z. Ok w)) (constant_address w (address_part w) (address_stop w))
    (ruled_both SameNumber (SameValue R) (constant_number v) (constant_number w) (λ z. Ok v) (λ z. Ok w) (constant_number_both R v w k) (λ x y e. k))
    (address_both R v w k (address_part v) (address_part w) (address_stop v) (address_stop w))

scalar_value_both : (R : Pairing) → IsOneToOne R → (life : Lifetime) (t u : PlainType) → SameType R t u → (v w : PlainValue) → SameValue R v w → Ruling (SameValue R) (scalar_value life t v) (scalar_value life u w)
scalar_value_both R one life t u h v w k =
    ruled_both (SameValue R) (SameValue R) (fitted (at_of v) v t) (fitted (at_of w) w u) (living life) (living life) (fitted_both R one (at_of v) (at_of w) v w t u k h) (λ x y j. living_both R life x y j)

copied_place_both : (R : Pairing) (life : Lifetime) (at to : At) (q r : PlainPlace) → SameInitializer R (copied q) (copied r) → Ruling (SameInitializer R) (copied_place life at q) (copied_place life to r)
copied_place_both R life_is.Automatic at to q r k = k
copied_place_both R life_is.Static at to q r k = tt

copied_both : (R : Pairing) (life : Lifetime) (t u : PlainType) (v w : PlainValue) → SameValue R v w → Ruling (SameInitializer R) (copied_value life t v) (copied_value life u w)
copied_both R life t u v w (same_value {at = at} {to = to} k (same_read {q = q} {r = r} f)) = when_both (SameInitializer R) _ _ (copied_place life at q) (copied_place life to r) _ _ (copied_place_both R life at to q r (same_copied f))
copied_both R life t u v w (same_value k f) = tt

single_both : (R : Pairing) → IsOneToOne R → (life : Lifetime) (t u : PlainType) → SameType R t u → (v w : PlainValue) → SameValue R v w
    → Ruling (SameInitializer R) (ruled (scalar_value life t v) (λ x. Ok (single x))) (ruled (scalar_value life u w) (λ x. Ok (single x)))
single_both R one life t u h v w k =
    ruled_both (SameValue R) (SameInitializer R) (scalar_value life t v) (scalar_value life u w) (λ x. Ok (single x)) (λ x. Ok (single x)) (scalar_value_both R one life t u h v w k) (λ x y j. same_single j)

-- a value for an object
pub value_for_both : (R : Pairing) → IsOneToOne R → (life : Lifetime) {t u : PlainType} → SameType R t u → (v w : PlainValue) → SameValue R v w → Ruling (SameInitializer R) (value_for life t v) (value_for life u w)
value_for_both R one life (same_structure {c = c} {n = n} {m = m} paired) v w k = copied_both R life (structure c n) (structure c m) v w k
value_for_both R one life (same_array h) v w k = tt
value_for_both R one life (same_void {c = c}) v w k = single_both R one life (void c) (void c) same_void v w k
value_for_both R one life (same_integer {c = c} {kind = i}) v w k = single_both R one life (integer c i) (integer c i) same_integer v w k
value_for_both R one life (same_pointer {c = c} {t = t} {u = u} h) v w k = single_both R one life (pointer c t) (pointer c u) (same_pointer h) v w k

-- ## Items

-- items for the same scalar
abbrev pub SameItem : Pairing → PlainItem → PlainItem → Type 0
SameItem R i j = SameItems R (i ∷ []) (j ∷ [])

items_joined : (R : Pairing) {xs ys us vs : List PlainItem} → SameItems R xs ys → SameItems R us vs → SameItems R (xs ++ us) (ys ++ vs)
items_joined R same_no_items k = k
items_joined R (same_more_items h rest) k = same_more_items h (items_joined R rest k)

pub item_added_both : (R : Pairing) (o p : Option (List PlainItem)) → Both (SameItems R) o p → (a b : Option PlainItem) → Both (SameItem R) a b → Both (SameItems R) (item_added o a) (item_added p b)
item_added_both R None None i None None k = tt
item_added_both R None None i (Some x) (Some y) k = tt
item_added_both R None None i None (Some y) k = absurd k
item_added_both R None None i (Some x) None k = absurd k
item_added_both R (Some xs) (Some ys) i None None k = tt
item_added_both R (Some xs) (Some ys) i (Some x) (Some y) k = items_joined R i k
item_added_both R (Some xs) (Some ys) i None (Some y) k = absurd k
item_added_both R (Some xs) (Some ys) i (Some x) None k = absurd k
item_added_both R None (Some ys) i a b k = absurd i
item_added_both R (Some xs) None i a b k = absurd i

-- one item for a scalar with a number
pub at_scalar : (R : Pairing) (n m : ℕ) → n ≡ m → {a b : PlainWritten} → SameWritten R a b → SameItem R (record { scalar = n; written = a }) (record { scalar = m; written = b })
at_scalar R n m e {a = a} {b = b} h = subst (λ k. SameItem R (record { scalar = n; written = a }) (record { scalar = k; written = b })) e (same_more_items h same_no_items)

scalar_item_both : (R : Pairing) → IsOneToOne R → (life : Lifetime) (t u : PlainType) → SameType R t u → (n m : ℕ) → n ≡ m → (v w : PlainValue) → SameValue R v w → Ruling (SameItem R) (scalar_item life t n v) (scalar_item life u m w)
scalar_item_both R one life t u h n m e v w k =
    ruled_both (SameValue R) (SameItem R) (scalar_value life t v) (scalar_value life u w) (λ x. Ok (record { scalar = n; written = one_scalar x })) (λ x. Ok (record { scalar = m; written = one_scalar x })) (scalar_value_both R one life t u h v w k)
    (λ x y j. at_scalar R n m e (same_scalar j))

-- a value as an item
pub expression_ruled_both : (R : Pairing) → IsOneToOne R → (life : Lifetime) (t u : PlainType) → SameType R t u → (n m : ℕ) → n ≡ m → (v w : PlainValue) → SameValue R v w → Ruling (SameItem R) (expression_ruled life t n v) (expression_ruled life u m w)
expression_ruled_both R one life t u h n m e v w k = when_both (SameItem R) (is_scalar t) (is_scalar u) (scalar_item life t n v) (scalar_item life u m w) _ _ (scalar_item_both R one life t u h n m e v w k)

first_both : (R : Pairing) {ts us : List PlainType} → SameTypes R ts us → Both (SameType R) (slice_get ts 0) (slice_get us 0)
first_both R same_no_types = tt
first_both R (same_more_types h rest) = h

zero_by : (R : Pairing) → IsOneToOne R → (at to : At) (n m : ℕ) → n ≡ m → (o p : Option PlainType) → Both (SameType R) o p → Both (SameItem R) (zero_item at n o) (zero_item to m p)
zero_by R one at to n m e None None k = tt
zero_by R one at to n m e None (Some u) k = absurd k
zero_by R one at to n m e (Some t) None k = absurd k
zero_by R one at to n m e (Some t) (Some u) k = at_scalar R n m e (same_scalar (converted_both R one (value at int_type (constant (pos 0))) (value to int_type (constant (pos 0))) t u (same_value same_integer same_constant) k))

-- zero for the first scalar
pub zero_both : (R : Pairing) → IsOneToOne R → (these others : List PlainStructure) → SameTables R these others → (at to : At) (n m : ℕ) → n ≡ m → (t u : PlainType) → SameType R t u
    → Both (SameItem R) (zero_item at n (slice_get (scalars_of these t) 0)) (zero_item to m (slice_get (scalars_of others u) 0))
zero_both R one these others know at to n m e t u h = zero_by R one at to n m e (slice_get (scalars_of these t) 0) (slice_get (scalars_of others u) 0) (first_both R (lies_same R these others know h).scalars)

-- ## Slots

pub data SameSlots (R : Pairing) : Slots → Slots → Type 0 where
  same_elements : {t u : PlainType} {n : ℕ} → SameType R t u → SameSlots R (elements t n) (elements u n)
  same_members_left : {ts us : List PlainType} → SameTypes R ts us → SameSlots R (members ts) (members us)
  same_no_slots : SameSlots R no_slots no_slots

member_types : (R : Pairing) {ms ks : List PlainMember} → SameMembers R ms ks → SameTypes R (map (λ m. m.type) ms) (map (λ m. m.type) ks)
member_types R same_no_members = same_no_types
member_types R (same_more_members h rest) = same_more_types h (member_types R rest)

pub slots_same : (R : Pairing) (these others : List PlainStructure) → SameTables R these others → {t u : PlainType} → SameType R t u → SameSlots R (slots_of these t) (slots_of others u)
slots_same R these others know same_void = same_no_slots
slots_same R these others know same_integer = same_no_slots
slots_same R these others know (same_pointer h) = same_no_slots
slots_same R these others know (same_array h) = same_elements h
slots_same R these others know (same_structure {n = n} {m = m} paired) = same_members_left (member_types R ((structures_same R these others know).members n m paired))

pub has_slot_same : (R : Pairing) {x y : Slots} → SameSlots R x y → has_slot x ≡ has_slot y
has_slot_same R (same_elements h) = refl
has_slot_same R (same_members_left same_no_types) = refl
has_slot_same R (same_members_left (same_more_types h rest)) = refl
has_slot_same R same_no_slots = refl

pub slot_type_same : (R : Pairing) {x y : Slots} → SameSlots R x y → SameType R (slot_type x) (slot_type y)
slot_type_same R (same_elements h) = h
slot_type_same R (same_members_left same_no_types) = same_void
slot_type_same R (same_members_left (same_more_types h rest)) = h
slot_type_same R same_no_slots = same_void

pub after_slot_same : (R : Pairing) {x y : Slots} → SameSlots R x y → SameSlots R (after_slot x) (after_slot y)
after_slot_same R (same_elements h) = same_elements h
after_slot_same R (same_members_left same_no_types) = same_members_left same_no_types
after_slot_same R (same_members_left (same_more_types h rest)) = same_members_left rest
after_slot_same R same_no_slots = same_no_slots

pub element_same : (R : Pairing) {t u : PlainType} → SameType R t u → SameType R (element_of t) (element_of u)
element_same R same_void = same_void
element_same R same_integer = same_void
element_same R (same_pointer h) = same_void
element_same R (same_array h) = h
element_same R (same_structure paired) = same_void

pub length_same : (R : Pairing) {t u : PlainType} → SameType R t u → length_of t ≡ length_of u
length_same R same_void = refl
length_same R same_integer = refl
length_same R (same_pointer h) = refl
length_same R (same_array h) = refl
length_same R (same_structure paired) = refl

types_length : (R : Pairing) {ts us : List PlainType} → SameTypes R ts us → length ts ≡ length us
types_length R same_no_types = refl
types_length R (same_more_types h rest) = ap suc (types_length R rest)

-- how many scalars a type has
pub scalar_count_same : (R : Pairing) (these others : List PlainStructure) → SameTables R these others → {t u : PlainType} → SameType R t u → scalar_count these t ≡ scalar_count others u
scalar_count_same R these others know {t = t} {u = u} h =
    by_same (λ (a b : ℕ). a ≡ b) (is_object_type these t) (is_object_type others u) (object_same R these others know h) (length (scalars_of these t)) 0 (length (scalars_of others u)) 0 (types_length R (lies_same R these others know h).scalars) refl

-- ## Whole initialisers

written_both : (R : Pairing) {a b : PlainWritten} → SameWritten R a b → Both (SameInitializer R) (as_value a) (as_value b)
written_both R (same_scalar h) = same_single h
written_both R same_text = tt

only_by : (R : Pairing) {xs ys : List PlainItem} → SameItems R xs ys → Both (SameInitializer R) (only_value (Some xs)) (only_value (Some ys))
only_by R same_no_items = tt
only_by R (same_more_items h same_no_items) = written_both R h
only_by R (same_more_items h (same_more_items k rest)) = tt

-- the only item as a value
pub only_both : (R : Pairing) (o p : Option (List PlainItem)) → Both (SameItems R) o p → Both (SameInitializer R) (only_value o) (only_value p)
only_both R None None k = tt
only_both R (Some xs) (Some ys) k = only_by R k
only_both R None (Some ys) k = absurd k
only_both R (Some xs) None k = absurd k
