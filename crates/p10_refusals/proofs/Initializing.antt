-- Initialisers where what stands is alike.
use Rattle.std.proofs.Common.{ℕ, ◌+◌, nat_le, true, if◌then◌else◌, is_some, Ok, List, [], length, slice_get, Option, Some, None, option_map, ap, subst}
use Rattle.p10_base.specs.Words.{Text}
use Rattle.p10_base.specs.declared.at.At.{At}
use Rattle.p10_base.specs.declared.codes.SubsetCode.TheVariants as subset
use Rattle.p10_syn.specs.Trees.{Expression, Initializer, Value, Braced, Initializers, NoInitializers, MoreInitializers}
use Rattle.p10_core.specs.Types.{PlainType}
use Rattle.p10_core.specs.Sizes.{scalars_of}
use Rattle.p10_core.specs.Rows.{is_scalar}
use Rattle.p10_core.specs.Typed.{at_of, scalars_of_text, PlainItem, PlainInitializer, listed}
use Rattle.p10_core.specs.WholePrograms.{is_character}
use Rattle.p10_elabx.specs.First.{every, only_first}
use Rattle.p10_elabx.specs.Scopes.{PlainScope}
use Rattle.p10_elabd.specs.declared.lifetime.Lifetime.{Lifetime}
use Rattle.p10_elabd.specs.Standing.{PlainStanding, Passed}
use Rattle.p10_elabd.specs.Initializers.{string_alone, string_for, is_zero_list, scalar_count, item_added, with_item, zero_item, expression_ruled, expression_item, text_item, place_if_made, unplaced, unplaced_items, differing_at, surplus_item, no_surplus, braced_first, braced_scalar, Slots, slots_of, has_slot, slot_type, after_slot, element_of, length_of, by_string, braced_string, list_passed, item_passed, items_passed, only_value, as_listed, value_for, unbraced, initialized}
use Rattle.p10_refusals.proofs.Alike.{Alike, AlikePassed, followed, alike_passed, alike_nothing, alike_map, alike_refusing, alike_where}
use Rattle.p10_refusals.proofs.Values.{alike_value}

-- ## Items

alike_with_item : {p x : Passed (List PlainItem)} {q y : Passed PlainItem} → AlikePassed (List PlainItem) p x → AlikePassed PlainItem q y → AlikePassed (List PlainItem) (with_item p q) (with_item x y)
alike_with_item a b = record { made = λ i. item_added (a.made i) (b.made i); after = b.after }

alike_expression_item : {s t : PlainStanding} (life : Lifetime) (u : PlainType) (scalar : ℕ) (e : Expression At) → Alike s t →
    AlikePassed PlainItem (expression_item every life u scalar s e) (expression_item only_first life u scalar t e)
alike_expression_item life u scalar e a = alike_value (expression_ruled life u scalar) e a

alike_text_item : {s t : PlainStanding} (n scalar : ℕ) (text : At × Text) → Alike s t → AlikePassed PlainItem (text_item every n scalar s text) (text_item only_first n scalar t text)
alike_text_item n scalar (at, bytes) a =
    alike_where (nat_le (length bytes) n) (alike_passed (record { scalar = scalar; written = scalars_of_text bytes }) a) (alike_nothing (alike_refusing true subset.TypesDiffer at a))

alike_unless : {p x q y : Passed At} → AlikePassed At p x → AlikePassed At q y → AlikePassed At (place_if_made p q) (place_if_made x y)
alike_unless a b = record { made = λ i. if is_some (b.made i) then a.made i else None; after = b.after }

mutual
  alike_unplaced : {s t : PlainStanding} (i : Initializer At) → Alike s t → AlikePassed At (unplaced every s i) (unplaced only_first t i)
  alike_unplaced (Value e) a = alike_value (λ v. Ok (at_of v)) e a
  alike_unplaced (Braced at items comma) a = alike_unplaced_items items (alike_passed at a)

  alike_unplaced_items : {p q : Passed At} (items : Initializers At) → AlikePassed At p q → AlikePassed At (unplaced_items every p items) (unplaced_items only_first q items)
  alike_unplaced_items NoInitializers a = a
  alike_unplaced_items {p = p} {q = q} (MoreInitializers i rest) a =
      alike_unplaced_items {p = place_if_made p (unplaced every p.after i)} {q = place_if_made q (unplaced only_first q.after i)} rest (alike_unless a (alike_unplaced i a.after))

alike_differing : {s t : PlainStanding} (o : Option At) → Alike s t → AlikePassed PlainItem (differing_at every o s) (differing_at only_first o t)
alike_differing None a = alike_nothing a
alike_differing (Some at) a = alike_nothing (alike_refusing true subset.TypesDiffer at a)

pub alike_surplus : {s t : PlainStanding} (i : Initializer At) → Alike s t → AlikePassed PlainItem (surplus_item every s i) (surplus_item only_first t i)
alike_surplus i a =
    let p = alike_unplaced i a in
    followed (AlikePassed PlainItem) (differing_at every) (differing_at only_first) p (λ o. alike_differing o p.after)

alike_no_surplus : {p q : Passed (List PlainItem)} (items : Initializers At) → AlikePassed (List PlainItem) p q → AlikePassed (List PlainItem) (no_surplus every p items) (no_surplus only_first q items)
alike_no_surplus NoInitializers a = a
alike_no_surplus (MoreInitializers i rest) a = alike_with_item a (alike_surplus i a.after)

alike_braced_first : {p q : Passed (List PlainItem)} (life : Lifetime) (u : PlainType) (scalar : ℕ) (i : Initializer At) → AlikePassed (List PlainItem) p q →
    AlikePassed (List PlainItem) (braced_first every life u scalar p i) (braced_first only_first life u scalar q i)
alike_braced_first life u scalar (Value e) a = alike_with_item a (alike_expression_item life u scalar e a.after)
alike_braced_first life u scalar (Braced at items comma) a = alike_with_item a (alike_surplus (Braced at items comma) a.after)

alike_braced_scalar : {p q : Passed (List PlainItem)} (life : Lifetime) (u : PlainType) (scalar : ℕ) (items : Initializers At) → AlikePassed (List PlainItem) p q →
    AlikePassed (List PlainItem) (braced_scalar every life u scalar p items) (braced_scalar only_first life u scalar q items)
alike_braced_scalar life u scalar NoInitializers a = a
alike_braced_scalar life u scalar (MoreInitializers one rest) a = alike_no_surplus rest (alike_braced_first life u scalar one a)

alike_by_string : {s t : PlainStanding} (life : Lifetime) (u : PlainType) (scalar : ℕ) (e : Expression At) (text : Option (At × Text)) → Alike s t →
    AlikePassed PlainItem (by_string every life u scalar s e text) (by_string only_first life u scalar t e text)
alike_by_string life u scalar e None a = alike_expression_item life u scalar e a
alike_by_string life u scalar e (Some text) a = alike_text_item (length_of u) scalar text a

alike_braced_string : {p q others more : Passed (List PlainItem)} (u : PlainType) (scalar : ℕ) (text : Option (At × Text)) → AlikePassed (List PlainItem) p q → AlikePassed (List PlainItem) others more →
    AlikePassed (List PlainItem) (braced_string every u scalar p text others) (braced_string only_first u scalar q text more)
alike_braced_string u scalar None a b = b
alike_braced_string u scalar (Some text) a b = alike_with_item a (alike_text_item (length_of u) scalar text a.after)

alike_zero : {p q : Passed (List PlainItem)} (u : PlainType) (scalar : ℕ) (at : At) → AlikePassed (List PlainItem) p q →
    AlikePassed PlainItem (record { made = zero_item at scalar (slice_get (scalars_of p.after.scope.structures u) 0); after = p.after }) (record { made = zero_item at scalar (slice_get (scalars_of q.after.scope.structures u) 0); after = q.after })
alike_zero u scalar at a = record { made = ap (λ (x : PlainScope). zero_item at scalar (slice_get (scalars_of x.structures u) 0)) a.after.scope; after = a.after }

alike_list : {p q others more : Passed (List PlainItem)} (life : Lifetime) (u : PlainType) (scalar : ℕ) (at : At) (items : Initializers At) → AlikePassed (List PlainItem) p q → AlikePassed (List PlainItem) others more →
    AlikePassed (List PlainItem) (list_passed every life u scalar p at items others) (list_passed only_first life u scalar q at items more)
alike_list life u scalar at items a b =
    alike_where (is_scalar u) (alike_braced_scalar life u scalar items a)
    (alike_where (is_zero_list items) (alike_with_item a (alike_zero u scalar at a)) (alike_braced_string u scalar (string_alone (is_character (element_of u)) items) a b))

mutual
  alike_item : {p q : Passed (List PlainItem)} (life : Lifetime) (u : PlainType) (scalar : ℕ) (i : Initializer At) → AlikePassed (List PlainItem) p q →
      AlikePassed (List PlainItem) (item_passed every life u scalar p i) (item_passed only_first life u scalar q i)
  alike_item life u scalar (Value e) a = alike_with_item a (alike_by_string life u scalar e (string_for (element_of u) (Value e)) a.after)
  alike_item {p = p} {q = q} life u scalar (Braced at items comma) a =
      alike_list life u scalar at items a
      (subst (λ (x : PlainScope). AlikePassed (List PlainItem) (items_passed every life (slots_of p.after.scope.structures u) scalar p items) (items_passed only_first life (slots_of x.structures u) scalar q items)) a.after.scope
      (alike_items life (slots_of p.after.scope.structures u) scalar items a))

  alike_items : {p q : Passed (List PlainItem)} (life : Lifetime) (slots : Slots) (scalar : ℕ) (items : Initializers At) → AlikePassed (List PlainItem) p q →
      AlikePassed (List PlainItem) (items_passed every life slots scalar p items) (items_passed only_first life slots scalar q items)
  alike_items life slots scalar NoInitializers a = a
  alike_items {p = p} {q = q} life slots scalar (MoreInitializers one rest) a =
      alike_where (has_slot slots)
      (subst (λ (x : PlainScope). AlikePassed (List PlainItem)
      (items_passed every life (after_slot slots) (scalar + scalar_count p.after.scope.structures (slot_type slots)) (item_passed every life (slot_type slots) scalar p one) rest)
      (items_passed only_first life (after_slot slots) (scalar + scalar_count x.structures (slot_type slots)) (item_passed only_first life (slot_type slots) scalar q one) rest)) a.after.scope
      (alike_items {p = item_passed every life (slot_type slots) scalar p one} {q = item_passed only_first life (slot_type slots) scalar q one} life (after_slot slots) (scalar + scalar_count p.after.scope.structures (slot_type slots)) rest
      (alike_item {p = p} {q = q} life (slot_type slots) scalar one a)))
      (alike_no_surplus (MoreInitializers one rest) a)

-- ## Whole initialisers

alike_listed : {p q : Passed (List PlainItem)} (at : At) → AlikePassed (List PlainItem) p q → AlikePassed PlainInitializer (as_listed at p) (as_listed at q)
alike_listed at a = alike_map (option_map (listed at)) a

alike_unbraced : {s t : PlainStanding} (life : Lifetime) (u : PlainType) (e : Expression At) (text : Option (At × Text)) → Alike s t →
    AlikePassed PlainInitializer (unbraced every life u s e text) (unbraced only_first life u t e text)
alike_unbraced life u e None a = alike_value (value_for life u) e a
alike_unbraced life u e (Some (at, bytes)) a = alike_listed at (alike_with_item (alike_passed [] a) (alike_text_item (length_of u) 0 (at, bytes) a))

pub alike_initialized : {s t : PlainStanding} (life : Lifetime) (u : PlainType) (i : Initializer At) → Alike s t →
    AlikePassed PlainInitializer (initialized every life u s i) (initialized only_first life u t i)
alike_initialized life u (Value e) a = alike_unbraced life u e (string_for (element_of u) (Value e)) a
alike_initialized life u (Braced at items comma) a =
    let p = alike_item life u 0 (Braced at items comma) (alike_passed [] a) in
    alike_where (is_scalar u) (alike_map only_value p) (alike_listed at p)
