-- Initialisers that stand at two places are the same in both programs.
use Rattle.std.proofs.Common.{◌≡◌, refl, subst, ℕ, ◌+◌, nat_le, Bool, true, false, List, [], length, slice_get, Option, Some, None, is_some, Ok}
use Rattle.std.specs.Prelude.{if◌then◌else◌}
use Rattle.std.proofs.lemmas.Bool.{true≢false, false≢true}
use Rattle.p10_base.specs.Words.{Text}
use Rattle.p10_base.specs.declared.at.At.{At}
use Rattle.p10_base.specs.declared.codes.SubsetCode.TheVariants as subset
use Rattle.p10_syn.specs.Trees.{Expression, Initializer, Value, Braced, Initializers, NoInitializers, MoreInitializers}
use Rattle.p10_core.specs.Types.{PlainType}
use Rattle.p10_core.specs.Sizes.{scalars_of}
use Rattle.p10_core.specs.Rows.{is_scalar}
use Rattle.p10_core.specs.Typed.{at_of, scalars_of_text, PlainItem, listed}
use Rattle.p10_core.specs.WholePrograms.{is_character}
use Rattle.p10_elabx.specs.First.{Keep}
use Rattle.p10_elabd.specs.declared.lifetime.Lifetime.{Lifetime}
use Rattle.p10_elabd.specs.Standing.{PlainStanding, Passed, passed}
use Rattle.p10_elabd.specs.Initializers.{string_alone, string_for, is_zero_list, scalar_count, with_item, zero_item, expression_ruled, expression_item, text_item, place_if_made, unplaced, unplaced_items, differing_at, surplus_item, no_surplus, braced_first, braced_scalar, Slots, slots_of, has_slot, slot_type, after_slot, element_of, length_of, by_string, braced_string, list_passed, item_passed, items_passed, as_single, as_listed, value_for, unbraced, initialized}
use Rattle.p10_renaming.specs.Renaming.{Pairing, SameType, same_text, SameItems, same_no_items, SameInitializer, same_listed}
use Rattle.p10_expression_renaming.specs.Mapped.{mapped_expression}
use Rattle.p10_expression_renaming.specs.MappedStatements.{mapped_initializer, mapped_initializers}
use Rattle.p10_expression_renaming.specs.Knowing.{IsOneToOne}
use Rattle.p10_expression_renaming.proofs.Finding.{by_same}
use Rattle.p10_expression_renaming.proofs.Types.{is_scalar_same}
use Rattle.p10_expression_renaming.proofs.TypeNames.{left, right}
use Rattle.p10_declaration_renaming.specs.Standings.{Both, SameStanding, Leads}
use Rattle.p10_declaration_renaming.specs.Laws.{InitializersRenamed}
use Rattle.p10_declaration_renaming.proofs.Boths.{both_map, both_are}
use Rattle.p10_declaration_renaming.proofs.Growing.{Grows, as_before, grows_on, grown}
use Rattle.p10_declaration_steps.specs.Steps.{Steps}
use Rattle.p10_declaration_steps.proofs.Initializing.{over_text, over_differing, over_surplus, over_braced_scalar, over_by_string, over_braced_string, over_unbraced, over_item, over_items}
use Rattle.p10_declaration_renaming.proofs.Alike.{Alike, Ends, alike_map, forget, alike_ends, ends_nothing, ends_passed, ends_left, ends_unless, quiet_before, leads_by}
use Rattle.p10_declaration_renaming.proofs.Expressions.{alike_value}
use Rattle.p10_declaration_renaming.proofs.Texts.{SameText, character_same, string_alone_same, string_for_same, zero_list_same}
use Rattle.p10_declaration_renaming.proofs.Slots.{SameItem, item_added_both, at_scalar, expression_ruled_both, value_for_both, zero_both, SameSlots, slots_same, has_slot_same, slot_type_same, after_slot_same, element_same, scalar_count_same, only_both}

-- the same is made, and the same stands
abbrev pub AlikePassed : {A : Type 0} → Type 0 → Pairing → ℕ → (A → A → Type 0) → Passed A → Passed A → Type 0
AlikePassed B R last P p q = Alike (B × Both P p.made q.made) R last p.after q.after

-- ## Steps

-- something that follows from what stands
learn : {B C : Type 0} (R : Pairing) (last : ℕ) (s t : PlainStanding) → (B → SameStanding R last s t → C) → Alike B R last s t → Alike (B × C) R last s t
learn R last s t f a q = let x = a q in ((x.0, f x.0 x.1), x.1)

added : {n m k l : ℕ} → n ≡ m → k ≡ l → n + k ≡ m + l
added e d = λ i. e i + d i

-- by tests that are one where nothing is noted
passed_where : {A B C : Type 0} (R : Pairing) (last : ℕ) (P : A → A → Type 0) (b c : Bool) (p q x y : Passed A) (s t : PlainStanding) → Grows s p.after → Grows s q.after → Grows t x.after → Grows t y.after → (B → b ≡ c) → Alike B R last s t
    → AlikePassed C R last P p x → AlikePassed C R last P q y → AlikePassed C R last P (if b then p else q) (if c then x else y)
passed_where R last P true true p q x y s t gp gq gx gy e a f g = f
passed_where R last P false false p q x y s t gp gq gx gy e a f g = g
passed_where R last P true false p q x y s t gp gq gx gy e a f g = λ quiet. absurd (true≢false (e (a (quiet_before last s t p.after y.after gp gy quiet)).0))
passed_where R last P false true p q x y s t gp gq gx gy e a f g = λ quiet. absurd (false≢true (e (a (quiet_before last s t q.after x.after gq gx quiet)).0))

alike_with_item : {B : Type 0} (R : Pairing) (last : ℕ) (p q : Passed (List PlainItem)) (x y : Passed PlainItem) → Alike ((B × Both (SameItems R) p.made q.made) × Both (SameItem R) x.made y.made) R last x.after y.after
    → AlikePassed B R last (SameItems R) (with_item p x) (with_item q y)
alike_with_item R last p q x y a = alike_map (λ z. (z.0.0, item_added_both R p.made q.made z.0.1 x.made y.made z.1)) a

-- ## Strings

text_ends : (R : Pairing) (last : ℕ) (h : Keep) (k l n m : ℕ) → n ≡ m → (s t : PlainStanding) → SameStanding R last s t → (x y : At × Text) → x.1 ≡ y.1 → Ends R last (SameItem R) (text_item h k n s x) (text_item h l m t y)
text_ends R last h k l n m e s t know (at, bytes) (to, others) d =
    ends_unless R last (SameItem R) h subset.TypesDiffer subset.TypesDiffer at to (nat_le (length bytes) k) (nat_le (length others) l) (passed (record { scalar = n; written = scalars_of_text bytes }) s)
    (passed (record { scalar = m; written = scalars_of_text others }) t) s t
    (λ i j. ends_passed R last (SameItem R) (record { scalar = n; written = scalars_of_text bytes }) (record { scalar = m; written = scalars_of_text others }) s t
    (subst (λ b. SameItem R (record { scalar = n; written = scalars_of_text bytes }) (record { scalar = m; written = scalars_of_text b })) d (at_scalar R n m e same_text)) know)

alike_text : {B : Type 0} (R : Pairing) (last : ℕ) (h : Keep) (k l n m : ℕ) (s t : PlainStanding) (x y : At × Text) → (B → n ≡ m) → (B → x.1 ≡ y.1) → Alike B R last s t → AlikePassed B R last (SameItem R) (text_item h k n s x) (text_item h l m t y)
alike_text R last h k l n m s t x y e d a =
    alike_ends R last (SameItem R) s t (text_item h k n s x) (text_item h l m t y) (grown (over_text h k n s x)) (grown (over_text h l m t y)) (λ b know. text_ends R last h k l n m (e b) s t know x y (d b)) a

-- ## What is left over

-- places aren't compared
abbrev AnyPlace : At → At → Type 0
AnyPlace at to = Unit {0}

placed_both : (m n : Option At) → Both AnyPlace m n → (k l : Option At) → Both AnyPlace k l → Both AnyPlace (if is_some k then m else None) (if is_some l then n else None)
placed_both m n i k l j = by_same (Both AnyPlace) (is_some k) (is_some l) (both_are AnyPlace k l j) m None n None i tt

mutual
  alike_unplaced : {B : Type 0} (R : Pairing) → IsOneToOne R → (last : ℕ) (h : Keep) (i : Initializer (At × At)) (s t : PlainStanding) → Alike B R last s t
      → AlikePassed B R last AnyPlace (unplaced h s (mapped_initializer left i)) (unplaced h t (mapped_initializer right i))
  alike_unplaced R one last h (Value e) s t a = alike_value R one last h AnyPlace e (λ v. Ok (at_of v)) (λ v. Ok (at_of v)) s t (λ b v w k. tt) a
  alike_unplaced R one last h (Braced at items comma) s t a = alike_unplaced_items R one last h items (passed at.0 s) (passed at.1 t) (alike_map (λ b. (b, tt)) a)

  alike_unplaced_items : {B : Type 0} (R : Pairing) → IsOneToOne R → (last : ℕ) (h : Keep) (items : Initializers (At × At)) (p q : Passed At) → AlikePassed B R last AnyPlace p q
      → AlikePassed B R last AnyPlace (unplaced_items h p (mapped_initializers left items)) (unplaced_items h q (mapped_initializers right items))
  alike_unplaced_items R one last h NoInitializers p q a = a
  alike_unplaced_items R one last h (MoreInitializers i rest) p q a =
      let x : Passed At = unplaced h p.after (mapped_initializer left i) in
      let y : Passed At = unplaced h q.after (mapped_initializer right i) in
      alike_unplaced_items R one last h rest (place_if_made p x) (place_if_made q y) (alike_map (λ z. (z.0.0, placed_both p.made q.made z.0.1 x.made y.made z.1)) (alike_unplaced R one last h i p.after q.after a))

differing_ends : (R : Pairing) (last : ℕ) (h : Keep) (o q : Option At) → Both AnyPlace o q → (s t : PlainStanding) → SameStanding R last s t → Ends R last (SameItem R) (differing_at h o s) (differing_at h q t)
differing_ends R last h None None k s t know = ends_nothing R last (SameItem R) s t know
differing_ends R last h (Some at) q k s t know = ends_left R last (SameItem R) h subset.TypesDiffer at s (differing_at h q t)
differing_ends R last h None (Some to) k s t know = absurd k

pub alike_surplus : {B : Type 0} (R : Pairing) → IsOneToOne R → (last : ℕ) (h : Keep) (i : Initializer (At × At)) (s t : PlainStanding) → Alike B R last s t
    → AlikePassed B R last (SameItem R) (surplus_item h s (mapped_initializer left i)) (surplus_item h t (mapped_initializer right i))
alike_surplus R one last h i s t a =
    let x : Passed At = unplaced h s (mapped_initializer left i) in
    let y : Passed At = unplaced h t (mapped_initializer right i) in
    forget (alike_ends R last (SameItem R) x.after y.after (differing_at h x.made x.after) (differing_at h y.made y.after) (grown (over_differing h x.made x.after)) (grown (over_differing h y.made y.after))
    (λ b know. differing_ends R last h x.made y.made b.1 x.after y.after know) (alike_unplaced R one last h i s t a))

alike_no_surplus : {B : Type 0} (R : Pairing) → IsOneToOne R → (last : ℕ) (h : Keep) (items : Initializers (At × At)) (p q : Passed (List PlainItem)) → AlikePassed B R last (SameItems R) p q
    → AlikePassed B R last (SameItems R) (no_surplus h p (mapped_initializers left items)) (no_surplus h q (mapped_initializers right items))
alike_no_surplus R one last h NoInitializers p q a = a
alike_no_surplus R one last h (MoreInitializers i rest) p q a =
    alike_with_item R last p q (surplus_item h p.after (mapped_initializer left i)) (surplus_item h q.after (mapped_initializer right i)) (alike_surplus R one last h i p.after q.after a)

-- ## Braces of scalars

alike_expression_item : {B : Type 0} (R : Pairing) → IsOneToOne R → (last : ℕ) (h : Keep) (life : Lifetime) (t u : PlainType) (n m : ℕ) (e : Expression (At × At)) (v w : PlainStanding) → (B → SameType R t u) → (B → n ≡ m) → Alike B R last v w
    → AlikePassed B R last (SameItem R) (expression_item h life t n v (mapped_expression left e)) (expression_item h life u m w (mapped_expression right e))
alike_expression_item R one last h life t u n m e v w k d a =
    alike_value R one last h (SameItem R) e (expression_ruled life t n) (expression_ruled life u m) v w (λ b x y j. expression_ruled_both R one life t u (k b) n m (d b) x y j) a

alike_braced_first : {B : Type 0} (R : Pairing) → IsOneToOne R → (last : ℕ) (h : Keep) (life : Lifetime) (t u : PlainType) (n m : ℕ) (p q : Passed (List PlainItem)) (i : Initializer (At × At)) → (B → SameType R t u) → (B → n ≡ m)
    → AlikePassed B R last (SameItems R) p q → AlikePassed B R last (SameItems R) (braced_first h life t n p (mapped_initializer left i)) (braced_first h life u m q (mapped_initializer right i))
alike_braced_first R one last h life t u n m p q (Value e) k d a =
    alike_with_item R last p q (expression_item h life t n p.after (mapped_expression left e)) (expression_item h life u m q.after (mapped_expression right e))
    (alike_expression_item R one last h life t u n m e p.after q.after (λ b. k b.0) (λ b. d b.0) a)
alike_braced_first R one last h life t u n m p q (Braced at items comma) k d a =
    let i : Initializer (At × At) = Braced at items comma in
    alike_with_item R last p q (surplus_item h p.after (mapped_initializer left i)) (surplus_item h q.after (mapped_initializer right i)) (alike_surplus R one last h i p.after q.after a)

alike_braced_scalar : {B : Type 0} (R : Pairing) → IsOneToOne R → (last : ℕ) (h : Keep) (life : Lifetime) (t u : PlainType) (n m : ℕ) (p q : Passed (List PlainItem)) (items : Initializers (At × At)) → (B → SameType R t u) → (B → n ≡ m)
    → AlikePassed B R last (SameItems R) p q → AlikePassed B R last (SameItems R) (braced_scalar h life t n p (mapped_initializers left items)) (braced_scalar h life u m q (mapped_initializers right items))
alike_braced_scalar R one last h life t u n m p q NoInitializers k d a = a
alike_braced_scalar R one last h life t u n m p q (MoreInitializers i rest) k d a =
    alike_no_surplus R one last h rest (braced_first h life t n p (mapped_initializer left i)) (braced_first h life u m q (mapped_initializer right i)) (alike_braced_first R one last h life t u n m p q i k d a)

-- ## Expressions and lists, which may be strings

alike_by_string : {B : Type 0} (R : Pairing) → IsOneToOne R → (last : ℕ) (h : Keep) (life : Lifetime) (t u : PlainType) (n m : ℕ) (e : Expression (At × At)) (o q : Option (At × Text)) (v w : PlainStanding) → (B → SameType R t u) → (B → n ≡ m)
    → (B → SameText o q) → Alike B R last v w → AlikePassed B R last (SameItem R) (by_string h life t n v (mapped_expression left e) o) (by_string h life u m w (mapped_expression right e) q)
alike_by_string R one last h life t u n m e None None v w k d i a = alike_expression_item R one last h life t u n m e v w k d a
alike_by_string R one last h life t u n m e (Some x) (Some y) v w k d i a = alike_text R last h (length_of t) (length_of u) n m v w x y d i a
alike_by_string R one last h life t u n m e None (Some y) v w k d i a = λ quiet.
    absurd (i (a (quiet_before last v w _ _ (grown (over_by_string h life t n v (mapped_expression left e) None)) (grown (over_by_string h life u m w (mapped_expression right e) (Some y))) quiet)).0)
alike_by_string R one last h life t u n m e (Some x) None v w k d i a = λ quiet.
    absurd (i (a (quiet_before last v w _ _ (grown (over_by_string h life t n v (mapped_expression left e) (Some x))) (grown (over_by_string h life u m w (mapped_expression right e) None)) quiet)).0)

alike_braced_string : {B : Type 0} (R : Pairing) (last : ℕ) (h : Keep) (t u : PlainType) (n m : ℕ) (p q x y : Passed (List PlainItem)) (o r : Option (At × Text)) → Steps h p.after x.after → Steps h q.after y.after → (B → n ≡ m) → (B → SameText o r)
    → AlikePassed B R last (SameItems R) p q → AlikePassed B R last (SameItems R) x y → AlikePassed B R last (SameItems R) (braced_string h t n p o x) (braced_string h u m q r y)
alike_braced_string R last h t u n m p q x y None None g l d i a b = b
alike_braced_string R last h t u n m p q x y (Some v) (Some w) g l d i a b =
    alike_with_item R last p q (text_item h (length_of t) n p.after v) (text_item h (length_of u) m q.after w) (alike_text R last h (length_of t) (length_of u) n m p.after q.after v w (λ z. d z.0) (λ z. i z.0) a)
alike_braced_string R last h t u n m p q x y None (Some w) g l d i a b = λ quiet.
    absurd (i (a (quiet_before last p.after q.after _ _ (grown (over_braced_string h t n p None x g)) (grown (over_braced_string h u m q (Some w) y l)) quiet)).0.0)
alike_braced_string R last h t u n m p q x y (Some v) None g l d i a b = λ quiet.
    absurd (i (a (quiet_before last p.after q.after _ _ (grown (over_braced_string h t n p (Some v) x g)) (grown (over_braced_string h u m q None y l)) quiet)).0.0)

alike_zero : {B : Type 0} (R : Pairing) → IsOneToOne R → (last : ℕ) (at to : At) (t u : PlainType) (n m : ℕ) (v w : PlainStanding) → (B → SameType R t u) → (B → n ≡ m) → Alike B R last v w
    → Alike (B × Both (SameItem R) (zero_item at n (slice_get (scalars_of v.scope.structures t) 0)) (zero_item to m (slice_get (scalars_of w.scope.structures u) 0))) R last v w
alike_zero R one last at to t u n m v w k d a = learn R last v w (λ b know. zero_both R one v.scope.structures w.scope.structures know.tables at to n m (d b) t u (k b)) a

alike_list : {B : Type 0} (R : Pairing) → IsOneToOne R → (last : ℕ) (h : Keep) (life : Lifetime) (t u : PlainType) (n m : ℕ) (p q x y : Passed (List PlainItem)) (at to : At) (items : Initializers (At × At)) → Steps h p.after x.after → Steps h q.after y.after
    → (B → SameType R t u) → (B → n ≡ m) → AlikePassed B R last (SameItems R) p q → AlikePassed B R last (SameItems R) x y
    → AlikePassed B R last (SameItems R) (list_passed h life t n p at (mapped_initializers left items) x) (list_passed h life u m q to (mapped_initializers right items) y)
alike_list {B = B} R one last h life t u n m p q x y at to items g l k d a b =
    let these : Initializers At = mapped_initializers left items in
    let others : Initializers At = mapped_initializers right items in
    let o : Option (At × Text) = string_alone (is_character (element_of t)) these in
    let r : Option (At × Text) = string_alone (is_character (element_of u)) others in
    let v : Passed PlainItem = record { made = zero_item at n (slice_get (scalars_of p.after.scope.structures t) 0); after = p.after } in
    let w : Passed PlainItem = record { made = zero_item to m (slice_get (scalars_of q.after.scope.structures u) 0); after = q.after } in
    let i : Passed (List PlainItem) = if is_zero_list these then with_item p v else braced_string h t n p o x in
    let j : Passed (List PlainItem) = if is_zero_list others then with_item q w else braced_string h u m q r y in
    passed_where R last (SameItems R) (is_scalar t) (is_scalar u) (braced_scalar h life t n p these) i (braced_scalar h life u m q others) j p.after q.after (grown (over_braced_scalar h life t n p these))
    (grows_either (is_zero_list these) p.after (with_item p v) (braced_string h t n p o x) (as_before p.after) (grown (over_braced_string h t n p o x g))) (grown (over_braced_scalar h life u m q others))
    (grows_either (is_zero_list others) q.after (with_item q w) (braced_string h u m q r y) (as_before q.after) (grown (over_braced_string h u m q r y l))) (λ z. is_scalar_same R (k z.0)) a
    (alike_braced_scalar R one last h life t u n m p q items k d a)
    (by_same (λ (c e : Passed (List PlainItem)). AlikePassed B R last (SameItems R) c e) (is_zero_list these) (is_zero_list others) (zero_list_same items) (with_item p v) (braced_string h t n p o x) (with_item q w) (braced_string h u m q r y)
    (alike_with_item R last p q v w (alike_zero R one last at to t u n m p.after q.after (λ z. k z.0) (λ z. d z.0) a))
    (alike_braced_string R last h t u n m p q x y o r g l d (λ z. string_alone_same (is_character (element_of t)) (is_character (element_of u)) (character_same R (element_same R (k z))) items) a b))
  where
    grows_either : (c : Bool) (s : PlainStanding) (f e : Passed (List PlainItem)) → Grows s f.after → Grows s e.after → Grows s (if c then f else e).after
    grows_either true s f e gf ge = gf
    grows_either false s f e gf ge = ge

-- ## The trees

mutual
  pub alike_item : {B : Type 0} (R : Pairing) → IsOneToOne R → (last : ℕ) (h : Keep) (life : Lifetime) (t u : PlainType) (n m : ℕ) (p q : Passed (List PlainItem)) (i : Initializer (At × At)) → (B → SameType R t u) → (B → n ≡ m)
      → AlikePassed B R last (SameItems R) p q → AlikePassed B R last (SameItems R) (item_passed h life t n p (mapped_initializer left i)) (item_passed h life u m q (mapped_initializer right i))
  alike_item R one last h life t u n m p q (Value e) k d a =
      let o = string_for (element_of t) (mapped_initializer left (Value e)) in
      let r = string_for (element_of u) (mapped_initializer right (Value e)) in
      alike_with_item R last p q (by_string h life t n p.after (mapped_expression left e) o) (by_string h life u m q.after (mapped_expression right e) r)
      (alike_by_string R one last h life t u n m e o r p.after q.after (λ b. k b.0) (λ b. d b.0) (λ b. string_for_same R (element_same R (k b.0)) (Value e)) a)
  alike_item R one last h life t u n m p q (Braced at items comma) k d a =
      let x : Slots = slots_of p.after.scope.structures t in
      let y : Slots = slots_of q.after.scope.structures u in
      let known = alike_map (λ z. ((z.0.0, z.1), z.0.1)) (learn R last p.after q.after (λ b know. slots_same R p.after.scope.structures q.after.scope.structures know.tables (k b.0)) a) in
      alike_list R one last h life t u n m p q (items_passed h life x n p (mapped_initializers left items)) (items_passed h life y m q (mapped_initializers right items)) at.0 at.1 items
      (over_items h life x n p (mapped_initializers left items)) (over_items h life y m q (mapped_initializers right items)) k d a
      (forget (alike_items R one last h life x y n m p q items (λ b. b.1) (λ b. d b.0) known))

  alike_items : {B : Type 0} (R : Pairing) → IsOneToOne R → (last : ℕ) (h : Keep) (life : Lifetime) (x y : Slots) (n m : ℕ) (p q : Passed (List PlainItem)) (items : Initializers (At × At)) → (B → SameSlots R x y) → (B → n ≡ m)
      → AlikePassed B R last (SameItems R) p q → AlikePassed B R last (SameItems R) (items_passed h life x n p (mapped_initializers left items)) (items_passed h life y m q (mapped_initializers right items))
  alike_items R one last h life x y n m p q NoInitializers k d a = a
  alike_items R one last h life x y n m p q (MoreInitializers i rest) k d a =
      let these : Initializers At = mapped_initializers left (MoreInitializers i rest) in
      let others : Initializers At = mapped_initializers right (MoreInitializers i rest) in
      let v : Passed (List PlainItem) = item_passed h life (slot_type x) n p (mapped_initializer left i) in
      let w : Passed (List PlainItem) = item_passed h life (slot_type y) m q (mapped_initializer right i) in
      let c : ℕ = n + scalar_count p.after.scope.structures (slot_type x) in
      let e : ℕ = m + scalar_count q.after.scope.structures (slot_type y) in
      let known = alike_map (λ z. ((z.0.0, z.1), z.0.1)) (learn R last p.after q.after
      (λ b know. added (d b.0) (scalar_count_same R p.after.scope.structures q.after.scope.structures know.tables (slot_type_same R (k b.0)))) a) in
      passed_where R last (SameItems R) (has_slot x) (has_slot y) (items_passed h life (after_slot x) c v (mapped_initializers left rest)) (no_surplus h p these) (items_passed h life (after_slot y) e w (mapped_initializers right rest)) (no_surplus h q others)
      p.after q.after (grows_on (grown (over_item h life (slot_type x) n p (mapped_initializer left i))) (grown (over_items h life (after_slot x) c v (mapped_initializers left rest)))) (grown (over_surplus h p.after (mapped_initializer left i)))
      (grows_on (grown (over_item h life (slot_type y) m q (mapped_initializer right i))) (grown (over_items h life (after_slot y) e w (mapped_initializers right rest)))) (grown (over_surplus h q.after (mapped_initializer right i)))
      (λ z. has_slot_same R (k z.0)) a
      (forget (alike_items R one last h life (after_slot x) (after_slot y) c e v w rest (λ b. after_slot_same R (k b.0)) (λ b. b.1)
      (alike_item R one last h life (slot_type x) (slot_type y) n m p q i (λ b. slot_type_same R (k b.0)) (λ b. d b.0) known)))
      (alike_no_surplus R one last h (MoreInitializers i rest) p q a)

-- ## Whole initialisers

alike_listed : {B : Type 0} (R : Pairing) (last : ℕ) (at to : At) (p q : Passed (List PlainItem)) → AlikePassed B R last (SameItems R) p q → AlikePassed B R last (SameInitializer R) (as_listed at p) (as_listed to q)
alike_listed R last at to p q a = alike_map (λ z. (z.0, both_map (SameItems R) (SameInitializer R) (listed at) (listed to) (λ xs ys k. same_listed k) p.made q.made z.1)) a

alike_single : {B : Type 0} (R : Pairing) (last : ℕ) (p q : Passed (List PlainItem)) → AlikePassed B R last (SameItems R) p q → AlikePassed B R last (SameInitializer R) (as_single p) (as_single q)
alike_single R last p q a = alike_map (λ z. (z.0, only_both R p.made q.made z.1)) a

alike_unbraced : {B : Type 0} (R : Pairing) → IsOneToOne R → (last : ℕ) (h : Keep) (life : Lifetime) (t u : PlainType) (e : Expression (At × At)) (o r : Option (At × Text)) (v w : PlainStanding) → (B → SameType R t u) → (B → SameText o r) → Alike B R last v w
    → AlikePassed B R last (SameInitializer R) (unbraced h life t v (mapped_expression left e) o) (unbraced h life u w (mapped_expression right e) r)
alike_unbraced R one last h life t u e None None v w k i a = alike_value R one last h (SameInitializer R) e (value_for life t) (value_for life u) v w (λ b x y j. value_for_both R one life (k b) x y j) a
alike_unbraced R one last h life t u e (Some (at, bytes)) (Some (to, others)) v w k i a =
    let x : Passed PlainItem = text_item h (length_of t) 0 v (at, bytes) in
    let y : Passed PlainItem = text_item h (length_of u) 0 w (to, others) in
    alike_listed R last at to (with_item (passed [] v) x) (with_item (passed [] w) y)
    (alike_with_item R last (passed [] v) (passed [] w) x y (alike_text R last h (length_of t) (length_of u) 0 0 v w (at, bytes) (to, others) (λ b. refl) (λ b. i b.0) (alike_map (λ b. (b, same_no_items)) a)))
alike_unbraced R one last h life t u e None (Some y) v w k i a = λ quiet.
    absurd (i (a (quiet_before last v w _ _ (grown (over_unbraced h life t v (mapped_expression left e) None)) (grown (over_unbraced h life u w (mapped_expression right e) (Some y))) quiet)).0)
alike_unbraced R one last h life t u e (Some x) None v w k i a = λ quiet.
    absurd (i (a (quiet_before last v w _ _ (grown (over_unbraced h life t v (mapped_expression left e) (Some x))) (grown (over_unbraced h life u w (mapped_expression right e) None)) quiet)).0)

pub alike_initialized : {B : Type 0} (R : Pairing) → IsOneToOne R → (last : ℕ) (h : Keep) (life : Lifetime) (t u : PlainType) (i : Initializer (At × At)) (v w : PlainStanding) → (B → SameType R t u) → Alike B R last v w
    → AlikePassed B R last (SameInitializer R) (initialized h life t v (mapped_initializer left i)) (initialized h life u w (mapped_initializer right i))
alike_initialized R one last h life t u (Value e) v w k a =
    alike_unbraced R one last h life t u e (string_for (element_of t) (mapped_initializer left (Value e))) (string_for (element_of u) (mapped_initializer right (Value e))) v w k
    (λ b. string_for_same R (element_same R (k b)) (Value e)) a
alike_initialized R one last h life t u (Braced at items comma) v w k a =
    let i : Initializer (At × At) = Braced at items comma in
    let p : Passed (List PlainItem) = item_passed h life t 0 (passed [] v) (mapped_initializer left i) in
    let q : Passed (List PlainItem) = item_passed h life u 0 (passed [] w) (mapped_initializer right i) in
    let g = grown (over_item h life t 0 (passed [] v) (mapped_initializer left i)) in
    let l = grown (over_item h life u 0 (passed [] w) (mapped_initializer right i)) in
    let made = alike_item R one last h life t u 0 0 (passed [] v) (passed [] w) i k (λ b. refl) (alike_map (λ b. (b, same_no_items)) a) in
    passed_where R last (SameInitializer R) (is_scalar t) (is_scalar u) (as_single p) (as_listed at.0 p) (as_single q) (as_listed at.1 q) v w g g l l (λ b. is_scalar_same R (k b)) a (alike_single R last p q made) (alike_listed R last at.0 at.1 p q made)

pub initializers_renamed : InitializersRenamed
initializers_renamed R one last h life s t u v k i =
    leads_by R last s t (initialized h life u s (mapped_initializer left i)).after (initialized h life v t (mapped_initializer right i)).after (alike_initialized R one last h life u v i s t (λ b. k))

-- an initialiser for which nothing is left
pub surplus_leads : (R : Pairing) → IsOneToOne R → (last : ℕ) (h : Keep) (s t : PlainStanding) (i : Initializer (At × At))
    → Leads R last (Both (SameItem R) (surplus_item h s (mapped_initializer left i)).made (surplus_item h t (mapped_initializer right i)).made) s t (surplus_item h s (mapped_initializer left i)).after (surplus_item h t (mapped_initializer right i)).after
surplus_leads R one last h s t i = leads_by R last s t (surplus_item h s (mapped_initializer left i)).after (surplus_item h t (mapped_initializer right i)).after (alike_surplus R one last h i s t)
