-- What specifiers and declarators that stand at two places declare is the same in both programs.
use Rattle.std.proofs.Common.{◌≡◌, refl, ℕ, ◌+◌, Bool, true, false, ◌||◌, List, [], ◌∷◌, ◌++◌, map, Option, Some, None, option_map}
use Rattle.std.specs.Prelude.{if◌then◌else◌}
use Rattle.std.proofs.lemmas.Bool.{true≢false, false≢true}
use Rattle.p10_base.specs.declared.at.At.{At}
use Rattle.p10_base.specs.declared.codes.SubsetCode.TheVariants as subset
use Rattle.p10_syn.specs.declared.sign.Sign.{Sign}
use Rattle.p10_syn.specs.Trees.{Identifier, Absent, Present, Specifiers, NoSpecifiers, MoreSpecifiers, Specifier, Keyword, Typedef, Structure, Enumeration, Members, NoMembers, MoreMembers, MemberDeclaration, member_declaration, Fields, NoFields, MoreFields, Field, field, Declarator, Named, Unnamed, Pointer, Parenthesised, Array, Function, Parameters, NoParameters, MoreParameters, Parameter, parameter}
use Rattle.p10_core.specs.Types.{PlainType, PlainMember}
use Rattle.p10_elabx.specs.First.{Keep}
use Rattle.p10_elabx.specs.TypeNames.{declarator_place}
use Rattle.p10_elabd.specs.Standing.{PlainStanding, Passed, passed, refusing}
use Rattle.p10_elabd.specs.Words.{none_allowed}
use Rattle.p10_elabd.specs.declared.site.Site.{Site}
use Rattle.p10_elabd.specs.declared.site.Site.TheVariants as site_is
use Rattle.p10_elabd.specs.declared.site.Allowed.{Allowed}
use Rattle.p10_elabd.specs.Tagged.{Begun, structure_made, ended}
use Rattle.p10_elabd.specs.Members.{member_declared, with_width}
use Rattle.p10_elabd.specs.Shapes.{ListedParameter, DeclaredType, of_type, name_in, place_or, declares_function, declares_open_array, pointer_declared, array_inside, element_declared, array_declared, open_declared, function_inside, result_declared, parameter_declared, among_parameters, list_of, function_declared}
use Rattle.p10_elabd.specs.Declaring.{both_named, stored_by, type_specified, begun_with, Listing, none_listed, is_plain_void, is_no_parameter, based, with_declared_parameter, enumeration_passed, specifiers_passed, specifier_passed, structure_passed, members_passed, member_passed, fields_passed, field_passed, declarator_passed, all_parameters_passed, only_parameter_passed, parameters_passed, one_parameter_passed, specified}
use Rattle.p10_renaming.specs.Renaming.{Pairing, SameType, same_void, same_integer, same_pointer, same_array, same_structure}
use Rattle.p10_expression_renaming.specs.Mapped.{mapped_qualifier, mapped_expression, mapped_optional, mapped_specifiers, mapped_specifier, mapped_members, mapped_member_declaration, mapped_fields, mapped_field, mapped_enumerators, mapped_declarator, mapped_parameters, mapped_parameter}
use Rattle.p10_expression_renaming.specs.Knowing.{SameMembers, same_no_members, IsOneToOne}
use Rattle.p10_expression_renaming.proofs.Sameness.{SameMaybeType, same_no_type}
use Rattle.p10_expression_renaming.proofs.TypeNames.{left, right}
use Rattle.p10_declaration_renaming.specs.Standings.{Both, SameListed, same_none_listed, same_more_listed, SameListedParameter, SameDeclared, same_of_type}
use Rattle.p10_declaration_renaming.specs.Laws.{SpecifiersRenamed, DeclaratorsRenamed}
use Rattle.p10_declaration_renaming.proofs.Boths.{both_map}
use Rattle.p10_declaration_steps.proofs.Declaring.{over_declarator}
use Rattle.p10_declaration_steps.proofs.Shaping.{over_declared_parameter}
use Rattle.p10_declaration_renaming.proofs.Growing.{Grows, as_before, grows_on, grown}
use Rattle.p10_declaration_renaming.proofs.Alike.{Alike, alike_map, forget, alike_refusing, never_left, quiet_before, leads_by}
use Rattle.p10_declaration_renaming.proofs.Tagging.{left_name, right_name, alike_tag_passed, alike_begun, alike_ended, alike_structure_made, alike_unless_union}
use Rattle.p10_declaration_renaming.proofs.Naming.{name_in_same, same_letters}
use Rattle.p10_declaration_renaming.proofs.Shaping.{alike_pointer, alike_element, alike_array, open_both, alike_array_inside, alike_function_inside, alike_result, alike_among, alike_function, alike_parameter, alike_with_parameter}
use Rattle.p10_declaration_renaming.proofs.Members.{alike_member, alike_width, alike_with_member}
use Rattle.p10_declaration_renaming.proofs.Specifying.{alike_word, alike_typedef, named_both, as_named_both, alike_type_specified, alike_enumeration}

-- ## Parameters as they are listed

-- the same is listed, and the same stands
abbrev AlikeListing : Type 0 → Pairing → ℕ → Listing → Listing → Type 0
AlikeListing B R last p q = Alike (B × SameListed R p.parameters q.parameters) R last p.after q.after

one_more_listed : (R : Pairing) {ps qs : List ListedParameter} → SameListed R ps qs → {p q : ListedParameter} → SameListedParameter R p q → SameListed R (ps ++ p ∷ []) (qs ++ q ∷ [])
one_more_listed R same_none_listed h = same_more_listed h same_none_listed
one_more_listed R (same_more_listed k rest) h = same_more_listed k (one_more_listed R rest h)

-- a parameter after others, by what its declarator made
alike_declared_parameter : {B : Type 0} (R : Pairing) (last : ℕ) (h : Keep) (i : ℕ) (before after : List ListedParameter) (at to : At) (d : Declarator (At × At)) (j k : Passed DeclaredType) → (B → SameListed R before after)
    → Alike (B × Both (SameDeclared R) j.made k.made) R last j.after k.after
    → AlikeListing B R last (with_declared_parameter h i before at (mapped_declarator left d) j) (with_declared_parameter h i after to (mapped_declarator right d) k)
alike_declared_parameter R last h i before after at to d j k same a =
    let these : Declarator At = mapped_declarator left d in
    let others : Declarator At = mapped_declarator right d in
    let s : PlainStanding = refusing h (declares_function these) subset.BadPointer (declarator_place these) j.after in
    let t : PlainStanding = refusing h (declares_function others) subset.BadPointer (declarator_place others) k.after in
    let u : Passed PlainType = parameter_declared h at (place_or at (name_in these)) j.made s in
    let v : Passed PlainType = parameter_declared h to (place_or to (name_in others)) k.made t in
    let stands = alike_refusing R last h (declares_function these) (declares_function others) subset.BadPointer subset.BadPointer (declarator_place these) (declarator_place others) j.after k.after a in
    let typed = forget (alike_parameter R last h at (place_or at (name_in these)) to (place_or to (name_in others)) j.made k.made s t (λ b. b.1) stands) in
    alike_map (λ z. (z.0, one_more_listed R (same z.0) (record { name = same_letters (name_in_same d); type = z.1 })))
    (alike_with_parameter R last h i (name_in these) (name_in others) (name_in_same d) u.made v.made u.after v.after (λ z. z.1) typed)

void_same : (R : Pairing) {t u : PlainType} → SameType R t u → is_plain_void t ≡ is_plain_void u
void_same R same_void = refl
void_same R same_integer = refl
void_same R (same_pointer h) = refl
void_same R (same_array h) = refl
void_same R (same_structure paired) = refl

no_parameter_same : (R : Pairing) (d : Declarator (At × At)) (m n : Option PlainType) → Both (SameType R) m n → is_no_parameter (mapped_declarator left d) m ≡ is_no_parameter (mapped_declarator right d) n
no_parameter_same R (Unnamed at) None None k = refl
no_parameter_same R (Unnamed at) (Some t) (Some u) k = void_same R k
no_parameter_same R (Unnamed at) None (Some u) k = absurd k
no_parameter_same R (Unnamed at) (Some t) None k = absurd k
no_parameter_same R (Named x) m n k = refl
no_parameter_same R (Pointer at qualifiers d) m n k = refl
no_parameter_same R (Parenthesised at d) m n k = refl
no_parameter_same R (Array at d brackets length) m n k = refl
no_parameter_same R (Function at d parentheses all more) m n k = refl

-- `void` alone, or a parameter, by tests that are one
listing_where : {B C : Type 0} (R : Pairing) (last : ℕ) (b c : Bool) (p q x y : Listing) (s t : PlainStanding) → Grows s p.after → Grows s q.after → Grows t x.after → Grows t y.after → (B → b ≡ c) → Alike B R last s t
    → AlikeListing C R last p x → AlikeListing C R last q y → AlikeListing C R last (if b then p else q) (if c then x else y)
listing_where R last true true p q x y s t gp gq gx gy e a f g = f
listing_where R last false false p q x y s t gp gq gx gy e a f g = g
listing_where R last true false p q x y s t gp gq gx gy e a f g = λ quiet. absurd (true≢false (e (a (quiet_before last s t p.after y.after gp gy quiet)).0))
listing_where R last false true p q x y s t gp gq gx gy e a f g = λ quiet. absurd (false≢true (e (a (quiet_before last s t q.after x.after gq gx quiet)).0))

list_same : (all : Parameters (At × At)) (more : Bool) → list_of (mapped_parameters left all) more ≡ list_of (mapped_parameters right all) more
list_same NoParameters more = refl
list_same (MoreParameters one rest) true = refl
list_same (MoreParameters one rest) false = refl

-- the type of specifiers, before a declarator
pub based_both : (R : Pairing) (m n : Option PlainType) → Both (SameType R) m n → Both (SameDeclared R) (option_map of_type m) (option_map of_type n)
based_both R m n k = both_map (SameType R) (SameDeclared R) of_type of_type (λ t u j. same_of_type j) m n k

-- ## The trees

mutual
  pub alike_specifiers : {B : Type 0} (R : Pairing) → IsOneToOne R → (last : ℕ) (h : Keep) (site : Site) (allowed other : Allowed) (alone stored also_stored : Bool) (p q : Passed (Option PlainType)) (all : Specifiers (At × At))
      → Alike (B × Both (SameMaybeType R) p.made q.made) R last p.after q.after
      → Alike (B × Both (SameMaybeType R) (specifiers_passed h site allowed alone stored p (mapped_specifiers left all)).made (specifiers_passed h site other alone also_stored q (mapped_specifiers right all)).made) R last
      (specifiers_passed h site allowed alone stored p (mapped_specifiers left all)).after (specifiers_passed h site other alone also_stored q (mapped_specifiers right all)).after
  alike_specifiers R one last h site allowed other alone stored also_stored p q NoSpecifiers a = a
  alike_specifiers R one last h site allowed other alone stored also_stored p q (MoreSpecifiers x rest) a =
      let u : Passed (Option PlainType) = specifier_passed h site allowed alone stored p.after (mapped_specifier left x) in
      let v : Passed (Option PlainType) = specifier_passed h site other alone also_stored q.after (mapped_specifier right x) in
      alike_specifiers R one last h site allowed other alone (stored_by stored (mapped_specifier left x)) (stored_by also_stored (mapped_specifier right x)) (record { made = both_named p.made u.made; after = u.after })
      (record { made = both_named q.made v.made; after = v.after }) rest
      (alike_map (λ z. (z.0.0, named_both R p.made q.made u.made v.made z.0.1 z.1)) (alike_specifier R one last h site allowed other alone stored also_stored p.after q.after x a))

  alike_specifier : {B : Type 0} (R : Pairing) → IsOneToOne R → (last : ℕ) (h : Keep) (site : Site) (allowed other : Allowed) (alone stored also_stored : Bool) (s t : PlainStanding) (x : Specifier (At × At)) → Alike B R last s t
      → Alike (B × Both (SameMaybeType R) (specifier_passed h site allowed alone stored s (mapped_specifier left x)).made (specifier_passed h site other alone also_stored t (mapped_specifier right x)).made) R last
      (specifier_passed h site allowed alone stored s (mapped_specifier left x)).after (specifier_passed h site other alone also_stored t (mapped_specifier right x)).after
  alike_specifier R one last h site allowed other alone stored also_stored s t (Keyword at word) a = alike_word R last h site allowed other stored also_stored at.0 at.1 word s t a
  alike_specifier R one last h site allowed other alone stored also_stored s t (Typedef x) a = alike_typedef R last h x s t a
  alike_specifier R one last h site allowed other alone stored also_stored s t (Structure at word tag members) a =
      let p : Passed PlainType = structure_passed h alone at.0 word (left_name tag) s (mapped_members left members) in
      let q : Passed PlainType = structure_passed h alone at.1 word (right_name tag) t (mapped_members right members) in
      alike_map (λ z. (z.0, as_named_both R p.made q.made z.1)) (alike_structure R one last h alone at.0 at.1 word tag members s t a)
  alike_specifier R one last h site allowed other alone stored also_stored s t (Enumeration at tag constants comma) a =
      let p : Passed PlainType = enumeration_passed h at.0 (left_name tag) s (mapped_enumerators left constants) in
      let q : Passed PlainType = enumeration_passed h at.1 (right_name tag) t (mapped_enumerators right constants) in
      alike_map (λ z. (z.0, as_named_both R p.made q.made z.1)) (alike_enumeration R one last h at.0 at.1 tag constants s t a)

  alike_structure : {B : Type 0} (R : Pairing) → IsOneToOne R → (last : ℕ) (h : Keep) (alone : Bool) (at to : At) (word : Sign) (tag : Option (Identifier (At × At))) (members : Members (At × At)) (s t : PlainStanding) → Alike B R last s t
      → Alike (B × Both (SameType R) (structure_passed h alone at word (left_name tag) s (mapped_members left members)).made (structure_passed h alone to word (right_name tag) t (mapped_members right members)).made) R last
      (structure_passed h alone at word (left_name tag) s (mapped_members left members)).after (structure_passed h alone to word (right_name tag) t (mapped_members right members)).after
  alike_structure R one last h alone at to word tag NoMembers s t a = alike_tag_passed R one last h alone at to word tag s t a
  alike_structure R one last h alone at to word tag (MoreMembers m rest) s t a =
      let b : Begun = begun_with h word (left_name tag) s in
      let c : Begun = begun_with h word (right_name tag) t in
      let x : Passed (List PlainMember) = member_passed h (passed [] b.standing) (mapped_member_declaration left m) in
      let y : Passed (List PlainMember) = member_passed h (passed [] c.standing) (mapped_member_declaration right m) in
      let p : Passed (List PlainMember) = members_passed h x (mapped_members left rest) in
      let q : Passed (List PlainMember) = members_passed h y (mapped_members right rest) in
      let first = alike_one_member R one last h (passed [] b.standing) (passed [] c.standing) m (alike_map (λ z. (z, same_no_members)) (alike_begun R one last h word tag s t a)) in
      let all = alike_ended R last p.after q.after (alike_members R one last h x y rest first) in
      let made = alike_structure_made R one last h at to tag b.number c.number p.made q.made (ended p.after) (ended q.after) (λ z. z.0.1) (λ z. z.1) all in
      alike_unless_union R last h at to word (structure_made h at (left_name tag) b.number p.made (ended p.after)) (structure_made h to (right_name tag) c.number q.made (ended q.after)) (alike_map (λ z. (z.0.0.0, z.1)) made)

  alike_members : {B : Type 0} (R : Pairing) → IsOneToOne R → (last : ℕ) (h : Keep) (p q : Passed (List PlainMember)) (all : Members (At × At)) → Alike (B × Both (SameMembers R) p.made q.made) R last p.after q.after
      → Alike (B × Both (SameMembers R) (members_passed h p (mapped_members left all)).made (members_passed h q (mapped_members right all)).made) R last (members_passed h p (mapped_members left all)).after (members_passed h q (mapped_members right all)).after
  alike_members R one last h p q NoMembers a = a
  alike_members R one last h p q (MoreMembers m rest) a =
      alike_members R one last h (member_passed h p (mapped_member_declaration left m)) (member_passed h q (mapped_member_declaration right m)) rest (alike_one_member R one last h p q m a)

  alike_one_member : {B : Type 0} (R : Pairing) → IsOneToOne R → (last : ℕ) (h : Keep) (p q : Passed (List PlainMember)) (m : MemberDeclaration (At × At)) → Alike (B × Both (SameMembers R) p.made q.made) R last p.after q.after
      → Alike (B × Both (SameMembers R) (member_passed h p (mapped_member_declaration left m)).made (member_passed h q (mapped_member_declaration right m)).made) R last
      (member_passed h p (mapped_member_declaration left m)).after (member_passed h q (mapped_member_declaration right m)).after
  alike_one_member R one last h p q (member_declaration at specifiers fields) a =
      let u : Passed (Option PlainType) = specifiers_passed h site_is.OfMembers none_allowed false false (passed None p.after) (mapped_specifiers left specifiers) in
      let v : Passed (Option PlainType) = specifiers_passed h site_is.OfMembers none_allowed false false (passed None q.after) (mapped_specifiers right specifiers) in
      let x : Passed PlainType = type_specified h (mapped_specifiers left specifiers) u in
      let y : Passed PlainType = type_specified h (mapped_specifiers right specifiers) v in
      let named = alike_specifiers R one last h site_is.OfMembers none_allowed none_allowed false false false (passed None p.after) (passed None q.after) specifiers (alike_map (λ z. (z, same_no_type)) a) in
      let typed = alike_map (λ z. ((z.0.0, z.1), z.0.1)) (alike_type_specified R last h specifiers u v named) in
      forget (alike_fields R one last h x.made y.made (record { made = p.made; after = x.after }) (record { made = q.made; after = y.after }) fields (λ z. z.1) typed)

  alike_fields : {B : Type 0} (R : Pairing) → IsOneToOne R → (last : ℕ) (h : Keep) (m n : Option PlainType) (p q : Passed (List PlainMember)) (all : Fields (At × At)) → (B → Both (SameType R) m n)
      → Alike (B × Both (SameMembers R) p.made q.made) R last p.after q.after
      → Alike (B × Both (SameMembers R) (fields_passed h m p (mapped_fields left all)).made (fields_passed h n q (mapped_fields right all)).made) R last (fields_passed h m p (mapped_fields left all)).after (fields_passed h n q (mapped_fields right all)).after
  alike_fields R one last h m n p q NoFields k a = a
  alike_fields R one last h m n p q (MoreFields f rest) k a =
      alike_fields R one last h m n (field_passed h m p (mapped_field left f)) (field_passed h n q (mapped_field right f)) rest k (alike_field R one last h m n p q f k a)

  alike_field : {B : Type 0} (R : Pairing) → IsOneToOne R → (last : ℕ) (h : Keep) (m n : Option PlainType) (p q : Passed (List PlainMember)) (f : Field (At × At)) → (B → Both (SameType R) m n)
      → Alike (B × Both (SameMembers R) p.made q.made) R last p.after q.after
      → Alike (B × Both (SameMembers R) (field_passed h m p (mapped_field left f)).made (field_passed h n q (mapped_field right f)).made) R last (field_passed h m p (mapped_field left f)).after (field_passed h n q (mapped_field right f)).after
  alike_field R one last h m n p q (field at d width) k a =
      let these : Declarator At = mapped_declarator left d in
      let others : Declarator At = mapped_declarator right d in
      let name_at : At = place_or (declarator_place these) (name_in these) in
      let name_to : At = place_or (declarator_place others) (name_in others) in
      let w : PlainStanding = with_width h (declarator_place these) (mapped_optional left width) p.after in
      let z : PlainStanding = with_width h (declarator_place others) (mapped_optional right width) q.after in
      let i : Passed DeclaredType = declarator_passed h name_at (based m w) these in
      let j : Passed DeclaredType = declarator_passed h name_to (based n z) others in
      let s : PlainStanding = refusing h (declares_function these || declares_open_array these) subset.IncompleteType name_at i.after in
      let t : PlainStanding = refusing h (declares_function others || declares_open_array others) subset.IncompleteType name_to j.after in
      let wide = alike_map (λ b. (b, based_both R m n (k b.0))) (alike_width R last h (declarator_place these) (declarator_place others) width p.after q.after a) in
      let shaped = alike_declarator R one last h name_at name_to (based m w) (based n z) d wide in
      let stands = alike_refusing R last h (declares_function these || declares_open_array these) (declares_function others || declares_open_array others) subset.IncompleteType subset.IncompleteType name_at name_to i.after j.after shaped in
      let typed = forget (alike_member R last h name_at name_to i.made j.made s t (λ b. b.1) stands) in
      forget (alike_with_member R last h name_at name_to p.made q.made (name_in these) (name_in others) (name_in_same d) (member_declared h name_at i.made s) (member_declared h name_to j.made t) (λ b. b.1) typed)

  pub alike_declarator : {B : Type 0} (R : Pairing) → IsOneToOne R → (last : ℕ) (h : Keep) (name_at name_to : At) (p q : Passed DeclaredType) (d : Declarator (At × At)) → Alike (B × Both (SameDeclared R) p.made q.made) R last p.after q.after
      → Alike (B × Both (SameDeclared R) (declarator_passed h name_at p (mapped_declarator left d)).made (declarator_passed h name_to q (mapped_declarator right d)).made) R last
      (declarator_passed h name_at p (mapped_declarator left d)).after (declarator_passed h name_to q (mapped_declarator right d)).after
  alike_declarator R one last h name_at name_to p q (Named x) a = a
  alike_declarator R one last h name_at name_to p q (Unnamed at) a = a
  alike_declarator R one last h name_at name_to p q (Pointer at qualifiers d) a =
      alike_declarator R one last h name_at name_to (pointer_declared h at.0 name_at (map (mapped_qualifier left) qualifiers) p.made p.after) (pointer_declared h at.1 name_to (map (mapped_qualifier right) qualifiers) q.made q.after) d
      (forget (alike_pointer R last h at.0 name_at at.1 name_to qualifiers p.made q.made p.after q.after (λ b. b.1) a))
  alike_declarator R one last h name_at name_to p q (Parenthesised at d) a = alike_declarator R one last h name_at name_to p q d a
  alike_declarator R one last h name_at name_to p q (Array at d brackets Absent) a =
      let s : PlainStanding = array_inside h name_at true (mapped_declarator left d) p.after in
      let t : PlainStanding = array_inside h name_to true (mapped_declarator right d) q.after in
      let u : Passed PlainType = element_declared h name_at p.made s in
      let v : Passed PlainType = element_declared h name_to q.made t in
      let typed = forget (alike_element R last h name_at name_to p.made q.made s t (λ b. b.1) (alike_array_inside R last h name_at name_to true d p.after q.after a)) in
      alike_declarator R one last h name_at name_to (open_declared u) (open_declared v) d (alike_map (λ z. (z.0, open_both R u.made v.made z.1)) typed)
  alike_declarator R one last h name_at name_to p q (Array at d brackets (Present e)) a =
      let s : PlainStanding = array_inside h name_at false (mapped_declarator left d) p.after in
      let t : PlainStanding = array_inside h name_to false (mapped_declarator right d) q.after in
      let u : Passed PlainType = element_declared h name_at p.made s in
      let v : Passed PlainType = element_declared h name_to q.made t in
      let typed = forget (alike_element R last h name_at name_to p.made q.made s t (λ b. b.1) (alike_array_inside R last h name_at name_to false d p.after q.after a)) in
      alike_declarator R one last h name_at name_to (array_declared h (mapped_expression left e) u) (array_declared h (mapped_expression right e) v) d (forget (alike_array R one last h e u v (λ b. b.1) typed))
  alike_declarator R one last h name_at name_to p q (Function at d parentheses all more) a =
      let u : Passed PlainType = result_declared h at.0 name_at p.made p.after in
      let v : Passed PlainType = result_declared h at.1 name_to q.made q.after in
      let r : PlainStanding = refusing h more subset.NoPrototype parentheses.0 u.after in
      let w : PlainStanding = refusing h more subset.NoPrototype parentheses.1 v.after in
      let s : PlainStanding = function_inside h name_at (mapped_declarator left d) r in
      let t : PlainStanding = function_inside h name_to (mapped_declarator right d) w in
      let x : Listing = all_parameters_passed h (among_parameters s) parentheses.0 (mapped_parameters left all) in
      let y : Listing = all_parameters_passed h (among_parameters t) parentheses.1 (mapped_parameters right all) in
      let typed = forget (alike_result R last h at.0 name_at at.1 name_to p.made q.made p.after q.after (λ b. b.1) a) in
      let inner = alike_among R last s t (alike_function_inside R last h name_at name_to d r w (alike_refusing R last h more more subset.NoPrototype subset.NoPrototype parentheses.0 parentheses.1 u.after v.after typed)) in
      let listed = alike_all_parameters R one last h (among_parameters s) (among_parameters t) parentheses.0 parentheses.1 all inner in
      let made = alike_function R last (list_of (mapped_parameters left all) more) (list_of (mapped_parameters right all) more) (list_same all more) u.made v.made x.parameters y.parameters x.after y.after (λ b. b.0.1) (λ b. b.1) listed in
      alike_declarator R one last h name_at name_to (function_declared (list_of (mapped_parameters left all) more) u.made x.parameters x.after) (function_declared (list_of (mapped_parameters right all) more) v.made y.parameters y.after) d
      (alike_map (λ z. (z.0.0.0, z.1)) made)

  alike_all_parameters : {B : Type 0} (R : Pairing) → IsOneToOne R → (last : ℕ) (h : Keep) (s t : PlainStanding) (at to : At) (all : Parameters (At × At)) → Alike B R last s t
      → AlikeListing B R last (all_parameters_passed h s at (mapped_parameters left all)) (all_parameters_passed h t to (mapped_parameters right all))
  alike_all_parameters R one last h s t at to NoParameters a = λ quiet. never_left last h subset.NoPrototype at s _ quiet
  alike_all_parameters R one last h s t at to (MoreParameters x NoParameters) a = alike_only_parameter R one last h s t x a
  alike_all_parameters R one last h s t at to (MoreParameters x (MoreParameters y rest)) a =
      alike_parameters R one last h 1 (one_parameter_passed h 0 (none_listed s) (mapped_parameter left x)) (one_parameter_passed h 0 (none_listed t) (mapped_parameter right x)) (MoreParameters y rest)
      (alike_one_parameter R one last h 0 (none_listed s) (none_listed t) x (alike_map (λ b. (b, same_none_listed)) a))

  alike_only_parameter : {B : Type 0} (R : Pairing) → IsOneToOne R → (last : ℕ) (h : Keep) (s t : PlainStanding) (x : Parameter (At × At)) → Alike B R last s t
      → AlikeListing B R last (only_parameter_passed h s (mapped_parameter left x)) (only_parameter_passed h t (mapped_parameter right x))
  alike_only_parameter R one last h s t (parameter at specifiers d) a =
      let these : Declarator At = mapped_declarator left d in
      let others : Declarator At = mapped_declarator right d in
      let u : Passed (Option PlainType) = specifiers_passed h site_is.OfParameter none_allowed false false (passed None s) (mapped_specifiers left specifiers) in
      let v : Passed (Option PlainType) = specifiers_passed h site_is.OfParameter none_allowed false false (passed None t) (mapped_specifiers right specifiers) in
      let x : Passed PlainType = type_specified h (mapped_specifiers left specifiers) u in
      let y : Passed PlainType = type_specified h (mapped_specifiers right specifiers) v in
      let i : Passed DeclaredType = declarator_passed h (place_or at.0 (name_in these)) (based x.made x.after) these in
      let j : Passed DeclaredType = declarator_passed h (place_or at.1 (name_in others)) (based y.made y.after) others in
      let p : Listing = with_declared_parameter h 0 [] at.0 these i in
      let q : Listing = with_declared_parameter h 0 [] at.1 others j in
      let typed = alike_type_specified R last h specifiers u v
      (alike_specifiers R one last h site_is.OfParameter none_allowed none_allowed false false false (passed None s) (passed None t) specifiers (alike_map (λ b. (b, same_no_type)) a)) in
      let shaped = alike_declarator R one last h (place_or at.0 (name_in these)) (place_or at.1 (name_in others)) (based x.made x.after) (based y.made y.after) d (alike_map (λ z. (z.0, based_both R x.made y.made z.1)) typed) in
      listing_where R last (is_no_parameter these x.made) (is_no_parameter others y.made) (none_listed x.after) p (none_listed y.after) q x.after y.after (as_before x.after)
      (grows_on (grown (over_declarator h (place_or at.0 (name_in these)) (based x.made x.after) these)) (grown (over_declared_parameter h 0 [] at.0 these i))) (as_before y.after)
      (grows_on (grown (over_declarator h (place_or at.1 (name_in others)) (based y.made y.after) others)) (grown (over_declared_parameter h 0 [] at.1 others j))) (λ z. no_parameter_same R d x.made y.made z.1) typed
      (alike_map (λ z. (z.0, same_none_listed)) typed) (alike_declared_parameter R last h 0 [] [] at.0 at.1 d i j (λ b. same_none_listed) shaped)

  alike_parameters : {B : Type 0} (R : Pairing) → IsOneToOne R → (last : ℕ) (h : Keep) (i : ℕ) (p q : Listing) (all : Parameters (At × At)) → AlikeListing B R last p q
      → AlikeListing B R last (parameters_passed h i p (mapped_parameters left all)) (parameters_passed h i q (mapped_parameters right all))
  alike_parameters R one last h i p q NoParameters a = a
  alike_parameters R one last h i p q (MoreParameters x rest) a =
      alike_parameters R one last h (i + 1) (one_parameter_passed h i p (mapped_parameter left x)) (one_parameter_passed h i q (mapped_parameter right x)) rest (alike_one_parameter R one last h i p q x a)

  alike_one_parameter : {B : Type 0} (R : Pairing) → IsOneToOne R → (last : ℕ) (h : Keep) (n : ℕ) (p q : Listing) (x : Parameter (At × At)) → AlikeListing B R last p q
      → AlikeListing B R last (one_parameter_passed h n p (mapped_parameter left x)) (one_parameter_passed h n q (mapped_parameter right x))
  alike_one_parameter R one last h n p q (parameter at specifiers d) a =
      let these : Declarator At = mapped_declarator left d in
      let others : Declarator At = mapped_declarator right d in
      let u : Passed (Option PlainType) = specifiers_passed h site_is.OfParameter none_allowed false false (passed None p.after) (mapped_specifiers left specifiers) in
      let v : Passed (Option PlainType) = specifiers_passed h site_is.OfParameter none_allowed false false (passed None q.after) (mapped_specifiers right specifiers) in
      let x : Passed PlainType = type_specified h (mapped_specifiers left specifiers) u in
      let y : Passed PlainType = type_specified h (mapped_specifiers right specifiers) v in
      let i : Passed DeclaredType = declarator_passed h (place_or at.0 (name_in these)) (based x.made x.after) these in
      let j : Passed DeclaredType = declarator_passed h (place_or at.1 (name_in others)) (based y.made y.after) others in
      let typed = alike_map (λ z. (z.0, based_both R x.made y.made z.1)) (alike_type_specified R last h specifiers u v
      (alike_specifiers R one last h site_is.OfParameter none_allowed none_allowed false false false (passed None p.after) (passed None q.after) specifiers (alike_map (λ b. (b, same_no_type)) a))) in
      let shaped = alike_declarator R one last h (place_or at.0 (name_in these)) (place_or at.1 (name_in others)) (based x.made x.after) (based y.made y.after) d typed in
      alike_map (λ z. (z.0.0, z.1)) (alike_declared_parameter R last h n p.parameters q.parameters at.0 at.1 d i j (λ b. b.1) shaped)

-- ## The laws

pub alike_specified : {B : Type 0} (R : Pairing) → IsOneToOne R → (last : ℕ) (h : Keep) (site : Site) (allowed other : Allowed) (alone : Bool) (all : Specifiers (At × At)) (s t : PlainStanding) → Alike B R last s t
    → Alike (B × Both (SameType R) (specified h site allowed alone s (mapped_specifiers left all)).made (specified h site other alone t (mapped_specifiers right all)).made) R last
    (specified h site allowed alone s (mapped_specifiers left all)).after (specified h site other alone t (mapped_specifiers right all)).after
alike_specified R one last h site allowed other alone all s t a =
    alike_type_specified R last h all (specifiers_passed h site allowed alone false (passed None s) (mapped_specifiers left all)) (specifiers_passed h site other alone false (passed None t) (mapped_specifiers right all))
    (alike_specifiers R one last h site allowed other alone false false (passed None s) (passed None t) all (alike_map (λ b. (b, same_no_type)) a))

pub specifiers_renamed : SpecifiersRenamed
specifiers_renamed R one last h site allowed other alone s t all =
    leads_by R last s t (specified h site allowed alone s (mapped_specifiers left all)).after (specified h site other alone t (mapped_specifiers right all)).after (alike_specified R one last h site allowed other alone all s t)

pub declarators_renamed : DeclaratorsRenamed
declarators_renamed R one last h s t at to m n k d =
    leads_by R last s t (declarator_passed h at (based m s) (mapped_declarator left d)).after (declarator_passed h to (based n t) (mapped_declarator right d)).after
    (λ a. alike_declarator R one last h at to (based m s) (based n t) d (alike_map (λ q. (q, based_both R m n (k q))) a))
