-- What specifiers and declarators declare, where what stands is alike.
use Rattle.std.proofs.Common.{◌≡◌, ℕ, ◌+◌, ℤ, Bool, true, false, ◌||◌, if◌then◌else◌, Option, Some, None, option_map, List, [], ◌∷◌, ◌++◌, refl, ap, subst}
use Rattle.p10_base.specs.declared.at.At.{At}
use Rattle.p10_base.specs.declared.codes.SubsetCode.TheVariants as subset
use Rattle.p10_syn.specs.declared.sign.Sign.{Sign}
use Rattle.p10_syn.specs.declared.sign.Sign.TheVariants as sign
use Rattle.p10_syn.specs.Places.{nowhere}
use Rattle.p10_syn.specs.Trees.{Identifier, Absent, Present, Specifiers, NoSpecifiers, MoreSpecifiers, Specifier, Keyword, Typedef, Structure, Enumeration, Members, NoMembers, MoreMembers, MemberDeclaration, member_declaration, Fields, NoFields, MoreFields, Field, field, Enumerators, NoEnumerators, MoreEnumerators, Enumerator, enumerator, Declarator, Named, Unnamed, Pointer, Parenthesised, Array, Function, Parameters, NoParameters, MoreParameters, Parameter, parameter}
use Rattle.p10_core.specs.Types.{PlainType, PlainMember}
use Rattle.p10_core.specs.Rows.{int_type}
use Rattle.p10_elabx.specs.First.{every, only_first, lift}
use Rattle.p10_elabx.specs.Scopes.{local, unknown_name, named}
use Rattle.p10_elabx.specs.TypeNames.{said_of, nothing_specified, is_bad_mixture, typedef_rule, specifiers_at, declarator_place}
use Rattle.p10_elabx.proofs.Firsts.{kept_lift}
use Rattle.p10_elabd.specs.declared.declaration.ParameterList.{ParameterList}
use Rattle.p10_elabd.specs.declared.site.Site.{Site}
use Rattle.p10_elabd.specs.declared.site.Site.TheVariants as site_is
use Rattle.p10_elabd.specs.declared.site.Allowed.{Allowed}
use Rattle.p10_elabd.specs.Standing.{PlainStanding, Passed}
use Rattle.p10_elabd.specs.Words.{none_allowed, word_row}
use Rattle.p10_elabd.specs.Tagged.{structure_made, ended}
use Rattle.p10_elabd.specs.Members.{member_declared}
use Rattle.p10_elabd.specs.Shapes.{ListedParameter, DeclaredType, of_type, name_in, place_or, declares_function, declares_open_array, list_of, pointer_declared, element_declared, result_declared, parameter_declared, function_declared}
use Rattle.p10_elabd.specs.Declaring.{both_named, word_passed, stored_by, type_specified, unless_union, tag_passed, enumeration_by_name, one_enumerator_passed, enumerators_passed, first_constant, enumeration_passed, begun_with, with_parameter, Listing, none_listed, is_no_parameter, based, with_declared_parameter, specifiers_passed, specifier_passed, structure_passed, members_passed, member_passed, fields_passed, field_passed, declarator_passed, all_parameters_passed, only_parameter_passed, parameters_passed, one_parameter_passed, specified}
use Rattle.p10_refusals.proofs.Alike.{Alike, AlikePassed, with_kept, for_alike, followed, alike_with, alike_passed, alike_nothing, alike_made, alike_map, alike_refusing, alike_noted}
use Rattle.p10_refusals.proofs.Shaping.{alike_declaring, alike_row, alike_pointer, alike_element, alike_array, alike_array_inside, alike_open, alike_inside, alike_result, alike_parameter, alike_among, alike_function}
use Rattle.p10_refusals.proofs.Tagging.{AlikeBegun, alike_structure_named, alike_enumeration_named, alike_anew, alike_begun, alike_ended, alike_structure_made, alike_with_enumeration, alike_enumeration_begun, alike_member, alike_width, alike_with_member, alike_enumerator}

-- ## Pieces

alike_word : {s t : PlainStanding} (site : Site) (allowed : Allowed) (stored : Bool) (at : At) (word : Sign) → Alike s t →
    AlikePassed (Option PlainType) (word_passed every site allowed stored at word s) (word_passed only_first site allowed stored at word t)
alike_word site allowed stored at word a = record { made = refl; after = alike_row (word_row site allowed stored word) at a }

alike_type_specified : {p q : Passed (Option PlainType)} (specifiers : Specifiers At) → AlikePassed (Option PlainType) p q →
    AlikePassed PlainType (type_specified every specifiers p) (type_specified only_first specifiers q)
alike_type_specified {p = p} specifiers a = record {
  made = ap (λ m. (type_specified every specifiers (record { made = m; after = p.after })).made) a.made;
  after = alike_refusing (is_bad_mixture (said_of specifiers nothing_specified)) subset.BadSpecifier (specifiers_at nowhere specifiers) a.after;
}

alike_unless_union : {p q : Passed PlainType} (at : At) (word : Sign) → AlikePassed PlainType p q → AlikePassed PlainType (unless_union every at word p) (unless_union only_first at word q)
alike_unless_union at sign.Union a = alike_nothing (alike_refusing true subset.UnionOrBitField at a.after)
alike_unless_union at word a = a

alike_tag_passed : {s t : PlainStanding} (alone : Bool) (at : At) (word : Sign) (tag : Option (Identifier At)) → Alike s t →
    AlikePassed PlainType (tag_passed every alone at word tag s) (tag_passed only_first alone at word tag t)
alike_tag_passed alone at sign.Union tag a = alike_nothing (alike_refusing true subset.UnionOrBitField at a)
alike_tag_passed alone at word None a = alike_nothing a
alike_tag_passed alone at word (Some tag) a = alike_structure_named alone tag a

alike_enumeration_by_name : {s t : PlainStanding} (at : At) (tag : Option (Identifier At)) → Alike s t → AlikePassed PlainType (enumeration_by_name every at tag s) (enumeration_by_name only_first at tag t)
alike_enumeration_by_name at None a = alike_nothing a
alike_enumeration_by_name at (Some tag) a = alike_enumeration_named at tag a

alike_one_enumerator : {p q : Passed ℤ} (e : Enumerator At) → AlikePassed ℤ p q → AlikePassed ℤ (one_enumerator_passed every p e) (one_enumerator_passed only_first q e)
alike_one_enumerator (enumerator at name value) a =
    followed (AlikePassed ℤ) (λ m s. one_enumerator_passed every (record { made = m; after = s }) (enumerator at name value)) (λ m s. one_enumerator_passed only_first (record { made = m; after = s }) (enumerator at name value)) a
    (λ m. alike_enumerator m name value a.after)

alike_enumerators : {p q : Passed ℤ} (all : Enumerators At) → AlikePassed ℤ p q → AlikePassed ℤ (enumerators_passed every p all) (enumerators_passed only_first q all)
alike_enumerators NoEnumerators a = a
alike_enumerators {p = p} {q = q} (MoreEnumerators e rest) a =
    alike_enumerators {p = one_enumerator_passed every p e} {q = one_enumerator_passed only_first q e} rest (alike_one_enumerator {p = p} {q = q} e a)

alike_first_constant : {s t : PlainStanding} → Alike s t → AlikePassed ℤ (first_constant s) (first_constant t)
alike_first_constant a = record { made = refl; after = a }

alike_enumeration : {s t : PlainStanding} (at : At) (tag : Option (Identifier At)) (all : Enumerators At) → Alike s t →
    AlikePassed PlainType (enumeration_passed every at tag s all) (enumeration_passed only_first at tag t all)
alike_enumeration at tag NoEnumerators a = alike_enumeration_by_name at tag a
alike_enumeration at tag (MoreEnumerators e rest) a =
    alike_passed int_type (alike_with_enumeration tag (alike_enumerators (MoreEnumerators e rest) (alike_first_constant (alike_enumeration_begun tag a))).after)

alike_begun_with : {s t : PlainStanding} (word : Sign) (tag : Option (Identifier At)) → Alike s t → AlikeBegun (begun_with every word tag s) (begun_with only_first word tag t)
alike_begun_with sign.Union tag a = alike_anew None a
alike_begun_with word tag a = alike_begun tag a

alike_with_parameter : {s t : PlainStanding} (i : ℕ) (name : Option (Identifier At)) (u : Option PlainType) → Alike s t →
    Alike (with_parameter every i name u s) (with_parameter only_first i name u t)
alike_with_parameter i None u a = a
alike_with_parameter i (Some name) None a = alike_declaring name unknown_name a
alike_with_parameter i (Some name) (Some u) a = alike_declaring name (local i u false) a

pub alike_based : {s t : PlainStanding} (u : Option PlainType) → Alike s t → AlikePassed DeclaredType (based u s) (based u t)
alike_based u a = alike_made (option_map of_type u) a

-- the same is listed, and what stands is alike
pub record AlikeListing (p q : Listing) : Type 0 where
  pub parameters : p.parameters ≡ q.parameters
  pub after : Alike p.after q.after

alike_none_listed : {s t : PlainStanding} → Alike s t → AlikeListing (none_listed s) (none_listed t)
alike_none_listed a = record { parameters = refl; after = a }

listing_where : {p q x y : Listing} (b : Bool) → AlikeListing p x → AlikeListing q y → AlikeListing (if b then p else q) (if b then x else y)
listing_where true a b = a
listing_where false a b = b

alike_declared_parameter : {j k : Passed DeclaredType} (i : ℕ) (before after : List ListedParameter) (at : At) (d : Declarator At) → before ≡ after → AlikePassed DeclaredType j k →
    AlikeListing (with_declared_parameter every i before at d j) (with_declared_parameter only_first i after at d k)
alike_declared_parameter i before after at d e a =
    let b = alike_refusing (declares_function d) subset.BadPointer (declarator_place d) a.after in
    let u = followed (AlikePassed PlainType) (parameter_declared every at (place_or at (name_in d))) (parameter_declared only_first at (place_or at (name_in d))) (alike_with a b)
    (λ m. alike_parameter at (place_or at (name_in d)) m b) in
    record {
      parameters = λ n. e n ++ record { at = at; name = name_in d; type = u.made n } ∷ [];
      after = followed Alike (λ m s. with_parameter every i (name_in d) m s) (λ m s. with_parameter only_first i (name_in d) m s) u (λ m. alike_with_parameter i (name_in d) m u.after);
    }

alike_typedef : {s t : PlainStanding} (name : Identifier At) → Alike s t →
    AlikePassed (Option PlainType) (specifier_passed every site_is.Outside none_allowed false false s (Typedef name)) (specifier_passed only_first site_is.Outside none_allowed false false t (Typedef name))
alike_typedef {s = s} {t = t} name a =
    for_alike (λ t. AlikePassed (Option PlainType) (specifier_passed every site_is.Outside none_allowed false false s (Typedef name)) (specifier_passed only_first site_is.Outside none_allowed false false t (Typedef name))) s t
    (λ ps k. alike_noted (lift (typedef_rule name.place (named s.scope name.name))) (lift (typedef_rule name.place (named s.scope name.name))) (kept_lift (typedef_rule name.place (named s.scope name.name))) (with_kept s ps k)) a

alike_named_by : {p q : Passed PlainType} → AlikePassed PlainType p q →
    AlikePassed (Option PlainType) (record { made = option_map (λ t. Some t) p.made; after = p.after }) (record { made = option_map (λ t. Some t) q.made; after = q.after })
alike_named_by a = alike_map (λ o. option_map (λ t. Some t) o) a

-- a structure by its number
alike_structure_with : {s t : PlainStanding} (at : At) (tag : Option (Identifier At)) (n m : ℕ) (members : Option (List PlainMember)) → n ≡ m → Alike s t →
    AlikePassed PlainType (structure_made every at tag n members (ended s)) (structure_made only_first at tag m members (ended t))
alike_structure_with {s = s} {t = t} at tag n m members e a =
    subst (λ x. AlikePassed PlainType (structure_made every at tag n members (ended s)) (structure_made only_first at tag x members (ended t))) e (alike_structure_made at tag n members (alike_ended a))

-- a function by its result and its parameters
alike_function_by : {r x : Passed PlainType} {q y : Listing} (list : ParameterList) → AlikePassed PlainType r x → AlikeListing q y →
    AlikePassed DeclaredType (function_declared list r.made q.parameters q.after) (function_declared list x.made y.parameters y.after)
alike_function_by {r = r} {q = q} {y = y} list a b =
    subst (λ z. AlikePassed DeclaredType (function_declared list r.made q.parameters q.after) (function_declared list z y.parameters y.after)) a.made
    (subst (λ ps. AlikePassed DeclaredType (function_declared list r.made q.parameters q.after) (function_declared list r.made ps y.after)) b.parameters (alike_function list r.made q.parameters b.after))

-- ## The trees

mutual
  pub alike_specifiers : {p q : Passed (Option PlainType)} (site : Site) (allowed : Allowed) (alone stored : Bool) (all : Specifiers At) → AlikePassed (Option PlainType) p q →
      AlikePassed (Option PlainType) (specifiers_passed every site allowed alone stored p all) (specifiers_passed only_first site allowed alone stored q all)
  alike_specifiers site allowed alone stored NoSpecifiers a = a
  alike_specifiers site allowed alone stored (MoreSpecifiers one rest) a =
      let b = alike_specifier site allowed alone stored one a.after in
      alike_specifiers site allowed alone (stored_by stored one) rest (record { made = λ i. both_named (a.made i) (b.made i); after = b.after })

  alike_specifier : {s t : PlainStanding} (site : Site) (allowed : Allowed) (alone stored : Bool) (one : Specifier At) → Alike s t →
      AlikePassed (Option PlainType) (specifier_passed every site allowed alone stored s one) (specifier_passed only_first site allowed alone stored t one)
  alike_specifier site allowed alone stored (Keyword at word) a = alike_word site allowed stored at word a
  alike_specifier site allowed alone stored (Typedef name) a = alike_typedef name a
  alike_specifier site allowed alone stored (Structure at word tag members) a = alike_named_by (alike_structure alone at word tag members a)
  alike_specifier site allowed alone stored (Enumeration at tag enumerators comma) a = alike_named_by (alike_enumeration at tag enumerators a)

  alike_structure : {s t : PlainStanding} (alone : Bool) (at : At) (word : Sign) (tag : Option (Identifier At)) (members : Members At) → Alike s t →
      AlikePassed PlainType (structure_passed every alone at word tag s members) (structure_passed only_first alone at word tag t members)
  alike_structure alone at word tag NoMembers a = alike_tag_passed alone at word tag a
  alike_structure {s = s} {t = t} alone at word tag (MoreMembers m rest) a =
      let b = alike_begun_with word tag a in
      let p = alike_members rest (alike_one_member m (alike_passed [] b.standing)) in
      alike_unless_union at word
      (followed (AlikePassed PlainType) (λ made z. structure_made every at tag (begun_with every word tag s).number made (ended z)) (λ made z. structure_made only_first at tag (begun_with only_first word tag t).number made (ended z)) p
      (λ made. alike_structure_with at tag (begun_with every word tag s).number (begun_with only_first word tag t).number made b.number p.after))

  alike_members : {p q : Passed (List PlainMember)} (all : Members At) → AlikePassed (List PlainMember) p q → AlikePassed (List PlainMember) (members_passed every p all) (members_passed only_first q all)
  alike_members NoMembers a = a
  alike_members {p = p} {q = q} (MoreMembers m rest) a =
      alike_members {p = member_passed every p m} {q = member_passed only_first q m} rest (alike_one_member {p = p} {q = q} m a)

  alike_one_member : {p q : Passed (List PlainMember)} (m : MemberDeclaration At) → AlikePassed (List PlainMember) p q → AlikePassed (List PlainMember) (member_passed every p m) (member_passed only_first q m)
  alike_one_member {p = p} {q = q} (member_declaration at specifiers fields) a =
      let u = alike_type_specified specifiers (alike_specifiers site_is.OfMembers none_allowed false false specifiers (alike_passed None a.after)) in
      followed (AlikePassed (List PlainMember)) (λ m s. fields_passed every m (record { made = p.made; after = s }) fields) (λ m s. fields_passed only_first m (record { made = q.made; after = s }) fields) u
      (λ m. alike_fields m fields (record { made = a.made; after = u.after }))

  alike_fields : {p q : Passed (List PlainMember)} (u : Option PlainType) (all : Fields At) → AlikePassed (List PlainMember) p q → AlikePassed (List PlainMember) (fields_passed every u p all) (fields_passed only_first u q all)
  alike_fields u NoFields a = a
  alike_fields {p = p} {q = q} u (MoreFields f rest) a =
      alike_fields {p = field_passed every u p f} {q = field_passed only_first u q f} u rest (alike_field {p = p} {q = q} u f a)

  alike_field : {p q : Passed (List PlainMember)} (u : Option PlainType) (f : Field At) → AlikePassed (List PlainMember) p q → AlikePassed (List PlainMember) (field_passed every u p f) (field_passed only_first u q f)
  alike_field {p = p} {q = q} u (field at d width) a =
      let name_at : At = place_or (declarator_place d) (name_in d) in
      let j = alike_declarator name_at d (alike_based u (alike_width (declarator_place d) width a.after)) in
      let b = alike_refusing (declares_function d || declares_open_array d) subset.IncompleteType name_at j.after in
      alike_with_member name_at p.made q.made (name_in d) a.made
      (followed (AlikePassed PlainType) (member_declared every name_at) (member_declared only_first name_at) (alike_with j b) (λ m. alike_member name_at m b))

  pub alike_declarator : {p q : Passed DeclaredType} (name_at : At) (d : Declarator At) → AlikePassed DeclaredType p q → AlikePassed DeclaredType (declarator_passed every name_at p d) (declarator_passed only_first name_at q d)
  alike_declarator name_at (Named name) a = a
  alike_declarator name_at (Unnamed at) a = a
  alike_declarator name_at (Pointer at qualifiers d) a =
      alike_declarator name_at d
      (followed (AlikePassed DeclaredType) (pointer_declared every at name_at qualifiers) (pointer_declared only_first at name_at qualifiers) a (λ m. alike_pointer at name_at qualifiers m a.after))
  alike_declarator name_at (Parenthesised at d) a = alike_declarator name_at d a
  alike_declarator name_at (Array at d brackets Absent) a =
      let b = alike_array_inside name_at true d a.after in
      alike_declarator name_at d (alike_open (followed (AlikePassed PlainType) (element_declared every name_at) (element_declared only_first name_at) (alike_with a b) (λ m. alike_element name_at m b)))
  alike_declarator name_at (Array at d brackets (Present e)) a =
      let b = alike_array_inside name_at false d a.after in
      alike_declarator name_at d (alike_array e (followed (AlikePassed PlainType) (element_declared every name_at) (element_declared only_first name_at) (alike_with a b) (λ m. alike_element name_at m b)))
  alike_declarator name_at (Function at d parentheses all more) a =
      let r = followed (AlikePassed PlainType) (result_declared every at name_at) (result_declared only_first at name_at) a (λ m. alike_result at name_at m a.after) in
      alike_declarator name_at d (alike_function_by (list_of all more) r (alike_all_parameters parentheses all (alike_among (alike_inside name_at d (alike_refusing more subset.NoPrototype parentheses r.after)))))

  alike_all_parameters : {s t : PlainStanding} (at : At) (all : Parameters At) → Alike s t → AlikeListing (all_parameters_passed every s at all) (all_parameters_passed only_first t at all)
  alike_all_parameters at NoParameters a = alike_none_listed (alike_refusing true subset.NoPrototype at a)
  alike_all_parameters at (MoreParameters one NoParameters) a = alike_only_parameter one a
  alike_all_parameters at (MoreParameters one rest) a = alike_parameters 1 rest (alike_one_parameter 0 one (alike_none_listed a))

  alike_only_parameter : {s t : PlainStanding} (one : Parameter At) → Alike s t → AlikeListing (only_parameter_passed every s one) (only_parameter_passed only_first t one)
  alike_only_parameter (parameter at specifiers d) a =
      let u = alike_type_specified specifiers (alike_specifiers site_is.OfParameter none_allowed false false specifiers (alike_passed None a)) in
      followed AlikeListing
      (λ m s. if is_no_parameter d m then none_listed s else with_declared_parameter every 0 [] at d (declarator_passed every (place_or at (name_in d)) (based m s) d))
      (λ m s. if is_no_parameter d m then none_listed s else with_declared_parameter only_first 0 [] at d (declarator_passed only_first (place_or at (name_in d)) (based m s) d)) u
      (λ m. listing_where (is_no_parameter d m) (alike_none_listed u.after) (alike_declared_parameter 0 [] [] at d refl (alike_declarator (place_or at (name_in d)) d (alike_based m u.after))))

  alike_parameters : {p q : Listing} (i : ℕ) (all : Parameters At) → AlikeListing p q → AlikeListing (parameters_passed every i p all) (parameters_passed only_first i q all)
  alike_parameters i NoParameters a = a
  alike_parameters {p = p} {q = q} i (MoreParameters one rest) a =
      alike_parameters {p = one_parameter_passed every i p one} {q = one_parameter_passed only_first i q one} (i + 1) rest (alike_one_parameter {p = p} {q = q} i one a)

  alike_one_parameter : {p q : Listing} (i : ℕ) (one : Parameter At) → AlikeListing p q → AlikeListing (one_parameter_passed every i p one) (one_parameter_passed only_first i q one)
  alike_one_parameter {p = p} {q = q} i (parameter at specifiers d) a =
      let u = alike_type_specified specifiers (alike_specifiers site_is.OfParameter none_allowed false false specifiers (alike_passed None a.after)) in
      followed AlikeListing
      (λ m s. with_declared_parameter every i p.parameters at d (declarator_passed every (place_or at (name_in d)) (based m s) d))
      (λ m s. with_declared_parameter only_first i q.parameters at d (declarator_passed only_first (place_or at (name_in d)) (based m s) d)) u
      (λ m. alike_declared_parameter i p.parameters q.parameters at d a.parameters (alike_declarator (place_or at (name_in d)) d (alike_based m u.after)))

pub alike_specified : {s t : PlainStanding} (site : Site) (allowed : Allowed) (alone : Bool) (all : Specifiers At) → Alike s t →
    AlikePassed PlainType (specified every site allowed alone s all) (specified only_first site allowed alone t all)
alike_specified site allowed alone all a = alike_type_specified all (alike_specifiers site allowed alone false all (alike_passed None a))
