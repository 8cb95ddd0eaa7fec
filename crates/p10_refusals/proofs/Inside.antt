-- Rows of the declarators of members and parameters are told of the declarations in which they stand.
use Rattle.std.specs.Prelude.{◌≡◌, refl, ℕ, ◌+◌, ℤ, Bool, true, false, ◌||◌, if◌then◌else◌, List, [], Option, None}
use Rattle.std.proofs.Common.{inl, inr, sym, subst}
use Rattle.p10_base.specs.declared.at.At.{At}
use Rattle.p10_base.specs.declared.codes.SubsetCode.TheVariants as subset
use Rattle.p10_syn.specs.Trees.{Specifiers, NoSpecifiers, MoreSpecifiers, Specifier, Keyword, Typedef, Structure, Enumeration, Enumerators, NoEnumerators, MoreEnumerators, Members, NoMembers, MoreMembers, MemberDeclaration, member_declaration, Fields, NoFields, MoreFields, Field, field, Absent, Present, Declarator, Named, Unnamed, Pointer, Parenthesised, Array, Function, Parameters, NoParameters, MoreParameters, Parameter, parameter}
use Rattle.p10_core.specs.Types.{PlainType, PlainMember}
use Rattle.p10_elabx.specs.declared.problem.Problem.{Problem}
use Rattle.p10_elabx.specs.First.{Among, every}
use Rattle.p10_elabx.specs.TypeNames.{declarator_place}
use Rattle.p10_elabd.specs.Laws.{elements_in, LengthsAreTold, FormRowsAreTold}
use Rattle.p10_elabd.specs.Standing.{PlainStanding, Passed, passed, refusing}
use Rattle.p10_elabd.specs.Words.{none_allowed}
use Rattle.p10_elabd.specs.declared.site.Site.{Site}
use Rattle.p10_elabd.specs.declared.site.Site.TheVariants as site_is
use Rattle.p10_elabd.specs.declared.site.Allowed.{Allowed}
use Rattle.p10_elabd.specs.Tagged.{ended, structure_made, enumeration_begun}
use Rattle.p10_elabd.specs.Members.{is_member, member_declared, with_member, with_width}
use Rattle.p10_elabd.specs.Shapes.{ListedParameter, DeclaredType, name_in, place_or, declares_function, declares_open_array, pointer_declared, element_declared, array_inside, array_declared, open_declared, function_inside, result_declared, among_parameters, parameter_declared}
use Rattle.p10_elabd.specs.Declaring.{both_named, stored_by, type_specified, one_enumerator_passed, enumerators_passed, first_constant, begun_with, Listing, none_listed, is_no_parameter, based, with_declared_parameter, specifiers_passed, specifier_passed, members_passed, member_passed, fields_passed, field_passed, declarator_passed, all_parameters_passed, only_parameter_passed, parameters_passed, one_parameter_passed}
use Rattle.p10_refusals.specs.Forms.{function_made_of}
use Rattle.p10_refusals.specs.Inside.{IsRowOf, is_prototype_list, type_reached, parameters_reached, IsInEnumerators, IsInSpecifiers, IsInSpecifier, IsInMembers, IsInMember, IsInFields, IsInField, IsInDeclarator, IsInAllParameters, IsInParameters, IsInParameter}
use Rattle.p10_elabd.proofs.Growing.{Grows, as_before, grows_on, grows_refusing, listed_either, grows_made, grows_unless_union, grows_enumerators, grows_with_enumeration, grows_members, grows_fields, grows_specifiers, grows_type_specified, grows_member, grows_declarator, grows_function_inside, grows_all_parameters, grows_parameters, grows_parameter, grows_with_parameter}
use Rattle.p10_refusals.proofs.Growing.{refusing_told}
use Rattle.p10_refusals.proofs.Lengths.{length_told}

-- ## What follows a part

-- a member after its declarator, which is no function and no array without a length
abbrev member_formed : At → Declarator At → PlainStanding → PlainStanding
member_formed name_at d s = refusing every (declares_function d || declares_open_array d) subset.IncompleteType name_at s

after_form : (p : Passed (List PlainMember)) (name_at : At) (d : Declarator At) (j : Passed DeclaredType) →
    Grows (member_formed name_at d j.after) (with_member every name_at p.made (name_in d) (member_declared every name_at j.made (member_formed name_at d j.after))).after
after_form p name_at d j =
    let s : PlainStanding = member_formed name_at d j.after in
    grows_on (grows_member name_at j.made s) (grows_refusing (is_member p.made (name_in d)) subset.DefinedTwice name_at (member_declared every name_at j.made s).after)

-- the rest of a member after its declarator
after_field : (p : Passed (List PlainMember)) (name_at : At) (d : Declarator At) (j : Passed DeclaredType) →
    Grows j.after (with_member every name_at p.made (name_in d) (member_declared every name_at j.made (member_formed name_at d j.after))).after
after_field p name_at d j = grows_on (grows_refusing (declares_function d || declares_open_array d) subset.IncompleteType name_at j.after) (after_form p name_at d j)

-- a parameter after its declarator, which is no function
abbrev parameter_formed : Declarator At → PlainStanding → PlainStanding
parameter_formed d s = refusing every (declares_function d) subset.BadPointer (declarator_place d) s

after_declared : (i : ℕ) (before : List ListedParameter) (at : At) (d : Declarator At) (j : Passed DeclaredType) → Grows (parameter_formed d j.after) (with_declared_parameter every i before at d j).after
after_declared i before at d j =
    let u : Passed PlainType = parameter_declared every at (place_or at (name_in d)) j.made (parameter_formed d j.after) in
    grows_on (grows_parameter at (place_or at (name_in d)) j.made (parameter_formed d j.after)) (grows_with_parameter i (name_in d) u.made u.after)

-- a parameter that stands alone, after its declarator
after_only : (at : At) (d : Declarator At) (t : Option PlainType) (s : PlainStanding) →
    Grows (parameter_formed d (declarator_passed every (place_or at (name_in d)) (based t s) d).after)
    (if is_no_parameter d t then none_listed s else with_declared_parameter every 0 [] at d (declarator_passed every (place_or at (name_in d)) (based t s) d)).after
after_only at (Unnamed a) t s =
    listed_either (is_no_parameter (Unnamed a) t) s (none_listed s) (with_declared_parameter every 0 [] at (Unnamed a) (based t s)) (as_before s) (after_declared 0 [] at (Unnamed a) (based t s))
after_only at (Named name) t s = after_declared 0 [] at (Named name) (based t s)
after_only at (Pointer a qualifiers d) t s =
    after_declared 0 [] at (Pointer a qualifiers d) (declarator_passed every (place_or at (name_in (Pointer a qualifiers d))) (based t s) (Pointer a qualifiers d))
after_only at (Parenthesised a d) t s =
    after_declared 0 [] at (Parenthesised a d) (declarator_passed every (place_or at (name_in (Parenthesised a d))) (based t s) (Parenthesised a d))
after_only at (Array a d brackets length) t s =
    after_declared 0 [] at (Array a d brackets length) (declarator_passed every (place_or at (name_in (Array a d brackets length))) (based t s) (Array a d brackets length))
after_only at (Function a d parentheses all more) t s =
    after_declared 0 [] at (Function a d parentheses all more) (declarator_passed every (place_or at (name_in (Function a d parentheses all more))) (based t s) (Function a d parentheses all more))

-- where a parameter comes to the end of its declarator
abbrev parameter_reached : PlainStanding → Parameter At → PlainStanding
parameter_reached s (parameter at specifiers d) =
    let t : Passed PlainType = type_reached site_is.OfParameter s specifiers in
    parameter_formed d (declarator_passed every (place_or at (name_in d)) (based t.made t.after) d).after

after_only_parameter : (s : PlainStanding) (one : Parameter At) → Grows (parameter_reached s one) (only_parameter_passed every s one).after
after_only_parameter s (parameter at specifiers d) =
    let t : Passed PlainType = type_reached site_is.OfParameter s specifiers in
    after_only at d t.made t.after

after_parameter : (i : ℕ) (p : Listing) (one : Parameter At) → Grows (parameter_reached p.after one) (one_parameter_passed every i p one).after
after_parameter i p (parameter at specifiers d) =
    let t : Passed PlainType = type_reached site_is.OfParameter p.after specifiers in
    after_declared i p.parameters at d (declarator_passed every (place_or at (name_in d)) (based t.made t.after) d)

-- a row of one declarator
pub row_told : LengthsAreTold → FormRowsAreTold → (name_at : At) (p : Passed DeclaredType) (d : Declarator At) (r : Problem) → IsRowOf name_at p d r → Among r (declarator_passed every name_at p d).after.problems
row_told lengths forms name_at p d r (inl h) = forms.told name_at p d r h
row_told lengths forms name_at p d r (inr h) = length_told lengths name_at p d r h

-- a row of a list of parameters
list_told : (name_at : At) (d : Declarator At) (parentheses : At) (all : Parameters At) (more : Bool) (s : PlainStanding) → is_prototype_list all more ≡ false →
    Among (record { code = subset.NoPrototype; at = parentheses })
    (all_parameters_passed every (among_parameters (function_inside every name_at d (refusing every more subset.NoPrototype parentheses s))) parentheses all).after.problems
list_told name_at d parentheses NoParameters more s h =
    refusing_told true subset.NoPrototype parentheses (among_parameters (function_inside every name_at d (refusing every more subset.NoPrototype parentheses s))) refl
list_told name_at d parentheses (MoreParameters one rest) true s h =
    let t : PlainStanding = refusing every true subset.NoPrototype parentheses s in
    (grows_all_parameters (among_parameters (function_inside every name_at d t)) parentheses (MoreParameters one rest)).among (record { code = subset.NoPrototype; at = parentheses })
    ((grows_function_inside name_at d t).among (record { code = subset.NoPrototype; at = parentheses }) (refusing_told true subset.NoPrototype parentheses s refl))
list_told name_at d parentheses (MoreParameters one rest) false s h = absurd cc

-- a row of a constant of an enumeration
enumerators_told : (p : Passed ℤ) (all : Enumerators At) (r : Problem) → IsInEnumerators p all r → Among r (enumerators_passed every p all).after.problems
enumerators_told p NoEnumerators r h = absurd h
enumerators_told p (MoreEnumerators e rest) r (inl h) = (grows_enumerators (one_enumerator_passed every p e) rest).among r h
enumerators_told p (MoreEnumerators e rest) r (inr h) = enumerators_told (one_enumerator_passed every p e) rest r h

-- ## The trees

mutual
  pub specifiers_told : LengthsAreTold → FormRowsAreTold → (site : Site) (allowed : Allowed) (alone stored : Bool) (p : Passed (Option PlainType)) (all : Specifiers At) (r : Problem) →
      IsInSpecifiers site allowed alone stored p all r → Among r (specifiers_passed every site allowed alone stored p all).after.problems
  specifiers_told lengths forms site allowed alone stored p NoSpecifiers r h = absurd h
  specifiers_told lengths forms site allowed alone stored p (MoreSpecifiers one rest) r (inl h) =
      let q : Passed (Option PlainType) = specifier_passed every site allowed alone stored p.after one in
      (grows_specifiers site allowed alone (stored_by stored one) (record { made = both_named p.made q.made; after = q.after }) rest).among r
      (specifier_told lengths forms site allowed alone stored p.after one r h)
  specifiers_told lengths forms site allowed alone stored p (MoreSpecifiers one rest) r (inr h) =
      let q : Passed (Option PlainType) = specifier_passed every site allowed alone stored p.after one in
      specifiers_told lengths forms site allowed alone (stored_by stored one) (record { made = both_named p.made q.made; after = q.after }) rest r h

  specifier_told : LengthsAreTold → FormRowsAreTold → (site : Site) (allowed : Allowed) (alone stored : Bool) (s : PlainStanding) (one : Specifier At) (r : Problem) →
      IsInSpecifier s one r → Among r (specifier_passed every site allowed alone stored s one).after.problems
  specifier_told lengths forms site allowed alone stored s (Keyword at word) r h = absurd h
  specifier_told lengths forms site allowed alone stored s (Typedef name) r h = absurd h
  specifier_told lengths forms site allowed alone stored s (Structure at word tag NoMembers) r h = absurd h
  specifier_told lengths forms site allowed alone stored s (Structure at word tag (MoreMembers m rest)) r h =
      let n : ℕ = (begun_with every word tag s).number in
      let b : Passed (List PlainMember) = passed [] (begun_with every word tag s).standing in
      let p : Passed (List PlainMember) = members_passed every (member_passed every b m) rest in
      (grows_on (grows_made at tag n p.made (ended p.after)) (grows_unless_union at word (structure_made every at tag n p.made (ended p.after)))).among r
      (members_told lengths forms b (MoreMembers m rest) r h)
  specifier_told lengths forms site allowed alone stored s (Enumeration at tag NoEnumerators comma) r h = absurd h
  specifier_told lengths forms site allowed alone stored s (Enumeration at tag (MoreEnumerators e rest) comma) r h =
      let p : Passed ℤ = first_constant (enumeration_begun every tag s) in
      (grows_with_enumeration tag (enumerators_passed every p (MoreEnumerators e rest)).after).among r (enumerators_told p (MoreEnumerators e rest) r h)

  members_told : LengthsAreTold → FormRowsAreTold → (p : Passed (List PlainMember)) (all : Members At) (r : Problem) → IsInMembers p all r → Among r (members_passed every p all).after.problems
  members_told lengths forms p NoMembers r h = absurd h
  members_told lengths forms p (MoreMembers m rest) r (inl h) = (grows_members (member_passed every p m) rest).among r (member_told lengths forms p m r h)
  members_told lengths forms p (MoreMembers m rest) r (inr h) = members_told lengths forms (member_passed every p m) rest r h

  member_told : LengthsAreTold → FormRowsAreTold → (p : Passed (List PlainMember)) (m : MemberDeclaration At) (r : Problem) → IsInMember p m r → Among r (member_passed every p m).after.problems
  member_told lengths forms p (member_declaration at specifiers fields) r (inl h) =
      let q : Passed (Option PlainType) = specifiers_passed every site_is.OfMembers none_allowed false false (passed None p.after) specifiers in
      let t : Passed PlainType = type_specified every specifiers q in
      (grows_on (grows_type_specified specifiers q) (grows_fields t.made (record { made = p.made; after = t.after }) fields)).among r
      (specifiers_told lengths forms site_is.OfMembers none_allowed false false (passed None p.after) specifiers r h)
  member_told lengths forms p (member_declaration at specifiers fields) r (inr h) =
      let t : Passed PlainType = type_reached site_is.OfMembers p.after specifiers in
      fields_told lengths forms t.made (record { made = p.made; after = t.after }) fields r h

  fields_told : LengthsAreTold → FormRowsAreTold → (t : Option PlainType) (p : Passed (List PlainMember)) (all : Fields At) (r : Problem) → IsInFields t p all r → Among r (fields_passed every t p all).after.problems
  fields_told lengths forms t p NoFields r h = absurd h
  fields_told lengths forms t p (MoreFields f rest) r (inl h) = (grows_fields t (field_passed every t p f) rest).among r (field_told lengths forms t p f r h)
  fields_told lengths forms t p (MoreFields f rest) r (inr h) = fields_told lengths forms t (field_passed every t p f) rest r h

  field_told : LengthsAreTold → FormRowsAreTold → (t : Option PlainType) (p : Passed (List PlainMember)) (f : Field At) (r : Problem) → IsInField t p f r → Among r (field_passed every t p f).after.problems
  field_told lengths forms t p (field at d width) r (inl h) =
      let name_at : At = place_or (declarator_place d) (name_in d) in
      let b : Passed DeclaredType = based t (with_width every (declarator_place d) width p.after) in
      (after_field p name_at d (declarator_passed every name_at b d)).among r (row_told lengths forms name_at b d r h)
  field_told lengths forms t p (field at d width) r (inr (inl (formed, e))) =
      let name_at : At = place_or (declarator_place d) (name_in d) in
      let j : Passed DeclaredType = declarator_passed every name_at (based t (with_width every (declarator_place d) width p.after)) d in
      (after_form p name_at d j).among r
      (subst (λ x. Among x (member_formed name_at d j.after).problems) (sym e) (refusing_told (declares_function d || declares_open_array d) subset.IncompleteType name_at j.after formed))
  field_told lengths forms t p (field at d width) r (inr (inr h)) =
      let name_at : At = place_or (declarator_place d) (name_in d) in
      let b : Passed DeclaredType = based t (with_width every (declarator_place d) width p.after) in
      (after_field p name_at d (declarator_passed every name_at b d)).among r (inside_told lengths forms name_at b d r h)

  pub inside_told : LengthsAreTold → FormRowsAreTold → (name_at : At) (p : Passed DeclaredType) (d : Declarator At) (r : Problem) → IsInDeclarator name_at p d r →
      Among r (declarator_passed every name_at p d).after.problems
  inside_told lengths forms name_at p (Named name) r h = absurd h
  inside_told lengths forms name_at p (Unnamed at) r h = absurd h
  inside_told lengths forms name_at p (Pointer at qualifiers d) r h = inside_told lengths forms name_at (pointer_declared every at name_at qualifiers p.made p.after) d r h
  inside_told lengths forms name_at p (Parenthesised at d) r h = inside_told lengths forms name_at p d r h
  inside_told lengths forms name_at p (Array at d brackets Absent) r h =
      inside_told lengths forms name_at (open_declared (element_declared every name_at p.made (array_inside every name_at true d p.after))) d r h
  inside_told lengths forms name_at p (Array at d brackets (Present e)) r h = inside_told lengths forms name_at (array_declared every e (elements_in name_at p d)) d r h
  inside_told lengths forms name_at p (Function at d parentheses all more) r (inl (h, e)) =
      let s : PlainStanding = (result_declared every at name_at p.made p.after).after in
      (grows_declarator name_at (function_made_of name_at at p d parentheses all more) d).among r
      (subst (λ x. Among x (all_parameters_passed every (among_parameters (function_inside every name_at d (refusing every more subset.NoPrototype parentheses s))) parentheses all).after.problems) (sym e)
      (list_told name_at d parentheses all more s h))
  inside_told lengths forms name_at p (Function at d parentheses all more) r (inr (inl h)) =
      (grows_declarator name_at (function_made_of name_at at p d parentheses all more) d).among r
      (all_parameters_told lengths forms (parameters_reached name_at at p d parentheses more) parentheses all r h)
  inside_told lengths forms name_at p (Function at d parentheses all more) r (inr (inr h)) = inside_told lengths forms name_at (function_made_of name_at at p d parentheses all more) d r h

  all_parameters_told : LengthsAreTold → FormRowsAreTold → (s : PlainStanding) (at : At) (all : Parameters At) (r : Problem) → IsInAllParameters s all r →
      Among r (all_parameters_passed every s at all).after.problems
  all_parameters_told lengths forms s at NoParameters r h = absurd h
  all_parameters_told lengths forms s at (MoreParameters one NoParameters) r (inl h) = (after_only_parameter s one).among r (parameter_told lengths forms s one r h)
  all_parameters_told lengths forms s at (MoreParameters one NoParameters) r (inr h) = absurd h
  all_parameters_told lengths forms s at (MoreParameters one (MoreParameters two rest)) r (inl h) =
      (grows_parameters 1 (one_parameter_passed every 0 (none_listed s) one) (MoreParameters two rest)).among r
      ((after_parameter 0 (none_listed s) one).among r (parameter_told lengths forms s one r h))
  all_parameters_told lengths forms s at (MoreParameters one (MoreParameters two rest)) r (inr h) =
      parameters_told lengths forms 1 (one_parameter_passed every 0 (none_listed s) one) (MoreParameters two rest) r h

  parameters_told : LengthsAreTold → FormRowsAreTold → (i : ℕ) (p : Listing) (all : Parameters At) (r : Problem) → IsInParameters i p all r → Among r (parameters_passed every i p all).after.problems
  parameters_told lengths forms i p NoParameters r h = absurd h
  parameters_told lengths forms i p (MoreParameters one rest) r (inl h) =
      (grows_parameters (i + 1) (one_parameter_passed every i p one) rest).among r
      ((after_parameter i p one).among r (parameter_told lengths forms p.after one r h))
  parameters_told lengths forms i p (MoreParameters one rest) r (inr h) = parameters_told lengths forms (i + 1) (one_parameter_passed every i p one) rest r h

  -- a parameter up to its declarator
  parameter_told : LengthsAreTold → FormRowsAreTold → (s : PlainStanding) (one : Parameter At) (r : Problem) → IsInParameter s one r → Among r (parameter_reached s one).problems
  parameter_told lengths forms s (parameter at specifiers d) r (inl h) =
      let q : Passed (Option PlainType) = specifiers_passed every site_is.OfParameter none_allowed false false (passed None s) specifiers in
      let t : Passed PlainType = type_specified every specifiers q in
      let j : Passed DeclaredType = declarator_passed every (place_or at (name_in d)) (based t.made t.after) d in
      (grows_refusing (declares_function d) subset.BadPointer (declarator_place d) j.after).among r
      ((grows_on (grows_type_specified specifiers q) (grows_declarator (place_or at (name_in d)) (based t.made t.after) d)).among r
      (specifiers_told lengths forms site_is.OfParameter none_allowed false false (passed None s) specifiers r h))
  parameter_told lengths forms s (parameter at specifiers d) r (inr (inl h)) =
      let t : Passed PlainType = type_reached site_is.OfParameter s specifiers in
      let j : Passed DeclaredType = declarator_passed every (place_or at (name_in d)) (based t.made t.after) d in
      (grows_refusing (declares_function d) subset.BadPointer (declarator_place d) j.after).among r
      (row_told lengths forms (place_or at (name_in d)) (based t.made t.after) d r h)
  parameter_told lengths forms s (parameter at specifiers d) r (inr (inr (inl (formed, e)))) =
      let t : Passed PlainType = type_reached site_is.OfParameter s specifiers in
      let j : Passed DeclaredType = declarator_passed every (place_or at (name_in d)) (based t.made t.after) d in
      subst (λ x. Among x (parameter_formed d j.after).problems) (sym e) (refusing_told (declares_function d) subset.BadPointer (declarator_place d) j.after formed)
  parameter_told lengths forms s (parameter at specifiers d) r (inr (inr (inr h))) =
      let t : Passed PlainType = type_reached site_is.OfParameter s specifiers in
      let j : Passed DeclaredType = declarator_passed every (place_or at (name_in d)) (based t.made t.after) d in
      (grows_refusing (declares_function d) subset.BadPointer (declarator_place d) j.after).among r
      (inside_told lengths forms (place_or at (name_in d)) (based t.made t.after) d r h)
