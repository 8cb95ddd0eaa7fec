-- Specifiers and declarators, by steps.
use Rattle.std.proofs.Common.{ℕ, ◌+◌, Bool, true, false, ◌||◌, List, [], length, Option, Some, None}
use Rattle.p10_base.specs.declared.at.At.{At}
use Rattle.p10_base.specs.declared.codes.SubsetCode.TheVariants as subset
use Rattle.p10_syn.specs.declared.sign.Sign.{Sign}
use Rattle.p10_syn.specs.declared.sign.Sign.TheVariants as sign
use Rattle.p10_syn.specs.Places.{nowhere}
use Rattle.p10_syn.specs.Trees.{Identifier, Absent, Present, Specifiers, NoSpecifiers, MoreSpecifiers, Specifier, Keyword, Typedef, Structure, Enumeration, Members, NoMembers, MoreMembers, MemberDeclaration, member_declaration, Fields, NoFields, MoreFields, Field, field, Declarator, Named, Unnamed, Pointer, Parenthesised, Array, Function, Parameters, NoParameters, MoreParameters, Parameter, parameter}
use Rattle.p10_core.specs.Types.{PlainType, PlainMember}
use Rattle.p10_elabx.specs.First.{Keep, lift}
use Rattle.p10_elabx.specs.Scopes.{named}
use Rattle.p10_elabx.specs.TypeNames.{said_of, nothing_specified, is_bad_mixture, typedef_rule, specifiers_at, declarator_place}
use Rattle.p10_elabd.specs.declared.site.Site.{Site}
use Rattle.p10_elabd.specs.declared.site.Site.TheVariants as site_is
use Rattle.p10_elabd.specs.declared.site.Allowed.{Allowed}
use Rattle.p10_elabd.specs.Standing.{PlainStanding, Passed, passed, refusing}
use Rattle.p10_elabd.specs.Words.{none_allowed, word_row}
use Rattle.p10_elabd.specs.Tagged.{ended, structure_made}
use Rattle.p10_elabd.specs.Members.{member_declared, with_width, is_member}
use Rattle.p10_elabd.specs.Shapes.{DeclaredType, name_in, place_or, declares_function, declares_open_array, pointer_declared, element_declared, array_declared, open_declared, array_inside, function_inside, result_declared, among_parameters, list_of, function_declared}
use Rattle.p10_elabd.specs.Declaring.{both_named, stored_by, type_specified, unless_union, tag_passed, begun_with, Listing, none_listed, is_no_parameter, based, with_declared_parameter, specifiers_passed, specifier_passed, structure_passed, members_passed, member_passed, fields_passed, field_passed, declarator_passed, all_parameters_passed, only_parameter_passed, parameters_passed, one_parameter_passed, specified}
use Rattle.std.specs.Prelude.{take, ◌-◌}
use Rattle.p10_declaration_steps.specs.Steps.{Steps, same, followed, bodies_open, block_closed}
use Rattle.p10_declaration_steps.proofs.Steps.{over_refusing, over_noted, listed_either, over_row}
use Rattle.p10_declaration_steps.proofs.Tagging.{over_structure_named, over_made}
use Rattle.p10_declaration_steps.proofs.Members.{over_member, over_width, over_enumeration}
use Rattle.p10_declaration_steps.proofs.Shaping.{over_pointer, over_element, over_array, over_array_inside, over_function_inside, over_result, over_declared_parameter}

-- ## Specifiers

pub over_type_specified : (h : Keep) (specifiers : Specifiers At) (p : Passed (Option PlainType)) → Steps h p.after (type_specified h specifiers p).after
over_type_specified h specifiers p = over_refusing h (is_bad_mixture (said_of specifiers nothing_specified)) subset.BadSpecifier (specifiers_at nowhere specifiers) p.after

pub over_tag_passed : (h : Keep) (alone : Bool) (at : At) (word : Sign) (tag : Option (Identifier At)) (s : PlainStanding) → Steps h s (tag_passed h alone at word tag s).after
over_tag_passed h alone at sign.Union tag s = over_refusing h true subset.UnionOrBitField at s
over_tag_passed h alone at word None s = same s
over_tag_passed h alone at word (Some tag) s = over_structure_named h alone tag s

pub over_unless_union : (h : Keep) (at : At) (word : Sign) (p : Passed PlainType) → Steps h p.after (unless_union h at word p).after
over_unless_union h at sign.Union p = over_refusing h true subset.UnionOrBitField at p.after
over_unless_union h at word p = same p.after

pub over_typedef : (h : Keep) (site : Site) (allowed : Allowed) (alone stored : Bool) (s : PlainStanding) (name : Identifier At) → Steps h s (specifier_passed h site allowed alone stored s (Typedef name)).after
over_typedef h site allowed alone stored s name = over_noted h (lift (typedef_rule name.place (named s.scope name.name))) s

-- ## The trees

mutual
  pub over_specifiers : (h : Keep) (site : Site) (allowed : Allowed) (alone stored : Bool) (p : Passed (Option PlainType)) (all : Specifiers At) → Steps h p.after (specifiers_passed h site allowed alone stored p all).after
  over_specifiers h site allowed alone stored p NoSpecifiers = same p.after
  over_specifiers h site allowed alone stored p (MoreSpecifiers one rest) =
      let q : Passed (Option PlainType) = specifier_passed h site allowed alone stored p.after one in
      followed (over_specifier h site allowed alone stored p.after one)
      (over_specifiers h site allowed alone (stored_by stored one) (record { made = both_named p.made q.made; after = q.after }) rest)

  pub over_specifier : (h : Keep) (site : Site) (allowed : Allowed) (alone stored : Bool) (s : PlainStanding) (one : Specifier At) → Steps h s (specifier_passed h site allowed alone stored s one).after
  over_specifier h site allowed alone stored s (Keyword at word) = over_row h (word_row site allowed stored word) at s
  over_specifier h site allowed alone stored s (Typedef name) = over_typedef h site allowed alone stored s name
  over_specifier h site allowed alone stored s (Structure at word tag members) = over_structure h alone at word tag s members
  over_specifier h site allowed alone stored s (Enumeration at tag enumerators comma) = over_enumeration h at tag s enumerators

  pub over_structure : (h : Keep) (alone : Bool) (at : At) (word : Sign) (tag : Option (Identifier At)) (s : PlainStanding) (members : Members At) → Steps h s (structure_passed h alone at word tag s members).after
  over_structure h alone at word tag s NoMembers = over_tag_passed h alone at word tag s
  over_structure h alone at word tag s (MoreMembers m rest) =
      let n : ℕ = (begun_with h word tag s).number in
      let b : PlainStanding = (begun_with h word tag s).standing in
      let q : Passed (List PlainMember) = member_passed h (passed [] b) m in
      let p : Passed (List PlainMember) = members_passed h q rest in
      let made : Passed PlainType = structure_made h at tag n p.made (ended p.after) in
      let inside : Steps h b (ended p.after) = followed (over_one_member h (passed [] b) m) (followed (over_members h q rest) (bodies_open (take (length p.after.open_structures - 1) p.after.open_structures) p.after)) in
      followed (over_made h at word tag p.made s (ended p.after) inside) (over_unless_union h at word made)

  pub over_members : (h : Keep) (p : Passed (List PlainMember)) (all : Members At) → Steps h p.after (members_passed h p all).after
  over_members h p NoMembers = same p.after
  over_members h p (MoreMembers m rest) = followed (over_one_member h p m) (over_members h (member_passed h p m) rest)

  pub over_one_member : (h : Keep) (p : Passed (List PlainMember)) (m : MemberDeclaration At) → Steps h p.after (member_passed h p m).after
  over_one_member h p (member_declaration at specifiers fields) =
      let q : Passed (Option PlainType) = specifiers_passed h site_is.OfMembers none_allowed false false (passed None p.after) specifiers in
      let t : Passed PlainType = type_specified h specifiers q in
      followed (over_specifiers h site_is.OfMembers none_allowed false false (passed None p.after) specifiers)
      (followed (over_type_specified h specifiers q) (over_fields h t.made (record { made = p.made; after = t.after }) fields))

  pub over_fields : (h : Keep) (t : Option PlainType) (p : Passed (List PlainMember)) (all : Fields At) → Steps h p.after (fields_passed h t p all).after
  over_fields h t p NoFields = same p.after
  over_fields h t p (MoreFields f rest) = followed (over_field h t p f) (over_fields h t (field_passed h t p f) rest)

  pub over_field : (h : Keep) (t : Option PlainType) (p : Passed (List PlainMember)) (f : Field At) → Steps h p.after (field_passed h t p f).after
  over_field h t p (field at d width) =
      let name_at : At = place_or (declarator_place d) (name_in d) in
      let w : PlainStanding = with_width h (declarator_place d) width p.after in
      let j : Passed DeclaredType = declarator_passed h name_at (based t w) d in
      let s : PlainStanding = refusing h (declares_function d || declares_open_array d) subset.IncompleteType name_at j.after in
      let u : Passed PlainType = member_declared h name_at j.made s in
      followed (over_width h (declarator_place d) width p.after)
      (followed (over_declarator h name_at (based t w) d)
      (followed (over_refusing h (declares_function d || declares_open_array d) subset.IncompleteType name_at j.after)
      (followed (over_member h name_at j.made s) (over_refusing h (is_member p.made (name_in d)) subset.DefinedTwice name_at u.after))))

  pub over_declarator : (h : Keep) (name_at : At) (p : Passed DeclaredType) (d : Declarator At) → Steps h p.after (declarator_passed h name_at p d).after
  over_declarator h name_at p (Named name) = same p.after
  over_declarator h name_at p (Unnamed at) = same p.after
  over_declarator h name_at p (Pointer at qualifiers d) =
      let q : Passed DeclaredType = pointer_declared h at name_at qualifiers p.made p.after in
      followed (over_pointer h at name_at qualifiers p.made p.after) (over_declarator h name_at q d)
  over_declarator h name_at p (Parenthesised at d) = over_declarator h name_at p d
  over_declarator h name_at p (Array at d brackets Absent) =
      let s : PlainStanding = array_inside h name_at true d p.after in
      let q : Passed PlainType = element_declared h name_at p.made s in
      followed (over_array_inside h name_at true d p.after)
      (followed (over_element h name_at p.made s) (over_declarator h name_at (open_declared q) d))
  over_declarator h name_at p (Array at d brackets (Present e)) =
      let s : PlainStanding = array_inside h name_at false d p.after in
      let q : Passed PlainType = element_declared h name_at p.made s in
      let a : Passed DeclaredType = array_declared h e q in
      followed (over_array_inside h name_at false d p.after)
      (followed (over_element h name_at p.made s) (followed (over_array h e q) (over_declarator h name_at a d)))
  over_declarator h name_at p (Function at d parentheses all more) =
      let r : Passed PlainType = result_declared h at name_at p.made p.after in
      let t : PlainStanding = refusing h more subset.NoPrototype parentheses r.after in
      let s : PlainStanding = function_inside h name_at d t in
      let q : Listing = all_parameters_passed h (among_parameters s) parentheses all in
      followed (over_result h at name_at p.made p.after)
      (followed (over_refusing h more subset.NoPrototype parentheses r.after)
      (followed (over_function_inside h name_at d t)
      (followed (block_closed s q.after (over_all_parameters h (among_parameters s) parentheses all)) (over_declarator h name_at (function_declared (list_of all more) r.made q.parameters q.after) d))))

  pub over_all_parameters : (h : Keep) (s : PlainStanding) (at : At) (all : Parameters At) → Steps h s (all_parameters_passed h s at all).after
  over_all_parameters h s at NoParameters = over_refusing h true subset.NoPrototype at s
  over_all_parameters h s at (MoreParameters one NoParameters) = over_only_parameter h s one
  over_all_parameters h s at (MoreParameters one rest) =
      followed (over_one_parameter h 0 (none_listed s) one) (over_parameters h 1 (one_parameter_passed h 0 (none_listed s) one) rest)

  pub over_only_parameter : (h : Keep) (s : PlainStanding) (one : Parameter At) → Steps h s (only_parameter_passed h s one).after
  over_only_parameter h s (parameter at specifiers d) =
      let q : Passed (Option PlainType) = specifiers_passed h site_is.OfParameter none_allowed false false (passed None s) specifiers in
      let t : Passed PlainType = type_specified h specifiers q in
      let j : Passed DeclaredType = declarator_passed h (place_or at (name_in d)) (based t.made t.after) d in
      followed (over_specifiers h site_is.OfParameter none_allowed false false (passed None s) specifiers)
      (followed (over_type_specified h specifiers q)
      (listed_either (is_no_parameter d t.made) t.after (none_listed t.after) (with_declared_parameter h 0 [] at d j) (same t.after)
      (followed (over_declarator h (place_or at (name_in d)) (based t.made t.after) d) (over_declared_parameter h 0 [] at d j))))

  pub over_parameters : (h : Keep) (i : ℕ) (p : Listing) (all : Parameters At) → Steps h p.after (parameters_passed h i p all).after
  over_parameters h i p NoParameters = same p.after
  over_parameters h i p (MoreParameters one rest) =
      followed (over_one_parameter h i p one) (over_parameters h (i + 1) (one_parameter_passed h i p one) rest)

  pub over_one_parameter : (h : Keep) (i : ℕ) (p : Listing) (one : Parameter At) → Steps h p.after (one_parameter_passed h i p one).after
  over_one_parameter h i p (parameter at specifiers d) =
      let q : Passed (Option PlainType) = specifiers_passed h site_is.OfParameter none_allowed false false (passed None p.after) specifiers in
      let t : Passed PlainType = type_specified h specifiers q in
      let j : Passed DeclaredType = declarator_passed h (place_or at (name_in d)) (based t.made t.after) d in
      followed (over_specifiers h site_is.OfParameter none_allowed false false (passed None p.after) specifiers)
      (followed (over_type_specified h specifiers q)
      (followed (over_declarator h (place_or at (name_in d)) (based t.made t.after) d) (over_declared_parameter h i p.parameters at d j)))

pub over_specified : (h : Keep) (site : Site) (allowed : Allowed) (alone : Bool) (s : PlainStanding) (all : Specifiers At) → Steps h s (specified h site allowed alone s all).after
over_specified h site allowed alone s all =
    let q : Passed (Option PlainType) = specifiers_passed h site allowed alone false (passed None s) all in
    followed (over_specifiers h site allowed alone false (passed None s) all) (over_type_specified h all q)
