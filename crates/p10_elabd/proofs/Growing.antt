-- Problems that are noted while declarations are passed stay noted, whatever follows.
use Rattle.std.specs.Prelude.{◌≡◌, refl, ℕ, ℤ, ◌+◌, Bool, true, false, ◌||◌, if◌then◌else◌, List, [], ◌∷◌, ◌++◌, Option, Some, None, Ok, Err, nat_le}
use Rattle.std.proofs.Common.{inl, inr}
use Rattle.p10_base.specs.declared.at.At.{At}
use Rattle.p10_base.specs.declared.codes.SubsetCode.{SubsetCode}
use Rattle.p10_base.specs.declared.codes.SubsetCode.TheVariants as subset
use Rattle.p10_syn.specs.declared.sign.Sign.{Sign}
use Rattle.p10_syn.specs.declared.sign.Sign.TheVariants as sign
use Rattle.p10_syn.specs.Places.{nowhere}
use Rattle.p10_syn.specs.Trees.{Identifier, Qualifier, Expression, Optional, Absent, Present, Specifiers, NoSpecifiers, MoreSpecifiers, Specifier, Keyword, Typedef, Structure, Enumeration, Members, NoMembers, MoreMembers, MemberDeclaration, member_declaration, Fields, NoFields, MoreFields, Field, field, Enumerators, NoEnumerators, MoreEnumerators, Enumerator, enumerator, Declarator, Named, Unnamed, Pointer, Parenthesised, Array, Function, Parameters, NoParameters, MoreParameters, Parameter, parameter}
use Rattle.p10_int.specs.declared.types.IntType.TheVariants.{Int}
use Rattle.p10_int.specs.Types.{holds}
use Rattle.p10_core.specs.Types.{PlainType, void, integer, pointer, array, structure, PlainMember}
use Rattle.p10_core.specs.Typed.{PlainValue}
use Rattle.p10_core.specs.Rows.{is_void, is_complete}
use Rattle.p10_core.specs.WholePrograms.{most_bytes}
use Rattle.p10_core.specs.Completing.{member_layout, takes_members}
use Rattle.p10_elabx.specs.declared.problem.Problem.{Problem}
use Rattle.p10_elabx.specs.First.{Among, Found, Ruled, every, lift, on, ruled}
use Rattle.p10_elabx.specs.Scopes.{Meaning, local, unknown_name, named, tagged}
use Rattle.p10_elabx.specs.Innermost.{tagged_here}
use Rattle.p10_elabx.specs.TypeNames.{said_of, nothing_specified, is_bad_mixture, typedef_rule, specifiers_at, declarator_place, other_word, has_const_word, length_found, sized_array}
use Rattle.p10_elabx.specs.declared.shape.Length.{Length}
use Rattle.p10_elabd.specs.declared.known_tag.KnownTag.{KnownTag}
use Rattle.p10_elabd.specs.declared.known_tag.KnownTag.TheVariants as tag_is
use Rattle.p10_elabd.specs.declared.site.Site.{Site}
use Rattle.p10_elabd.specs.declared.site.Site.TheVariants as site_is
use Rattle.p10_elabd.specs.declared.site.Allowed.{Allowed}
use Rattle.p10_elabd.specs.Standing.{PlainStanding, Passed, passed, refusing, noted}
use Rattle.p10_elabd.specs.Expressions.{value_found, value_by, for_expression, constant_number}
use Rattle.p10_elabd.specs.Words.{none_allowed, word_row, by_row}
use Rattle.p10_elabd.specs.Blocks.{is_taken, declaring}
use Rattle.p10_elabd.specs.Tagged.{known_tag, structure_by_tag, structure_named, enumeration_by_tag, begun_known, begun_by_tag, begun_for, may_complete, ended, completed_small, completed_by, with_unknown_tag, structure_made, is_tag_taken, with_enumeration, enumeration_begun}
use Rattle.p10_elabd.specs.Members.{member_type, member_declared, with_width, is_member, enumerator_value, int_value, enumerator_meaning, enumerator_passed}
use Rattle.p10_elabd.specs.Shapes.{ListedParameter, DeclaredType, of_type, of_open_array, of_function, of_part_function, name_in, place_or, declares_function, declares_open_array, pointed_to, pointer_declared, element_declared, array_with, array_declared, open_declared, array_inside, function_inside, result_type, result_declared, plain_parameter_type, parameter_declared, among_parameters, list_of, function_declared}
use Rattle.p10_elabd.specs.Declaring.{both_named, stored_by, type_specified, unless_union, tag_passed, enumeration_by_name, one_enumerator_passed, enumerators_passed, first_constant, enumeration_passed, begun_with, with_parameter, Listing, none_listed, is_no_parameter, based, with_declared_parameter, specifiers_passed, specifier_passed, structure_passed, members_passed, member_passed, fields_passed, field_passed, declarator_passed, all_parameters_passed, only_parameter_passed, parameters_passed, one_parameter_passed}

-- ## Steps

-- problems that stay noted in others
pub record StayNoted (rs qs : List Problem) : Type 0 where
  pub among : (r : Problem) → Among r rs → Among r qs

-- the problems of one standing are among those of another
abbrev pub Grows : PlainStanding → PlainStanding → Type 0
Grows s t = StayNoted s.problems t.problems

pub as_before : (s : PlainStanding) → Grows s s
as_before s = record { among = λ r h. h }

pub grows_on : {rs qs ps : List Problem} → StayNoted rs qs → StayNoted qs ps → StayNoted rs ps
grows_on a b = record { among = λ r h. b.among r (a.among r h) }

among_first : (rs qs : List Problem) (r : Problem) → Among r rs → Among r (rs ++ qs)
among_first [] qs r h = absurd h
among_first (q ∷ rs) qs r (inl e) = inl e
among_first (q ∷ rs) qs r (inr h) = inr (among_first rs qs r h)

pub grows_refusing : (b : Bool) (code : SubsetCode) (at : At) (s : PlainStanding) → Grows s (refusing every b code at s)
grows_refusing true code at s = record { among = among_first s.problems (record { code = code; at = at } ∷ []) }
grows_refusing false code at s = as_before s

pub grows_noted : {A : Type 0} (f : Found A) (s : PlainStanding) → Grows s (noted every f s).after
grows_noted (Ok x) s = as_before s
grows_noted (Err rs) s = record { among = among_first s.problems rs }

grows_value : {A : Type 0} (s : PlainStanding) (e : Expression At) (go : PlainValue → Ruled A) → Grows s (value_by every s e go).after
grows_value s e go = grows_noted (on (value_found every s e) go) (for_expression s e)

either_way : {A : Type 0} (b : Bool) (s : PlainStanding) (p q : Passed A) → Grows s p.after → Grows s q.after → Grows s (if b then p else q).after
either_way true s p q g h = g
either_way false s p q g h = h

pub listed_either : (b : Bool) (s : PlainStanding) (p q : Listing) → Grows s p.after → Grows s q.after → Grows s (if b then p else q).after
listed_either true s p q g h = g
listed_either false s p q g h = h

grows_row : (o : Option SubsetCode) (at : At) (s : PlainStanding) → Grows s (by_row every o at s)
grows_row None at s = as_before s
grows_row (Some code) at s = grows_refusing true code at s

grows_declaring : (name : Identifier At) (what : Meaning) (s : PlainStanding) → Grows s (declaring every name what s)
grows_declaring name what s = grows_refusing (is_taken s.scope name.name) subset.DefinedTwice name.place s

-- ## Tags

grows_by_tag : (k : KnownTag) (tag : Identifier At) (s : PlainStanding) → Grows s (structure_by_tag every k tag s).after
grows_by_tag (tag_is.Structure c n) tag s = as_before s
grows_by_tag tag_is.Refused tag s = as_before s
grows_by_tag tag_is.Nothing tag s = as_before s
grows_by_tag tag_is.Enumeration tag s = grows_refusing true subset.DefinedTwice tag.place s
grows_by_tag tag_is.OtherType tag s = grows_refusing true subset.DefinedTwice tag.place s
grows_by_tag tag_is.NoTag tag s = grows_refusing true subset.DefinedTwice tag.place s

grows_structure_named : (alone : Bool) (tag : Identifier At) (s : PlainStanding) → Grows s (structure_named every alone tag s).after
grows_structure_named alone tag s = grows_by_tag (known_tag (if alone then tagged_here s.scope tag.name else tagged s.scope tag.name)) tag s

grows_enumeration_by_tag : (at : At) (k : KnownTag) (tag : Identifier At) (s : PlainStanding) → Grows s (enumeration_by_tag every at k tag s).after
grows_enumeration_by_tag at tag_is.Enumeration tag s = as_before s
grows_enumeration_by_tag at (tag_is.Structure c n) tag s = grows_refusing true subset.DefinedTwice tag.place s
grows_enumeration_by_tag at tag_is.OtherType tag s = grows_refusing true subset.DefinedTwice tag.place s
grows_enumeration_by_tag at tag_is.Refused tag s = as_before s
grows_enumeration_by_tag at tag_is.Nothing tag s = grows_refusing true subset.UnknownName at s
grows_enumeration_by_tag at tag_is.NoTag tag s = grows_refusing true subset.UnknownName at s

grows_known : (may : Bool) (n : ℕ) (tag : Identifier At) (s : PlainStanding) → Grows s (begun_known every may n tag s).standing
grows_known true n tag s = as_before s
grows_known false n tag s = grows_refusing true subset.DefinedTwice tag.place s

grows_begun_by : (k : KnownTag) (tag : Identifier At) (s : PlainStanding) → Grows s (begun_by_tag every k tag s).standing
grows_begun_by (tag_is.Structure c n) tag s = grows_known (may_complete s n) n tag s
grows_begun_by tag_is.Nothing tag s = as_before s
grows_begun_by tag_is.Refused tag s = grows_refusing true subset.DefinedTwice tag.place s
grows_begun_by tag_is.Enumeration tag s = grows_refusing true subset.DefinedTwice tag.place s
grows_begun_by tag_is.OtherType tag s = grows_refusing true subset.DefinedTwice tag.place s
grows_begun_by tag_is.NoTag tag s = grows_refusing true subset.DefinedTwice tag.place s

grows_begun_for : (tag : Option (Identifier At)) (s : PlainStanding) → Grows s (begun_for every tag s).standing
grows_begun_for None s = as_before s
grows_begun_for (Some tag) s = grows_begun_by (known_tag (tagged_here s.scope tag.name)) tag s

pub grows_begun : (word : Sign) (tag : Option (Identifier At)) (s : PlainStanding) → Grows s (begun_with every word tag s).standing
grows_begun sign.Union tag s = as_before s
grows_begun word tag s = grows_begun_for tag s

grows_small : (at : At) (n : ℕ) (members : List PlainMember) (s : PlainStanding) → Grows s (completed_small every at n members s).after
grows_small at n members s = either_way (nat_le (member_layout s.scope.structures members).bytes most_bytes) s _ _ (as_before s) (grows_refusing true subset.BadLength at s)

grows_completed : (at : At) (n : ℕ) (members : List PlainMember) (s : PlainStanding) → Grows s (completed_by every at n members s).after
grows_completed at n members s = either_way (takes_members s.scope.structures n members) s _ _ (grows_small at n members s) (as_before s)

grows_unknown_tag : (tag : Option (Identifier At)) (s : PlainStanding) → Grows s (with_unknown_tag tag s)
grows_unknown_tag None s = as_before s
grows_unknown_tag (Some tag) s = as_before s

pub grows_made : (at : At) (tag : Option (Identifier At)) (n : ℕ) (members : Option (List PlainMember)) (s : PlainStanding) → Grows s (structure_made every at tag n members s).after
grows_made at tag n None s = grows_unknown_tag tag s
grows_made at tag n (Some members) s = grows_completed at n members s

pub grows_with_enumeration : (tag : Option (Identifier At)) (s : PlainStanding) → Grows s (with_enumeration tag s)
grows_with_enumeration None s = as_before s
grows_with_enumeration (Some tag) s = as_before s

grows_enumeration_begun : (tag : Option (Identifier At)) (s : PlainStanding) → Grows s (enumeration_begun every tag s)
grows_enumeration_begun None s = as_before s
grows_enumeration_begun (Some tag) s = grows_refusing (is_tag_taken (Some tag) s) subset.DefinedTwice tag.place s

-- ## Members and constants

grows_member_type : (name_at : At) (d : DeclaredType) (s : PlainStanding) → Grows s (member_type every name_at d s).after
grows_member_type name_at (of_type t) s = either_way (is_complete s.scope.structures t) s _ _ (as_before s) (grows_refusing true subset.IncompleteType name_at s)
grows_member_type name_at (of_open_array t) s = as_before s
grows_member_type name_at (of_function f) s = as_before s
grows_member_type name_at (of_part_function f) s = as_before s

pub grows_member : (name_at : At) (o : Option DeclaredType) (s : PlainStanding) → Grows s (member_declared every name_at o s).after
grows_member name_at None s = as_before s
grows_member name_at (Some d) s = grows_member_type name_at d s

pub grows_width : (at : At) (width : Optional At) (s : PlainStanding) → Grows s (with_width every at width s)
grows_width at Absent s = as_before s
grows_width at (Present e) s = grows_on (grows_refusing true subset.UnionOrBitField at s) (grows_value (refusing every true subset.UnionOrBitField at s) e constant_number)

grows_enumerator_value : (next : Option ℤ) (value : Optional At) (s : PlainStanding) → Grows s (enumerator_value every next value s).after
grows_enumerator_value next Absent s = as_before s
grows_enumerator_value next (Present e) s = grows_value s e constant_number

grows_int : (at : At) (o : Option ℤ) (s : PlainStanding) → Grows s (int_value every at o s).after
grows_int at None s = as_before s
grows_int at (Some z) s = either_way (holds Int z) s _ _ (as_before s) (grows_refusing true subset.ConstantStops at s)

grows_enumerator : (next : Option ℤ) (name : Identifier At) (value : Optional At) (s : PlainStanding) → Grows s (enumerator_passed every next name value s).after
grows_enumerator next name value s =
    let written : Passed ℤ = enumerator_value every next value s in
    let found : Passed ℤ = int_value every name.place written.made written.after in
    grows_on (grows_enumerator_value next value s)
    (grows_on (grows_int name.place written.made written.after) (grows_declaring name (enumerator_meaning found.made) found.after))

grows_one_enumerator : (p : Passed ℤ) (e : Enumerator At) → Grows p.after (one_enumerator_passed every p e).after
grows_one_enumerator p (enumerator at name value) = grows_enumerator p.made name value p.after

pub grows_enumerators : (p : Passed ℤ) (all : Enumerators At) → Grows p.after (enumerators_passed every p all).after
grows_enumerators p NoEnumerators = as_before p.after
grows_enumerators p (MoreEnumerators e rest) = grows_on (grows_one_enumerator p e) (grows_enumerators (one_enumerator_passed every p e) rest)

grows_by_name : (at : At) (tag : Option (Identifier At)) (s : PlainStanding) → Grows s (enumeration_by_name every at tag s).after
grows_by_name at None s = as_before s
grows_by_name at (Some tag) s = grows_enumeration_by_tag at (known_tag (tagged s.scope tag.name)) tag s

grows_enumeration : (at : At) (tag : Option (Identifier At)) (s : PlainStanding) (all : Enumerators At) → Grows s (enumeration_passed every at tag s all).after
grows_enumeration at tag s NoEnumerators = grows_by_name at tag s
grows_enumeration at tag s (MoreEnumerators e rest) =
    let p : Passed ℤ = first_constant (enumeration_begun every tag s) in
    grows_on (grows_enumeration_begun tag s)
    (grows_on (grows_enumerators p (MoreEnumerators e rest)) (grows_with_enumeration tag (enumerators_passed every p (MoreEnumerators e rest)).after))

-- ## Declarators

grows_pointed : (at name_at : At) (constant : Bool) (d : DeclaredType) (s : PlainStanding) → Grows s (pointed_to every at name_at constant d s).after
grows_pointed at name_at constant (of_type t) s = either_way (is_void t) s _ _ (grows_refusing true subset.BadPointer at s) (as_before s)
grows_pointed at name_at constant (of_open_array t) s = grows_refusing true subset.IncompleteType name_at s
grows_pointed at name_at constant (of_function f) s = as_before s
grows_pointed at name_at constant (of_part_function f) s = as_before s

grows_pointer_by : (at name_at : At) (qualifiers : List (Qualifier At)) (target : Option DeclaredType) (s : PlainStanding) (o : Option At) → other_word qualifiers ≡ o →
    Grows s (pointer_declared every at name_at qualifiers target s).after
grows_pointer_by at name_at qualifiers None s None e = rw e (as_before s)
grows_pointer_by at name_at qualifiers None s (Some word_at) e = rw e (grows_refusing true subset.BadSpecifier word_at s)
grows_pointer_by at name_at qualifiers (Some d) s None e = rw e (grows_pointed at name_at (has_const_word qualifiers) d s)
grows_pointer_by at name_at qualifiers (Some d) s (Some word_at) e =
    let t : PlainStanding = refusing every true subset.BadSpecifier word_at s in
    rw e (grows_on (grows_refusing true subset.BadSpecifier word_at s) (grows_pointed at name_at (has_const_word qualifiers) d t))

pub grows_pointer : (at name_at : At) (qualifiers : List (Qualifier At)) (target : Option DeclaredType) (s : PlainStanding) → Grows s (pointer_declared every at name_at qualifiers target s).after
grows_pointer at name_at qualifiers target s = grows_pointer_by at name_at qualifiers target s (other_word qualifiers) refl

pub grows_element : (name_at : At) (o : Option DeclaredType) (s : PlainStanding) → Grows s (element_declared every name_at o s).after
grows_element name_at None s = as_before s
grows_element name_at (Some (of_type t)) s = either_way (is_complete s.scope.structures t) s _ _ (as_before s) (grows_refusing true subset.IncompleteType name_at s)
grows_element name_at (Some (of_open_array t)) s = grows_refusing true subset.IncompleteType name_at s
grows_element name_at (Some (of_function f)) s = as_before s
grows_element name_at (Some (of_part_function f)) s = as_before s

grows_array_with : (o : Option PlainType) (n : Option Length) (s : PlainStanding) → Grows s (array_with every o n s).after
grows_array_with (Some t) (Some n) s = grows_noted (lift (ruled (sized_array s.scope.structures t n) (λ u. Ok (of_type u)))) s
grows_array_with (Some t) None s = as_before s
grows_array_with None n s = as_before s

pub grows_array : (e : Expression At) (element : Passed PlainType) → Grows element.after (array_declared every e element).after
grows_array e element =
    let n : Passed Length = value_by every element.after e length_found in
    grows_on (grows_value element.after e length_found) (grows_array_with element.made n.made n.after)

pub grows_array_inside : (name_at : At) (lacking : Bool) (d : Declarator At) (s : PlainStanding) → Grows s (array_inside every name_at lacking d s)
grows_array_inside name_at lacking (Named name) s = as_before s
grows_array_inside name_at lacking (Unnamed at) s = as_before s
grows_array_inside name_at lacking (Pointer at qualifiers d) s = grows_refusing lacking subset.IncompleteType name_at s
grows_array_inside name_at lacking (Parenthesised at d) s = grows_array_inside name_at lacking d s
grows_array_inside name_at lacking (Array at d brackets length) s = grows_refusing lacking subset.IncompleteType name_at s
grows_array_inside name_at lacking (Function at d parentheses all more) s = grows_refusing true subset.IncompleteType name_at s

pub grows_function_inside : (name_at : At) (d : Declarator At) (s : PlainStanding) → Grows s (function_inside every name_at d s)
grows_function_inside name_at (Named name) s = as_before s
grows_function_inside name_at (Unnamed at) s = as_before s
grows_function_inside name_at (Pointer at qualifiers d) s = grows_refusing true subset.BadPointer at s
grows_function_inside name_at (Parenthesised at d) s = grows_function_inside name_at d s
grows_function_inside name_at (Array at d brackets length) s = grows_refusing true subset.IncompleteType name_at s
grows_function_inside name_at (Function at d parentheses all more) s = grows_refusing true subset.IncompleteType name_at s

grows_result_type : (at name_at : At) (d : DeclaredType) (s : PlainStanding) → Grows s (result_type every at name_at d s).after
grows_result_type at name_at (of_type (structure c n)) s = grows_refusing true subset.StructurePassed at s
grows_result_type at name_at (of_type (array c t n)) s = grows_refusing true subset.IncompleteType name_at s
grows_result_type at name_at (of_type (void c)) s = as_before s
grows_result_type at name_at (of_type (integer c i)) s = as_before s
grows_result_type at name_at (of_type (pointer c t)) s = as_before s
grows_result_type at name_at (of_open_array t) s = grows_refusing true subset.IncompleteType name_at s
grows_result_type at name_at (of_function f) s = as_before s
grows_result_type at name_at (of_part_function f) s = as_before s

pub grows_result : (at name_at : At) (o : Option DeclaredType) (s : PlainStanding) → Grows s (result_declared every at name_at o s).after
grows_result at name_at None s = as_before s
grows_result at name_at (Some d) s = grows_result_type at name_at d s

grows_plain_parameter : (at name_at : At) (t : PlainType) (s : PlainStanding) → Grows s (plain_parameter_type every at name_at t s).after
grows_plain_parameter at name_at (structure c n) s = grows_refusing true subset.StructurePassed at s
grows_plain_parameter at name_at (array c t n) s = as_before s
grows_plain_parameter at name_at (void c) s = grows_refusing true subset.IncompleteType name_at s
grows_plain_parameter at name_at (integer c i) s = as_before s
grows_plain_parameter at name_at (pointer c t) s = as_before s

pub grows_parameter : (at name_at : At) (o : Option DeclaredType) (s : PlainStanding) → Grows s (parameter_declared every at name_at o s).after
grows_parameter at name_at None s = as_before s
grows_parameter at name_at (Some (of_type t)) s = grows_plain_parameter at name_at t s
grows_parameter at name_at (Some (of_open_array t)) s = as_before s
grows_parameter at name_at (Some (of_function f)) s = as_before s
grows_parameter at name_at (Some (of_part_function f)) s = as_before s

pub grows_with_parameter : (i : ℕ) (name : Option (Identifier At)) (t : Option PlainType) (s : PlainStanding) → Grows s (with_parameter every i name t s)
grows_with_parameter i None t s = as_before s
grows_with_parameter i (Some name) None s = grows_declaring name unknown_name s
grows_with_parameter i (Some name) (Some t) s = grows_declaring name (local i t false) s

pub grows_declared_parameter : (i : ℕ) (before : List ListedParameter) (at : At) (d : Declarator At) (j : Passed DeclaredType) → Grows j.after (with_declared_parameter every i before at d j).after
grows_declared_parameter i before at d j =
    let s : PlainStanding = refusing every (declares_function d) subset.BadPointer (declarator_place d) j.after in
    let u : Passed PlainType = parameter_declared every at (place_or at (name_in d)) j.made s in
    grows_on (grows_refusing (declares_function d) subset.BadPointer (declarator_place d) j.after)
    (grows_on (grows_parameter at (place_or at (name_in d)) j.made s) (grows_with_parameter i (name_in d) u.made u.after))

-- ## Specifiers

pub grows_type_specified : (specifiers : Specifiers At) (p : Passed (Option PlainType)) → Grows p.after (type_specified every specifiers p).after
grows_type_specified specifiers p = grows_refusing (is_bad_mixture (said_of specifiers nothing_specified)) subset.BadSpecifier (specifiers_at nowhere specifiers) p.after

grows_tag_passed : (alone : Bool) (at : At) (word : Sign) (tag : Option (Identifier At)) (s : PlainStanding) → Grows s (tag_passed every alone at word tag s).after
grows_tag_passed alone at sign.Union tag s = grows_refusing true subset.UnionOrBitField at s
grows_tag_passed alone at word None s = as_before s
grows_tag_passed alone at word (Some tag) s = grows_structure_named alone tag s

pub grows_unless_union : (at : At) (word : Sign) (p : Passed PlainType) → Grows p.after (unless_union every at word p).after
grows_unless_union at sign.Union p = grows_refusing true subset.UnionOrBitField at p.after
grows_unless_union at word p = as_before p.after

grows_typedef : (site : Site) (allowed : Allowed) (alone stored : Bool) (s : PlainStanding) (name : Identifier At) → Grows s (specifier_passed every site allowed alone stored s (Typedef name)).after
grows_typedef site allowed alone stored s name = grows_noted (lift (typedef_rule name.place (named s.scope name.name))) s

-- ## The trees

mutual
  pub grows_specifiers : (site : Site) (allowed : Allowed) (alone stored : Bool) (p : Passed (Option PlainType)) (all : Specifiers At) → Grows p.after (specifiers_passed every site allowed alone stored p all).after
  grows_specifiers site allowed alone stored p NoSpecifiers = as_before p.after
  grows_specifiers site allowed alone stored p (MoreSpecifiers one rest) =
      let q : Passed (Option PlainType) = specifier_passed every site allowed alone stored p.after one in
      grows_on (grows_specifier site allowed alone stored p.after one)
      (grows_specifiers site allowed alone (stored_by stored one) (record { made = both_named p.made q.made; after = q.after }) rest)

  pub grows_specifier : (site : Site) (allowed : Allowed) (alone stored : Bool) (s : PlainStanding) (one : Specifier At) → Grows s (specifier_passed every site allowed alone stored s one).after
  grows_specifier site allowed alone stored s (Keyword at word) = grows_row (word_row site allowed stored word) at s
  grows_specifier site allowed alone stored s (Typedef name) = grows_typedef site allowed alone stored s name
  grows_specifier site allowed alone stored s (Structure at word tag members) = grows_structure alone at word tag s members
  grows_specifier site allowed alone stored s (Enumeration at tag enumerators comma) = grows_enumeration at tag s enumerators

  grows_structure : (alone : Bool) (at : At) (word : Sign) (tag : Option (Identifier At)) (s : PlainStanding) (members : Members At) → Grows s (structure_passed every alone at word tag s members).after
  grows_structure alone at word tag s NoMembers = grows_tag_passed alone at word tag s
  grows_structure alone at word tag s (MoreMembers m rest) =
      let n : ℕ = (begun_with every word tag s).number in
      let b : PlainStanding = (begun_with every word tag s).standing in
      let q : Passed (List PlainMember) = member_passed every (passed [] b) m in
      let p : Passed (List PlainMember) = members_passed every q rest in
      let made : Passed PlainType = structure_made every at tag n p.made (ended p.after) in
      grows_on (grows_begun word tag s)
      (grows_on (grows_one_member (passed [] b) m)
      (grows_on (grows_members q rest)
      (grows_on (grows_made at tag n p.made (ended p.after)) (grows_unless_union at word made))))

  pub grows_members : (p : Passed (List PlainMember)) (all : Members At) → Grows p.after (members_passed every p all).after
  grows_members p NoMembers = as_before p.after
  grows_members p (MoreMembers m rest) = grows_on (grows_one_member p m) (grows_members (member_passed every p m) rest)

  pub grows_one_member : (p : Passed (List PlainMember)) (m : MemberDeclaration At) → Grows p.after (member_passed every p m).after
  grows_one_member p (member_declaration at specifiers fields) =
      let q : Passed (Option PlainType) = specifiers_passed every site_is.OfMembers none_allowed false false (passed None p.after) specifiers in
      let t : Passed PlainType = type_specified every specifiers q in
      grows_on (grows_specifiers site_is.OfMembers none_allowed false false (passed None p.after) specifiers)
      (grows_on (grows_type_specified specifiers q) (grows_fields t.made (record { made = p.made; after = t.after }) fields))

  pub grows_fields : (t : Option PlainType) (p : Passed (List PlainMember)) (all : Fields At) → Grows p.after (fields_passed every t p all).after
  grows_fields t p NoFields = as_before p.after
  grows_fields t p (MoreFields f rest) = grows_on (grows_field t p f) (grows_fields t (field_passed every t p f) rest)

  pub grows_field : (t : Option PlainType) (p : Passed (List PlainMember)) (f : Field At) → Grows p.after (field_passed every t p f).after
  grows_field t p (field at d width) =
      let name_at : At = place_or (declarator_place d) (name_in d) in
      let w : PlainStanding = with_width every (declarator_place d) width p.after in
      let j : Passed DeclaredType = declarator_passed every name_at (based t w) d in
      let s : PlainStanding = refusing every (declares_function d || declares_open_array d) subset.IncompleteType name_at j.after in
      let u : Passed PlainType = member_declared every name_at j.made s in
      grows_on (grows_width (declarator_place d) width p.after)
      (grows_on (grows_declarator name_at (based t w) d)
      (grows_on (grows_refusing (declares_function d || declares_open_array d) subset.IncompleteType name_at j.after)
      (grows_on (grows_member name_at j.made s) (grows_refusing (is_member p.made (name_in d)) subset.DefinedTwice name_at u.after))))

  pub grows_declarator : (name_at : At) (p : Passed DeclaredType) (d : Declarator At) → Grows p.after (declarator_passed every name_at p d).after
  grows_declarator name_at p (Named name) = as_before p.after
  grows_declarator name_at p (Unnamed at) = as_before p.after
  grows_declarator name_at p (Pointer at qualifiers d) =
      let q : Passed DeclaredType = pointer_declared every at name_at qualifiers p.made p.after in
      grows_on (grows_pointer at name_at qualifiers p.made p.after) (grows_declarator name_at q d)
  grows_declarator name_at p (Parenthesised at d) = grows_declarator name_at p d
  grows_declarator name_at p (Array at d brackets Absent) =
      let s : PlainStanding = array_inside every name_at true d p.after in
      let q : Passed PlainType = element_declared every name_at p.made s in
      grows_on (grows_array_inside name_at true d p.after)
      (grows_on (grows_element name_at p.made s) (grows_declarator name_at (open_declared q) d))
  grows_declarator name_at p (Array at d brackets (Present e)) =
      let s : PlainStanding = array_inside every name_at false d p.after in
      let q : Passed PlainType = element_declared every name_at p.made s in
      let a : Passed DeclaredType = array_declared every e q in
      grows_on (grows_array_inside name_at false d p.after)
      (grows_on (grows_element name_at p.made s) (grows_on (grows_array e q) (grows_declarator name_at a d)))
  grows_declarator name_at p (Function at d parentheses all more) =
      let r : Passed PlainType = result_declared every at name_at p.made p.after in
      let t : PlainStanding = refusing every more subset.NoPrototype parentheses r.after in
      let s : PlainStanding = function_inside every name_at d t in
      let q : Listing = all_parameters_passed every (among_parameters s) parentheses all in
      grows_on (grows_result at name_at p.made p.after)
      (grows_on (grows_refusing more subset.NoPrototype parentheses r.after)
      (grows_on (grows_function_inside name_at d t)
      (grows_on (grows_all_parameters (among_parameters s) parentheses all) (grows_declarator name_at (function_declared (list_of all more) r.made q.parameters q.after) d))))

  pub grows_all_parameters : (s : PlainStanding) (at : At) (all : Parameters At) → Grows s (all_parameters_passed every s at all).after
  grows_all_parameters s at NoParameters = grows_refusing true subset.NoPrototype at s
  grows_all_parameters s at (MoreParameters one NoParameters) = grows_only_parameter s one
  grows_all_parameters s at (MoreParameters one rest) =
      grows_on (grows_one_parameter 0 (none_listed s) one) (grows_parameters 1 (one_parameter_passed every 0 (none_listed s) one) rest)

  grows_only_parameter : (s : PlainStanding) (one : Parameter At) → Grows s (only_parameter_passed every s one).after
  grows_only_parameter s (parameter at specifiers d) =
      let q : Passed (Option PlainType) = specifiers_passed every site_is.OfParameter none_allowed false false (passed None s) specifiers in
      let t : Passed PlainType = type_specified every specifiers q in
      let j : Passed DeclaredType = declarator_passed every (place_or at (name_in d)) (based t.made t.after) d in
      grows_on (grows_specifiers site_is.OfParameter none_allowed false false (passed None s) specifiers)
      (grows_on (grows_type_specified specifiers q)
      (listed_either (is_no_parameter d t.made) t.after (none_listed t.after) (with_declared_parameter every 0 [] at d j) (as_before t.after)
      (grows_on (grows_declarator (place_or at (name_in d)) (based t.made t.after) d) (grows_declared_parameter 0 [] at d j))))

  pub grows_parameters : (i : ℕ) (p : Listing) (all : Parameters At) → Grows p.after (parameters_passed every i p all).after
  grows_parameters i p NoParameters = as_before p.after
  grows_parameters i p (MoreParameters one rest) =
      grows_on (grows_one_parameter i p one) (grows_parameters (i + 1) (one_parameter_passed every i p one) rest)

  pub grows_one_parameter : (i : ℕ) (p : Listing) (one : Parameter At) → Grows p.after (one_parameter_passed every i p one).after
  grows_one_parameter i p (parameter at specifiers d) =
      let q : Passed (Option PlainType) = specifiers_passed every site_is.OfParameter none_allowed false false (passed None p.after) specifiers in
      let t : Passed PlainType = type_specified every specifiers q in
      let j : Passed DeclaredType = declarator_passed every (place_or at (name_in d)) (based t.made t.after) d in
      grows_on (grows_specifiers site_is.OfParameter none_allowed false false (passed None p.after) specifiers)
      (grows_on (grows_type_specified specifiers q)
      (grows_on (grows_declarator (place_or at (name_in d)) (based t.made t.after) d) (grows_declared_parameter i p.parameters at d j)))
