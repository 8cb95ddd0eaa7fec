-- What specifiers and declarators declare: types, tags, members, constants of enumerations, parameters (C99 6.7).
use Rattle.std.specs.Prelude.{ℕ, ◌+◌, ℤ, pos, Bool, true, false, not, ◌||◌, if◌then◌else◌, List, [], ◌∷◌, ◌++◌, Option, Some, None, option_map, is_some, Ok, Err}
use Rattle.p10_base.specs.declared.at.At.{At}
use Rattle.p10_base.specs.declared.codes.SubsetCode.TheVariants as subset
use Rattle.p10_syn.specs.declared.sign.Sign.{Sign}
use Rattle.p10_syn.specs.declared.sign.Sign.TheVariants as sign
use Rattle.p10_syn.specs.Places.{nowhere}
use Rattle.p10_syn.specs.Trees.{Identifier, Absent, Present, Specifiers, NoSpecifiers, MoreSpecifiers, Specifier, Keyword, Typedef, Structure, Enumeration, Members, NoMembers, MoreMembers, MemberDeclaration, member_declaration, Fields, NoFields, MoreFields, Field, field, Enumerators, NoEnumerators, MoreEnumerators, Enumerator, enumerator, Declarator, Named, Unnamed, Pointer, Parenthesised, Array, Function, Parameters, NoParameters, MoreParameters, Parameter, parameter}
use Rattle.p10_core.specs.Types.{PlainType, void, PlainMember}
use Rattle.p10_core.specs.Rows.{int_type}
use Rattle.p10_elabx.specs.First.{Keep, Ruled, lift}
use Rattle.p10_elabx.specs.Scopes.{local, unknown_name, named}
use Rattle.p10_elabx.specs.declared.words.Said.{Said}
use Rattle.p10_elabx.specs.TypeNames.{said_of, nothing_specified, is_bad_mixture, typedef_rule, specified_type, specifiers_at, later, declarator_place}
use Rattle.p10_elabd.specs.Standing.{PlainStanding, Passed, passed, nothing_made, refusing, noted}
use Rattle.p10_elabd.specs.Words.{none_allowed, is_storage, word_row, by_row}
use Rattle.p10_elabd.specs.declared.site.Site.{Site}
use Rattle.p10_elabd.specs.declared.site.Site.TheVariants as site_is
use Rattle.p10_elabd.specs.declared.site.Allowed.{Allowed}
use Rattle.p10_elabd.specs.Blocks.{declaring}
use Rattle.p10_elabd.specs.Tagged.{structure_named, enumeration_named, Begun, begun, begun_anew, ended, structure_made, enumeration_begun, with_enumeration}
use Rattle.p10_elabd.specs.Members.{member_declared, with_width, with_member, enumerator_passed}
use Rattle.p10_elabd.specs.Shapes.{ListedParameter, DeclaredType, of_type, name_in, place_or, declares_function, declares_open_array, pointer_declared, element_declared, array_inside, array_declared, open_declared, function_inside, result_declared, parameter_declared, among_parameters, list_of, function_declared}

-- ## Pieces

-- the types that specifiers named so far, with those of one more
abbrev pub both_named : Option (Option PlainType) → Option (Option PlainType) → Option (Option PlainType)
both_named (Some a) (Some b) = Some (later a b)
both_named None b = None
both_named (Some a) None = None

-- a type as what a specifier names
abbrev pub as_named : Passed PlainType → Passed (Option PlainType)
as_named p = record { made = option_map (λ t. Some t) p.made; after = p.after }

-- a word as a specifier
abbrev pub word_passed : Keep → Site → Allowed → Bool → At → Sign → PlainStanding → Passed (Option PlainType)
word_passed h site allowed stored at word s =
    let after : PlainStanding = by_row h (word_row site allowed stored word) at s in
    record { made = if is_some (word_row site allowed stored word) then None else Some None; after = after }

-- whether a storage word stands among specifiers, one more included
abbrev pub stored_by : Bool → Specifier At → Bool
stored_by stored (Keyword at word) = stored || is_storage word
stored_by stored one = stored

-- the type that a list of specifiers names, by its mixture of words
abbrev pub type_specified : Keep → Specifiers At → Passed (Option PlainType) → Passed PlainType
type_specified h specifiers p =
    let said : Said = said_of specifiers nothing_specified in
    let s : PlainStanding = refusing h (is_bad_mixture said) subset.BadSpecifier (specifiers_at nowhere specifiers) p.after in
    record { made = if is_bad_mixture said then None else type_from said p.made; after = s }
  where
    ok_of : Ruled PlainType → Option PlainType
    ok_of (Ok t) = Some t
    ok_of (Err r) = None

    type_from : Said → Option (Option PlainType) → Option PlainType
    type_from said None = None
    type_from said (Some t) = ok_of (specified_type said t)

-- a union isn't in the subset
abbrev pub unless_union : Keep → At → Sign → Passed PlainType → Passed PlainType
unless_union h at sign.Union p = nothing_made (refusing h true subset.UnionOrBitField at p.after)
unless_union h at word p = p

-- a union's name or a structure's, where it has no body
abbrev pub tag_passed : Keep → Bool → At → Sign → Option (Identifier At) → PlainStanding → Passed PlainType
tag_passed h alone at sign.Union tag s = nothing_made (refusing h true subset.UnionOrBitField at s)
tag_passed h alone at word None s = nothing_made s
tag_passed h alone at word (Some tag) s = structure_named h alone tag s

-- an enumeration's name, where it has no constants
abbrev pub enumeration_by_name : Keep → At → Option (Identifier At) → PlainStanding → Passed PlainType
enumeration_by_name h at None s = nothing_made s
enumeration_by_name h at (Some tag) s = enumeration_named h at tag s

-- one constant of an enumeration
abbrev pub one_enumerator_passed : Keep → Passed ℤ → Enumerator At → Passed ℤ
one_enumerator_passed h p (enumerator at name value) = enumerator_passed h p.made name value p.after

-- constants of an enumeration after those before, each with the value of the next one
abbrev pub enumerators_passed : Keep → Passed ℤ → Enumerators At → Passed ℤ
enumerators_passed h p NoEnumerators = p
enumerators_passed h p (MoreEnumerators e rest) = enumerators_passed h (one_enumerator_passed h p e) rest

-- before the first constant of an enumeration, whose value is 0 where none is written
abbrev pub first_constant : PlainStanding → Passed ℤ
first_constant s = record { made = Some (pos 0); after = s }

-- an enumeration with its constants, or by its tag alone
abbrev pub enumeration_passed : Keep → At → Option (Identifier At) → PlainStanding → Enumerators At → Passed PlainType
enumeration_passed h at tag s NoEnumerators = enumeration_by_name h at tag s
enumeration_passed h at tag s (MoreEnumerators e rest) =
    passed int_type (with_enumeration tag (enumerators_passed h (first_constant (enumeration_begun h tag s)) (MoreEnumerators e rest)).after)

-- where the members of a union or a structure stand
abbrev pub begun_with : Keep → Sign → Option (Identifier At) → PlainStanding → Begun
begun_with h sign.Union tag s = begun_anew None s
begun_with h word tag s = begun h tag s

-- a name that a parameter declares: it hides others up to the end of the declarator
abbrev pub with_parameter : Keep → ℕ → Option (Identifier At) → Option PlainType → PlainStanding → PlainStanding
with_parameter h i None t s = s
with_parameter h i (Some name) None s = declaring h name unknown_name s
with_parameter h i (Some name) (Some t) s = declaring h name (local i t false) s

-- parameters as they are listed, and where what follows stands
pub record Listing : Type 0 where
  pub parameters : List ListedParameter
  pub after : PlainStanding

-- no parameters
abbrev pub none_listed : PlainStanding → Listing
none_listed s = record { parameters = []; after = s }

-- whether a type is `void` without a mark
abbrev pub is_plain_void : PlainType → Bool
is_plain_void (void c) = not c
is_plain_void t = false

-- whether what is declared is `void` without a name: as the only parameter it says that there are none (C99 6.7.5.3p10)
abbrev pub is_no_parameter : Declarator At → Option PlainType → Bool
is_no_parameter (Unnamed at) (Some t) = is_plain_void t
is_no_parameter d t = false

-- the type of specifiers, before a declarator
abbrev pub based : Option PlainType → PlainStanding → Passed DeclaredType
based t s = record { made = option_map of_type t; after = s }

-- a parameter after others, by what its declarator made of the type of its specifiers: that of a function would be a pointer to it
abbrev pub with_declared_parameter : Keep → ℕ → List ListedParameter → At → Declarator At → Passed DeclaredType → Listing
with_declared_parameter h i before at d j =
    let s : PlainStanding = refusing h (declares_function d) subset.BadPointer (declarator_place d) j.after in
    let u : Passed PlainType = parameter_declared h at (place_or at (name_in d)) j.made s in
    record { parameters = before ++ record { at = at; name = name_in d; type = u.made } ∷ []; after = with_parameter h i (name_in d) u.made u.after }

-- ## The trees

abbrev mutual
  -- specifiers after those before, of which one may be a storage word; `alone` says that they are a whole declaration
  pub specifiers_passed : Keep → Site → Allowed → Bool → Bool → Passed (Option PlainType) → Specifiers At → Passed (Option PlainType)
  specifiers_passed h site allowed alone stored p NoSpecifiers = p
  specifiers_passed h site allowed alone stored p (MoreSpecifiers one rest) =
      let q : Passed (Option PlainType) = specifier_passed h site allowed alone stored p.after one in
      specifiers_passed h site allowed alone (stored_by stored one) (record { made = both_named p.made q.made; after = q.after }) rest

  -- one specifier
  pub specifier_passed : Keep → Site → Allowed → Bool → Bool → PlainStanding → Specifier At → Passed (Option PlainType)
  specifier_passed h site allowed alone stored s (Keyword at word) = word_passed h site allowed stored at word s
  specifier_passed h site allowed alone stored s (Typedef name) = noted h (lift (typedef_rule name.place (named s.scope name.name))) s
  specifier_passed h site allowed alone stored s (Structure at word tag members) = as_named (structure_passed h alone at word tag s members)
  specifier_passed h site allowed alone stored s (Enumeration at tag enumerators comma) = as_named (enumeration_passed h at tag s enumerators)

  -- a structure or a union with its members, or by its tag alone
  pub structure_passed : Keep → Bool → At → Sign → Option (Identifier At) → PlainStanding → Members At → Passed PlainType
  structure_passed h alone at word tag s NoMembers = tag_passed h alone at word tag s
  structure_passed h alone at word tag s (MoreMembers m rest) =
      let b : Begun = begun_with h word tag s in
      let p : Passed (List PlainMember) = members_passed h (member_passed h (passed [] b.standing) m) rest in
      unless_union h at word (structure_made h at tag b.number p.made (ended p.after))

  -- declarations of members after those before
  pub members_passed : Keep → Passed (List PlainMember) → Members At → Passed (List PlainMember)
  members_passed h p NoMembers = p
  members_passed h p (MoreMembers m rest) = members_passed h (member_passed h p m) rest

  -- one declaration of members
  pub member_passed : Keep → Passed (List PlainMember) → MemberDeclaration At → Passed (List PlainMember)
  member_passed h p (member_declaration at specifiers fields) =
      let t : Passed PlainType = type_specified h specifiers (specifiers_passed h site_is.OfMembers none_allowed false false (passed None p.after) specifiers) in
      fields_passed h t.made (record { made = p.made; after = t.after }) fields

  -- what a declaration of members declares, with the type of its specifiers
  pub fields_passed : Keep → Option PlainType → Passed (List PlainMember) → Fields At → Passed (List PlainMember)
  fields_passed h t p NoFields = p
  fields_passed h t p (MoreFields f rest) = fields_passed h t (field_passed h t p f) rest

  -- one member
  pub field_passed : Keep → Option PlainType → Passed (List PlainMember) → Field At → Passed (List PlainMember)
  field_passed h t p (field at d width) =
      let name_at : At = place_or (declarator_place d) (name_in d) in
      let j : Passed DeclaredType = declarator_passed h name_at (based t (with_width h (declarator_place d) width p.after)) d in
      let s : PlainStanding = refusing h (declares_function d || declares_open_array d) subset.IncompleteType name_at j.after in
      with_member h name_at p.made (name_in d) (member_declared h name_at j.made s)

  -- what a declarator makes of a type, from its specifiers to its name
  pub declarator_passed : Keep → At → Passed DeclaredType → Declarator At → Passed DeclaredType
  declarator_passed h name_at p (Named name) = p
  declarator_passed h name_at p (Unnamed at) = p
  declarator_passed h name_at p (Pointer at qualifiers d) = declarator_passed h name_at (pointer_declared h at name_at qualifiers p.made p.after) d
  declarator_passed h name_at p (Parenthesised at d) = declarator_passed h name_at p d
  declarator_passed h name_at p (Array at d brackets Absent) =
      declarator_passed h name_at (open_declared (element_declared h name_at p.made (array_inside h name_at true d p.after))) d
  declarator_passed h name_at p (Array at d brackets (Present e)) =
      declarator_passed h name_at (array_declared h e (element_declared h name_at p.made (array_inside h name_at false d p.after))) d
  declarator_passed h name_at p (Function at d parentheses all more) =
      let r : Passed PlainType = result_declared h at name_at p.made p.after in
      let s : PlainStanding = function_inside h name_at d (refusing h more subset.NoPrototype parentheses r.after) in
      let q : Listing = all_parameters_passed h (among_parameters s) parentheses all in
      declarator_passed h name_at (function_declared (list_of all more) r.made q.parameters q.after) d

  -- the parameters of a function: there are some, or the word `void` (C99 6.7.5.3p10, p14)
  pub all_parameters_passed : Keep → PlainStanding → At → Parameters At → Listing
  all_parameters_passed h s at NoParameters = none_listed (refusing h true subset.NoPrototype at s)
  all_parameters_passed h s at (MoreParameters one NoParameters) = only_parameter_passed h s one
  all_parameters_passed h s at (MoreParameters one rest) = parameters_passed h 1 (one_parameter_passed h 0 (none_listed s) one) rest

  -- a parameter that stands alone
  pub only_parameter_passed : Keep → PlainStanding → Parameter At → Listing
  only_parameter_passed h s (parameter at specifiers d) =
      let t : Passed PlainType = type_specified h specifiers (specifiers_passed h site_is.OfParameter none_allowed false false (passed None s) specifiers) in
      if is_no_parameter d t.made then none_listed t.after
      else with_declared_parameter h 0 [] at d (declarator_passed h (place_or at (name_in d)) (based t.made t.after) d)

  -- parameters after those before, the next one with its number
  pub parameters_passed : Keep → ℕ → Listing → Parameters At → Listing
  parameters_passed h i p NoParameters = p
  parameters_passed h i p (MoreParameters one rest) = parameters_passed h (i + 1) (one_parameter_passed h i p one) rest

  -- one parameter
  pub one_parameter_passed : Keep → ℕ → Listing → Parameter At → Listing
  one_parameter_passed h i p (parameter at specifiers d) =
      let t : Passed PlainType = type_specified h specifiers (specifiers_passed h site_is.OfParameter none_allowed false false (passed None p.after) specifiers) in
      with_declared_parameter h i p.parameters at d (declarator_passed h (place_or at (name_in d)) (based t.made t.after) d)

-- the type that specifiers name where something is declared; `alone` says that they are a whole declaration
abbrev pub specified : Keep → Site → Allowed → Bool → PlainStanding → Specifiers At → Passed PlainType
specified h site allowed alone s specifiers =
    type_specified h specifiers (specifiers_passed h site allowed alone false (passed None s) specifiers)

-- a function with a result and these parameters, whose names end with its declarator
abbrev pub function_passed : Keep → At → Bool → Option PlainType → PlainStanding → Parameters At → Passed DeclaredType
function_passed h parentheses more result s all =
    let q : Listing = all_parameters_passed h (among_parameters s) parentheses all in
    function_declared (list_of all more) result q.parameters q.after

-- one parameter with the type of its specifiers
abbrev pub typed_parameter_passed : Keep → ℕ → List ListedParameter → Passed PlainType → At → Declarator At → Listing
typed_parameter_passed h i before t at d =
    with_declared_parameter h i before at d (declarator_passed h (place_or at (name_in d)) (based t.made t.after) d)
