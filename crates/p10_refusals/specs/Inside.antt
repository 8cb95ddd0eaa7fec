-- What is told of members, of parameters and of constants of enumerations is told of the whole declaration in which they stand.
use Rattle.std.specs.Prelude.{◌≡◌, ◌⊎◌, ◌||◌, ℕ, ◌+◌, ℤ, false, true, not, Bool, List, [], Option, None}
use Rattle.p10_base.specs.declared.at.At.{At}
use Rattle.p10_base.specs.declared.codes.SubsetCode.TheVariants as subset
use Rattle.p10_syn.specs.Trees.{Identifier, Specifiers, NoSpecifiers, MoreSpecifiers, Specifier, Keyword, Typedef, Structure, Enumeration, Enumerators, NoEnumerators, MoreEnumerators, Members, NoMembers, MoreMembers, MemberDeclaration, member_declaration, Fields, NoFields, MoreFields, Field, field, Absent, Present, Declarator, Named, Unnamed, Pointer, Parenthesised, Array, Function, Parameters, NoParameters, MoreParameters, Parameter, parameter, InitDeclarator, Declaration}
use Rattle.p10_core.specs.Types.{PlainType, PlainMember}
use Rattle.p10_elabx.specs.declared.problem.Problem.{Problem}
use Rattle.p10_elabx.specs.First.{Among, every}
use Rattle.p10_elabx.specs.TypeNames.{declarator_place}
use Rattle.p10_elabd.specs.Laws.{elements_in, incomplete_at, form_rows}
use Rattle.p10_elabd.specs.Standing.{PlainStanding, Passed, passed, refusing}
use Rattle.p10_elabd.specs.Words.{none_allowed}
use Rattle.p10_elabd.specs.declared.site.Site.{Site}
use Rattle.p10_elabd.specs.declared.site.Site.TheVariants as site_is
use Rattle.p10_elabd.specs.declared.site.Allowed.{Allowed}
use Rattle.p10_elabd.specs.Tagged.{enumeration_begun}
use Rattle.p10_elabd.specs.Members.{with_width}
use Rattle.p10_elabd.specs.Shapes.{DeclaredType, name_in, place_or, declares_function, declares_open_array, pointer_declared, element_declared, array_inside, array_declared, open_declared, function_inside, result_declared, among_parameters}
use Rattle.p10_elabd.specs.Declaring.{both_named, stored_by, type_specified, one_enumerator_passed, first_constant, begun_with, Listing, none_listed, based, specifiers_passed, specifier_passed, member_passed, field_passed, declarator_passed, one_parameter_passed}
use Rattle.p10_heads.specs.Heads.{Heads}
use Rattle.p10_elabs.specs.Locals.{Frame, Local, allowed_by, is_alone}
use Rattle.p10_elabs.specs.LocalDeclarations.{declared_locally}
use Rattle.p10_elab.specs.Knowledge.{Known}
use Rattle.p10_elab.specs.Outer.{declared_outside}
use Rattle.p10_refusals.specs.Forms.{reached_outside, reached_in_function, DeclaredAfter, function_made_of, IsLengthRow}

-- ## Where the walk comes to members and parameters

-- a row on the form of a declarator, or of one of its lengths, where the walk comes to it
abbrev pub IsRowOf : At → Passed DeclaredType → Declarator At → Problem → Type 0
IsRowOf name_at p d r = Among r (form_rows name_at d) ⊎ IsLengthRow name_at p d r

-- a row on the form of a member: it is no function, and no array without a length (C99 6.7.2.1p2)
abbrev pub IsRowOfMember : At → Declarator At → Problem → Type 0
IsRowOfMember name_at d r = ((declares_function d || declares_open_array d) ≡ true) × (r ≡ incomplete_at name_at)

-- a row on the form of a parameter: it is no function, whose type would become that of a pointer to it (C99 6.7.5.3p8)
abbrev pub IsRowOfParameter : Declarator At → Problem → Type 0
IsRowOfParameter d r = (declares_function d ≡ true) × (r ≡ record { code = subset.BadPointer; at = declarator_place d })

-- whether a list of parameters is that of a prototype in the subset: there are some, or the word `void`, and no `...` (C99 6.7.5.3p9, p14)
abbrev pub is_prototype_list : Parameters At → Bool → Bool
is_prototype_list NoParameters more = false
is_prototype_list (MoreParameters one rest) more = not more

-- a row on the form of a list of parameters, at its parentheses
abbrev pub IsRowOfList : At → Parameters At → Bool → Problem → Type 0
IsRowOfList parentheses all more r = (is_prototype_list all more ≡ false) × (r ≡ record { code = subset.NoPrototype; at = parentheses })

-- where the type that the specifiers of a member or a parameter name is known
abbrev pub type_reached : Site → PlainStanding → Specifiers At → Passed PlainType
type_reached site s specifiers = type_specified every specifiers (specifiers_passed every site none_allowed false false (passed None s) specifiers)

-- where the function of a declarator comes to its parameters
abbrev pub parameters_reached : At → At → Passed DeclaredType → Declarator At → At → Bool → PlainStanding
parameters_reached name_at at p d parentheses more =
    among_parameters (function_inside every name_at d (refusing every more subset.NoPrototype parentheses (result_declared every at name_at p.made p.after).after))

-- a row that is told of one of the constants of an enumeration: of its value or its name
abbrev pub IsInEnumerators : Passed ℤ → Enumerators At → Problem → Type 0
IsInEnumerators p NoEnumerators r = ⊥
IsInEnumerators p (MoreEnumerators e rest) r = Among r (one_enumerator_passed every p e).after.problems ⊎ IsInEnumerators (one_enumerator_passed every p e) rest r

abbrev mutual
  -- a row of a declarator of a member, of a parameter, or of what stands in those, among specifiers
  pub IsInSpecifiers : Site → Allowed → Bool → Bool → Passed (Option PlainType) → Specifiers At → Problem → Type 0
  IsInSpecifiers site allowed alone stored p NoSpecifiers r = ⊥
  IsInSpecifiers site allowed alone stored p (MoreSpecifiers one rest) r =
      let q : Passed (Option PlainType) = specifier_passed every site allowed alone stored p.after one in
      IsInSpecifier p.after one r ⊎ IsInSpecifiers site allowed alone (stored_by stored one) (record { made = both_named p.made q.made; after = q.after }) rest r

  -- the same in one specifier: a structure or a union with its members, or an enumeration with its constants
  pub IsInSpecifier : PlainStanding → Specifier At → Problem → Type 0
  IsInSpecifier s (Keyword at word) r = ⊥
  IsInSpecifier s (Typedef name) r = ⊥
  IsInSpecifier s (Structure at word tag members) r = IsInMembers (passed [] (begun_with every word tag s).standing) members r
  IsInSpecifier s (Enumeration at tag constants comma) r = IsInEnumerators (first_constant (enumeration_begun every tag s)) constants r

  -- in declarations of members
  pub IsInMembers : Passed (List PlainMember) → Members At → Problem → Type 0
  IsInMembers p NoMembers r = ⊥
  IsInMembers p (MoreMembers m rest) r = IsInMember p m r ⊎ IsInMembers (member_passed every p m) rest r

  -- in one declaration of members
  pub IsInMember : Passed (List PlainMember) → MemberDeclaration At → Problem → Type 0
  IsInMember p (member_declaration at specifiers fields) r =
      let t : Passed PlainType = type_reached site_is.OfMembers p.after specifiers in
      IsInSpecifiers site_is.OfMembers none_allowed false false (passed None p.after) specifiers r ⊎
      IsInFields t.made (record { made = p.made; after = t.after }) fields r

  -- in the members that it declares
  pub IsInFields : Option PlainType → Passed (List PlainMember) → Fields At → Problem → Type 0
  IsInFields t p NoFields r = ⊥
  IsInFields t p (MoreFields f rest) r = IsInField t p f r ⊎ IsInFields t (field_passed every t p f) rest r

  -- in one member
  pub IsInField : Option PlainType → Passed (List PlainMember) → Field At → Problem → Type 0
  IsInField t p (field at d width) r =
      let b : Passed DeclaredType = based t (with_width every (declarator_place d) width p.after) in
      let name_at : At = place_or (declarator_place d) (name_in d) in
      IsRowOf name_at b d r ⊎ (IsRowOfMember name_at d r ⊎ IsInDeclarator name_at b d r)

  -- in the lists of parameters of a declarator
  pub IsInDeclarator : At → Passed DeclaredType → Declarator At → Problem → Type 0
  IsInDeclarator name_at p (Named name) r = ⊥
  IsInDeclarator name_at p (Unnamed at) r = ⊥
  IsInDeclarator name_at p (Pointer at qualifiers d) r = IsInDeclarator name_at (pointer_declared every at name_at qualifiers p.made p.after) d r
  IsInDeclarator name_at p (Parenthesised at d) r = IsInDeclarator name_at p d r
  IsInDeclarator name_at p (Array at d brackets Absent) r = IsInDeclarator name_at (open_declared (element_declared every name_at p.made (array_inside every name_at true d p.after))) d r
  IsInDeclarator name_at p (Array at d brackets (Present e)) r = IsInDeclarator name_at (array_declared every e (elements_in name_at p d)) d r
  IsInDeclarator name_at p (Function at d parentheses all more) r =
      IsRowOfList parentheses all more r
      ⊎ (IsInAllParameters (parameters_reached name_at at p d parentheses more) all r ⊎ IsInDeclarator name_at (function_made_of name_at at p d parentheses all more) d r)

  -- in a whole list of parameters
  pub IsInAllParameters : PlainStanding → Parameters At → Problem → Type 0
  IsInAllParameters s NoParameters r = ⊥
  IsInAllParameters s (MoreParameters one rest) r = IsInParameter s one r ⊎ IsInParameters 1 (one_parameter_passed every 0 (none_listed s) one) rest r

  -- in parameters, of which the next one has a number
  pub IsInParameters : ℕ → Listing → Parameters At → Problem → Type 0
  IsInParameters i p NoParameters r = ⊥
  IsInParameters i p (MoreParameters one rest) r = IsInParameter p.after one r ⊎ IsInParameters (i + 1) (one_parameter_passed every i p one) rest r

  -- in one parameter
  pub IsInParameter : PlainStanding → Parameter At → Problem → Type 0
  IsInParameter s (parameter at specifiers d) r =
      let t : Passed PlainType = type_reached site_is.OfParameter s specifiers in
      IsInSpecifiers site_is.OfParameter none_allowed false false (passed None s) specifiers r ⊎
      (IsRowOf (place_or at (name_in d)) (based t.made t.after) d r ⊎ (IsRowOfParameter d r ⊎ IsInDeclarator (place_or at (name_in d)) (based t.made t.after) d r))

-- ## Whole declarations

-- each row that is told of a constant of an enumeration, each on the form of the declarator or the name of a member or a parameter or on that
-- of a list of parameters, and each of a length that is no constant of at least 1 and of which no part is refused, is told of the
-- declaration in which it stands, however deep, whatever is refused there
pub record PartsOfDeclarationsAreTold : Type 0 where
  pub specifiers : (site : Site) (allowed : Allowed) (alone stored : Bool) (p : Passed (Option PlainType)) (all : Specifiers At) (r : Problem) →
      IsInSpecifiers site allowed alone stored p all r → Among r (specifiers_passed every site allowed alone stored p all).after.problems
  pub declarator : (name_at : At) (p : Passed DeclaredType) (d : Declarator At) (r : Problem) → IsInDeclarator name_at p d r → Among r (declarator_passed every name_at p d).after.problems
  pub specifiers_outside : (heads : Heads) (k : Known) (d : Declaration At) (r : Problem) →
      IsInSpecifiers site_is.Outside (allowed_by d) (is_alone d) false (passed None k.standing) d.specifiers r → Among r (declared_outside every heads k d).standing.problems
  pub specifiers_in_function : (f : Frame) (site : Site) (l : Local) (d : Declaration At) (r : Problem) →
      IsInSpecifiers site (allowed_by d) (is_alone d) false (passed None l.standing) d.specifiers r → Among r (declared_locally every f site l d).after.standing.problems
  pub declarator_outside : (heads : Heads) (k : Known) (d : Declaration At) (before : List (InitDeclarator At)) (one : InitDeclarator At) (name : Identifier At) (r : Problem) → DeclaredAfter d before one name →
      IsInDeclarator name.place (reached_outside heads k d before) one.declarator r → Among r (declared_outside every heads k d).standing.problems
  pub declarator_in_function : (f : Frame) (site : Site) (l : Local) (d : Declaration At) (before : List (InitDeclarator At)) (one : InitDeclarator At) (name : Identifier At) (r : Problem) → DeclaredAfter d before one name →
      IsInDeclarator name.place (reached_in_function f site l d before) one.declarator r → Among r (declared_locally every f site l d).after.standing.problems
