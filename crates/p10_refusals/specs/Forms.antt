-- What is told of a declarator is told of the whole declaration in which it stands: rows on its form, and lengths of its arrays.
use Rattle.std.specs.Prelude.{◌≡◌, ◌⊎◌, true, false, Bool, List, ◌∷◌, ◌++◌, Some, Ok, Err}
use Rattle.p10_base.specs.declared.at.At.{At}
use Rattle.p10_base.specs.declared.codes.SubsetCode.TheVariants as subset
use Rattle.p10_syn.specs.Trees.{Identifier, Expression, Absent, Present, Declarator, Named, Unnamed, Pointer, Parenthesised, Array, Function, Parameters, InitDeclarator, Declaration}
use Rattle.p10_core.specs.Types.{PlainType}
use Rattle.p10_core.specs.Typed.{PlainValue}
use Rattle.p10_elabx.specs.declared.problem.Problem.{Problem}
use Rattle.p10_elabx.specs.First.{Among, every}
use Rattle.p10_elabx.specs.TypeNames.{length_found}
use Rattle.p10_elabd.specs.Laws.{elements_in, form_rows}
use Rattle.p10_elabd.specs.Standing.{PlainStanding, Passed, refusing}
use Rattle.p10_elabd.specs.Expressions.{value_found}
use Rattle.p10_elabd.specs.Words.{storage_of}
use Rattle.p10_elabd.specs.Shapes.{DeclaredType, name_in, pointer_declared, element_declared, array_inside, array_declared, open_declared, function_inside, result_declared, among_parameters, list_of, function_declared}
use Rattle.p10_elabd.specs.Declaring.{Listing, based, declarator_passed, all_parameters_passed}
use Rattle.p10_elabd.specs.declared.site.Site.{Site}
use Rattle.p10_elabd.specs.declared.site.Site.TheVariants as site_is
use Rattle.p10_heads.specs.Heads.{Heads}
use Rattle.p10_elabs.specs.Addresses.{constants_of}
use Rattle.p10_elabs.specs.Locals.{Frame, Local, with_standing, specified_in, makes_sensors}
use Rattle.p10_elabs.specs.LocalDeclarations.{no_items, local_declarators, declared_locally}
use Rattle.p10_elab.specs.Knowledge.{Known}
use Rattle.p10_elab.specs.Outer.{main_constants, outer_declarators, declared_outside}

-- ## Where a declaration comes to a declarator

-- where a declaration outside of functions comes to the declarator after those before it: the type of its specifiers, and what stands
abbrev pub reached_outside : Heads → Known → Declaration At → List (InitDeclarator At) → Passed DeclaredType
reached_outside heads k d before =
    let t : Passed PlainType = specified_in every true site_is.Outside k.standing d in
    based t.made (outer_declarators every heads (storage_of d.specifiers) (makes_sensors d) t.made (record k { standing = t.after; mains = k.mains ++ main_constants (constants_of d.specifiers) }) before).standing

-- where a declaration in a block, or in the first clause of a `for`, comes to the declarator after those before it
abbrev pub reached_in_function : Frame → Site → Local → Declaration At → List (InitDeclarator At) → Passed DeclaredType
reached_in_function f site l d before =
    let t : Passed PlainType = specified_in every false site l.standing d in
    based t.made (local_declarators every f d.place (storage_of d.specifiers) (makes_sensors d) t.made (no_items (with_standing l t.after)) before).after.standing

-- a declarator of a declaration that declares a name, after those before it
pub record DeclaredAfter (d : Declaration At) (before : List (InitDeclarator At)) (one : InitDeclarator At) (name : Identifier At) : Type 0 where
  pub after : List (InitDeclarator At)
  pub declarators : d.declarators ≡ before ++ one ∷ after
  pub named : name_in one.declarator ≡ Some name

-- what is told of one declarator, where its declaration comes to it, is told of the declaration, whatever stands beside it
pub record DeclaratorsAreTold : Type 0 where
  pub outside : (heads : Heads) (k : Known) (d : Declaration At) (before : List (InitDeclarator At)) (one : InitDeclarator At) (name : Identifier At) (r : Problem) → DeclaredAfter d before one name →
      Among r (declarator_passed every name.place (reached_outside heads k d before) one.declarator).after.problems → Among r (declared_outside every heads k d).standing.problems
  pub in_function : (f : Frame) (site : Site) (l : Local) (d : Declaration At) (before : List (InitDeclarator At)) (one : InitDeclarator At) (name : Identifier At) (r : Problem) → DeclaredAfter d before one name →
      Among r (declarator_passed every name.place (reached_in_function f site l d before) one.declarator).after.problems → Among r (declared_locally every f site l d).after.standing.problems

-- ## Rows on the form

-- each row that holds by the form of a declarator is told of its declaration, whatever of that is refused
pub record FormRowsOfDeclarationsAreTold : Type 0 where
  pub outside : (heads : Heads) (k : Known) (d : Declaration At) (before : List (InitDeclarator At)) (one : InitDeclarator At) (name : Identifier At) (r : Problem) → DeclaredAfter d before one name →
      Among r (form_rows name.place one.declarator) → Among r (declared_outside every heads k d).standing.problems
  pub in_function : (f : Frame) (site : Site) (l : Local) (d : Declaration At) (before : List (InitDeclarator At)) (one : InitDeclarator At) (name : Identifier At) (r : Problem) → DeclaredAfter d before one name →
      Among r (form_rows name.place one.declarator) → Among r (declared_locally every f site l d).after.standing.problems

-- ## Lengths

-- a row of a length that is no constant of at least 1, and of which no part is refused
pub record IsRefusedLength (s : PlainStanding) (e : Expression At) (r : Problem) : Type 0 where
  pub value : PlainValue
  pub found : value_found every s e ≡ Ok value
  pub refused : length_found value ≡ Err (Some r)

-- what a function in a declarator makes of its result
abbrev pub function_made_of : At → At → Passed DeclaredType → Declarator At → At → Parameters At → Bool → Passed DeclaredType
function_made_of name_at at p d parentheses all more =
    let u : Passed PlainType = result_declared every at name_at p.made p.after in
    let s : PlainStanding = function_inside every name_at d (refusing every more subset.NoPrototype parentheses u.after) in
    let q : Listing = all_parameters_passed every (among_parameters s) parentheses all in
    function_declared (list_of all more) u.made q.parameters q.after

-- a row of one of the lengths in a declarator, each where the declarator comes to it; those in lists of parameters stand in declarators
-- of their own
abbrev pub IsLengthRow : At → Passed DeclaredType → Declarator At → Problem → Type 0
IsLengthRow name_at p (Named name) r = ⊥
IsLengthRow name_at p (Unnamed at) r = ⊥
IsLengthRow name_at p (Pointer at qualifiers d) r = IsLengthRow name_at (pointer_declared every at name_at qualifiers p.made p.after) d r
IsLengthRow name_at p (Parenthesised at d) r = IsLengthRow name_at p d r
IsLengthRow name_at p (Array at d brackets Absent) r = IsLengthRow name_at (open_declared (element_declared every name_at p.made (array_inside every name_at true d p.after))) d r
IsLengthRow name_at p (Array at d brackets (Present e)) r = IsRefusedLength (elements_in name_at p d).after e r ⊎ IsLengthRow name_at (array_declared every e (elements_in name_at p d)) d r
IsLengthRow name_at p (Function at d parentheses all more) r = IsLengthRow name_at (function_made_of name_at at p d parentheses all more) d r

-- each row of a length in a declarator is told of that, and of its declaration, whatever of them is refused
pub record LengthsOfDeclarationsAreTold : Type 0 where
  pub declarator : (name_at : At) (p : Passed DeclaredType) (d : Declarator At) (r : Problem) → IsLengthRow name_at p d r → Among r (declarator_passed every name_at p d).after.problems
  pub outside : (heads : Heads) (k : Known) (d : Declaration At) (before : List (InitDeclarator At)) (one : InitDeclarator At) (name : Identifier At) (r : Problem) → DeclaredAfter d before one name →
      IsLengthRow name.place (reached_outside heads k d before) one.declarator r → Among r (declared_outside every heads k d).standing.problems
  pub in_function : (f : Frame) (site : Site) (l : Local) (d : Declaration At) (before : List (InitDeclarator At)) (one : InitDeclarator At) (name : Identifier At) (r : Problem) → DeclaredAfter d before one name →
      IsLengthRow name.place (reached_in_function f site l d before) one.declarator r → Among r (declared_locally every f site l d).after.standing.problems
