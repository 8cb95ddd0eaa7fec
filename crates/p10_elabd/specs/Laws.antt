-- What holds of problems that are noted while declarations are passed.
use Rattle.std.specs.Prelude.{◌≡◌, Bool, true, false, if◌then◌else◌, List, [], ◌∷◌, ◌++◌, Some, Ok, Err}
use Rattle.p10_base.specs.declared.at.At.{At}
use Rattle.p10_base.specs.declared.codes.SubsetCode.TheVariants as subset
use Rattle.p10_syn.specs.Trees.{Expression, Absent, Present, Declarator, Named, Unnamed, Pointer, Parenthesised, Array, Function}
use Rattle.p10_core.specs.Types.{PlainType}
use Rattle.p10_core.specs.Typed.{PlainValue}
use Rattle.p10_elabx.specs.declared.problem.Problem.{Problem}
use Rattle.p10_elabx.specs.First.{Among, IsFirst, joined, every, only_first}
use Rattle.p10_elabx.specs.TypeNames.{length_found}
use Rattle.p10_elabd.specs.Standing.{Passed}
use Rattle.p10_elabd.specs.Expressions.{value_found}
use Rattle.p10_elabd.specs.Shapes.{DeclaredType, element_declared, array_inside, array_declared}
use Rattle.p10_elabd.specs.Declaring.{declarator_passed}

-- of all problems the first one is kept, or none where there is none
abbrev pub AreKept : List Problem → List Problem → Type 0
AreKept all [] = all ≡ []
AreKept all (r ∷ []) = IsFirst r all
AreKept all (r ∷ q ∷ rest) = ⊥

-- where the first of some problems is kept, and the first of more, the first of both is kept of them together
abbrev pub TheFirstOfBothIsKept : Type 0
TheFirstOfBothIsKept =
    (all kept more few : List Problem) → AreKept all kept → AreKept more few → AreKept (joined every all more) (joined only_first kept few)

-- ## Lengths

-- the elements of an array in a declarator, as they stand before its length
abbrev pub elements_in : At → Passed DeclaredType → Declarator At → Passed PlainType
elements_in name_at p d = element_declared every name_at p.made (array_inside every name_at false d p.after)

-- a length that isn't a constant of at least 1, and of which no part is refused, is told, whatever the elements of its array are and
-- whatever the rest of the declarator is
pub record LengthsAreTold : Type 0 where
  pub of_array : (e : Expression At) (element : Passed PlainType) (v : PlainValue) (r : Problem) → value_found every element.after e ≡ Ok v → length_found v ≡ Err (Some r) →
      Among r (array_declared every e element).after.problems
  pub in_declarator : (name_at : At) (p : Passed DeclaredType) (at brackets : At) (d : Declarator At) (e : Expression At) (v : PlainValue) (r : Problem) →
      value_found every (elements_in name_at p d).after e ≡ Ok v → length_found v ≡ Err (Some r) →
      Among r (declarator_passed every name_at p (Array at d brackets (Present e))).after.problems

-- ## Rows on the form of a declarator

-- a type without a size at a declared name
abbrev pub incomplete_at : At → Problem
incomplete_at at = record { code = subset.IncompleteType; at = at }

-- a declarator without the parentheses round it
abbrev pub inside_parentheses : Declarator At → Declarator At
inside_parentheses (Parenthesised at d) = inside_parentheses d
inside_parentheses d = d

-- what is wrong by its form with an array that stands in a declarator: a function gives none; one without a length is no element and has
-- no pointer to it (C99 6.7.5.2p1, 6.7.5.3p1)
abbrev pub array_form : At → Bool → Declarator At → List Problem
array_form name_at lacking (Function at d parentheses all more) = incomplete_at name_at ∷ []
array_form name_at lacking (Array at d brackets length) = if lacking then incomplete_at name_at ∷ [] else []
array_form name_at lacking (Pointer at qualifiers d) = if lacking then incomplete_at name_at ∷ [] else []
array_form name_at lacking d = []

-- what is wrong by its form with a function that stands in a declarator: there is no pointer to it, it is no element, and no function
-- gives it
abbrev pub function_form : At → Declarator At → List Problem
function_form name_at (Function at d parentheses all more) = incomplete_at name_at ∷ []
function_form name_at (Array at d brackets length) = incomplete_at name_at ∷ []
function_form name_at (Pointer at qualifiers d) = record { code = subset.BadPointer; at = at } ∷ []
function_form name_at d = []

-- the rows that hold of a declarator by its form alone, whatever its parts are
abbrev pub form_rows : At → Declarator At → List Problem
form_rows name_at (Named name) = []
form_rows name_at (Unnamed at) = []
form_rows name_at (Pointer at qualifiers d) = form_rows name_at d
form_rows name_at (Parenthesised at d) = form_rows name_at d
form_rows name_at (Array at d brackets Absent) = array_form name_at true (inside_parentheses d) ++ form_rows name_at d
form_rows name_at (Array at d brackets (Present e)) = array_form name_at false (inside_parentheses d) ++ form_rows name_at d
form_rows name_at (Function at d parentheses all more) = function_form name_at (inside_parentheses d) ++ form_rows name_at d

-- each row that holds of a declarator by its form is noted, whether or not its type, its lengths or its parameters are refused, and what
-- was noted before it stays so
pub record FormRowsAreTold : Type 0 where
  pub told : (name_at : At) (p : Passed DeclaredType) (d : Declarator At) (r : Problem) → Among r (form_rows name_at d) → Among r (declarator_passed every name_at p d).after.problems
  pub kept : (name_at : At) (p : Passed DeclaredType) (d : Declarator At) (r : Problem) → Among r p.after.problems → Among r (declarator_passed every name_at p d).after.problems
