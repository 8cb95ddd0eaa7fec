-- Small functions in two programs, and their views.
use Rattle.std.specs.Prelude.{◌≡◌, ℕ, false, List, [], ◌∷◌, pos, Some, None}
use Rattle.p10_int.specs.declared.types.IntType.TheVariants.{Char}
use Rattle.p10_core.specs.Types.{void, integer, pointer, array, structure, PlainMember, PlainStructure}
use Rattle.p10_core.specs.Typed.{value, read, place, global, set, copy, statement, PlainFunction, PlainProgram}
use Rattle.p10_meaning.specs.Examples.{tree, int, number, function_of, main_of, returns}
use Rattle.p10_views.specs.Erased.{erased_type}
use Rattle.p10_views.specs.Views.{view_of}

-- a structure without members, and one of two integers, which is the structure with a number
abbrev pub lone : ℕ → PlainStructure
lone n = record { tag = None; body = Some (record { members = []; order = n; bytes = 0; alignment = 1; scalars = 0; constant = false }); representative = n }

abbrev pub member_of : ℕ → PlainMember
member_of name = record { name = name ∷ []; type = int }

abbrev pub pair : ℕ → PlainStructure
pair n = record { tag = None; body = Some (record { members = member_of 97 ∷ member_of 98 ∷ []; order = n; bytes = 8; alignment = 4; scalars = 2; constant = false }); representative = n }

-- a program with these structures
abbrev pub with_structures : List PlainStructure → PlainProgram
with_structures structures = record (main_of [] []) { structures = structures; main = 1 }

-- `pair` is the first structure of a program, and after an edit the second
abbrev pub before : PlainProgram
before = with_structures (pair 0 ∷ [])

abbrev pub after : PlainProgram
after = with_structures (lone 0 ∷ pair 1 ∷ [])

-- `count = 1; one = other; return count;`: where its trees stand, the number of its first object, and that of the structure
abbrev pub counts : ℕ → ℕ → ℕ → PlainFunction
counts at object n = function_of 0 int [] (
    statement (tree at) (set (place (tree at) int (global object)) (number (pos 1)))
    ∷ statement (tree at) (copy (place (tree at) (structure false n) (global object)) (place (tree at) (structure false n) (global object)))
    ∷ returns (value (tree at) int (read (place (tree at) int (global object)))) ∷ [])

-- views
pub record ViewsCompared : Type 0 where
  -- other places, objects and numbers of structures
  pub moved : view_of before 0 (counts 1 0 0) ≡ view_of after 0 (counts 7 3 1)
  -- what is left of types
  pub two_scalars : erased_type after (structure false 1) ≡ array false (integer false Char) 2
  pub pointer_to_pair : erased_type after (pointer false (structure false 1)) ≡ pointer false (void false)
  pub wide : erased_type after (array false (structure false 1) 3) ≡ array false (integer false Char) 6
