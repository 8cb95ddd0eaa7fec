-- Two programs with the same words but for one body, which completes a structure that its parameters declare in the second of them alone: the
-- structure of another root that is the same one has no width in the first, and one in the second. By its own root it has none in both, which
-- is what a view says of it.
use Rattle.std.specs.Prelude.{◌≡◌, ℕ, List, [], ◌∷◌, ◌++◌, false, Some, None, codes}
use Rattle.p10_base.specs.Words.{Text}
use Rattle.p10_syn.specs.declared.sign.Sign.TheVariants as sign
use Rattle.p10_syn.specs.Trees.{Bare, expression, Unary, Call, Absent, Present, Specifiers, Structure, NoMembers, member_declaration, field, Declarator, Pointer, Function, parameter, Statement, Return, External, expression_row, specifier_row, member_row, field_row, parameter_row}
use Rattle.p10_core.specs.Types.{structure}
use Rattle.p10_elab.specs.Programs.{Elaborated, program, elaborated}
use Rattle.p10_elab.specs.Examples.{id, name, int, called, one, local_of, outer_of, function_of, ends, main_of, located, fine, said_of}
use Rattle.p10_meaning.specs.Values.{width}
use Rattle.p10_views.specs.Erased.{own_width}

-- ## Trees

-- `struct s`
abbrev pub named_structure : Specifiers Bare
named_structure = specifier_row (Structure tt sign.Struct (Some (id (codes "s"))) NoMembers ∷ [])

-- `struct s { int a; }`
abbrev pub structure_with_member : Specifiers Bare
structure_with_member = specifier_row (Structure tt sign.Struct (Some (id (codes "s"))) (member_row (member_declaration tt int (field_row (field tt (called (codes "a")) Absent ∷ [])) ∷ [])) ∷ [])

-- a function with the parameter `struct s *p`
abbrev pub of_pointer : Text → Declarator Bare
of_pointer text = Function tt (called text) tt (parameter_row (parameter tt named_structure (Pointer tt [] (called (codes "p"))) ∷ [])) false

-- `return f(&*p);`
abbrev pub passes_pointer : Statement Bare
passes_pointer = Return tt tt (Present (expression tt 0 (Call (name (codes "f")) (expression_row (expression tt 0 (Unary sign.And (expression tt 0 (Unary sign.Star (name (codes "p"))))) ∷ [])))))

-- int f(struct s *p) { .. return 0; }, and in a root of its own
-- struct s; int f(struct s *p); int g(struct s *p) { return f(&*p); } int main(void) { return 0; }
abbrev pub roots_with : List (Statement Bare) → List (List (External Bare))
roots_with body =
    (function_of int (of_pointer (codes "f")) (body ++ ends ∷ []) ∷ [])
    ∷ (outer_of named_structure [] ∷ outer_of int (one (of_pointer (codes "f")) None ∷ []) ∷ function_of int (of_pointer (codes "g")) (passes_pointer ∷ []) ∷ main_of (ends ∷ []) ∷ [])
    ∷ []

-- the first program, and the second, whose body declares `struct s { int a; };`
abbrev pub apart : List (List (External Bare))
apart = roots_with []

abbrev pub completing : List (List (External Bare))
completing = roots_with (local_of structure_with_member [] ∷ [])

-- ## Widths

-- how many scalars the structure with a number has in a program
abbrev pub width_by : ℕ → Elaborated → ℕ
width_by n (program p) = width p (structure false n)
width_by n other = 0

abbrev pub width_in : ℕ → List (List (External Bare)) → ℕ
width_in n roots = width_by n (elaborated (located 0 roots))

abbrev pub own_by : ℕ → Elaborated → ℕ
own_by n (program p) = own_width p (structure false n)
own_by n other = 0

abbrev pub own_in : ℕ → List (List (External Bare)) → ℕ
own_in n roots = own_by n (elaborated (located 0 roots))

-- both are programs, and the structure of `*p` in `g`, that with the number 1, has another width in each, but none of its own
pub record WidthsMayDiffer : Type 0 where
  pub apart_is : said_of apart ≡ fine
  pub completed_is : said_of completing ≡ fine
  pub apart_width : width_in 1 apart ≡ 0
  pub completed_width : width_in 1 completing ≡ 1
  pub completed_own : own_in 1 completing ≡ 0
