-- Small programs, and where they violate the rows.
use Rattle.std.specs.Prelude.{ℕ, ◌+◌, pos, true, false, List, [], ◌∷◌, Option, Some, None}
use Rattle.p10_base.specs.declared.span.Span.{Span}
use Rattle.p10_base.specs.declared.at.At.{At}
use Rattle.p10_base.specs.declared.report.Sub.{Sub}
use Rattle.p10_base.specs.declared.report.Violation.{Violation}
use Rattle.p10_int.specs.declared.types.IntType.TheVariants.{Int, Bool as TruthType}
use Rattle.p10_core.specs.declared.typed.Library.TheVariants.{CAssert}
use Rattle.p10_core.specs.declared.statements.LoopKeyword.{LoopKeyword}
use Rattle.p10_core.specs.declared.statements.LoopKeyword.TheVariants.{While, Do, For}
use Rattle.p10_core.specs.Types.{PlainType, void, integer}
use Rattle.p10_core.specs.Typed.{PlainValue, value, constant, read, address, call, built_in, place, PlainPlaceForm, variable, global, no_values, more_values}
use Rattle.p10_core.specs.Typed.{PlainInitializer, not_initialized, single, PlainStatement, statement, PlainStatementForm, set, evaluate, asserts, declare, declare_static, block, if_then, loop, statements_of_list, PlainVariable, PlainFunction, PlainObject, PlainProgram}
use Rattle.p10_userules.specs.Violations.{row}
use Rattle.p10_userules.specs.Laws.{IsViolatedAt}

-- ## Parts of programs

-- a byte of a file, as the place of a name or of a tree
abbrev pub byte : ℕ → Span
byte n = record { file = 0; start = n; end = n + 1 }

-- a tree at a byte
abbrev pub tree_at : ℕ → At
tree_at n = record { first = n; past = n + 1; span = byte n }

-- a violation of a row at a byte
abbrev pub violated : Sub → ℕ → Violation
violated sub n = record { sub = sub; span = byte n }

-- the type `int`
abbrev pub int : PlainType
int = integer false Int

-- the value of a place
abbrev pub value_of : PlainPlaceForm → PlainValue
value_of f = value (tree_at 0) int (read (place (tree_at 0) int f))

-- the constant 1
abbrev pub constant_one : PlainValue
constant_one = value (tree_at 0) int (constant (pos 1))

-- a call of the first function with a type as result
abbrev pub call_of : PlainType → PlainValue
call_of t = value (tree_at 0) t (call (byte 0) 0 no_values)

-- a statement at byte 0
abbrev pub form : PlainStatementForm → PlainStatement
form f = statement (tree_at 0) f

-- `P = 1;`
abbrev pub set_one : PlainPlaceForm → PlainStatement
set_one f = form (set (place (tree_at 0) int f) constant_one)

-- a block
abbrev pub braces : List PlainStatement → PlainStatement
braces ss = form (block (statements_of_list ss))

-- `if (1) S`
abbrev pub if_one : PlainStatement → PlainStatement
if_one s = form (if_then constant_one s)

-- a loop with first clause, test, third clause and body
abbrev pub loop_of : LoopKeyword → List PlainStatement → PlainValue → List PlainStatement → PlainStatement → PlainStatement
loop_of keyword first test third body =
    form (loop (record { number = 0; keyword = keyword; span = byte 0 }) (statements_of_list first) (Some test) (statements_of_list third) body)

-- a variable of a type with its name at a byte
abbrev pub named_variable : PlainType → ℕ → PlainVariable
named_variable t n = record { name = []; type = t; bytes = 4; frame = true; span = byte n }

-- an `int` of static lifetime with its name at a byte
abbrev pub object_at : ℕ → Option ℕ → PlainInitializer → PlainObject
object_at n owner i = record { name = []; type = int; bytes = 4; span = byte n; initializer = i; owner = owner; sensor = false; visible = [] }

-- a function with parameters, variables and a body
abbrev pub function_of : ℕ → List PlainVariable → List PlainStatement → PlainFunction
function_of parameters vs body =
    record { name = []; span = byte 0; static = false; parameters = parameters; result = int; variables = vs; body = statements_of_list body }

-- a program with objects and functions
abbrev pub program_of : List PlainObject → List PlainFunction → PlainProgram
program_of objects functions =
    record { structures = []; objects = objects; functions = functions; literals = []; main = 0; mark = None; task = None; outside = [] }

-- ## Rules 6.1, 6.2, 7.1 and 7.2

-- functions with these bodies
abbrev pub functions_with : List (List PlainStatement) → List PlainFunction
functions_with [] = []
functions_with (b ∷ rest) = function_of 0 [] b ∷ functions_with rest

-- an object with its name at byte 5, and functions with these bodies
abbrev pub with_file_object : List (List PlainStatement) → PlainProgram
with_file_object bodies = program_of (object_at 5 None not_initialized ∷ []) (functions_with bodies)

-- a function that declares a variable with its name at byte 5, before other statements
abbrev pub with_variable : List PlainStatement → PlainProgram
with_variable body = program_of [] (function_of 0 (named_variable int 5 ∷ []) (form (declare 0 not_initialized) ∷ body) ∷ [])

-- a function with a parameter of a type, whose name stands at byte 5
abbrev pub with_parameter : PlainType → List PlainStatement → PlainProgram
with_parameter t body = program_of [] (function_of 1 (named_variable t 5 ∷ []) body ∷ [])

-- objects of file scope that one function uses, that two use, that none uses, and whose address another object has
pub record FileScopes : Type 0 where
  pub one_function : IsViolatedAt (with_file_object ((set_one (global 0) ∷ []) ∷ [] ∷ [])) (violated (row 6 1) 5 ∷ [])
  pub two_functions : IsViolatedAt (with_file_object ((set_one (global 0) ∷ []) ∷ (set_one (global 0) ∷ []) ∷ [])) []
  pub no_function : IsViolatedAt (with_file_object ([] ∷ [])) []
  pub outside_too : IsViolatedAt (program_of (object_at 5 None not_initialized ∷ object_at 6 None (single (value (tree_at 0) int (address (place (tree_at 0) int (global 0))))) ∷ []) (function_of 0 [] (set_one (global 0) ∷ []) ∷ [])) []

-- variables of blocks: all uses in a nested block; one outside; in a branch without braces; in two blocks, also of one block; in
-- a block of a loop; in a loop of a block; in the body of the loop whose clause declares it; in an initialiser of a static object
pub record BlockScopes : Type 0 where
  pub one_block : IsViolatedAt (with_variable (if_one (braces (set_one (variable 0) ∷ [])) ∷ [])) (violated (row 6 2) 5 ∷ [])
  pub also_outside : IsViolatedAt (with_variable (if_one (braces (set_one (variable 0) ∷ [])) ∷ set_one (variable 0) ∷ [])) []
  pub no_braces : IsViolatedAt (with_variable (if_one (set_one (variable 0)) ∷ [])) []
  pub two_blocks : IsViolatedAt (with_variable (braces (set_one (variable 0) ∷ []) ∷ braces (set_one (variable 0) ∷ []) ∷ [])) []
  pub two_of_one : IsViolatedAt (with_variable (braces (braces (set_one (variable 0) ∷ []) ∷ braces (set_one (variable 0) ∷ []) ∷ []) ∷ [])) (violated (row 6 2) 5 ∷ [])
  pub block_of_loop : IsViolatedAt (with_variable (loop_of While [] constant_one [] (braces (set_one (variable 0) ∷ [])) ∷ [])) []
  pub loop_of_block : IsViolatedAt (with_variable (braces (loop_of While [] constant_one [] (braces (set_one (variable 0) ∷ [])) ∷ []) ∷ [])) (violated (row 6 2) 5 ∷ [])
  pub no_use : IsViolatedAt (with_variable (braces [] ∷ [])) []
  pub of_clause :
      IsViolatedAt (program_of [] (function_of 0 (named_variable int 5 ∷ []) (loop_of For (form (declare 0 not_initialized) ∷ []) constant_one [] (braces (set_one (variable 0) ∷ [])) ∷ []) ∷ [])) []
  pub static_object :
      IsViolatedAt (program_of (object_at 5 (Some 0) not_initialized ∷ []) (function_of 0 [] (form (declare_static 0) ∷ braces (set_one (global 0) ∷ []) ∷ []) ∷ [])) (violated (row 6 2) 5 ∷ [])
  pub in_initializer :
      IsViolatedAt (program_of (object_at 5 None not_initialized ∷ object_at 6 (Some 0) (single (value (tree_at 0) int (address (place (tree_at 0) int (global 0))))) ∷ []) (function_of 0 [] (form (declare_static 1) ∷ set_one (global 1) ∷ []) ∷ [])) (violated (row 6 1) 5 ∷ [])

-- calls: one whose result is dropped, one without a result, and one whose result is used; each at byte 7
pub record Results : Type 0 where
  pub dropped : IsViolatedAt (program_of [] (function_of 0 [] (statement (tree_at 7) (evaluate (call_of int)) ∷ []) ∷ [])) (violated (row 7 1) 7 ∷ [])
  pub without_result : IsViolatedAt (program_of [] (function_of 0 [] (statement (tree_at 7) (evaluate (call_of (void false))) ∷ []) ∷ [])) []
  pub used : IsViolatedAt (program_of [] (function_of 0 [] (if_one (form (asserts (tree_at 0) (call_of int))) ∷ []) ∷ [])) []

-- parameters: used first in an assertion, in an `if` condition, in `c_assert`, outside of these, in the third clause of a `for`
-- before its body, in the body of a `do` before its test, not at all; and one of the type `_Bool`
pub record Parameters : Type 0 where
  pub asserted : IsViolatedAt (with_parameter int (form (asserts (tree_at 0) (value_of (variable 0))) ∷ set_one (variable 0) ∷ [])) []
  pub in_condition : IsViolatedAt (with_parameter int (form (if_then (value_of (variable 0)) (braces [])) ∷ set_one (variable 0) ∷ [])) []
  pub in_c_assert :
      IsViolatedAt (with_parameter int (form (set (place (tree_at 0) int (variable 1)) (value (tree_at 0) int (built_in (byte 0) CAssert (more_values (value_of (variable 0)) no_values)))) ∷ set_one (variable 0) ∷ [])) []
  pub unchecked : IsViolatedAt (with_parameter int (set_one (variable 0) ∷ form (asserts (tree_at 0) (value_of (variable 0))) ∷ [])) (violated (row 7 2) 5 ∷ [])
  pub in_third_clause : IsViolatedAt (with_parameter int (loop_of For [] constant_one (set_one (variable 0) ∷ []) (form (asserts (tree_at 0) (value_of (variable 0)))) ∷ [])) (violated (row 7 2) 5 ∷ [])
  pub in_body_of_do : IsViolatedAt (with_parameter int (loop_of Do [] (value_of (variable 0)) [] (form (asserts (tree_at 0) (value_of (variable 0)))) ∷ [])) []
  pub in_test_of_while : IsViolatedAt (with_parameter int (loop_of While [] (value_of (variable 0)) [] (form (asserts (tree_at 0) (value_of (variable 0)))) ∷ [])) (violated (row 7 2) 5 ∷ [])
  pub not_at_all : IsViolatedAt (with_parameter int []) []
  pub truth : IsViolatedAt (with_parameter (integer true TruthType) (set_one (variable 0) ∷ [])) []
