-- Builders for the trees of small programs, and what is said of their runs. A tree whose place counts has a span by a number.
use Rattle.std.specs.Prelude.{◌≡◌, ℕ, ◌+◌, true, false, List, [], ◌∷◌, ◌++◌, length, ℤ, pos, Option, Some, None}
use Rattle.p10_base.specs.declared.span.Span.{Span}
use Rattle.p10_base.specs.declared.at.At.{At}
use Rattle.p10_int.specs.declared.types.IntType.TheVariants.{Int}
use Rattle.p10_int.specs.declared.operators.Stop.{Stop}
use Rattle.p10_int.specs.declared.operators.BinOp.TheVariants.{Add}
use Rattle.p10_core.specs.declared.statements.LoopKeyword.{LoopKeyword}
use Rattle.p10_core.specs.Types.{PlainType, integer, pointer}
use Rattle.p10_core.specs.Typed.{PlainValue, value, PlainForm, constant, read, convert, binary, PlainPlace, place, variable, single, PlainStatement, statement, PlainStatementForm, set, declare, block, loop, return, statements_of_list, PlainVariable, PlainFunction, PlainProgram}
use Rattle.p10_meaning.specs.declared.world.World.{World}
use Rattle.p10_meaning.specs.States.{Undefined, StepsSpent}
use Rattle.p10_meaning.specs.Runs.{Returned, Ended, run_of}

-- ## Builders

-- a span by a number
abbrev pub span : ℕ → Span
span n = record { file = 0; start = n; end = n }

-- a place of a tree, by a number
abbrev pub tree : ℕ → At
tree n = record { first = n; past = n; span = span n }

-- the type `int`
abbrev pub int : PlainType
int = integer false Int

-- the constant z of type `int`
abbrev pub number : ℤ → PlainValue
number z = value (tree 0) int (constant z)

-- the variable n, of a type, at tree a
abbrev pub name : ℕ → PlainType → ℕ → PlainPlace
name a t n = place (tree a) t (variable n)

-- its value
abbrev pub get : ℕ → PlainType → ℕ → PlainValue
get a t n = value (tree a) t (read (name a t n))

-- a statement of a form
abbrev pub does : PlainStatementForm → PlainStatement
does form = statement (tree 0) form

-- a block
abbrev pub block_of : List PlainStatement → PlainStatement
block_of ss = does (block (statements_of_list ss))

-- `return v;`
abbrev pub returns : PlainValue → PlainStatement
returns v = does (return (span 0) (Some v))

-- a frame variable, and an object
abbrev pub frame_variable : PlainType → ℕ → PlainVariable
frame_variable t bytes = record { name = []; type = t; bytes = bytes; frame = true; span = span 0 }

-- an automatic object of a type
abbrev pub object_variable : PlainType → ℕ → PlainVariable
object_variable t bytes = record { name = []; type = t; bytes = bytes; frame = false; span = span 0 }

-- a function with a number of parameters
abbrev pub function_of : ℕ → PlainType → List PlainVariable → List PlainStatement → PlainFunction
function_of parameters result variables body = record {
  name = [];
  span = span 0;
  static = false;
  parameters = parameters;
  result = result;
  variables = variables;
  body = statements_of_list body;
}

-- a program of `main` alone
abbrev pub main_of : List PlainVariable → List PlainStatement → PlainProgram
main_of variables body = record {
  structures = [];
  objects = [];
  functions = function_of 0 int variables body ∷ [];
  literals = [];
  main = 0;
  mark = None;
  task = None;
  outside = [];
}

-- a world without input, denied requests and sensor values
abbrev pub no_world : World
no_world = record { input = []; denied = []; sensors = [] }

-- a value of a type, at tree 0
abbrev pub value_of : PlainType → PlainForm → PlainValue
value_of t form = value (tree 0) t form

-- a value at tree a
abbrev pub value_at : ℕ → PlainType → PlainForm → PlainValue
value_at a t form = value (tree a) t form

-- `a + b`
abbrev pub plus : PlainValue → PlainValue → PlainValue
plus a b = value_of int (binary Add a b)

-- the type of pointers to a type
abbrev pub pointer_to : PlainType → PlainType
pointer_to t = pointer false t

-- the null constant as a pointer to a type
abbrev pub null : PlainType → PlainValue
null t = value_of (pointer_to t) (convert (number (pos 0)))

-- `x = v;` for variable n of a type
abbrev pub assign : PlainType → ℕ → PlainValue → PlainStatement
assign t n v = does (set (name 0 t n) v)

-- `T x = v;` for variable n
abbrev pub begin : ℕ → PlainValue → PlainStatement
begin n v = does (declare n (single v))

-- a loop without clauses
abbrev pub loop_of : LoopKeyword → Option PlainValue → PlainStatement → PlainStatement
loop_of keyword test body =
    does (loop (record { number = 0; keyword = keyword; span = span 0 }) (statements_of_list []) test (statements_of_list []) body)

-- an `int` as a frame variable
abbrev pub int_variable : PlainVariable
int_variable = frame_variable int 4

-- a program of `main`, the last function, and others before it
abbrev pub program_of : List PlainFunction → List PlainVariable → List PlainStatement → PlainProgram
program_of functions variables body = record (main_of variables body) {
  functions = functions ++ function_of 0 int variables body ∷ [];
  main = length functions;
}

-- ## What is said of runs

-- `main` takes exactly n + 1 steps, and returns z: with one step fewer, n, the run runs out of steps
pub record ReturnsAfter (p : PlainProgram) (n : ℕ) (z : ℤ) : Type 0 where
  pub enough : (run_of p no_world (n + 1) 0 0).outcome ≡ Returned z
  pub fewer : (run_of p no_world n 0 0).outcome ≡ Ended StepsSpent

-- the run returns z in at most 1000 steps
abbrev pub ReturnsValue : PlainProgram → ℤ → Type 0
ReturnsValue p z = (run_of p no_world 1000 0 0).outcome ≡ Returned z

-- the run ends in an undefined operation, at tree a
abbrev pub Stops : PlainProgram → Stop → ℕ → Type 0
Stops p stop a = (run_of p no_world 1000 0 0).outcome ≡ Ended (Undefined stop (span a))
