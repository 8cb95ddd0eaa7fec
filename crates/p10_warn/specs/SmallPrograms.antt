-- Small programs, each with the violations that a reader finds in it by hand. A piece of a text has its number as its place.
use Rattle.std.specs.Prelude.{ℕ, ◌+◌, ◌↔◌, pos, true, false, List, [], ◌∷◌, Contains, codes, Some, None}
use Rattle.p10_base.specs.Words.{Text, span_of}
use Rattle.p10_base.specs.declared.at.At.{At}
use Rattle.p10_base.specs.declared.span.Span.{Span}
use Rattle.p10_base.specs.declared.report.Violation.{Violation}
use Rattle.p10_int.specs.declared.types.IntType.{IntType}
use Rattle.p10_int.specs.declared.types.IntType.TheVariants.{UChar, Int, UInt}
use Rattle.p10_int.specs.declared.operators.BinOp.TheVariants.{Add, Lt}
use Rattle.p10_core.specs.declared.statements.LoopKeyword.TheVariants.{While, For}
use Rattle.p10_core.specs.declared.statements.UpdateKind.TheVariants.{Compound, Step}
use Rattle.p10_core.specs.Types.{integer}
use Rattle.p10_core.specs.Typed.{PlainValue, value, PlainForm, constant, read, convert, binary, call, PlainPlace, place, variable, global, no_values, not_initialized, PlainStatement, statement, PlainStatementForm, set, update, evaluate, declare, block, if_then, loop, switch, break, continue, return, empty, no_statements, statements_of_list, PlainVariable, PlainFunction, PlainObject, PlainProgram}
use Rattle.p10_warn.specs.Violations.{Violates, rule_ten}

-- a program violates rule 10 by these violations and no others
abbrev pub HasJust : PlainProgram → List Violation → Type 0
HasJust p violations = (v : Violation) → Contains violations v ↔ Violates p v.sub v.span

-- ## Pieces

-- the piece of a text with a number
abbrev pub piece : ℕ → Span
piece n = span_of 0 n (n + 1)

-- the tree that is a piece
abbrev pub piece_tree : ℕ → At
piece_tree n = record { first = n; past = n + 1; span = piece n }

-- a row of rule 10 at a piece
abbrev pub row_found : ℕ → ℕ → Violation
row_found row n = record { sub = rule_ten row; span = piece n }

-- a value of an integer type at a piece
abbrev pub piece_value : ℕ → IntType → PlainForm → PlainValue
piece_value n t f = value (piece_tree n) (integer false t) f

-- the place of the variable with a number, of a type
abbrev pub local : ℕ → IntType → ℕ → PlainPlace
local n t k = place (piece_tree n) (integer false t) (variable k)

-- the value of a variable
abbrev pub local_value : ℕ → IntType → ℕ → PlainValue
local_value n t k = piece_value n t (read (local n t k))

-- a number
abbrev pub number : ℕ → ℕ → PlainValue
number n k = piece_value n Int (constant (pos k))

-- a statement
abbrev pub stated : ℕ → PlainStatementForm → PlainStatement
stated n f = statement (piece_tree n) f

-- a variable with a name of one letter
abbrev pub small_variable : Text → ℕ → IntType → PlainVariable
small_variable name n t = record { name = name; type = integer false t; bytes = 4; frame = true; span = piece n }

-- an object of file scope, in scope at the first two functions
abbrev pub small_object : Text → ℕ → PlainObject
small_object name n = record {
  name = name;
  type = integer false Int;
  bytes = 4;
  span = piece n;
  initializer = not_initialized;
  owner = None;
  sensor = false;
  visible = record { from = 0; to = 2 } ∷ [];
}

-- a function that gives an `int`, of which the first variables are parameters
abbrev pub small_function : Text → ℕ → ℕ → List PlainVariable → List PlainStatement → PlainFunction
small_function name n parameters variables body = record {
  name = name;
  span = piece n;
  static = false;
  parameters = parameters;
  result = integer false Int;
  variables = variables;
  body = statements_of_list body;
}

-- a program, with the number of `main`
abbrev pub small_program : List PlainObject → List PlainFunction → ℕ → PlainProgram
small_program objects functions main = record { structures = []; objects = objects; functions = functions; literals = []; main = main; mark = None; task = None; outside = [] }

-- ## Names

-- `static int x; static int f(int x) { { int x; } return 1; } int main(void) { return 0; }`: nothing is named, f isn't called,
-- and each x but the first hides an outer one
abbrev pub careless_names : PlainProgram
careless_names = small_program (small_object (codes "x") 1 ∷ [])
    (record (small_function (codes "f") 2 1 (small_variable (codes "x") 3 Int ∷ small_variable (codes "x") 4 Int ∷ [])
    (stated 5 (block (statements_of_list (stated 6 (declare 1 not_initialized) ∷ []))) ∷ stated 7 (return (piece 7) (Some (number 8 1))) ∷ [])) { static = true }
    ∷ small_function (codes "main") 9 0 [] (stated 10 (return (piece 10) (Some (number 11 0))) ∷ []) ∷ []) 1

-- `static int x; static int f(int y) { { int z; z = x; } { int z; z = y; } return y; } int main(void) { return f(0); }`: all is
-- named and called, and one z isn't in scope at the other
abbrev pub tidy_names : PlainProgram
tidy_names = small_program (small_object (codes "x") 1 ∷ [])
    (record (small_function (codes "f") 2 1 (small_variable (codes "y") 3 Int ∷ small_variable (codes "z") 4 Int ∷ small_variable (codes "z") 5 Int ∷ [])
    (stated 6 (block (statements_of_list (stated 7 (declare 1 not_initialized) ∷ stated 8 (set (local 9 Int 1) (piece_value 10 Int (read (place (piece_tree 10) (integer false Int) (global 0))))) ∷ [])))
    ∷ stated 11 (block (statements_of_list (stated 12 (declare 2 not_initialized) ∷ stated 13 (set (local 14 Int 2) (local_value 15 Int 0)) ∷ [])))
    ∷ stated 16 (return (piece 16) (Some (local_value 17 Int 0))) ∷ [])) { static = true }
    ∷ small_function (codes "main") 18 0 [] (stated 19 (return (piece 19) (Some (piece_value 20 Int (call (piece 21) 0 no_values)))) ∷ []) ∷ []) 1

-- ## Values

-- in `main`, with `int i; unsigned u; unsigned char c;`: `u = i;` narrows, `c += i;` narrows its result, `i += u;` what is read and its
-- result, and `u < i` compares a signed with an unsigned operand, which it narrows
abbrev pub mixing : PlainProgram
mixing = small_program [] (small_function (codes "main") 1 0 (small_variable (codes "i") 2 Int ∷ small_variable (codes "u") 3 UInt ∷ small_variable (codes "c") 4 UChar ∷ [])
    (stated 10 (set (local 11 UInt 1) (piece_value 12 UInt (convert (local_value 12 Int 0))))
    ∷ stated 20 (update Compound Add (integer false Int) (local 21 UChar 2) (local_value 22 Int 0))
    ∷ stated 30 (update Compound Add (integer false UInt) (local 31 Int 0) (local_value 32 UInt 1))
    ∷ stated 40 (evaluate (piece_value 41 Int (binary Lt (local_value 42 UInt 1) (piece_value 43 UInt (convert (local_value 43 Int 0))))))
    ∷ stated 50 (return (piece 50) (Some (number 51 0))) ∷ []) ∷ []) 0

-- the same with constants, with `++`, and with a type that holds the other: `c = 1;`, `c++;`, `i = c;`, `u < 1`
abbrev pub keeping : PlainProgram
keeping = small_program [] (small_function (codes "main") 1 0 (small_variable (codes "i") 2 Int ∷ small_variable (codes "u") 3 UInt ∷ small_variable (codes "c") 4 UChar ∷ [])
    (stated 10 (set (local 11 UChar 2) (piece_value 12 UChar (convert (number 12 1))))
    ∷ stated 20 (update Step Add (integer false Int) (local 21 UChar 2) (number 22 1))
    ∷ stated 30 (set (local 31 Int 0) (piece_value 32 Int (convert (local_value 32 UChar 2))))
    ∷ stated 40 (evaluate (piece_value 41 Int (binary Lt (local_value 42 UInt 1) (piece_value 43 UInt (convert (number 43 1))))))
    ∷ stated 50 (return (piece 50) (Some (number 51 0))) ∷ []) ∷ []) 0

-- ## Statements

-- `switch (1) { case 1: break; case 2: break; ; }` without `default`, an item after the second `break`, and in g the end of
-- `for (;;) { break; }` is reached
abbrev pub falling : PlainProgram
falling = small_program [] (small_function (codes "main") 1 0 []
    (stated 2 (switch (piece 3) (number 4 1) (record { cases = record { value = pos 1; place = 0 } ∷ record { value = pos 2; place = 1 } ∷ []; otherwise = None })
    (stated 5 (block (statements_of_list (stated 6 break ∷ stated 7 break ∷ stated 8 empty ∷ []))))) ∷ [])
    ∷ small_function (codes "g") 9 0 []
    (stated 10 (loop (record { number = 0; keyword = For; span = piece 10 }) no_statements None no_statements (stated 11 (block (statements_of_list (stated 12 break ∷ []))))) ∷ []) ∷ []) 0

-- `switch (1) { case 1: break; default: break; }`, and in g `while (1) { switch (1) { default: break; } if (1) { continue; } }`,
-- whose `break` leaves the `switch`
abbrev pub ending : PlainProgram
ending = small_program [] (small_function (codes "main") 1 0 []
    (stated 2 (switch (piece 3) (number 4 1) (record { cases = record { value = pos 1; place = 0 } ∷ []; otherwise = Some 1 })
    (stated 5 (block (statements_of_list (stated 6 break ∷ stated 7 break ∷ []))))) ∷ [])
    ∷ small_function (codes "g") 9 0 []
    (stated 10 (loop (record { number = 0; keyword = While; span = piece 10 }) no_statements (Some (number 11 1)) no_statements
    (stated 12 (block (statements_of_list
    (stated 13 (switch (piece 13) (number 14 1) (record { cases = []; otherwise = Some 0 }) (stated 15 (block (statements_of_list (stated 16 break ∷ [])))))
    ∷ stated 17 (if_then (number 18 1) (stated 19 (block (statements_of_list (stated 20 continue ∷ []))))) ∷ []))))) ∷ []) ∷ []) 0
