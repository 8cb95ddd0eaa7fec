-- What each row of the table of steps costs, at a small program by hand.
use Rattle.std.specs.Prelude.{ℕ, false, [], ◌∷◌, ℤ, pos, negsuc, Some, None}
use Rattle.p10_int.specs.declared.types.IntType.TheVariants.{UChar, Char, ULong}
use Rattle.p10_int.specs.declared.operators.BinOp.TheVariants.{Add, Sub, Lt, Gt, Eq}
use Rattle.p10_int.specs.declared.operators.UnOp.TheVariants.{Neg}
use Rattle.p10_core.specs.declared.typed.Library.TheVariants.{Malloc, Free}
use Rattle.p10_core.specs.declared.typed.LogicOp.{LogicOp}
use Rattle.p10_core.specs.declared.typed.LogicOp.TheVariants.{And, Or}
use Rattle.p10_core.specs.declared.statements.LoopKeyword.TheVariants.{While, Do, For}
use Rattle.p10_core.specs.declared.statements.UpdateKind.TheVariants.{Compound, Step}
use Rattle.p10_core.specs.Types.{PlainType, void, integer, array, structure}
use Rattle.p10_core.specs.Typed.{PlainValue, constant, read, address, decay, convert, cast, unary, binary, logic, conditional, call, built_in, PlainPlace, place, variable, index, member, dereference, values_of_list, one_scalar, scalars_of_text, not_initialized, copied, listed, PlainStatement, set, update, copy, evaluate, asserts, declare, if_then, if_else, loop, switch, break, continue, empty, statements_of_list, PlainFunction, PlainProgram}
use Rattle.p10_meaning.specs.Examples.{span, tree, int, number, name, get, does, block_of, returns, frame_variable, object_variable, int_variable, function_of, main_of, program_of, value_of, plus, pointer_to, null, assign, begin, loop_of, ReturnsAfter}

-- `unsigned char`
abbrev pub uchar : PlainType
uchar = integer false UChar

-- `int a[3]` as an object
abbrev pub row : PlainType
row = array false int 3

-- variable n as such an array
abbrev pub row_place : ℕ → PlainPlace
row_place n = place (tree 0) row (variable n)

-- `a[i]` of variable n
abbrev pub element : ℕ → PlainValue → PlainPlace
element n i = place (tree 0) int (index (value_of (pointer_to int) (decay (row_place n))) i)

-- a program with one structure, `struct { int first; int second; }`
abbrev pub pair : PlainType
pair = structure false 0

-- the program with that structure
abbrev pub with_pair : PlainProgram → PlainProgram
with_pair p = record p { structures = record { tag = None; representative = 0; body = Some (record { members = record { name = []; type = int } ∷ record { name = []; type = int } ∷ []; order = 0; bytes = 8; alignment = 4; scalars = 2; constant = false }) } ∷ [] }

-- variable n as such a structure
abbrev pub pair_place : ℕ → PlainPlace
pair_place n = place (tree 0) pair (variable n)

-- a member of it, as a value
abbrev pub part : ℕ → ℕ → PlainValue
part n m = value_of int (read (place (tree 0) int (member (pair_place n) m)))

-- ## Values: each list is a body of `main`; entry is 1, `return` is 1 and its value

-- `return 0;`
abbrev pub constant_costs : Type 0
constant_costs = ReturnsAfter (main_of [] (returns (number (pos 0)) ∷ [])) 2 (pos 0)

-- `return -(1 + 2);`
abbrev pub operators_cost : Type 0
operators_cost = ReturnsAfter (main_of [] (returns (value_of int (unary Neg (plus (number (pos 1)) (number (pos 2))))) ∷ [])) 5 (negsuc 2)

-- `return (int)(unsigned char)300;`
abbrev pub casts_cost : Type 0
casts_cost = ReturnsAfter (main_of [] (returns (value_of int (cast (value_of uchar (cast (number (pos 300)))))) ∷ [])) 4 (pos 44)

-- `unsigned char c = 300; return c;`: the two conversions cost nothing
abbrev pub conversions_cost_nothing : Type 0
conversions_cost_nothing = ReturnsAfter
    (main_of (frame_variable uchar 1 ∷ []) (begin 0 (value_of uchar (convert (number (pos 300)))) ∷ returns (value_of int (convert (get 0 uchar 0))) ∷ [])) 4 (pos 44)

-- `return 0 && 1;`, `return 2 && 3;`, `return 2 || 3;`, `return 0 || 0;`
abbrev pub logic_of : LogicOp → ℤ → ℤ → PlainProgram
logic_of op a b = main_of [] (returns (value_of int (logic op (number a) (number b))) ∷ [])

-- what `&&` and `||` cost, decided or not
pub record LogicCosts : Type 0 where
  pub and_decided : ReturnsAfter (logic_of And (pos 0) (pos 1)) 3 (pos 0)
  pub and_open : ReturnsAfter (logic_of And (pos 2) (pos 3)) 4 (pos 1)
  pub or_decided : ReturnsAfter (logic_of Or (pos 2) (pos 3)) 3 (pos 1)
  pub or_open : ReturnsAfter (logic_of Or (pos 0) (pos 0)) 4 (pos 0)

-- `return 0 ? 1 : 1 + 1;`
abbrev pub conditional_costs : Type 0
conditional_costs = ReturnsAfter (main_of [] (returns (value_of int (conditional (number (pos 0)) (number (pos 1)) (plus (number (pos 1)) (number (pos 1))))) ∷ [])) 6 (pos 2)

-- `int a[3] = {4, 5}; return a[1] + a[2];`: 1 + 2 + 3; 1 + 1 + 2 * (1 + 1 + 1 + 1)
abbrev pub arrays_cost : Type 0
arrays_cost = ReturnsAfter (main_of (object_variable row 12 ∷ [])
    (does (declare 0 (listed (tree 0) (record { scalar = 0; written = one_scalar (number (pos 4)) } ∷ record { scalar = 1; written = one_scalar (number (pos 5)) } ∷ []))) ∷
    returns (plus (value_of int (read (element 0 (number (pos 1))))) (value_of int (read (element 0 (number (pos 2)))))) ∷ [])) 16 (pos 5)

-- `int x = 7; int *p = &x; *p = 8; return x;`: 1 + 1; 1 + 1; 1 + (1 + 1) + 1; 1 + 1
abbrev pub pointers_cost : Type 0
pointers_cost = ReturnsAfter (main_of (object_variable int 4 ∷ frame_variable (pointer_to int) 8 ∷ [])
    (begin 0 (number (pos 7)) ∷
    begin 1 (value_of (pointer_to int) (address (name 0 int 0))) ∷
    does (set (place (tree 0) int (dereference (get 0 (pointer_to int) 1))) (number (pos 8))) ∷
    returns (get 0 int 0) ∷ [])) 10 (pos 8)

-- `struct p x = {1, 2}; struct p y = x; y = x; return y.first + y.second;`: 1 + 2 + 2; 1 + 1 + 2; 1 + 2; 1 + 1 + 2 * (1 + 1)
abbrev pub structures_cost : Type 0
structures_cost = ReturnsAfter (with_pair (main_of (object_variable pair 8 ∷ object_variable pair 8 ∷ [])
    (does (declare 0 (listed (tree 0) (record { scalar = 0; written = one_scalar (number (pos 1)) } ∷ record { scalar = 1; written = one_scalar (number (pos 2)) } ∷ []))) ∷
    does (declare 1 (copied (pair_place 0))) ∷
    does (copy (pair_place 1) (pair_place 0)) ∷
    returns (plus (part 1 0) (part 1 1)) ∷ []))) 18 (pos 3)

-- `char s[3] = "ab"; return s[1];`: 1 + 3; 1 + 1 + 1 + 1 + 1
abbrev pub texts_cost : Type 0
texts_cost = ReturnsAfter (main_of (object_variable (array false (integer false Char) 3) 3 ∷ [])
    (does (declare 0 (listed (tree 0) (record { scalar = 0; written = scalars_of_text (97 ∷ 98 ∷ 0 ∷ []) } ∷ []))) ∷
    returns (value_of int (convert (value_of (integer false Char) (read (place (tree 0) (integer false Char)
    (index (value_of (pointer_to (integer false Char)) (decay (place (tree 0) (array false (integer false Char) 3) (variable 0)))) (number (pos 1)))))))) ∷ [])) 9 (pos 98)

-- a function `int f(int n) { return n + 1; }` and `return f(2 + 3);`: 1 + 1 + (1 + (1 + 1 + 1)), and 1 + 1 + (1 + 1)
abbrev pub successor : PlainFunction
successor = function_of 1 int (int_variable ∷ []) (returns (plus (get 0 int 0) (number (pos 1))) ∷ [])

-- what a call costs
abbrev pub calls_cost : Type 0
calls_cost = ReturnsAfter (program_of (successor ∷ []) [] (returns (value_of int (call (span 0) 0 (values_of_list (plus (number (pos 2)) (number (pos 3)) ∷ [])))) ∷ [])) 10 (pos 6)

-- `int *p = (int *)malloc(2 * sizeof(int)); int b = p == 0; free(p); return b;`: 1 + (1 + 1); 1 + (1 + 1 + 1); 1 + (1 + 1); 1 + 1
abbrev pub allocations_cost : Type 0
allocations_cost = ReturnsAfter (main_of (frame_variable (pointer_to int) 8 ∷ int_variable ∷ [])
    (begin 0 (value_of (pointer_to int) (built_in (span 0) Malloc (values_of_list (value_of (integer false ULong) (constant (pos 2)) ∷ [])))) ∷
    begin 1 (value_of int (binary Eq (get 0 (pointer_to int) 0) (null int))) ∷
    does (evaluate (value_of (void false) (built_in (span 0) Free (values_of_list (get 0 (pointer_to int) 0 ∷ []))))) ∷
    returns (get 0 int 1) ∷ [])) 12 (pos 0)

-- ## Statements

-- `int x; x = 2; x += 3; x++; return x;`: 1; 1 + 1; 1 + 1 + 1 + 1; 1 + 1 + 1 + 1; 1 + 1
abbrev pub updates_cost : Type 0
updates_cost = ReturnsAfter (main_of (int_variable ∷ [])
    (does (declare 0 not_initialized) ∷ assign int 0 (number (pos 2)) ∷
    does (update Compound Add int (name 0 int 0) (number (pos 3))) ∷
    does (update Step Add int (name 0 int 0) (number (pos 1))) ∷ returns (get 0 int 0) ∷ [])) 13 (pos 6)

-- `assert(1); (void)2; ; { } return 0;`: 1 + 1; 1 + 1 + 1; 1; 0; 1 + 1
abbrev pub plain_statements_cost : Type 0
plain_statements_cost = ReturnsAfter (main_of []
    (does (asserts (tree 0) (number (pos 1))) ∷ does (evaluate (value_of (void false) (cast (number (pos 2))))) ∷ does empty ∷ block_of [] ∷
    returns (number (pos 0)) ∷ [])) 8 (pos 0)

-- `if (1) return 1; else return 2 + 3;`, and `if (0) return 1; return 2;`
pub record BranchesCost : Type 0 where
  pub taken : ReturnsAfter (main_of [] (does (if_else (number (pos 1)) (returns (number (pos 1))) (returns (plus (number (pos 2)) (number (pos 3))))) ∷ [])) 4 (pos 1)
  pub other : ReturnsAfter (main_of [] (does (if_else (number (pos 0)) (returns (number (pos 1))) (returns (plus (number (pos 2)) (number (pos 3))))) ∷ [])) 6 (pos 5)
  pub passed : ReturnsAfter (main_of [] (does (if_then (number (pos 0)) (returns (number (pos 1)))) ∷ returns (number (pos 2)) ∷ [])) 4 (pos 2)

-- `int main(void) { int s = 0; for (unsigned char i = 0; i < 10; i++) { s += 2; } return s; }`:
-- 1 + 2 + (1 + 2 + 11 * 3 + 10 * (4 + 4)) + 2
abbrev pub summing : PlainProgram
summing = main_of (int_variable ∷ frame_variable uchar 1 ∷ [])
    (begin 0 (number (pos 0)) ∷
    does (loop (record { number = 0; keyword = For; span = span 0 }) (statements_of_list (begin 1 (number (pos 0)) ∷ []))
    (Some (value_of int (binary Lt (value_of int (convert (get 0 uchar 1))) (number (pos 10)))))
    (statements_of_list (does (update Step Add int (name 0 uchar 1) (number (pos 1))) ∷ []))
    (block_of (does (update Compound Add int (name 0 int 0) (number (pos 2))) ∷ []))) ∷
    returns (get 0 int 0) ∷ [])

-- `int x = 2; while (x > 0) { x--; } return x;`: 1 + 1; 1 + 3 * 3 + 2 * 4; 1 + 1
abbrev pub counting : PlainValue
counting = value_of int (binary Gt (get 0 int 0) (number (pos 0)))

-- `x--;`
abbrev pub down : PlainStatement
down = does (update Step Sub int (name 0 int 0) (number (pos 1)))

-- `int x = 2; for (;;) { x--; if (x < 0) break; } return x;`: 1 + 1; 1 + 3 * (1 + 4 + 4) + 1; 1 + 1
abbrev pub endless : PlainStatement
endless = loop_of For None (block_of (down ∷ does (if_then (value_of int (binary Lt (get 0 int 0) (number (pos 0)))) (does break)) ∷ []))

-- `int x = 2; while (x > 0) { x--; continue; x = 9; } return x;`
abbrev pub continuing : PlainStatement
continuing = loop_of While (Some counting) (block_of (down ∷ does continue ∷ assign int 0 (number (pos 9)) ∷ []))

-- `int x = 2; S return x;`
abbrev pub from_two : PlainStatement → PlainProgram
from_two s = main_of (int_variable ∷ []) (begin 0 (number (pos 2)) ∷ s ∷ returns (get 0 int 0) ∷ [])

-- what loops cost
pub record LoopsCost : Type 0 where
  pub for_loop : ReturnsAfter summing 120 (pos 20)
  pub while_loop : ReturnsAfter (from_two (loop_of While (Some counting) (block_of (down ∷ [])))) 22 (pos 0)
  pub do_loop : ReturnsAfter (from_two (loop_of Do (Some counting) (block_of (down ∷ [])))) 19 (pos 0)
  pub without_test : ReturnsAfter (from_two endless) 33 (negsuc 0)
  pub with_continue : ReturnsAfter (from_two continuing) 24 (pos 0)

-- `int x = 2; switch (x) { case 1: x = 5; case 2: x++; break; default: x = 7; } return x;` and the same from 1 and 3:
-- a label costs nothing
abbrev pub choosing : ℤ → PlainProgram
choosing z = main_of (int_variable ∷ [])
    (begin 0 (number z) ∷
    does (switch (span 0) (get 0 int 0) (record { cases = record { value = pos 1; place = 0 } ∷ record { value = pos 2; place = 1 } ∷ []; otherwise = Some 3 })
    (block_of (assign int 0 (number (pos 5)) ∷ does (update Step Add int (name 0 int 0) (number (pos 1))) ∷ does break ∷ assign int 0 (number (pos 7)) ∷ []))) ∷
    returns (get 0 int 0) ∷ [])

-- what `switch` costs
pub record SwitchesCost : Type 0 where
  pub first : ReturnsAfter (choosing (pos 1)) 13 (pos 6)
  pub second : ReturnsAfter (choosing (pos 2)) 11 (pos 3)
  pub no_label : ReturnsAfter (choosing (pos 3)) 8 (pos 7)

-- ## The table of steps, row by row
pub record StepsAreCounted : Type 0 where
  pub constants : constant_costs
  pub operators : operators_cost
  pub casts : casts_cost
  pub conversions : conversions_cost_nothing
  pub logic_operators : LogicCosts
  pub conditionals : conditional_costs
  pub arrays : arrays_cost
  pub pointers : pointers_cost
  pub structures : structures_cost
  pub texts : texts_cost
  pub calls : calls_cost
  pub allocations : allocations_cost
  pub updates : updates_cost
  pub plain_statements : plain_statements_cost
  pub branches : BranchesCost
  pub loops : LoopsCost
  pub switches : SwitchesCost
