-- What further rows of the table of steps cost, at small programs by hand: the library, objects, literals, elements and members as
-- targets, lists of clauses, returns without a value, and what costs nothing.
use Rattle.std.specs.Prelude.{◌≡◌, false, List, [], ◌∷◌, pos, Some, None}
use Rattle.p10_int.specs.declared.types.IntType.TheVariants.{Char, ULong}
use Rattle.p10_int.specs.declared.operators.BinOp.TheVariants.{Add, Sub, Lt, Eq}
use Rattle.p10_core.specs.declared.typed.Library.{Library}
use Rattle.p10_core.specs.declared.typed.Library.TheVariants.{CAssert, Getchar, Putchar, Malloc, Calloc}
use Rattle.p10_core.specs.declared.statements.LoopKeyword.TheVariants.{While, Do, For}
use Rattle.p10_core.specs.declared.statements.MarkKind.TheVariants.{InitDone}
use Rattle.p10_core.specs.declared.statements.UpdateKind.TheVariants.{Compound, Step}
use Rattle.p10_core.specs.Types.{void, integer}
use Rattle.p10_core.specs.Typed.{PlainValue, constant, read, address, convert, cast, binary, call, built_in, place, index, member, dereference, values_of_list, one_scalar, not_initialized, listed, PlainStatement, set, update, evaluate, declare, declare_static, if_then, loop, switch, break, continue, return, empty, mark, statements_of_list, PlainFunction, PlainProgram}
use Rattle.p10_meaning.specs.Runs.{run_of}
use Rattle.p10_meaning.specs.Examples.{span, tree, int, number, name, get, does, block_of, returns, frame_variable, object_variable, int_variable, function_of, main_of, program_of, value_of, plus, pointer_to, null, assign, begin, loop_of, no_world, ReturnsAfter}
use Rattle.p10_meaning.specs.Costs.{row, element, pair, with_pair, pair_place, down, counting, from_two}
use Rattle.p10_meaning.specs.Stopping.{ints, with_letters, letter}
use Rattle.p10_meaning.specs.Tasks.{static_of, sensed, sensor}

-- ## Values

-- `return "ab"[1];`: 1; 1 + (1 + (1 + 1 + 1))
abbrev pub literals_cost : Type 0
literals_cost = ReturnsAfter (with_letters (main_of [] (returns (value_of int (convert (value_of (integer false Char) (read (letter (pos 1)))))) ∷ []))) 5 (pos 98)

-- a call of a library function without arguments, or with one
abbrev pub calls_library : Library → List PlainValue → PlainValue
calls_library f vs = value_of int (built_in (span 0) f (values_of_list vs))

-- `return c_assert(5) + (putchar(300) + getchar());`: 1; 1 + (1 + (1 + 1) + (1 + (1 + 1) + 1))
abbrev pub library_costs : Type 0
library_costs = ReturnsAfter
    (main_of [] (returns (plus (calls_library CAssert (number (pos 5) ∷ [])) (plus (calls_library Putchar (number (pos 300) ∷ [])) (calls_library Getchar []))) ∷ [])) 8 (pos 44)

-- `static volatile unsigned char s; return s;`: 1; 1 + 1
abbrev pub sensors_cost : Type 0
sensors_cost = ReturnsAfter (record (main_of [] (returns sensed ∷ [])) { objects = sensor ∷ [] }) 2 (pos 0)

-- `int *p = (int *)malloc(sizeof(int)); return p == 0;`: a written `sizeof` costs nothing there. 1; 1 + (1 + 1); 1 + (1 + 1 + 1)
abbrev pub one_element_costs : Type 0
one_element_costs = ReturnsAfter (main_of (frame_variable ints 8 ∷ [])
    (begin 0 (value_of ints (cast (value_of ints (built_in (span 0) Malloc (values_of_list []))))) ∷ returns (value_of int (binary Eq (get 0 ints 0) (null int))) ∷ [])) 7 (pos 0)

-- `int *p = (int *)calloc(2, sizeof(int)); return p[1];`: 1; 1 + (1 + (1 + 1)); 1 + (1 + (1 + 1 + 1))
abbrev pub zeros_cost : Type 0
zeros_cost = ReturnsAfter (main_of (frame_variable ints 8 ∷ [])
    (begin 0 (value_of ints (cast (value_of ints (built_in (span 0) Calloc (values_of_list (value_of (integer false ULong) (constant (pos 2)) ∷ [])))))) ∷
    returns (value_of int (read (place (tree 0) int (index (get 0 ints 0) (number (pos 1)))))) ∷ [])) 9 (pos 0)

-- ## Places

-- `int a[3] = {4, 5};`
abbrev pub two_listed : PlainStatement
two_listed = does (declare 0 (listed (tree 0) (record { scalar = 0; written = one_scalar (number (pos 4)) } ∷ record { scalar = 1; written = one_scalar (number (pos 5)) } ∷ [])))

-- these, and then `return a[1];`: 1; 1 + 2 + 3; S; 1 + (1 + (1 + 1 + 1))
abbrev pub with_row : PlainStatement → PlainProgram
with_row s = main_of (object_variable row 12 ∷ frame_variable ints 8 ∷ []) (two_listed ∷ s ∷ returns (value_of int (read (element 0 (number (pos 1))))) ∷ [])

-- elements as targets, and their addresses
pub record ElementsCost : Type 0 where
  -- `a[1] = 9;`: 1 + (1 + 1 + 1) + 1
  pub set : ReturnsAfter (with_row (does (set (element 0 (number (pos 1))) (number (pos 9))))) 16 (pos 9)
  -- `a[1] += 2;`: 1 + (1 + 1 + 1) + 1 + 1 + 1
  pub updated : ReturnsAfter (with_row (does (update Compound Add int (element 0 (number (pos 1))) (number (pos 2))))) 18 (pos 7)
  -- `a[1]--;`: 1 + (1 + 1 + 1) + 1 + 1 + 1
  pub stepped : ReturnsAfter (with_row (does (update Step Sub int (element 0 (number (pos 1))) (number (pos 1))))) 18 (pos 4)
  -- `int *p = &a[1];`: 1 + (1 + (1 + 1 + 1))
  pub addressed : ReturnsAfter (with_row (begin 1 (value_of ints (address (element 0 (number (pos 1))))))) 16 (pos 5)

-- `struct p x = {1, 2}; struct p *q = &x; return q->second;`: 1; 1 + 2 + 2; 1 + 1; 1 + (1 + (1 + (1 + 1)))
abbrev pub arrows_cost : Type 0
arrows_cost = ReturnsAfter (with_pair (main_of (object_variable pair 8 ∷ frame_variable (pointer_to pair) 8 ∷ [])
    (does (declare 0 (listed (tree 0) (record { scalar = 0; written = one_scalar (number (pos 1)) } ∷ record { scalar = 1; written = one_scalar (number (pos 2)) } ∷ []))) ∷
    begin 1 (value_of (pointer_to pair) (address (pair_place 0))) ∷
    returns (value_of int (read (place (tree 0) int (member (place (tree 0) pair (dereference (get 0 (pointer_to pair) 1))) 1)))) ∷ []))) 12 (pos 2)

-- ## Statements

-- `int a[3]; struct p x; int y; return 0;`: 1; 1; 1; 1; 1 + 1
abbrev pub declarations_cost : Type 0
declarations_cost = ReturnsAfter (with_pair (main_of (object_variable row 12 ∷ object_variable pair 8 ∷ int_variable ∷ [])
    (does (declare 0 not_initialized) ∷ does (declare 1 not_initialized) ∷ does (declare 2 not_initialized) ∷ returns (number (pos 0)) ∷ []))) 5 (pos 0)

-- `static int c; ; #pragma p10 init_done ; return 0;`: 1; 0; 1; 0; 1; 1 + 1
abbrev pub nothing_costs : Type 0
nothing_costs = ReturnsAfter (record (main_of [] (does (declare_static 0) ∷ does empty ∷ does (mark InitDone) ∷ does empty ∷ returns (number (pos 0)) ∷ [])) {
  objects = static_of int not_initialized ∷ [];
  mark = Some 2;
}) 4 (pos 0)

-- `void f(void) { S }`
abbrev pub giving_nothing : List PlainStatement → PlainFunction
giving_nothing ss = function_of 0 (void false) [] ss

-- `f(); return 3;`: 1; 1 + (1 + (1 + S)); 1 + 1
abbrev pub calling : List PlainStatement → PlainProgram
calling ss = program_of (giving_nothing ss ∷ []) [] (does (evaluate (value_of (void false) (call (span 0) 0 (values_of_list [])))) ∷ returns (number (pos 3)) ∷ [])

-- a `return` without a value, and none at all
pub record ReturnsCost : Type 0 where
  pub without_value : ReturnsAfter (calling (does (return (span 0) None) ∷ [])) 6 (pos 3)
  pub none : ReturnsAfter (calling []) 5 (pos 3)

-- `i < j`
abbrev pub first_below_second : PlainValue
first_below_second = value_of int (binary Lt (get 0 int 0) (get 0 int 1))

-- `int i; int j; for (i = 0, j = 3; i < j; i++, j--) { } return i;`: each piece of a clause is a statement.
-- 1; 1; 1; 1 + (2 + 2) + 3 * 3 + 2 * (4 + 4); 1 + 1
abbrev pub clauses_cost : Type 0
clauses_cost = ReturnsAfter (main_of (int_variable ∷ int_variable ∷ [])
    (does (declare 0 not_initialized) ∷ does (declare 1 not_initialized) ∷
    does (loop (record { number = 0; keyword = For; span = span 0 }) (statements_of_list (assign int 0 (number (pos 0)) ∷ assign int 1 (number (pos 3)) ∷ [])) (Some first_below_second)
    (statements_of_list (does (update Step Add int (name 0 int 0) (number (pos 1))) ∷ does (update Step Sub int (name 0 int 1) (number (pos 1))) ∷ [])) (block_of [])) ∷
    returns (get 0 int 0) ∷ [])) 34 (pos 2)

-- how loops go on and end
pub record JumpsCost : Type 0 where
  -- `int x = 2; do { x--; continue; } while (x > 0); return x;`: 1; 2; 1 + 2 * (4 + 1 + 3); 2
  pub continued : ReturnsAfter (from_two (loop_of Do (Some counting) (block_of (down ∷ does continue ∷ [])))) 21 (pos 0)
  -- `int x = 2; while (1) { break; } return x;`: 1; 2; 1 + 1 + 1; 2
  pub broken : ReturnsAfter (from_two (loop_of While (Some (number (pos 1))) (block_of (does break ∷ [])))) 7 (pos 2)
  -- `int x = 2; while (0) { x--; } return x;`: 1; 2; 1 + 1; 2
  pub without_a_turn : ReturnsAfter (from_two (loop_of While (Some (number (pos 0))) (block_of (down ∷ [])))) 6 (pos 2)
  -- `int x = 2; switch (3) { case 1: x--; } return x;`: 1; 2; 1 + 1; 2
  pub without_a_label : ReturnsAfter
      (from_two (does (switch (span 0) (number (pos 3)) (record { cases = record { value = pos 1; place = 0 } ∷ []; otherwise = None }) (block_of (down ∷ []))))) 6 (pos 2)

-- ## Frames

-- `int main(void) { if (0) { int a[3]; } int y; return 0; }`: a frame has the bytes of all blocks
abbrev pub with_blocks : PlainProgram
with_blocks = main_of (object_variable row 12 ∷ int_variable ∷ [])
    (does (if_then (number (pos 0)) (block_of (does (declare 0 not_initialized) ∷ []))) ∷ does (declare 1 not_initialized) ∷ returns (number (pos 0)) ∷ [])

-- how deep it is
abbrev pub all_blocks_count : Type 0
all_blocks_count = (run_of with_blocks no_world 100 0 0).bytes ≡ 16

-- ## Together
pub record OtherStepsAreCounted : Type 0 where
  pub literals : literals_cost
  pub library_functions : library_costs
  pub sensors : sensors_cost
  pub one_element : one_element_costs
  pub zeros : zeros_cost
  pub elements : ElementsCost
  pub arrows : arrows_cost
  pub declarations : declarations_cost
  pub nothing : nothing_costs
  pub returned : ReturnsCost
  pub clauses : clauses_cost
  pub jumps : JumpsCost
  pub frames : all_blocks_count
