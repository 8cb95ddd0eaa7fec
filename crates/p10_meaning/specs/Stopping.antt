-- Where runs stop, at small programs by hand: each of U1 to U12 at the tree where it belongs, and what is tested first.
use Rattle.std.specs.Prelude.{◌≡◌, ℕ, false, List, [], ◌∷◌, ◌++◌, ℤ, pos, negsuc}
use Rattle.p10_int.specs.declared.types.IntType.TheVariants.{Char, Long}
use Rattle.p10_int.specs.declared.operators.BinOp.{BinOp}
use Rattle.p10_int.specs.declared.operators.BinOp.TheVariants.{Add, Sub, Div, Rem, Shl, Shr, Lt, Eq}
use Rattle.p10_int.specs.declared.operators.UnOp.TheVariants.{Neg}
use Rattle.p10_int.specs.declared.operators.Stop.TheVariants.{U1, U2, U3, U4, U5, U6, U7, U8, U9, U10, U11, U12}
use Rattle.p10_core.specs.declared.typed.Library.TheVariants.{Malloc, Free}
use Rattle.p10_core.specs.declared.statements.UpdateKind.TheVariants.{Compound}
use Rattle.p10_core.specs.Types.{PlainType, void, integer, array}
use Rattle.p10_core.specs.Typed.{PlainValue, read, address, decay, convert, cast, unary, binary, conditional, call, built_in, PlainPlace, place, literal, index, dereference, values_of_list, not_initialized, listed, PlainStatement, set, update, evaluate, asserts, declare, PlainFunction, PlainProgram}
use Rattle.p10_meaning.specs.States.{AssertionFailed}
use Rattle.p10_meaning.specs.Runs.{Ended, run_of}
use Rattle.p10_meaning.specs.Examples.{span, tree, int, number, name, get, does, block_of, returns, frame_variable, object_variable, int_variable, function_of, main_of, program_of, value_of, value_at, plus, pointer_to, null, assign, begin, no_world, ReturnsValue, Stops}
use Rattle.p10_meaning.specs.Costs.{row, row_place}

-- ## Integers

-- `return a op b;`, with the operator at tree 5
abbrev pub operation : BinOp → ℤ → ℤ → PlainProgram
operation op a b = main_of [] (returns (value_at 5 int (binary op (number a) (number b))) ∷ [])

-- `int x = 2147483647; x += 1;` stops at the statement, and `int x; x += 1;` at the place, tree 6
abbrev pub adding_to : List PlainStatement → PlainProgram
adding_to first = main_of (int_variable ∷ []) (first ++ record_of ∷ [])
  where
    record_of : PlainStatement
    record_of = does (update Compound Add int (name 6 int 0) (number (pos 1)))

-- U1 to U4, and U8 of an update
pub record IntegersStop : Type 0 where
  pub sum : Stops (operation Add (pos 2147483647) (pos 1)) U1 5
  pub negation : Stops (main_of [] (returns (value_at 5 int (unary Neg (number (negsuc 2147483647)))) ∷ [])) U1 5
  pub quotient : Stops (operation Div (negsuc 2147483647) (negsuc 0)) U1 5
  pub remainder_of_such : Stops (operation Rem (negsuc 2147483647) (negsuc 0)) U1 5
  pub division_by_zero : Stops (operation Div (pos 1) (pos 0)) U2 5
  pub remainder_by_zero : Stops (operation Rem (pos 1) (pos 0)) U2 5
  pub wide_shift : Stops (operation Shr (pos 1) (pos 32)) U3 5
  pub count_before_operand : Stops (operation Shl (negsuc 0) (negsuc 0)) U3 5
  pub negative_left : Stops (operation Shl (negsuc 0) (pos 1)) U4 5
  pub wide_result : Stops (operation Shl (pos 1) (pos 31)) U4 5
  pub update_at_the_statement : Stops (adding_to (begin 0 (number (pos 2147483647)) ∷ [])) U1 0
  pub update_reads_at_the_place : Stops (adding_to (does (declare 0 not_initialized) ∷ [])) U8 6

-- ## Pointers

-- pointers to `int`
abbrev pub ints : PlainType
ints = pointer_to int

-- row n as a pointer to its first element
abbrev pub row_value : ℕ → PlainValue
row_value n = value_of ints (decay (row_place n))

-- `a[i]` of row n, at tree 4
abbrev pub element : ℕ → ℤ → PlainPlace
element n i = place (tree 4) int (index (row_value n) (number i))

-- its value
abbrev pub element_value : ℕ → ℤ → PlainValue
element_value n i = value_at 4 int (read (element n i))

-- `a + i`, at tree 5
abbrev pub moved_by : PlainValue → ℤ → PlainValue
moved_by v i = value_at 5 ints (binary Add v (number i))

-- `*v`, at tree 4
abbrev pub pointed : PlainValue → PlainPlace
pointed v = place (tree 4) int (dereference v)

-- its value
abbrev pub pointed_value : PlainValue → PlainValue
pointed_value v = value_at 4 int (read (pointed v))

-- `int a[3]; int b[3]; int *p;` and these
abbrev pub with_rows : List PlainStatement → PlainProgram
with_rows ss = main_of (object_variable row 12 ∷ object_variable row 12 ∷ frame_variable ints 8 ∷ int_variable ∷ [])
    (does (declare 0 (listed (tree 0) [])) ∷ does (declare 1 (listed (tree 0) [])) ∷ begin 2 (null int) ∷ ss)

-- `p`
abbrev pub p : PlainValue
p = get 0 ints 2

-- `{ int x = 1; p = &x; }`, with x as variable 4
abbrev pub pointing_into_a_block : List PlainStatement → PlainProgram
pointing_into_a_block ss =
    main_of (object_variable row 12 ∷ object_variable row 12 ∷ frame_variable ints 8 ∷ int_variable ∷ object_variable int 4 ∷ [])
    (does (declare 0 (listed (tree 0) [])) ∷ does (declare 1 (listed (tree 0) [])) ∷ begin 2 (null int) ∷
    block_of (begin 4 (number (pos 1)) ∷ assign ints 2 (value_of ints (address (name 0 int 4))) ∷ []) ∷ ss)

-- two operands with an operator on pointers, at tree 5
abbrev pub relation : BinOp → PlainType → PlainValue → PlainValue → PlainValue
relation op t a b = value_at 5 t (binary op a b)

-- `long`
abbrev pub long : PlainType
long = integer false Long

-- U5 to U7 and U9, and the order in which they are tested
pub record PointersStop : Type 0 where
  pub null_read : Stops (with_rows (returns (pointed_value p) ∷ [])) U5 4
  pub null_write : Stops (with_rows (does (set (pointed p) (number (pos 1))) ∷ [])) U5 4
  pub null_moved : Stops (with_rows (assign ints 2 (moved_by p (pos 0)) ∷ [])) U5 5
  pub null_ordered : Stops (with_rows (returns (relation Lt int (row_value 0) p) ∷ [])) U5 5
  pub one_past_read : Stops (with_rows (returns (element_value 0 (pos 3)) ∷ [])) U6 4
  pub past_the_end : Stops (with_rows (returns (element_value 0 (pos 4)) ∷ [])) U6 4
  pub before_the_start : Stops (with_rows (returns (element_value 0 (negsuc 0)) ∷ [])) U6 4
  pub moved_past_the_end : Stops (with_rows (assign ints 2 (moved_by (row_value 0) (pos 4)) ∷ [])) U6 5
  pub moved_to_one_past : ReturnsValue (with_rows (assign ints 2 (moved_by (row_value 0) (pos 3)) ∷ returns (number (pos 7)) ∷ [])) (pos 7)
  pub dead_read : Stops (pointing_into_a_block (returns (pointed_value p) ∷ [])) U7 4
  pub dead_moved : Stops (pointing_into_a_block (assign ints 2 (moved_by p (pos 5)) ∷ [])) U7 5
  pub dead_before_other_array : Stops (pointing_into_a_block (returns (relation Lt int p (row_value 0)) ∷ [])) U7 5
  pub null_before_dead : Stops (pointing_into_a_block (returns (relation Lt int p (null int)) ∷ [])) U5 5
  pub dead_compared : ReturnsValue (pointing_into_a_block (returns (relation Eq int p p) ∷ [])) (pos 1)
  pub other_array_ordered : Stops (with_rows (returns (relation Lt int (row_value 0) (row_value 1)) ∷ [])) U9 5
  pub other_array_subtracted : Stops (with_rows (returns (value_of int (convert (relation Sub long (row_value 0) (row_value 1)))) ∷ [])) U9 5
  pub subtracted : ReturnsValue (with_rows (returns (value_of int (convert (relation Sub long (row_value 0) (moved_by (row_value 0) (pos 3))))) ∷ [])) (negsuc 2)

-- ## Unset scalars, calls without a value

-- `int f(void) { }`, a function that ends without `return`, called at tree 5
abbrev pub nothing : PlainFunction
nothing = function_of 0 int [] []

-- a call of it
abbrev pub call_of_nothing : PlainValue
call_of_nothing = value_at 5 int (call (span 0) 0 (values_of_list []))

-- U8 and U10
pub record ValuesAreMissing : Type 0 where
  pub unset_variable : Stops (main_of (int_variable ∷ []) (does (declare 0 not_initialized) ∷ returns (get 7 int 0) ∷ [])) U8 7
  pub unset_element : Stops (main_of (object_variable row 12 ∷ []) (does (declare 0 not_initialized) ∷ returns (element_value 0 (pos 1)) ∷ [])) U8 4
  pub used_call : Stops (program_of (nothing ∷ []) [] (returns (plus (number (pos 1)) call_of_nothing) ∷ [])) U10 5
  pub chosen_call : Stops (program_of (nothing ∷ []) [] (does (evaluate (value_of int (conditional (number (pos 1)) call_of_nothing (number (pos 0))))) ∷ [])) U10 5
  pub dropped_call : ReturnsValue (program_of (nothing ∷ []) [] (does (evaluate call_of_nothing) ∷ returns (number (pos 3)) ∷ [])) (pos 3)
  pub call_cast_to_void : ReturnsValue (program_of (nothing ∷ []) [] (does (evaluate (value_of (void false) (cast call_of_nothing))) ∷ returns (number (pos 3)) ∷ [])) (pos 3)

-- ## `free`, string literals, `assert`

-- `free(v)` at tree 5
abbrev pub frees : PlainValue → PlainStatement
frees v = does (evaluate (value_at 5 (void false) (built_in (span 0) Free (values_of_list (v ∷ [])))))

-- `p = malloc(sizeof(int));`
abbrev pub allocates : PlainStatement
allocates = assign ints 2 (value_of ints (built_in (span 0) Malloc (values_of_list [])))

-- the literal "ab", as object 0
abbrev pub letters : PlainPlace
letters = place (tree 0) (array false (integer false Char) 3) (literal 9 (97 ∷ 98 ∷ 0 ∷ []))

-- `"ab"[i]`, at tree 4
abbrev pub letter : ℤ → PlainPlace
letter i = place (tree 4) (integer false Char) (index (value_of (pointer_to (integer false Char)) (decay letters)) (number i))

-- the program with that literal
abbrev pub with_letters : PlainProgram → PlainProgram
with_letters q = record q { literals = record { number = 9; bytes = 97 ∷ 98 ∷ 0 ∷ [] } ∷ [] }

-- U7, U11, U12, U6 before U12, and an `assert` that fails
pub record OthersStop : Type 0 where
  pub freed_declared : Stops (with_rows (frees (row_value 0) ∷ [])) U11 5
  pub freed_twice : Stops (with_rows (allocates ∷ frees p ∷ frees p ∷ [])) U11 5
  pub freed_one_past : Stops (with_rows (allocates ∷ frees (value_of ints (binary Add p (number (pos 1)))) ∷ [])) U11 5
  pub null_freed : ReturnsValue (with_rows (frees p ∷ returns (number (pos 1)) ∷ [])) (pos 1)
  pub read_after_free : Stops (with_rows (allocates ∷ frees p ∷ returns (pointed_value p) ∷ [])) U7 4
  pub literal_read : ReturnsValue (with_letters (main_of [] (returns (value_of int (convert (value_at 4 (integer false Char) (read (letter (pos 1)))))) ∷ []))) (pos 98)
  pub literal_written : Stops (with_letters (main_of [] (does (set (letter (pos 1)) (value_of (integer false Char) (convert (number (pos 1))))) ∷ []))) U12 4
  pub one_past_of_a_literal : Stops (with_letters (main_of [] (does (set (letter (pos 3)) (value_of (integer false Char) (convert (number (pos 1))))) ∷ []))) U6 4
  pub failed_assertion : (run_of (main_of [] (does (asserts (tree 8) (number (pos 0))) ∷ [])) no_world 10 0 0).outcome ≡ Ended (AssertionFailed (span 8))

-- ## Each stop at its tree
pub record RunsStop : Type 0 where
  pub integers : IntegersStop
  pub pointers : PointersStop
  pub missing : ValuesAreMissing
  pub others : OthersStop
