-- Further stops, at small programs by hand: each way to come to one, and what doesn't stop.
use Rattle.std.specs.Prelude.{ℕ, false, [], ◌∷◌, ℤ, pos, negsuc}
use Rattle.p10_int.specs.declared.types.IntType.TheVariants.{Char, UInt}
use Rattle.p10_int.specs.declared.operators.BinOp.{BinOp}
use Rattle.p10_int.specs.declared.operators.BinOp.TheVariants.{Add, Sub, Mul, Shl, Shr, Eq, Lt, Le}
use Rattle.p10_int.specs.declared.operators.Stop.TheVariants.{U1, U3, U4, U5, U6, U7, U8, U9, U10, U11, U12}
use Rattle.p10_core.specs.declared.statements.UpdateKind.TheVariants.{Compound, Step}
use Rattle.p10_core.specs.Types.{integer}
use Rattle.p10_core.specs.Typed.{PlainValue, constant, read, address, decay, convert, binary, call, place, index, member, dereference, values_of_list, one_scalar, not_initialized, listed, PlainStatement, set, update, declare, if_then, PlainProgram}
use Rattle.p10_meaning.specs.Examples.{span, tree, int, number, name, get, does, returns, frame_variable, object_variable, int_variable, main_of, program_of, value_of, value_at, pointer_to, null, begin, ReturnsValue, Stops}
use Rattle.p10_meaning.specs.Costs.{pair, with_pair, pair_place, successor}
use Rattle.p10_meaning.specs.Stopping.{operation, ints, row_value, moved_by, pointed, pointed_value, with_rows, p, pointing_into_a_block, relation, long, nothing, call_of_nothing, frees, allocates, letters, letter, with_letters}

-- ## Integers

-- `int x = z; x++;` or `x--;`
abbrev pub stepping : BinOp → ℤ → PlainProgram
stepping op z = main_of (int_variable ∷ []) (begin 0 (number z) ∷ does (update Step op int (name 6 int 0) (number (pos 1))) ∷ [])

-- `return (int)(0u - 1u);`: unsigned numbers wrap
abbrev pub wrapping : PlainProgram
wrapping = main_of [] (returns (value_of int (convert (value_at 5 (integer false UInt) (binary Sub (value_of (integer false UInt) (constant (pos 0))) (value_of (integer false UInt) (constant (pos 1))))))) ∷ [])

-- U1, U3, U4, and none
pub record MoreIntegersStop : Type 0 where
  pub difference : Stops (operation Sub (negsuc 2147483647) (pos 1)) U1 5
  pub product : Stops (operation Mul (pos 65536) (pos 32768)) U1 5
  pub step_up : Stops (stepping Add (pos 2147483647)) U1 0
  pub step_down : Stops (stepping Sub (negsuc 2147483647)) U1 0
  pub negative_count : Stops (operation Shr (pos 1) (negsuc 0)) U3 5
  pub count_before_result : Stops (operation Shl (pos 1) (pos 32)) U3 5
  pub negative_left : Stops (operation Shl (negsuc 0) (pos 0)) U4 5
  pub negative_moved_right : ReturnsValue (operation Shr (negsuc 2) (pos 1)) (negsuc 1)
  pub unsigned : ReturnsValue wrapping (negsuc 0)

-- ## Pointers

-- `p[i]`, at tree 4
abbrev pub at_index : PlainValue → ℤ → PlainValue
at_index v i = value_of int (read (place (tree 4) int (index v (number i))))

-- `struct p *q = 0; return q->second;`, with the dereference at tree 7 and the member at tree 4
abbrev pub member_of_null : PlainProgram
member_of_null = with_pair (main_of (frame_variable (pointer_to pair) 8 ∷ [])
    (begin 0 (null pair) ∷ returns (value_of int (read (place (tree 4) int (member (place (tree 7) pair (dereference (get 0 (pointer_to pair) 0))) 1)))) ∷ []))

-- `struct p x; struct p *q = &x + 1; return q->first;`: the member stands after a one-past position
abbrev pub member_of_one_past : PlainProgram
member_of_one_past = with_pair (main_of (object_variable pair 8 ∷ frame_variable (pointer_to pair) 8 ∷ [])
    (does (declare 0 not_initialized) ∷
    begin 1 (value_of (pointer_to pair) (binary Add (value_of (pointer_to pair) (address (pair_place 0))) (number (pos 1)))) ∷
    returns (value_of int (read (place (tree 4) int (member (place (tree 7) pair (dereference (get 0 (pointer_to pair) 1))) 0)))) ∷ []))

-- `&x.first`, `&x.second`
abbrev pub member_address : ℕ → PlainValue
member_address m = value_of ints (address (place (tree 0) int (member (pair_place 0) m)))

-- `struct p x = {1, 2}; return &x.first < &x.second;`: two members are two arrays
abbrev pub members_ordered : PlainProgram
members_ordered = with_pair (main_of (object_variable pair 8 ∷ [])
    (does (declare 0 (listed (tree 0) (record { scalar = 0; written = one_scalar (number (pos 1)) } ∷ record { scalar = 1; written = one_scalar (number (pos 2)) } ∷ []))) ∷
    returns (relation Lt int (member_address 0) (member_address 1)) ∷ []))

-- `*v = 1;`, at tree 4
abbrev pub writes : PlainValue → PlainStatement
writes v = does (set (pointed v) (number (pos 1)))

-- U5, U6, U7 and U9
pub record MorePointersStop : Type 0 where
  pub null_subtracted : Stops (with_rows (returns (value_of int (convert (relation Sub long (row_value 0) p))) ∷ [])) U5 5
  pub null_indexed : Stops (with_rows (returns (at_index p (pos 0)) ∷ [])) U5 4
  pub member_of_null : Stops member_of_null U5 7
  pub null_compared : ReturnsValue (with_rows (returns (relation Eq int p (row_value 0)) ∷ [])) (pos 0)
  pub one_past_written : Stops (with_rows (writes (value_of ints (binary Add (row_value 0) (number (pos 3)))) ∷ [])) U6 4
  pub member_of_one_past : Stops member_of_one_past U6 4
  pub dead_written : Stops (pointing_into_a_block (writes p ∷ [])) U7 4
  pub dead_indexed : Stops (pointing_into_a_block (returns (at_index p (pos 5)) ∷ [])) U7 4
  pub dead_subtracted : Stops (pointing_into_a_block (returns (value_of int (convert (relation Sub long (row_value 0) p))) ∷ [])) U7 5
  pub members_ordered : Stops members_ordered U9 5
  pub ordered : ReturnsValue (with_rows (returns (relation Le int (row_value 0) (moved_by (row_value 0) (pos 3))) ∷ [])) (pos 1)

-- ## Unset scalars, calls without a value

-- U8 and U10
pub record MoreValuesAreMissing : Type 0 where
  pub unset_pointer : Stops (main_of (frame_variable ints 8 ∷ []) (does (declare 0 not_initialized) ∷ returns (pointed_value (get 7 ints 0)) ∷ [])) U8 7
  pub unset_allocation : Stops (with_rows (allocates ∷ returns (pointed_value p) ∷ [])) U8 4
  pub as_condition : Stops (program_of (nothing ∷ []) [] (does (if_then call_of_nothing (returns (number (pos 1)))) ∷ [])) U10 5
  pub as_result : Stops (program_of (nothing ∷ []) [] (returns call_of_nothing ∷ [])) U10 5
  pub as_argument : Stops (program_of (nothing ∷ successor ∷ []) [] (returns (value_of int (call (span 0) 1 (values_of_list (call_of_nothing ∷ [])))) ∷ [])) U10 5
  pub as_initializer : Stops (program_of (nothing ∷ []) (int_variable ∷ []) (begin 0 call_of_nothing ∷ [])) U10 5

-- ## `free` and string literals

-- U11 and U12
pub record MoreOthersStop : Type 0 where
  pub freed_dead : Stops (pointing_into_a_block (frees p ∷ [])) U11 5
  pub freed_literal : Stops (with_letters (main_of [] (frees (value_of (pointer_to (integer false Char)) (decay letters)) ∷ []))) U11 5
  pub updated_literal : Stops (with_letters (main_of [] (does (update Compound Add int (letter (pos 1)) (number (pos 1))) ∷ []))) U12 4

-- ## All of them
pub record OthersStopToo : Type 0 where
  pub integers : MoreIntegersStop
  pub pointers : MorePointersStop
  pub missing : MoreValuesAreMissing
  pub others : MoreOthersStop
