-- Edges of the language that are settled once, at small programs by hand: what is unset when, which of two things comes first,
-- which pointers are equal, what an object is.
use Rattle.std.specs.Prelude.{◌≡◌, ℕ, false, List, [], ◌∷◌, ℤ, pos, negsuc, Some, None}
use Rattle.p10_int.specs.declared.types.IntType.TheVariants.{Char, UChar, ULong}
use Rattle.p10_int.specs.declared.operators.BinOp.TheVariants.{Add, Lt, Eq}
use Rattle.p10_int.specs.declared.operators.Stop.TheVariants.{U5, U7, U8, U11}
use Rattle.p10_core.specs.declared.typed.Library.TheVariants.{Putchar, Malloc, Calloc}
use Rattle.p10_core.specs.declared.statements.LoopKeyword.TheVariants.{While, Do, For}
use Rattle.p10_core.specs.declared.statements.MarkKind.TheVariants.{InitDone}
use Rattle.p10_core.specs.declared.statements.UpdateKind.TheVariants.{Compound, Step}
use Rattle.p10_core.specs.Types.{PlainType, integer, array}
use Rattle.p10_core.specs.Typed.{PlainValue, constant, read, sense, address, decay, convert, binary, conditional, call, built_in, PlainPlace, place, variable, global, literal, index, member, dereference, values_of_list, one_scalar, scalars_of_text, not_initialized, listed, PlainStatement, set, update, copy, evaluate, asserts, declare, loop, switch, break, continue, mark, statements_of_list, PlainFunction, PlainProgram}
use Rattle.p10_meaning.specs.States.{AssertionFailed}
use Rattle.p10_meaning.specs.Runs.{Returned, Ended, run_of}
use Rattle.p10_meaning.specs.Examples.{span, tree, int, number, name, get, does, block_of, returns, frame_variable, object_variable, int_variable, function_of, main_of, program_of, value_of, value_at, plus, pointer_to, null, assign, begin, loop_of, no_world, ReturnsValue, Stops}
use Rattle.p10_meaning.specs.Costs.{uchar, row, pair, with_pair, pair_place, down, counting, from_two}
use Rattle.p10_meaning.specs.Stopping.{ints, element_value, pointed, frees, allocates, with_rows, p, row_value}
use Rattle.p10_meaning.specs.Tasks.{sensor, static_of}

-- ## What is unset

-- `int i = 0; while (i < 2) { int x = i ? x : 5; i++; }`: the second declaration makes x unset before its initialiser, at tree 7
abbrev pub declared_again : PlainProgram
declared_again = main_of (int_variable ∷ int_variable ∷ [])
    (begin 0 (number (pos 0)) ∷
    loop_of While (Some (value_of int (binary Lt (get 0 int 0) (number (pos 2)))))
    (block_of (begin 1 (value_of int (conditional (get 0 int 0) (get 7 int 1) (number (pos 5)))) ∷ does (update Step Add int (name 0 int 0) (number (pos 1))) ∷ [])) ∷ [])

-- `int a[2] = {1, a[0]};`: all values come before the first store
abbrev pub listed_itself : PlainProgram
listed_itself = main_of (object_variable row 12 ∷ [])
    (does (declare 0 (listed (tree 0) (record { scalar = 0; written = one_scalar (number (pos 1)) } ∷ record { scalar = 1; written = one_scalar (element_value 0 (pos 0)) } ∷ []))) ∷ [])

-- `struct p x; struct p y; y = x;` and then these
abbrev pub unset_copy : List PlainStatement → PlainProgram
unset_copy ss = with_pair (main_of (object_variable pair 8 ∷ object_variable pair 8 ∷ [])
    (does (declare 0 not_initialized) ∷ does (declare 1 not_initialized) ∷ does (copy (pair_place 1) (pair_place 0)) ∷ ss))

-- `int *p = (int *)calloc(2, sizeof(int)); return p[1];`
abbrev pub zeroed : PlainProgram
zeroed = main_of (frame_variable ints 8 ∷ [])
    (begin 0 (value_of ints (built_in (span 0) Calloc (values_of_list (value_of (integer false ULong) (constant (pos 2)) ∷ [])))) ∷
    returns (value_of int (read (place (tree 0) int (index (get 0 ints 0) (number (pos 1)))))) ∷ [])

-- ## What comes first

-- `int f(void) { assert(0); return 1; }`
abbrev pub failing : PlainFunction
failing = function_of 0 int [] (does (asserts (tree 8) (number (pos 0))) ∷ returns (number (pos 1)) ∷ [])

-- `int *p = 0; *p = f();`: the place comes before the value
abbrev pub place_first : PlainProgram
place_first = program_of (failing ∷ []) (frame_variable ints 8 ∷ [])
    (begin 0 (null int) ∷ does (set (pointed (get 0 ints 0)) (value_of int (call (span 0) 0 (values_of_list [])))) ∷ [])

-- `int g(int *q) { free(q); return 1; }`
abbrev pub freeing : PlainFunction
freeing = function_of 1 int (frame_variable ints 8 ∷ []) (frees (get 0 ints 0) ∷ returns (number (pos 1)) ∷ [])

-- `int *p = malloc(sizeof(int)); *p = g(p);`: the write tests again
abbrev pub freed_before_the_write : PlainProgram
freed_before_the_write = program_of (freeing ∷ []) (frame_variable ints 8 ∷ [])
    (begin 0 (value_of ints (built_in (span 0) Malloc (values_of_list []))) ∷
    does (set (pointed (get 0 ints 0)) (value_of int (call (span 0) 0 (values_of_list (get 0 ints 0 ∷ []))))) ∷ [])

-- `int x; int y; return V;`, where x is read at tree 7 and y at tree 8
abbrev pub of_two_unset : PlainValue → PlainProgram
of_two_unset v = program_of (function_of 2 int (int_variable ∷ int_variable ∷ []) (returns (number (pos 0)) ∷ []) ∷ []) (int_variable ∷ int_variable ∷ [])
    (does (declare 0 not_initialized) ∷ does (declare 1 not_initialized) ∷ returns v ∷ [])

-- `x += y;` for the same, as a body
abbrev pub updated_by_unset : PlainProgram
updated_by_unset = main_of (int_variable ∷ int_variable ∷ [])
    (does (declare 0 not_initialized) ∷ does (declare 1 not_initialized) ∷ does (update Compound Add int (name 7 int 0) (get 8 int 1)) ∷ [])

-- `int *p; int x; return p[x];`, where p is read at tree 7 and x at tree 8
abbrev pub element_of_unset : PlainProgram
element_of_unset = main_of (frame_variable ints 8 ∷ int_variable ∷ [])
    (does (declare 0 not_initialized) ∷ does (declare 1 not_initialized) ∷ returns (value_of int (read (place (tree 0) int (index (get 7 ints 0) (get 8 int 1))))) ∷ [])

-- `struct p *p = 0; *p = *p;`, the target at tree 7 and the source at tree 8
abbrev pub copied_from_null : PlainProgram
copied_from_null = with_pair (main_of (frame_variable (pointer_to pair) 8 ∷ [])
    (begin 0 (null pair) ∷ does (copy (place (tree 7) pair (dereference (get 0 (pointer_to pair) 0))) (place (tree 8) pair (dereference (get 0 (pointer_to pair) 0)))) ∷ []))

-- `p = &*q;` for a pointer q, at tree 4
abbrev pub address_of_pointed : PlainValue → PlainStatement
address_of_pointed q = assign ints 2 (value_of ints (address (pointed q)))

-- ## Pointers

-- `int a[2][3]`, `&a[0][3] == &a[1][0]`: row 0's one-past place isn't row 1's first
abbrev pub rows : PlainType
rows = array false row 2

-- `a[i]` as a pointer to its first element
abbrev pub row_of : ℤ → PlainValue
row_of i = value_of ints (decay (place (tree 0) row (index (value_of (pointer_to row) (decay (place (tree 0) rows (variable 0)))) (number i))))

-- the comparison
abbrev pub neighbours : PlainProgram
neighbours = main_of (object_variable rows 24 ∷ [])
    (does (declare 0 not_initialized) ∷ returns (value_of int (binary Eq (value_of ints (binary Add (row_of (pos 0)) (number (pos 3)))) (row_of (pos 1)))) ∷ [])

-- `"a"` with a number of its first word
abbrev pub text : ℕ → PlainValue
text n = value_of (pointer_to (integer false Char)) (decay (place (tree 0) (array false (integer false Char) 2) (literal n (97 ∷ 0 ∷ []))))

-- `return "a" == "a";`: two literals are two objects
abbrev pub two_texts : PlainProgram
two_texts = record (main_of [] (returns (value_of int (binary Eq (text 3) (text 5))) ∷ [])) {
  literals = record { number = 3; bytes = 97 ∷ 0 ∷ [] } ∷ record { number = 5; bytes = 97 ∷ 0 ∷ [] } ∷ [];
}

-- `static int c; return "a"[0];`: literals come after the objects of static lifetime
abbrev pub letter_of_text : PlainProgram
letter_of_text = record (main_of [] (returns (value_of int (convert (value_of (integer false Char) (read (place (tree 0) (integer false Char) (index (text 3) (number (pos 0)))))))) ∷ [])) {
  objects = static_of int not_initialized ∷ [];
  literals = record { number = 3; bytes = 97 ∷ 0 ∷ [] } ∷ [];
}

-- `struct p *q = malloc(sizeof(struct p)); free(&q->first);`, which isn't the whole allocation's first place
abbrev pub freed_member : PlainProgram
freed_member = with_pair (main_of (frame_variable (pointer_to pair) 8 ∷ [])
    (begin 0 (value_of (pointer_to pair) (built_in (span 0) Malloc (values_of_list []))) ∷
    frees (value_of ints (address (place (tree 0) int (member (place (tree 0) pair (dereference (get 0 (pointer_to pair) 0))) 0)))) ∷ []))

-- `int f(int n) { int *q = &n; *q = 7; return n; }`: a parameter may be an object
abbrev pub changing : PlainFunction
changing = function_of 1 int (object_variable int 4 ∷ frame_variable ints 8 ∷ [])
    (begin 1 (value_of ints (address (name 0 int 0))) ∷ does (set (pointed (get 0 ints 1)) (number (pos 7))) ∷ returns (get 0 int 0) ∷ [])

-- `return f(1);`
abbrev pub changed : PlainProgram
changed = program_of (changing ∷ []) [] (returns (value_of int (call (span 0) 0 (values_of_list (number (pos 1) ∷ [])))) ∷ [])

-- `int *f(int n) { return &n; } int main(void) { return *f(1); }`: a parameter dies where its call ends
abbrev pub dead_parameter : PlainProgram
dead_parameter = program_of (function_of 1 ints (object_variable int 4 ∷ []) (returns (value_of ints (address (name 0 int 0))) ∷ []) ∷ []) []
    (returns (value_of int (read (pointed (value_of ints (call (span 0) 0 (values_of_list (number (pos 1) ∷ []))))))) ∷ [])

-- ## What is converted

-- `unsigned char c = 255; c++; return c;`: the sum is an `int`, and is converted as it is stored
abbrev pub counted_over : PlainProgram
counted_over = main_of (frame_variable uchar 1 ∷ [])
    (begin 0 (value_of uchar (convert (number (pos 255)))) ∷ does (update Step Add int (name 0 uchar 0) (number (pos 1))) ∷ returns (value_of int (convert (get 0 uchar 0))) ∷ [])

-- `char s[1] = "\377"; return s[0];`: a byte of a text is a value of `char`, which is signed
abbrev pub letter : PlainType
letter = array false (integer false Char) 1

-- the program
abbrev pub high_letter : PlainProgram
high_letter = main_of (object_variable letter 1 ∷ [])
    (does (declare 0 (listed (tree 0) (record { scalar = 0; written = scalars_of_text (255 ∷ []) } ∷ []))) ∷
    returns (value_of int (convert (value_of (integer false Char) (read (place (tree 0) (integer false Char)
    (index (value_of (pointer_to (integer false Char)) (decay (place (tree 0) letter (variable 0)))) (number (pos 0)))))))) ∷ [])

-- `return putchar(z);`
abbrev pub printing_number : ℤ → PlainProgram
printing_number z = main_of [] (returns (value_of int (built_in (span 0) Putchar (values_of_list (number z ∷ [])))) ∷ [])

-- ## Requests, sensors, static objects

-- `p = malloc(n * sizeof(int)); p = malloc(sizeof(int)); return p == 0;`: a request of 0 bytes, or of more than 2^20, isn't counted
abbrev pub asking : ℤ → PlainProgram
asking n = with_rows (assign ints 2 (value_of ints (built_in (span 0) Malloc (values_of_list (value_of (integer false ULong) (constant n) ∷ [])))) ∷ allocates ∷
    returns (value_of int (binary Eq p (null int))) ∷ [])

-- `static volatile unsigned char s; s += 1; return s;`: the read takes a value, and nothing is stored
abbrev pub sensor_place : PlainPlace
sensor_place = place (tree 0) (integer false UChar) (global 0)

-- the program
abbrev pub sensor_updated : PlainProgram
sensor_updated = record (main_of [] (does (update Compound Add int sensor_place (number (pos 1))) ∷ returns (value_of int (convert (value_of (integer false UChar) (sense 0)))) ∷ [])) { objects = sensor ∷ [] }

-- `static int c; int f(void) { c++; return c; }`
abbrev pub counter : PlainPlace
counter = place (tree 0) int (global 0)

-- the function
abbrev pub counts : PlainFunction
counts = function_of 0 int [] (does (update Step Add int counter (number (pos 1))) ∷ returns (value_of int (read counter)) ∷ [])

-- `f(); return f();`
abbrev pub called_twice : PlainProgram
called_twice = record (program_of (counts ∷ []) []
    (does (evaluate (value_of int (call (span 0) 0 (values_of_list [])))) ∷ returns (value_of int (call (span 0) 0 (values_of_list []))) ∷ [])) { objects = static_of int not_initialized ∷ [] }

-- `#pragma p10 init_done`, and then these
abbrev pub after_mark : List PlainStatement → PlainProgram
after_mark ss = record (main_of (int_variable ∷ []) (does (mark InitDone) ∷ begin 0 (number (pos 1)) ∷ ss)) { mark = Some 0 }

-- ## Jumps

-- `int x = 2; do { x--; continue; x = 9; } while (x > 0); return x;`
abbrev pub continued_do : PlainProgram
continued_do = from_two (loop_of Do (Some counting) (block_of (down ∷ does continue ∷ assign int 0 (number (pos 9)) ∷ [])))

-- `int x = 2; for (; x > 0; x--) { continue; } return x;`
abbrev pub continued_for : PlainProgram
continued_for = from_two (does (loop (record { number = 0; keyword = For; span = span 0 }) (statements_of_list []) (Some counting) (statements_of_list (down ∷ [])) (block_of (does continue ∷ []))))

-- `int x = 2; while (x > 0) { switch (1) { case 1: break; } x--; } return x;`: the `break` is the `switch`'s
abbrev pub break_of_switch : PlainProgram
break_of_switch = from_two (loop_of While (Some counting)
    (block_of (does (switch (span 0) (number (pos 1)) (record { cases = record { value = pos 1; place = 0 } ∷ []; otherwise = None }) (block_of (does break ∷ []))) ∷ down ∷ [])))

-- ## Together

-- what is unset when
pub record ScalarsAreUnset : Type 0 where
  pub again : Stops declared_again U8 7
  pub itself : Stops listed_itself U8 4
  pub copied : ReturnsValue (unset_copy (returns (number (pos 3)) ∷ [])) (pos 3)
  pub copy_read : Stops (unset_copy (returns (value_at 6 int (read (place (tree 6) int (member (pair_place 1) 0)))) ∷ [])) U8 6
  pub zero : ReturnsValue zeroed (pos 0)

-- what comes first
pub record PartsAreOrdered : Type 0 where
  pub place_before_value : Stops place_first U5 4
  pub left_first : Stops (of_two_unset (plus (get 7 int 0) (get 8 int 1))) U8 7
  pub arguments : Stops (of_two_unset (value_of int (call (span 0) 0 (values_of_list (get 7 int 0 ∷ get 8 int 1 ∷ []))))) U8 7
  pub read_before_value : Stops updated_by_unset U8 7
  pub pointer_before_number : Stops element_of_unset U8 7
  pub target_before_source : Stops copied_from_null U5 7
  pub tested_again : Stops freed_before_the_write U7 4
  pub address_of_null : Stops (with_rows (address_of_pointed p ∷ [])) U5 4
  pub address_of_one_past : ReturnsValue (with_rows (address_of_pointed (value_of ints (binary Add (row_value 0) (number (pos 3)))) ∷ returns (number (pos 2)) ∷ [])) (pos 2)

-- which pointers are equal, and which objects there are
pub record PointersAreTold : Type 0 where
  pub one_past : ReturnsValue neighbours (pos 0)
  pub texts : ReturnsValue two_texts (pos 0)
  pub text_after_statics : ReturnsValue letter_of_text (pos 97)
  pub member_freed : Stops freed_member U11 5
  pub parameter : ReturnsValue changed (pos 7)
  pub parameter_after_its_call : Stops dead_parameter U7 4

-- what is converted, and what is true
pub record ValuesAreConverted : Type 0 where
  pub stored : ReturnsValue counted_over (pos 0)
  pub texts : ReturnsValue high_letter (negsuc 0)
  pub written : run_of (printing_number (pos 300)) no_world 100 0 0 ≡ record { outcome = Returned (pos 44); output = 44 ∷ []; calls = 1; bytes = 0; after = 0 }
  pub null_is_false : (run_of (main_of [] (does (asserts (tree 8) (null int)) ∷ [])) no_world 100 0 0).outcome ≡ Ended (AssertionFailed (span 8))
  pub below_zero : (run_of (printing_number (negsuc 0)) no_world 100 0 0).outcome ≡ Returned (pos 255)

-- what the world gives
pub record WorldIsAsked : Type 0 where
  pub first_denied : (run_of (asking (pos 0)) (record no_world { denied = 1 ∷ [] }) 1000 0 0).outcome ≡ Returned (pos 1)
  pub second_denied : (run_of (asking (pos 0)) (record no_world { denied = 2 ∷ [] }) 1000 0 0).outcome ≡ Returned (pos 0)
  pub greatest : (run_of (asking (pos 262144)) (record no_world { denied = 1 ∷ [] }) 1000 0 0).outcome ≡ Returned (pos 0)
  pub too_great : (run_of (asking (pos 262145)) (record no_world { denied = 1 ∷ [] }) 1000 0 0).outcome ≡ Returned (pos 1)
  pub sensors : (run_of sensor_updated (record no_world { sensors = pos 5 ∷ pos 9 ∷ [] }) 1000 0 0).outcome ≡ Returned (pos 9)
  pub freed_null : (run_of (after_mark (frees (null int) ∷ returns (number (pos 0)) ∷ [])) no_world 100 0 0).after ≡ 1
  pub static_object : ReturnsValue called_twice (pos 2)

-- where jumps lead
pub record JumpsLead : Type 0 where
  pub to_the_test : ReturnsValue continued_do (pos 0)
  pub to_the_third : ReturnsValue continued_for (pos 0)
  pub after_the_switch : ReturnsValue break_of_switch (pos 0)

-- ## All of them
pub record EdgesAreSettled : Type 0 where
  pub unset : ScalarsAreUnset
  pub order : PartsAreOrdered
  pub told : PointersAreTold
  pub converted : ValuesAreConverted
  pub world : WorldIsAsked
  pub jumps : JumpsLead
