-- Certificates for small programs, written out: the first condition that doesn't hold. A tree whose place counts has a span by a number.
use Rattle.std.specs.Prelude.{◌≡◌, false, List, [], ◌∷◌, pos, neg_ℤ, Some}
use Rattle.p10_int.specs.declared.types.IntType.TheVariants.{Char}
use Rattle.p10_int.specs.declared.operators.BinOp.{BinOp}
use Rattle.p10_int.specs.declared.operators.BinOp.TheVariants.{Add, Div, Rem, Shl, Lt, Eq}
use Rattle.p10_int.specs.declared.operators.UnOp.TheVariants.{Neg}
use Rattle.p10_range.specs.Ranges.{Interval, from_to}
use Rattle.p10_core.specs.declared.typed.Library.TheVariants.{Free}
use Rattle.p10_core.specs.declared.statements.LoopKeyword.TheVariants.{For}
use Rattle.p10_core.specs.declared.statements.UpdateKind.TheVariants.{Step}
use Rattle.p10_core.specs.Types.{PlainType, void, integer, array}
use Rattle.p10_core.specs.Typed.{PlainValue, read, address, decay, convert, unary, binary, conditional, call, built_in, no_values, more_values, PlainPlace, place, literal, index, dereference, not_initialized, single, listed, one_scalar, PlainStatement, set, update, declare, evaluate, if_then, loop, statements_of_list, PlainProgram}
use Rattle.p10_meaning.specs.Examples.{span, tree, int, number, name, get, value_of, value_at, pointer_to, null, does, block_of, returns, assign, frame_variable, object_variable, int_variable, function_of, main_of, program_of}
use Rattle.p10_cert.specs.declared.claims.Rank.TheVariants.{Up}
use Rattle.p10_cert.specs.Claims.{Number, Claims}
use Rattle.p10_pass.specs.SmallPasses.{upto, all_ints, n, claim_of, claims_for, line, loop_claims, byte, counting, least_sum}
use Rattle.p10_clean.specs.declared.flaw.Clean.{Clean}
use Rattle.p10_clean.specs.declared.flaw.Clean.TheVariants.{Yes, No}
use Rattle.p10_clean.specs.Clean.{cleanness}

-- ## Builders

-- what is said of `main` alone, whose result may be any `int`
abbrev pub of_main : PlainProgram → Clean
of_main p = cleanness p (loop_claims (Up 0 (pos 0)) 0 [])

-- an operator on values of type `int`, at tree 5
abbrev pub at_five : BinOp → PlainValue → PlainValue → PlainValue
at_five op a b = value_at 5 int (binary op a b)

-- ## Operators

-- `int q(int n) { return 100 / n; }`, the quotient at tree 5, and `int main(void) { return q(5); }`
abbrev pub dividing : PlainProgram
dividing = program_of (function_of 1 int (int_variable ∷ []) (returns (at_five Div (n 100) (get 0 int 0)) ∷ []) ∷ []) []
    (returns (value_of int (call (span 7) 0 (more_values (n 5) no_values))) ∷ [])

abbrev pub dividing_claims : Interval → Interval → Claims
dividing_claims parameter result = claims_for (claim_of (Number parameter ∷ []) result [] ∷ claim_of [] result [] ∷ [])

-- `s = (s + 2) % 100` in place of `s += 2` in `for (uint8_t i = 0; i < 10; i++)`
abbrev pub counting_on : PlainProgram
counting_on = main_of (int_variable ∷ frame_variable byte 1 ∷ [])
    (does (declare 0 (single (n 0))) ∷
    does (loop (record { number = 0; keyword = For; span = span 4 })
    (statements_of_list (does (declare 1 (single (value_of byte (convert (n 0))))) ∷ []))
    (Some (value_of int (binary Lt (value_of int (convert (get 0 byte 1))) (n 10))))
    (statements_of_list (does (update Step Add int (name 0 byte 1) (n 1)) ∷ []))
    (block_of (assign int 0 (value_of int (binary Rem (at_five Add (get 0 int 0) (n 2)) (n 100))) ∷ []))) ∷
    returns (get 0 int 0) ∷ [])

abbrev pub counting_claims : Interval → Claims
counting_claims s = loop_claims (Up 1 (pos 10)) 10 (line 0 s ∷ line 1 (upto 0 10) ∷ [])

-- `return v;` in `main`
abbrev pub giving : PlainValue → Clean
giving v = of_main (main_of [] (returns v ∷ []))

pub record OperatorsAtEdges : Type 0 where
  pub divides : cleanness dividing (dividing_claims all_ints all_ints) ≡ No 2 (span 5)
  pub divides_five : cleanness dividing (dividing_claims (upto 5 5) (upto 20 20)) ≡ Yes
  pub adds : cleanness counting (counting_claims least_sum) ≡ No 1 (span 0)
  pub adds_below : cleanness counting_on (counting_claims (from_to (neg_ℤ (pos 99)) (pos 99))) ≡ Yes
  pub adds_at_the_end : giving (at_five Add (n 2147483647) (n 0)) ≡ Yes
  pub adds_too_much : giving (at_five Add (n 2147483647) (n 1)) ≡ No 1 (span 5)
  pub negates : giving (value_at 5 int (unary Neg (number (neg_ℤ (pos 2147483648))))) ≡ No 1 (span 5)
  pub least_by_minus_one : giving (at_five Div (number (neg_ℤ (pos 2147483648))) (number (neg_ℤ (pos 1)))) ≡ No 2 (span 5)
  pub shifts : giving (at_five Shl (n 1) (n 30)) ≡ Yes
  pub shifts_too_far : giving (at_five Shl (n 1) (n 31)) ≡ No 3 (span 5)
  pub shifts_negative : giving (at_five Shl (number (neg_ℤ (pos 1))) (n 0)) ≡ No 3 (span 5)
  -- what isn't reached isn't asked
  pub never_reached : giving (value_of int (conditional (n 0) (at_five Div (n 1) (n 0)) (n 1))) ≡ Yes

-- ## Indices and pointers

-- `int a[3] = {1};`, and `a[i]` at tree 4
abbrev pub row : PlainType
row = array false int 3

abbrev pub element : PlainValue → PlainPlace
element i = place (tree 4) int (index (value_of (pointer_to int) (decay (name 0 row 0))) i)

abbrev pub with_row : List PlainStatement → Clean
with_row ss = of_main (main_of (object_variable row 12 ∷ []) (does (declare 0 (listed (tree 0) (record { scalar = 0; written = one_scalar (n 1) } ∷ []))) ∷ ss))

-- `*(int *)0` at tree 4
abbrev pub nothing_there : PlainPlace
nothing_there = place (tree 4) int (dereference (null int))

-- `"ab"[1]` at tree 4
abbrev pub letter : PlainPlace
letter = place (tree 4) (integer false Char) (index (value_of (pointer_to (integer false Char)) (decay (place (tree 0) (array false (integer false Char) 3) (literal 9 (97 ∷ 98 ∷ 0 ∷ []))))) (n 1))

pub record PlacesAtEdges : Type 0 where
  pub last : with_row (returns (value_of int (read (element (n 2)))) ∷ []) ≡ Yes
  pub past : with_row (returns (value_of int (read (element (n 3)))) ∷ []) ≡ No 4 (span 4)
  pub before : with_row (returns (value_of int (read (element (number (neg_ℤ (pos 1)))))) ∷ []) ≡ No 4 (span 4)
  pub written : with_row (does (set (element (n 3)) (n 0)) ∷ []) ≡ No 4 (span 4)
  pub address_past : with_row (does (evaluate (value_of (pointer_to int) (address (element (n 3))))) ∷ []) ≡ No 4 (span 4)
  pub dereferenced : of_main (main_of [] (returns (value_of int (read nothing_there)) ∷ [])) ≡ No 5 (span 4)
  pub compared : giving (at_five Eq (null int) (null int)) ≡ Yes
  pub ordered : giving (at_five Lt (null int) (null int)) ≡ No 5 (span 5)
  pub freed : of_main (main_of [] (does (evaluate (value_at 5 (void false) (built_in (span 0) Free (more_values (null int) no_values)))) ∷ [])) ≡ No 5 (span 5)
  pub literal_read : giving (value_of int (convert (value_of (integer false Char) (read letter)))) ≡ Yes
  pub literal_written : of_main (main_of [] (does (set letter (value_of (integer false Char) (convert (n 1)))) ∷ [])) ≡ No 8 (span 4)

-- ## Settings and returns

-- `int f(void) { }`
abbrev pub falling : PlainProgram
falling = program_of (function_of 0 int [] [] ∷ []) [] (returns (n 0) ∷ [])

-- `int f(void) { return 1 / 0; }`, the quotient at tree 5, and a sum that is too great in `main`, at tree 6
abbrev pub both_wrong : PlainProgram
both_wrong = program_of (function_of 0 int [] (returns (at_five Div (n 1) (n 0)) ∷ []) ∷ []) [] (returns (value_at 6 int (binary Add (n 2147483647) (n 1))) ∷ [])

abbrev pub two_claims : Claims
two_claims = claims_for (claim_of [] all_ints [] ∷ claim_of [] all_ints [] ∷ [])

pub record SettingsAsked : Type 0 where
  pub unset : of_main (main_of (int_variable ∷ []) (does (declare 0 not_initialized) ∷ returns (get 7 int 0) ∷ [])) ≡ No 6 (span 7)
  pub set_before : of_main (main_of (int_variable ∷ []) (does (declare 0 not_initialized) ∷ assign int 0 (n 1) ∷ returns (get 7 int 0) ∷ [])) ≡ Yes
  pub by_itself : of_main (main_of (int_variable ∷ []) (does (declare 0 (single (get 7 int 0))) ∷ [])) ≡ No 6 (span 7)
  pub on_one_way : of_main (main_of (int_variable ∷ []) (does (declare 0 not_initialized) ∷ does (if_then (get 7 int 0) (assign int 0 (n 1))) ∷ [])) ≡ No 6 (span 7)
  pub object_unset : of_main (main_of (object_variable row 12 ∷ []) (does (declare 0 not_initialized) ∷ [])) ≡ No 6 (span 0)
  pub object_in_itself : of_main (main_of (object_variable row 12 ∷ []) (does (declare 0 (listed (tree 0) (record { scalar = 0; written = one_scalar (value_of int (read (element (n 0)))) } ∷ []))) ∷ [])) ≡ No 6 (span 0)
  pub no_return : cleanness falling two_claims ≡ No 7 (span 0)
  pub by_number_first : cleanness both_wrong two_claims ≡ No 1 (span 6)
