-- Passes over small functions under claims, written out: which conditions fail, and what is known at the end.
use Rattle.std.specs.Prelude.{◌≡◌, ℕ, ◌^◌, ◌-◌, false, List, [], ◌∷◌, map, pos, neg_ℤ, Some, None}
use Rattle.p10_int.specs.declared.types.IntType.TheVariants.{UChar}
use Rattle.p10_int.specs.declared.operators.BinOp.TheVariants.{Add, Rem, Lt, Le, Gt}
use Rattle.p10_range.specs.Ranges.{Interval, from_to}
use Rattle.p10_core.specs.declared.statements.LoopKeyword.TheVariants.{While, For}
use Rattle.p10_core.specs.declared.statements.UpdateKind.TheVariants.{Compound, Step}
use Rattle.p10_core.specs.Types.{PlainType, integer}
use Rattle.p10_core.specs.Typed.{PlainValue, convert, binary, call, more_values, no_values, single, update, declare, if_then, loop, continue, return, empty, statements_of_list, PlainProgram}
use Rattle.p10_meaning.specs.Examples.{span, int, number, name, get, value_of, does, block_of, returns, assign, frame_variable, int_variable, function_of, main_of, program_of}
use Rattle.p10_cert.specs.declared.claims.Rank.{Rank}
use Rattle.p10_cert.specs.declared.claims.Rank.TheVariants.{Up, One, Task}
use Rattle.p10_cert.specs.Claims.{Value, Number, Var, Loop, Func, Claims}
use Rattle.p10_absx.specs.Entering.{entry_at}
use Rattle.p10_pass.specs.Passing.{Failing, Weakness, Left, pass_of, fails_of}

-- ## Builders

-- the interval between two numbers that aren't negative
abbrev pub upto : ℕ → ℕ → Interval
upto low high = from_to (pos low) (pos high)

-- all numbers of type `int`
abbrev pub all_ints : Interval
all_ints = from_to (neg_ℤ (pos (2 ^ 31))) (pos (2 ^ 31 - 1))

-- the constant n of type `int`
abbrev pub n : ℕ → PlainValue
n z = number (pos z)

-- an operator on values of type `int`
abbrev pub sum_of : PlainValue → PlainValue → PlainValue
sum_of a b = value_of int (binary Add a b)

-- what is claimed of a function: its parameters, its result and its loops
abbrev pub claim_of : List Value → Interval → List Loop → Func
claim_of params result loops = record { name = []; rank = 0; steps = 1; calls = 1; bytes = 0; alloc = false; params = params; result = Number result; loops = loops }

-- what is claimed of functions
abbrev pub claims_for : List Func → Claims
claims_for funcs = record { funcs = funcs; total = record { prefix = 1; turn = 0; calls = 1; bytes = 0 } }

-- what the function with a number leaves, from its entry on
abbrev pub passed : PlainProgram → Claims → ℕ → Left
passed p c f = pass_of p c f (entry_at p c f)

-- a condition that fails at a span by a number
abbrev pub fails_at : ℕ → ℕ → Failing
fails_at k at = record { k = k; at = span at }

-- the failing conditions of the loops whose ranks don't stand
abbrev pub map_fails : Left → List (List Failing)
map_fails a = map (λ (w : Weakness). w.fails) a.weak

-- ## A call

-- `int f(int n) { return n + 1; }` and `int main(void) { return f(4); }`, the call's name at span 7, the words `return` at 5 and 6
abbrev pub calling : PlainProgram
calling =
    program_of (function_of 1 int (int_variable ∷ []) (does (return (span 5) (Some (sum_of (get 0 int 0) (n 1)))) ∷ []) ∷ []) []
    (does (return (span 6) (Some (value_of int (call (span 7) 0 (more_values (n 4) no_values))))) ∷ [])

abbrev pub calling_claims : Interval → Interval → Interval → Claims
calling_claims parameter result of_main = claims_for (claim_of (Number parameter ∷ []) result [] ∷ claim_of [] of_main [] ∷ [])

-- its conditions under several claims
pub record CallsAtEdges : Type 0 where
  pub fine : fails_of (passed calling (calling_claims (upto 4 4) (upto 5 5) (upto 5 5)) 1) ≡ []
  pub fine_inside : fails_of (passed calling (calling_claims (upto 4 4) (upto 5 5) (upto 5 5)) 0) ≡ []
  pub argument : fails_of (passed calling (calling_claims (upto 0 3) (upto 1 4) (upto 1 4)) 1) ≡ fails_at 3 7 ∷ []
  pub result : fails_of (passed calling (calling_claims (upto 4 4) (upto 5 5) (upto 4 4)) 1) ≡ fails_at 5 6 ∷ []
  pub result_inside : fails_of (passed calling (calling_claims (upto 4 4) (upto 1 4) (upto 1 4)) 0) ≡ fails_at 5 5 ∷ []
  pub returned : (passed calling (calling_claims (upto 4 4) (upto 5 5) (upto 5 5)) 1).returned ≡ Some (upto 5 5)

-- ## Loops

abbrev pub byte : PlainType
byte = integer false UChar

-- `int s = 0; for (uint8_t i = 0; i < 10; i++) { s += 2; } return s;`, the loop's keyword at span 4
abbrev pub counting : PlainProgram
counting = main_of (int_variable ∷ frame_variable byte 1 ∷ [])
    (does (declare 0 (single (n 0))) ∷
    does (loop (record { number = 0; keyword = For; span = span 4 })
    (statements_of_list (does (declare 1 (single (value_of byte (convert (n 0))))) ∷ []))
    (Some (value_of int (binary Lt (value_of int (convert (get 0 byte 1))) (n 10))))
    (statements_of_list (does (update Step Add int (name 0 byte 1) (n 1)) ∷ []))
    (block_of (does (update Compound Add int (name 0 int 0) (n 2)) ∷ []))) ∷
    returns (get 0 int 0) ∷ [])

-- a line of a loop's claim
abbrev pub line : ℕ → Interval → Var
line v r = record { var = v; ends = r }

abbrev pub least_sum : Interval
least_sum = from_to (neg_ℤ (pos (2 ^ 31 - 2))) (pos (2 ^ 31 - 1))

-- claims of `main` with one loop
abbrev pub loop_claims : Rank → ℕ → List Var → Claims
loop_claims rank turns vars = claims_for (claim_of [] all_ints (record { depth = 0; rank = rank; turns = turns; vars = vars } ∷ []) ∷ [])

abbrev pub counting_left : Rank → ℕ → List Var → Left
counting_left rank turns vars = passed counting (loop_claims rank turns vars) 0

-- `while (i < 10) { if (x > 0) { continue; } i++; }` over `int` variables i and x, after which i is returned
abbrev pub stuck : PlainProgram
stuck = main_of (int_variable ∷ int_variable ∷ [])
    (does (declare 0 (single (n 0))) ∷ does (declare 1 (single (n 0))) ∷
    does (loop (record { number = 0; keyword = While; span = span 4 }) (statements_of_list []) (Some (value_of int (binary Lt (get 0 int 0) (n 10)))) (statements_of_list [])
    (block_of (does (if_then (value_of int (binary Gt (get 0 int 1) (n 0))) (does continue)) ∷ does (update Step Add int (name 0 int 0) (n 1)) ∷ []))) ∷
    returns (get 0 int 0) ∷ [])

-- `for (uint8_t i = 0; i <= 255; i++) { ; } return 0;`
abbrev pub wrapping : PlainProgram
wrapping = main_of (frame_variable byte 1 ∷ [])
    (does (loop (record { number = 0; keyword = For; span = span 4 })
    (statements_of_list (does (declare 0 (single (value_of byte (convert (n 0))))) ∷ []))
    (Some (value_of int (binary Le (value_of int (convert (get 0 byte 0))) (n 255))))
    (statements_of_list (does (update Step Add int (name 0 byte 0) (n 1)) ∷ []))
    (does empty)) ∷
    returns (n 0) ∷ [])

-- `int n = 0; while (1) { n = (n + 1) % 26; }` as the task loop
abbrev pub turning : PlainProgram
turning = main_of (int_variable ∷ [])
    (does (declare 0 (single (n 0))) ∷
    does (loop (record { number = 0; keyword = While; span = span 4 }) (statements_of_list []) (Some (n 1)) (statements_of_list [])
    (block_of (assign int 0 (value_of int (binary Rem (sum_of (get 0 int 0) (n 1)) (n 26))) ∷ []))) ∷ [])

-- which conditions of loops fail
pub record LoopsAtEdges : Type 0 where
  pub counted : fails_of (counting_left (Up 1 (pos 10)) 10 (line 0 least_sum ∷ line 1 (upto 0 10) ∷ [])) ≡ []
  pub counted_ranked : (counting_left (Up 1 (pos 10)) 10 (line 0 least_sum ∷ line 1 (upto 0 10) ∷ [])).weak ≡ []
  pub counted_result : (counting_left (Up 1 (pos 10)) 10 (line 0 least_sum ∷ line 1 (upto 0 10) ∷ [])).returned ≡ Some least_sum
  pub few_turns : map_fails (counting_left (Up 1 (pos 10)) 9 (line 0 least_sum ∷ line 1 (upto 0 10) ∷ [])) ≡ (fails_at 10 4 ∷ []) ∷ []
  pub low_bound : map_fails (counting_left (Up 1 (pos 9)) 10 (line 0 least_sum ∷ line 1 (upto 0 10) ∷ [])) ≡ (fails_at 8 4 ∷ []) ∷ []
  pub entry_out : fails_of (counting_left (Up 1 (pos 10)) 10 (line 1 (upto 1 10) ∷ [])) ≡ fails_at 6 4 ∷ []
  pub back_out : fails_of (counting_left (Up 1 (pos 10)) 10 (line 1 (upto 0 9) ∷ [])) ≡ fails_at 7 4 ∷ []
  pub no_turn_back : map_fails (counting_left One 1 []) ≡ (fails_at 9 4 ∷ []) ∷ []
  pub continued : map_fails (passed stuck (loop_claims (Up 0 (pos 10)) 10 []) 0) ≡ (fails_at 9 4 ∷ []) ∷ []
  pub wraps : map_fails (passed wrapping (loop_claims (Up 0 (pos 256)) 256 (line 0 (upto 0 255) ∷ [])) 0) ≡ (fails_at 9 4 ∷ []) ∷ []
  pub task : fails_of (passed turning (loop_claims Task 13 (line 0 (from_to (neg_ℤ (pos 25)) (pos 25)) ∷ [])) 0) ≡ []
  pub task_back : fails_of (passed turning (loop_claims Task 13 (line 0 (upto 0 0) ∷ [])) 0) ≡ fails_at 7 4 ∷ []
  pub task_ends_nowhere : (passed turning (loop_claims Task 13 []) 0).normal ≡ None
