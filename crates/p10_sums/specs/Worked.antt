-- What small programs cost, by hand.
use Rattle.std.specs.Prelude.{◌≡◌, ℕ, Bool, true, false, List, [], ◌∷◌, map, ℤ, pos, Some, None}
use Rattle.p10_int.specs.declared.types.IntType.TheVariants.{Char, ULong, Bool as Truth}
use Rattle.p10_int.specs.declared.operators.BinOp.TheVariants.{Add, Div, Lt, Gt, Le, Ge, Eq, Ne, Xor}
use Rattle.p10_int.specs.declared.operators.UnOp.TheVariants.{Neg, Not}
use Rattle.p10_core.specs.declared.typed.Library.TheVariants.{CAssert, Getchar, Putchar, Calloc}
use Rattle.p10_core.specs.declared.typed.LogicOp.TheVariants.{And, Or}
use Rattle.p10_core.specs.declared.statements.LoopKeyword.TheVariants.{While, Do, For}
use Rattle.p10_core.specs.declared.statements.UpdateKind.TheVariants.{Compound, Step}
use Rattle.p10_core.specs.declared.statements.MarkKind.TheVariants.{InitDone, TaskLoop}
use Rattle.p10_core.specs.Types.{PlainType, void, integer, array}
use Rattle.p10_core.specs.Typed.{PlainValue, read, one_scalar, scalars_of_text, copied, listed, copy, convert, cast, unary, binary, logic, conditional, call, built_in, values_of_list, PlainStatement, evaluate, declare, if_then, if_else, loop, break, continue, mark, update, statements_of_list, PlainFunction, PlainProgram}
use Rattle.p10_cert.specs.declared.claims.Rank.TheVariants.{One}
use Rattle.p10_cert.specs.Claims.{Nothing, Loop, Func}
use Rattle.p10_meaning.specs.Examples.{span, tree, int, number, name, get, does, block_of, returns, frame_variable, object_variable, int_variable, function_of, main_of, program_of, value_of, plus, pointer_to, null, assign, begin, loop_of}
use Rattle.p10_meaning.specs.Costs.{uchar, row, element, pair, with_pair, pair_place, part, summing, down, counting, choosing}
use Rattle.p10_meaning.specs.Tasks.{letters}
use Rattle.p10_sums.specs.declared.sum.FuncSum.{FuncSum}
use Rattle.p10_sums.specs.Sums.{sum_at, all_sums}

-- a loop of which n turns are claimed
abbrev pub claimed_loop : ℕ → Loop
claimed_loop n = record { depth = 0; rank = One; turns = n; vars = [] }

-- a function of which these steps, calls, bytes, effect and turns of its loops are claimed
abbrev pub claiming : ℕ → ℕ → ℕ → Bool → List ℕ → Func
claiming steps calls bytes alloc turns =
    record { name = []; rank = 0; steps = steps; calls = calls; bytes = bytes; alloc = alloc; params = []; result = Nothing; loops = map claimed_loop turns }

-- a sum without a task loop
abbrev pub costs : ℕ → ℕ → ℕ → Bool → FuncSum
costs steps calls bytes alloc = record { steps = steps; calls = calls; bytes = bytes; alloc = alloc; turn = 0 }

-- `static int f(int n) { int s = 0; if (n > 100) { return -1; } for (int i = 0; i < n; i++) { s = s ^ i; } return s; }`
abbrev pub mixing : PlainFunction
mixing = function_of 1 int (int_variable ∷ int_variable ∷ int_variable ∷ [])
    (begin 1 (number (pos 0)) ∷
    does (if_then (value_of int (binary Gt (get 0 int 0) (number (pos 100)))) (block_of (returns (value_of int (unary Neg (number (pos 1)))) ∷ []))) ∷
    does (loop (record { number = 0; keyword = For; span = span 0 }) (statements_of_list (begin 2 (number (pos 0)) ∷ []))
    (Some (value_of int (binary Lt (get 0 int 2) (get 0 int 0))))
    (statements_of_list (does (update Step Add int (name 0 int 2) (number (pos 1))) ∷ []))
    (block_of (assign int 1 (value_of int (binary Xor (get 0 int 1) (get 0 int 2))) ∷ []))) ∷
    returns (get 0 int 1) ∷ [])

-- `int main(void) { return f(z); }`, with a function f before it
abbrev pub calling_one : PlainFunction → ℤ → PlainProgram
calling_one f z = program_of (f ∷ []) [] (returns (value_of int (call (span 0) 0 (values_of_list (number z ∷ [])))) ∷ [])

-- `static int g(uint8_t n) { int c = 0; while (n > 0) { n /= 2; c++; } return c; }`
abbrev pub halving : PlainFunction
halving = function_of 1 int (frame_variable uchar 1 ∷ int_variable ∷ [])
    (begin 1 (number (pos 0)) ∷
    loop_of While (Some (value_of int (binary Gt (value_of int (convert (get 0 uchar 0))) (number (pos 0)))))
    (block_of (does (update Compound Div int (name 0 uchar 0) (number (pos 2))) ∷ does (update Step Add int (name 0 int 1) (number (pos 1))) ∷ [])) ∷
    returns (get 0 int 1) ∷ [])

-- ## The ring of a buffer: `cells`, `head` and `count` are read as variables, which cost what objects do

-- `c_assert(v)`, and its negation
abbrev pub asserted : PlainValue → PlainValue
asserted v = value_of int (unary Not (value_of int (built_in (span 0) CAssert (values_of_list (v ∷ [])))))

-- `return z;` of a `bool`
abbrev pub says : ℤ → PlainStatement
says z = returns (value_of (integer false Truth) (convert (number z)))

-- `bool ring_init(void)`: `cells = (int *)calloc(8, sizeof(int)); head = 0; count = 0;`
-- `if (!c_assert(cells != NULL) || !c_assert(count == 0)) { return false; } return true;`
abbrev pub ring_init : PlainFunction
ring_init = function_of 0 (integer false Truth) []
    (assign (pointer_to int) 0 (value_of (pointer_to int) (cast (value_of (pointer_to int) (built_in (span 0) Calloc (values_of_list (value_of (integer false ULong) (convert (number (pos 8))) ∷ [])))))) ∷
    assign int 1 (number (pos 0)) ∷ assign int 2 (number (pos 0)) ∷
    does (if_then (value_of int (logic Or (asserted (value_of int (binary Ne (get 0 (pointer_to int) 0) (null int)))) (asserted (value_of int (binary Eq (get 0 int 2) (number (pos 0)))))))
    (block_of (says (pos 0) ∷ []))) ∷ says (pos 1) ∷ [])

-- `static void drain(void)`: `for (int i = 0; i < 8; i++) { int c = ring_get(); if (!c_assert(c <= 255)) { break; } if (c < 0) { break; } (void)putchar(c); }`
abbrev pub drain : PlainFunction
drain = function_of 0 (void false) (int_variable ∷ int_variable ∷ [])
    (does (loop (record { number = 0; keyword = For; span = span 0 }) (statements_of_list (begin 0 (number (pos 0)) ∷ []))
    (Some (value_of int (binary Lt (get 0 int 0) (number (pos 8)))))
    (statements_of_list (does (update Step Add int (name 0 int 0) (number (pos 1))) ∷ []))
    (block_of (begin 1 (value_of int (call (span 0) 2 (values_of_list []))) ∷
    does (if_then (asserted (value_of int (binary Le (get 0 int 1) (number (pos 255))))) (block_of (does break ∷ []))) ∷
    does (if_then (value_of int (binary Lt (get 0 int 1) (number (pos 0)))) (block_of (does break ∷ []))) ∷
    does (evaluate (value_of (void false) (cast (value_of int (built_in (span 0) Putchar (values_of_list (get 0 int 1 ∷ []))))))) ∷ []))) ∷ [])

-- the functions, of which the two that are only called have no body here
abbrev pub ring_functions : List PlainFunction
ring_functions = ring_init ∷ function_of 1 (integer false Truth) (int_variable ∷ []) [] ∷ function_of 0 int (int_variable ∷ []) [] ∷ drain ∷ []

-- what is claimed of `ring_init`, `ring_put`, `ring_get` and `drain`
abbrev pub ring_claims : List Func
ring_claims = claiming 25 1 0 true [] ∷ claiming 38 1 4 false [] ∷ claiming 40 1 4 false [] ∷ claiming 527 2 12 false (8 ∷ []) ∷ []

-- `bool`
abbrev pub bool_type : PlainType
bool_type = integer false Truth

-- a turn: `int c = getchar(); if (!c_assert(c >= -1)) { continue; } if (c == '.') { drain(); } else if (c >= 0) { if (!ring_put(c)) { (void)putchar('!'); } }`
abbrev pub ring_turn : PlainStatement
ring_turn = block_of
    (begin 1 (value_of int (built_in (span 0) Getchar (values_of_list []))) ∷
    does (if_then (asserted (value_of int (binary Ge (get 0 int 1) (value_of int (unary Neg (number (pos 1))))))) (block_of (does continue ∷ []))) ∷
    does (if_else (value_of int (binary Eq (get 0 int 1) (number (pos 46))))
    (block_of (does (evaluate (value_of (void false) (call (span 0) 3 (values_of_list [])))) ∷ []))
    (does (if_then (value_of int (binary Ge (get 0 int 1) (number (pos 0))))
    (block_of (does (if_then (value_of int (unary Not (value_of int (convert (value_of bool_type (call (span 0) 1 (values_of_list (get 0 int 1 ∷ []))))))))
    (block_of (does (evaluate (value_of (void false) (cast (value_of int (built_in (span 0) Putchar (values_of_list (number (pos 33) ∷ []))))))) ∷ []))) ∷ []))))) ∷ [])

-- the program, whose `main` is `bool ready = ring_init(); if (!c_assert(ready == true)) { return 1; }` and the task loop
abbrev pub ring : PlainProgram
ring = record (program_of ring_functions (frame_variable bool_type 1 ∷ int_variable ∷ [])
    (begin 0 (value_of bool_type (call (span 0) 0 (values_of_list []))) ∷
    does (if_then (asserted (value_of int (binary Eq (value_of int (convert (get 0 bool_type 0))) (number (pos 1))))) (block_of (returns (number (pos 1)) ∷ []))) ∷
    does (mark InitDone) ∷ does (mark TaskLoop) ∷ loop_of For None ring_turn ∷ [])) { mark = Some 2; task = Some 4 }

-- ## Aggregates

-- `int a[3] = {4, 5}; return a[1] + a[2];`
abbrev pub listing : PlainProgram
listing = main_of (object_variable row 12 ∷ [])
    (does (declare 0 (listed (tree 0) (record { scalar = 0; written = one_scalar (number (pos 4)) } ∷ record { scalar = 1; written = one_scalar (number (pos 5)) } ∷ []))) ∷
    returns (plus (value_of int (read (element 0 (number (pos 1))))) (value_of int (read (element 0 (number (pos 2)))))) ∷ [])

-- `struct p x = {1, 2}; struct p y = x; y = x; return y.first + y.second;`
abbrev pub copying : PlainProgram
copying = with_pair (main_of (object_variable pair 8 ∷ object_variable pair 8 ∷ [])
    (does (declare 0 (listed (tree 0) (record { scalar = 0; written = one_scalar (number (pos 1)) } ∷ record { scalar = 1; written = one_scalar (number (pos 2)) } ∷ []))) ∷
    does (declare 1 (copied (pair_place 0))) ∷ does (copy (pair_place 1) (pair_place 0)) ∷ returns (plus (part 1 0) (part 1 1)) ∷ []))

-- `char s[3] = "ab"; return 0 && 1 ? 2 : 3 + 4;`
abbrev pub choosing_one : PlainProgram
choosing_one = main_of (object_variable (array false (integer false Char) 3) 3 ∷ [])
    (does (declare 0 (listed (tree 0) (record { scalar = 0; written = scalars_of_text (97 ∷ 98 ∷ 0 ∷ []) } ∷ []))) ∷
    returns (value_of int (conditional (value_of int (logic And (number (pos 0)) (number (pos 1)))) (number (pos 2)) (plus (number (pos 3)) (number (pos 4))))) ∷ [])

-- ## The sums

-- what each of these costs
pub record WorkedSums : Type 0 where
  -- one loop: as many steps as a run takes
  pub one_loop : sum_at summing (claiming 121 1 5 false (10 ∷ []) ∷ []) 0 ≡ costs 121 1 5 false
  -- a function with an early return and a loop of 100 turns, and its caller
  pub early_return : all_sums (calling_one mixing (pos 50)) (claiming 1118 1 12 false (100 ∷ []) ∷ claiming 1122 2 12 false [] ∷ []) ≡ costs 1118 1 12 false ∷ costs 1122 2 12 false ∷ []
  -- a `while` of 255 turns
  pub while_loop : all_sums (calling_one halving (pos 200)) (claiming 2814 1 5 false (255 ∷ []) ∷ claiming 2818 2 5 false [] ∷ []) ≡ costs 2814 1 5 false ∷ costs 2818 2 5 false ∷ []
  -- a `do` tests as often as it turns
  pub do_loop : sum_at (main_of (int_variable ∷ []) (begin 0 (number (pos 2)) ∷ loop_of Do (Some counting) (block_of (down ∷ [])) ∷ returns (get 0 int 0) ∷ [])) (claiming 20 1 4 false (2 ∷ []) ∷ []) 0 ≡ costs 20 1 4 false
  -- a task loop: the part before it, and a turn with its test
  pub task_loop : sum_at letters (claiming 4 1 4 false (13 ∷ []) ∷ []) 0 ≡ record { steps = 4; calls = 1; bytes = 4; alloc = false; turn = 13 }
  -- an allocation, asserts, a callee in a loop, and a task loop without a test
  pub allocating : sum_at ring ring_claims 0 ≡ costs 25 1 0 true
  pub calling : sum_at ring ring_claims 3 ≡ costs 527 2 12 false
  pub ring_main : sum_at ring ring_claims 4 ≡ record { steps = 37; calls = 3; bytes = 17; alloc = true; turn = 543 }
  -- a list with three scalars, a structure with two that is copied twice, a text
  pub listed_scalars : sum_at listing [] 0 ≡ costs 17 1 12 false
  pub copied_structure : sum_at copying [] 0 ≡ costs 19 1 16 false
  -- both sides of `&&`, the larger branch of `?:`, all statements of a `switch`
  pub branches : sum_at choosing_one [] 0 ≡ costs 13 1 3 false
  pub all_cases : sum_at (choosing (pos 3)) [] 0 ≡ costs 16 1 4 false
  -- where nothing is claimed, callees and turns count nothing; where there is no function, nothing does
  pub unclaimed : sum_at (calling_one mixing (pos 50)) [] 1 ≡ costs 4 1 0 false
  pub no_turns : sum_at (calling_one mixing (pos 50)) [] 0 ≡ costs 18 1 12 false
  pub absent : sum_at summing [] 7 ≡ costs 0 0 0 false
