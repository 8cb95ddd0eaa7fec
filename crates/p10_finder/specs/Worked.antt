-- What derivation finds for small programs, written out: whole claims of their functions.
use Rattle.std.specs.Prelude.{◌≡◌, ℕ, suc, ◌^◌, ◌-◌, ◌+◌, ◌*◌, false, List, [], ◌∷◌, pos, neg_ℤ, Some}
use Rattle.p10_int.specs.declared.operators.BinOp.TheVariants.{Add, Rem, Lt, Gt, Le, Ge}
use Rattle.p10_core.specs.declared.typed.LogicOp.TheVariants.{Or}
use Rattle.p10_core.specs.declared.statements.LoopKeyword.TheVariants.{For}
use Rattle.p10_core.specs.declared.statements.UpdateKind.TheVariants.{Step}
use Rattle.p10_core.specs.Types.{PlainType}
use Rattle.p10_core.specs.Typed.{PlainValue, binary, logic, conditional, call, values_of_list, PlainStatement, declare, not_initialized, if_then, loop, update, empty, statements_of_list, PlainFunction, PlainProgram}
use Rattle.p10_range.specs.Ranges.{Interval, from_to}
use Rattle.p10_cert.specs.declared.claims.Rank.{Rank}
use Rattle.p10_cert.specs.declared.claims.Rank.TheVariants.{Up, Down, Task}
use Rattle.p10_cert.specs.Claims.{Value, Number, Var, Loop, Func, Claims}
use Rattle.p10_meaning.specs.Examples.{span, int, number, name, get, does, block_of, returns, int_variable, function_of, main_of, program_of, value_of, plus, assign, begin}
use Rattle.p10_meaning.specs.Costs.{summing}
use Rattle.p10_meaning.specs.Tasks.{letters}
use Rattle.p10_sums.specs.Worked.{asserted, mixing, halving, calling_one}
use Rattle.p10_pass.specs.SmallPasses.{upto, all_ints, claims_for, line, least_sum}
use Rattle.p10_finder.specs.Functions.{func_found}
use Rattle.p10_approach.specs.Offers.{no_offers}

-- ## What is found of all functions

-- the claims of functions from number n on, under claims that have their ranks
abbrev pub found_from : PlainProgram → Claims → ℕ → List PlainFunction → List Func → List Func
found_from p c n (f ∷ functions) (claim ∷ claims) = func_found no_offers p c n claim.rank f ∷ found_from p c (suc n) functions claims
found_from p c n functions claims = []

-- claims of a program are those that are found where they stand
abbrev pub AreFound : PlainProgram → List Func → Type 0
AreFound p claims = found_from p (claims_for claims) 0 p.functions claims ≡ claims

-- ## Builders

-- a claim of a function: rank, steps, calls, bytes, parameters, result and loops
abbrev pub claiming : ℕ → ℕ → ℕ → ℕ → List Value → Interval → List Loop → Func
claiming rank steps calls bytes params result loops =
    record { name = []; rank = rank; steps = steps; calls = calls; bytes = bytes; alloc = false; params = params; result = Number result; loops = loops }

-- a claim of a loop that stands in no other
abbrev pub outer_loop : Rank → ℕ → List Var → Loop
outer_loop rank turns vars = record { depth = 0; rank = rank; turns = turns; vars = vars }

-- `v++` for a variable of a type
abbrev pub stepped_on : PlainType → ℕ → PlainStatement
stepped_on t n = does (update Step Add int (name 0 t n) (number (pos 1)))

-- `for (first; test; v++) body`
abbrev pub for_loop : ℕ → PlainStatement → PlainValue → PlainStatement → PlainStatement → PlainStatement
for_loop n first test third body =
    does (loop (record { number = n; keyword = For; span = span (4 + n) }) (statements_of_list (first ∷ [])) (Some test) (statements_of_list (third ∷ [])) body)

-- `for (int i = 0; i <= 2147483647; i++) body` over variable i
abbrev pub to_the_end : ℕ → ℕ → PlainStatement → PlainStatement
to_the_end n i body = for_loop n (begin i (number (pos 0))) (value_of int (binary Le (get 0 int i) (number (pos (2 ^ 31 - 1))))) (stepped_on int i) body

-- ## Programs

-- `int i; for (i = 0; i < 0; i++) { ; } return i;`
abbrev pub never_turning : PlainProgram
never_turning = main_of (int_variable ∷ [])
    (does (declare 0 not_initialized) ∷
    for_loop 0 (assign int 0 (number (pos 0))) (value_of int (binary Lt (get 0 int 0) (number (pos 0)))) (stepped_on int 0) (block_of (does empty ∷ [])) ∷
    returns (get 0 int 0) ∷ [])

-- `for (int i = 0; i <= 2147483647; i++) { ; } return 0;`
abbrev pub all_turns : PlainProgram
all_turns = main_of (int_variable ∷ []) (to_the_end 0 0 (block_of (does empty ∷ [])) ∷ returns (number (pos 0)) ∷ [])

-- `static int f(int x) { int s = 0; if (!c_assert(x >= 0) || !c_assert(x <= 1000)) { return 0; }`
-- `for (int i = 0; i < m; i++) { s = (s + x + i) % 1000; } return s; }`
abbrev pub generated_function : ℕ → PlainFunction
generated_function m = function_of 1 int (int_variable ∷ int_variable ∷ int_variable ∷ [])
    (begin 1 (number (pos 0)) ∷
    does (if_then (value_of int (logic Or (asserted (value_of int (binary Ge (get 0 int 0) (number (pos 0))))) (asserted (value_of int (binary Le (get 0 int 0) (number (pos 1000)))))))
    (block_of (returns (number (pos 0)) ∷ []))) ∷
    for_loop 0 (begin 2 (number (pos 0))) (value_of int (binary Lt (get 0 int 2) (number (pos m)))) (stepped_on int 2)
    (block_of (assign int 1 (value_of int (binary Rem (plus (plus (get 0 int 1) (get 0 int 0)) (get 0 int 2)) (number (pos 1000)))) ∷ [])) ∷
    returns (get 0 int 1) ∷ [])

-- `t = f(t);` by the number of f
abbrev pub passes_on : ℕ → PlainStatement
passes_on f = assign int 0 (value_of int (call (span 0) f (values_of_list (get 0 int 0 ∷ []))))

-- two such functions of 1 and 2 turns, and `int t = 1; t = f0(t); t = f1(t); return t;`
abbrev pub generated_two : PlainProgram
generated_two = program_of (generated_function 1 ∷ generated_function 2 ∷ []) (int_variable ∷ [])
    (begin 0 (number (pos 1)) ∷ passes_on 0 ∷ passes_on 1 ∷ returns (get 0 int 0) ∷ [])

-- what is claimed of such a function
abbrev pub generated_claim : ℕ → Func
generated_claim m = claiming 0 (25 + 15 * m) 1 12 (Number all_ints ∷ []) (from_to (neg_ℤ (pos 999)) (pos 999))
    (outer_loop (Up 2 (pos m)) m (line 0 (upto 0 1000) ∷ line 1 (from_to (neg_ℤ (pos 999)) (pos 999)) ∷ line 2 (upto 0 m) ∷ []) ∷ [])

-- `return 3 > 9 ? 3 : 9;`
abbrev pub greater_of : PlainProgram
greater_of = main_of [] (returns (value_of int (conditional (value_of int (binary Gt (number (pos 3)) (number (pos 9)))) (number (pos 3)) (number (pos 9)))) ∷ [])

-- ## What is found

pub record WorkedClaims : Type 0 where
  -- `int s = 0; for (uint8_t i = 0; i < 10; i++) { s += 2; } return s;`
  pub counted : AreFound summing (claiming 0 121 1 5 [] least_sum (outer_loop (Up 1 (pos 10)) 10 (line 0 least_sum ∷ line 1 (upto 0 10) ∷ []) ∷ []) ∷ [])
  -- a loop that never turns
  pub never : AreFound never_turning (claiming 0 10 1 4 [] (upto 0 0) (outer_loop (Up 0 (pos 0)) 0 (line 0 (upto 0 0) ∷ []) ∷ []) ∷ [])
  -- a bound by a parameter, and a caller
  pub by_parameter : AreFound (calling_one mixing (pos 50))
      (claiming 0 1118 1 12 (Number all_ints ∷ []) all_ints (outer_loop (Up 2 (pos 100)) 100 (line 0 (from_to (neg_ℤ (pos (2 ^ 31))) (pos 100)) ∷ line 2 (upto 0 100) ∷ []) ∷ []) ∷
      claiming 1 1122 2 12 [] all_ints [] ∷ [])
  -- as many turns as the type has values that aren't negative: the last step stops
  pub to_the_last : AreFound all_turns (claiming 0 17179869193 1 4 [] all_ints (outer_loop (Up 0 (pos (2 ^ 31))) (2 ^ 31) (line 0 (upto 0 (2 ^ 31 - 1)) ∷ []) ∷ []) ∷ [])
  -- a quotient falls
  pub by_halves : AreFound (calling_one halving (pos 200))
      (claiming 0 2814 1 5 (Number (upto 0 255) ∷ []) (from_to (neg_ℤ (pos (2 ^ 31 - 1))) (pos (2 ^ 31 - 1)))
      (outer_loop (Down 0 (pos 0)) 255 (line 1 (from_to (neg_ℤ (pos (2 ^ 31 - 1))) (pos (2 ^ 31 - 1))) ∷ []) ∷ []) ∷
      claiming 1 2818 2 5 [] (from_to (neg_ℤ (pos (2 ^ 31 - 1))) (pos (2 ^ 31 - 1))) [] ∷ [])
  -- a task loop: its steps are those of a turn
  pub task : AreFound letters (claiming 0 4 1 4 [] all_ints (outer_loop Task 13 (line 0 (from_to (neg_ℤ (pos 25)) (pos 25)) ∷ []) ∷ []) ∷ [])
  -- no loop, and a condition that never holds
  pub chosen : AreFound greater_of (claiming 0 7 1 0 [] (upto 9 9) [] ∷ [])
  -- functions that hand a value on
  pub handed_on : AreFound generated_two (generated_claim 1 ∷ generated_claim 2 ∷ claiming 1 106 2 16 [] (from_to (neg_ℤ (pos 999)) (pos 999)) [] ∷ [])
