-- Which loops have a bound, and by which rank, at small functions: what the order and the trial of candidates decide.
use Rattle.std.specs.Prelude.{◌≡◌, ℕ, zero, suc, ◌+◌, ◌^◌, ◌-◌, false, List, [], ◌∷◌, ◌++◌, slice_get, pos, Option, Some, None}
use Rattle.p10_int.specs.declared.types.IntType.TheVariants.{UShort, UInt}
use Rattle.p10_int.specs.declared.operators.BinOp.TheVariants.{Sub, Lt, Gt, Le, Ne}
use Rattle.p10_core.specs.declared.typed.LogicOp.TheVariants.{And, Or}
use Rattle.p10_core.specs.declared.statements.LoopKeyword.TheVariants.{While, Do, For}
use Rattle.p10_core.specs.declared.statements.UpdateKind.TheVariants.{Step}
use Rattle.p10_core.specs.Types.{PlainType, integer}
use Rattle.p10_core.specs.Typed.{PlainValue, convert, binary, logic, PlainStatement, asserts, update, if_then, loop, switch, break, continue, empty, statements_of_list, PlainVariable, PlainFunction}
use Rattle.p10_cert.specs.declared.claims.Rank.{Rank}
use Rattle.p10_cert.specs.declared.claims.Rank.TheVariants.{Up, Down, One}
use Rattle.p10_cert.specs.Claims.{Var}
use Rattle.p10_meaning.specs.Examples.{span, tree, int, number, name, get, does, block_of, returns, frame_variable, int_variable, function_of, main_of, value_of, begin, assign}
use Rattle.p10_meaning.specs.Costs.{uchar}
use Rattle.p10_pass.specs.SmallPasses.{upto, claims_for, line, wrapping}
use Rattle.p10_finder.specs.Loops.{LoopsFound, no_loops}
use Rattle.p10_finder.specs.Functions.{loops_of}
use Rattle.p10_finder.specs.Worked.{outer_loop, stepped_on, for_loop}
use Rattle.p10_approach.specs.Offers.{no_offers}

-- ## Builders

-- the loops of a function that is alone
abbrev pub loops_alone : PlainFunction → LoopsFound
loops_alone f = loops_of no_offers (main_of [] []) (claims_for []) 0 f

-- the same for function 0 of `main` alone
abbrev pub loops_of_main : Option PlainFunction → LoopsFound
loops_of_main None = no_loops
loops_of_main (Some f) = loops_alone f

-- the loops of a function with a number of parameters, these variables and this body
abbrev pub over : ℕ → List PlainVariable → List PlainStatement → LoopsFound
over parameters variables body = loops_alone (function_of parameters int variables (body ++ returns (number (pos 0)) ∷ []))

-- `while (test) body`, its keyword at span 4, 5, .. by its number
abbrev pub while_loop : ℕ → PlainValue → PlainStatement → PlainStatement
while_loop n test body = does (loop (record { number = n; keyword = While; span = span (4 + n) }) (statements_of_list []) (Some test) (statements_of_list []) body)

-- `a < b` and `a != b` of values of type `int`
abbrev pub less : PlainValue → PlainValue → PlainValue
less a b = value_of int (binary Lt a b)

-- the second
abbrev pub differ : PlainValue → PlainValue → PlainValue
differ a b = value_of int (binary Ne a b)

-- `a && b`
abbrev pub both : PlainValue → PlainValue → PlainValue
both a b = value_of int (logic And a b)

-- the constant n
abbrev pub n : ℕ → PlainValue
n k = number (pos k)

-- variable k of type `int`
abbrev pub x : ℕ → PlainValue
x k = get 0 int k

-- `v--`
abbrev pub stepped_back : PlainType → ℕ → PlainStatement
stepped_back t v = does (update Step Sub int (name 0 t v) (n 1))

-- a loop with one claim, and one without a bound
abbrev pub bounded : Rank → ℕ → List Var → LoopsFound
bounded rank turns vars = record { claims = outer_loop rank turns vars ∷ []; unbounded = []; approaches = None ∷ [] }

-- the second
abbrev pub unbounded : List Var → LoopsFound
unbounded vars = record { claims = outer_loop One 0 vars ∷ []; unbounded = span 4 ∷ []; approaches = None ∷ [] }

-- ## Functions

-- `uint16_t`
abbrev pub ushort : PlainType
ushort = integer false UShort

-- `unsigned`
abbrev pub uint : PlainType
uint = integer false UInt

-- `for (uint8_t i = 0; i < n; i++) { ; }` with a parameter `uint16_t n`, after other statements
abbrev pub bounded_after : List PlainStatement → LoopsFound
bounded_after before = over 1 (frame_variable ushort 2 ∷ frame_variable uchar 1 ∷ [])
    (before ++ for_loop 0 (begin 1 (value_of uchar (convert (n 0)))) (less (value_of int (convert (get 0 uchar 1))) (value_of int (convert (get 0 ushort 0)))) (stepped_on uchar 1) (does empty) ∷ [])

-- `assert(n <= 200);`
abbrev pub assert_small : PlainStatement
assert_small = does (asserts (tree 0) (value_of int (binary Le (value_of int (convert (get 0 ushort 0))) (n 200))))

-- `while (test) { i++; }` from `int i = 0`, where other parameters may stand before: i is variable k
abbrev pub rising_while : ℕ → PlainValue → LoopsFound
rising_while k test = over k (variables k) (begin k (n 0) ∷ while_loop 0 test (block_of (stepped_on int k ∷ [])) ∷ [])
  where
    variables : ℕ → List PlainVariable
    variables zero = int_variable ∷ []
    variables (suc k) = int_variable ∷ variables k

-- `for (T i = 5; i != 0; i--) { ; }`
abbrev pub down_to_zero : PlainType → PlainValue → PlainValue → LoopsFound
down_to_zero t five none = over 0 (frame_variable t 4 ∷ []) (for_loop 0 (begin 0 five) (differ (get 0 t 0) none) (stepped_back t 0) (does empty) ∷ [])

-- `for (int i = 0; i < 10; i++) { for (int j = 0; j < i; j++) { ; } }`
abbrev pub triangle : LoopsFound
triangle = over 0 (int_variable ∷ int_variable ∷ [])
    (for_loop 0 (begin 0 (n 0)) (less (x 0) (n 10)) (stepped_on int 0)
    (block_of (for_loop 1 (begin 1 (n 0)) (less (x 1) (x 0)) (stepped_on int 1) (does empty) ∷ [])) ∷ [])

-- ## Bounds

pub record BoundsAtEdges : Type 0 where
  -- a counter of 8 bits wraps before it exceeds 255
  pub wraps : loops_of_main (slice_get wrapping.functions 0) ≡ unbounded []
  -- nor does it come to a number of 16 bits, unless that is small
  pub narrow : bounded_after [] ≡ unbounded []
  pub asserted : bounded_after (assert_small ∷ []) ≡ bounded (Up 1 (pos 200)) 200 (line 0 (upto 0 200) ∷ line 1 (upto 0 200) ∷ [])
  -- `while (i < 10) { if (x > 0) { continue; } i++; }`: a way back on which nothing moves
  pub continued : over 2 (int_variable ∷ int_variable ∷ [])
      (while_loop 0 (less (x 0) (n 10)) (block_of (does (if_then (value_of int (binary Gt (x 1) (n 0))) (block_of (does continue ∷ []))) ∷ stepped_on int 0 ∷ [])) ∷ [])
      ≡ unbounded []
  -- `do { i++; } while (i < 10);`
  pub at_the_end : over 0 (int_variable ∷ [])
      (begin 0 (n 0) ∷ does (loop (record { number = 0; keyword = Do; span = span 4 }) (statements_of_list []) (Some (less (x 0) (n 10))) (statements_of_list []) (stepped_on int 0)) ∷ [])
      ≡ bounded (Up 0 (pos 10)) 10 (line 0 (upto 0 9) ∷ [])
  -- `10 > i`: the right side by the comparison turned round
  pub turned_round : rising_while 0 (value_of int (binary Gt (n 10) (x 0))) ≡ bounded (Up 0 (pos 10)) 10 (line 0 (upto 0 10) ∷ [])
  -- `i <= 9`: one more
  pub at_most : rising_while 0 (value_of int (binary Le (x 0) (n 9))) ≡ bounded (Up 0 (pos 10)) 10 (line 0 (upto 0 10) ∷ [])
  -- `i < 10 && i < 5`: the first that stands
  pub first : rising_while 0 (both (less (x 0) (n 10)) (less (x 0) (n 5))) ≡ bounded (Up 0 (pos 10)) 10 (line 0 (upto 0 5) ∷ [])
  -- `a != 0 && i < 10`, and with `b != 0` before it: four candidates are tried
  pub third : rising_while 1 (both (differ (x 0) (n 0)) (less (x 1) (n 10))) ≡ bounded (Up 1 (pos 10)) 10 (line 1 (upto 0 10) ∷ [])
  pub fifth : rising_while 2 (both (both (differ (x 0) (n 0)) (differ (x 1) (n 0))) (less (x 2) (n 10))) ≡ unbounded []
  -- `i < 10 || i < 5`: no conjunct
  pub either : rising_while 0 (value_of int (logic Or (less (x 0) (n 10)) (less (x 0) (n 5)))) ≡ unbounded []
  -- `i != 0`, down: a signed variable may be below 0 at the head, an unsigned one isn't
  pub signed : down_to_zero int (n 5) (n 0) ≡ unbounded []
  pub unsigned : down_to_zero uint (value_of uint (convert (n 5))) (value_of uint (convert (n 0))) ≡ bounded (Down 0 (pos 0)) 5 (line 0 (upto 0 5) ∷ [])
  -- `while (n) { n--; }` with a parameter `unsigned char n`
  pub plain : over 1 (frame_variable uchar 1 ∷ []) (while_loop 0 (get 0 uchar 0) (stepped_back uchar 0) ∷ []) ≡ bounded (Down 0 (pos 0)) 255 []
  -- `for (;;) { break; }`: one turn at most
  pub once : over 0 [] (does (loop (record { number = 0; keyword = For; span = span 4 }) (statements_of_list []) None (statements_of_list []) (does break)) ∷ []) ≡ bounded One 1 []
  -- `return 0; for (int i = 0; i < 10; i++) { for (..) { ; } }`: no state comes to these
  pub unreached : over 0 (int_variable ∷ int_variable ∷ [])
      (returns (n 0) ∷ for_loop 0 (begin 0 (n 0)) (less (x 0) (n 10)) (stepped_on int 0) (for_loop 1 (begin 1 (n 0)) (less (x 1) (x 0)) (stepped_on int 1) (does empty)) ∷ [])
      ≡ record { claims = outer_loop One 0 [] ∷ record (outer_loop One 0 []) { depth = 1 } ∷ []; unbounded = []; approaches = None ∷ None ∷ [] }
  -- a loop in a loop has its bound by the claim on the outer one
  pub inner : triangle ≡ record {
    claims = outer_loop (Up 0 (pos 10)) 10 (line 0 (upto 0 10) ∷ []) ∷
        record { depth = 1; rank = Up 1 (pos 9); turns = 9; vars = line 0 (upto 0 9) ∷ line 1 (upto 0 9) ∷ [] } ∷ [];
    unbounded = [];
    approaches = None ∷ None ∷ [];
  }
  -- `while (i < 10) { i = 0; } for (int j = 0; j < i; j++) { ; }` from `int i = 0`: after a loop without a bound, what it assigns may
  -- be anything that ends it
  pub after : over 0 (int_variable ∷ int_variable ∷ [])
      (begin 0 (n 0) ∷ while_loop 0 (less (x 0) (n 10)) (assign int 0 (n 0)) ∷ for_loop 1 (begin 1 (n 0)) (less (x 1) (x 0)) (stepped_on int 1) (does empty) ∷ [])
      ≡ record {
        claims = outer_loop One 0 [] ∷ outer_loop (Up 1 (pos (2 ^ 31 - 1))) (2 ^ 31 - 1) (line 0 (upto 10 (2 ^ 31 - 1)) ∷ line 1 (upto 0 (2 ^ 31 - 1)) ∷ []) ∷ [];
        unbounded = span 4 ∷ [];
        approaches = None ∷ None ∷ [];
      }
  -- `switch (1) { case 1: i = 3; default: while (i < 5) { i++; } }` with a parameter `int i`
  pub in_switch : over 1 (int_variable ∷ [])
      (does (switch (span 0) (n 1) (record { cases = record { value = pos 1; place = 0 } ∷ []; otherwise = Some 1 })
      (block_of (assign int 0 (n 3) ∷ while_loop 0 (less (x 0) (n 5)) (stepped_on int 0) ∷ []))) ∷ [])
      ≡ bounded (Up 0 (pos 5)) (2 ^ 31 + 5) []
