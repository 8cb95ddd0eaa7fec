-- Small programs with certificates, written out: the first condition that fails.
use Rattle.std.specs.Prelude.{◌≡◌, ℕ, ◌^◌, ◌-◌, ◌+◌, Bool, true, false, List, [], ◌∷◌, pos, neg_ℤ, Option, Some, None}
use Rattle.p10_base.specs.declared.report.Bounds.{Bounds}
use Rattle.p10_base.specs.declared.report.TheConstants.Limit.{MOST_SUM}
use Rattle.p10_int.specs.declared.types.IntType.TheVariants.{Int}
use Rattle.p10_int.specs.declared.operators.BinOp.TheVariants.{Add, Rem, Lt}
use Rattle.p10_range.specs.Ranges.{Interval, from_to}
use Rattle.p10_range.specs.Rows.{values_of}
use Rattle.p10_core.specs.declared.typed.Library.TheVariants.{Malloc}
use Rattle.p10_core.specs.declared.statements.LoopKeyword.TheVariants.{While, For}
use Rattle.p10_core.specs.declared.statements.UpdateKind.TheVariants.{Compound, Step}
use Rattle.p10_core.specs.declared.statements.MarkKind.TheVariants.{InitDone}
use Rattle.p10_core.specs.Types.{void}
use Rattle.p10_core.specs.Typed.{convert, binary, call, built_in, values_of_list, PlainStatement, update, evaluate, break, loop, mark, return, statements_of_list, PlainFunction, PlainProgram}
use Rattle.p10_meaning.specs.Examples.{span, tree, int, number, name, get, value_of, does, block_of, returns, assign, begin, frame_variable, int_variable, function_of, main_of, pointer_to, plus}
use Rattle.p10_meaning.specs.Costs.{uchar}
use Rattle.p10_cert.specs.declared.claims.Rank.{Rank}
use Rattle.p10_cert.specs.declared.claims.Rank.TheVariants.{Up, One, Task}
use Rattle.p10_cert.specs.Claims.{Number, Nothing, Var, Loop, Func}
use Rattle.p10_absx.specs.Examples.{upto}
use Rattle.p10_flowrules.specs.declared.calls.AnyCall.{AnyCall}
use Rattle.p10_flowrules.specs.declared.calls.Called.TheVariants.{Function}
use Rattle.p10_pass.specs.Passing.{Failing}
use Rattle.p10_check.specs.Passes.{Standing}
use Rattle.p10_check.specs.Conditions.{first_failure}

-- ## Builders

-- the numbers of type `int`
abbrev pub ints_range : Interval
ints_range = values_of Int

-- a condition that fails at a span by a number
abbrev pub at : ℕ → ℕ → Option Failing
at k n = Some (record { k = k; at = span n })

-- no evidence stands for any loop, and evidence that stands for each
abbrev pub none_stands : Standing
none_stands f n entry claim = false

-- the contrary
abbrev pub each_stands : Standing
each_stands f n entry claim = true

-- a function whose name stands at a span by a number
abbrev pub named_at : ℕ → PlainFunction → PlainFunction
named_at n f = record f { span = span n }

-- ## Calls

-- `static int f(int n) { return n + 1; }` and `int main(void) { return f(4); }`: the names at 1 and 2, the words `return` at 5 and 6,
-- the call's name at 7
abbrev pub calling_f : PlainProgram
calling_f = record (main_of [] []) {
  functions =
      named_at 1 (function_of 1 int (int_variable ∷ []) (does (return (span 5) (Some (plus (get 0 int 0) (number (pos 1))))) ∷ []))
      ∷ named_at 2 (function_of 0 int [] (does (return (span 6) (Some (value_of int (call (span 7) 0 (values_of_list (number (pos 4) ∷ [])))))) ∷ [])) ∷ [];
  main = 1;
}

-- what is claimed of f: its steps, and the ranges of its parameter and its result
abbrev pub on_f : ℕ → Interval → Interval → Func
on_f steps parameter result =
    record { name = []; rank = 0; steps = steps; calls = 1; bytes = 4; alloc = false; params = Number parameter ∷ []; result = Number result; loops = [] }

-- what is claimed of `main`: its rank, steps, calls and bytes, and the range of its result
abbrev pub on_main : ℕ → ℕ → ℕ → ℕ → Interval → Func
on_main rank steps calls bytes result =
    record { name = []; rank = rank; steps = steps; calls = calls; bytes = bytes; alloc = false; params = []; result = Number result; loops = [] }

-- what these certificates claim of the whole
abbrev pub calling_total : Bounds
calling_total = record { prefix = 9; turn = 0; calls = 2; bytes = 4 }

-- the first condition that fails of claims on these functions
abbrev pub calling_with : List Func → Bounds → Option Failing
calling_with funcs total = first_failure none_stands calling_f (record { funcs = funcs; total = total }) []

-- the conditions of calls
pub record CallsChecked : Type 0 where
  pub accepted : calling_with (on_f 5 ints_range ints_range ∷ on_main 1 9 2 4 ints_range ∷ []) calling_total ≡ None
  -- K1: a claim is lacking, there is one too many, another parameter, a range that isn't of the type
  pub lacking : calling_with (on_f 5 ints_range ints_range ∷ []) calling_total ≡ at 1 2
  pub too_many : calling_with (on_f 5 ints_range ints_range ∷ on_main 1 9 2 4 ints_range ∷ on_main 1 9 2 4 ints_range ∷ []) calling_total ≡ at 1 2
  pub no_parameter : calling_with (record (on_f 5 ints_range ints_range) { params = [] } ∷ on_main 1 9 2 4 ints_range ∷ []) calling_total ≡ at 1 1
  pub wide : calling_with (on_f 5 ints_range (upto 0 (2 ^ 31)) ∷ on_main 1 9 2 4 ints_range ∷ []) calling_total ≡ at 1 1
  -- the others
  pub rank : calling_with (on_f 5 ints_range ints_range ∷ on_main 0 9 2 4 ints_range ∷ []) calling_total ≡ at 2 7
  pub narrow : calling_with (on_f 5 (upto 4 4) (upto 5 5) ∷ on_main 1 9 2 4 (upto 5 5) ∷ []) calling_total ≡ None
  pub argument : calling_with (on_f 5 (upto 0 3) (upto 1 4) ∷ on_main 1 9 2 4 (upto 1 4) ∷ []) calling_total ≡ at 3 7
  pub result : calling_with (on_f 5 (upto 4 4) (upto 5 5) ∷ on_main 1 9 2 4 (upto 4 4) ∷ []) calling_total ≡ at 5 6
  pub few_steps : calling_with (on_f 5 ints_range ints_range ∷ on_main 1 8 2 4 ints_range ∷ []) calling_total ≡ at 11 2
  pub few_steps_inside : calling_with (on_f 4 ints_range ints_range ∷ on_main 1 8 2 4 ints_range ∷ []) calling_total ≡ at 11 1
  pub few_calls : calling_with (on_f 5 ints_range ints_range ∷ on_main 1 9 1 4 ints_range ∷ []) calling_total ≡ at 12 2
  pub few_bytes : calling_with (on_f 5 ints_range ints_range ∷ on_main 1 9 2 3 ints_range ∷ []) calling_total ≡ at 12 2
  pub low_prefix : calling_with (on_f 5 ints_range ints_range ∷ on_main 1 9 2 4 ints_range ∷ []) (record calling_total { prefix = 8 }) ≡ at 14 2
  pub low_depth : calling_with (on_f 5 ints_range ints_range ∷ on_main 1 9 2 4 ints_range ∷ []) (record calling_total { calls = 1 }) ≡ at 14 2
  -- a sum over the greatest that is allowed is above every claim; one that is the greatest allowed isn't
  pub over : calling_with (on_f (MOST_SUM - 3) ints_range ints_range ∷ on_main 1 (MOST_SUM + 1) 2 4 ints_range ∷ []) (record calling_total { prefix = MOST_SUM + 1 }) ≡ at 11 2
  pub greatest : calling_with (on_f (MOST_SUM - 4) ints_range ints_range ∷ on_main 1 MOST_SUM 2 4 ints_range ∷ []) (record calling_total { prefix = MOST_SUM }) ≡ None

-- ## Loops

-- `int s = 0; for (uint8_t i = 0; i < 10; i++) { s += 2; } return s;` in `main`, whose name is at 2, the loop's keyword at 4
abbrev pub counting_twos : PlainProgram
counting_twos = record (main_of [] []) {
  functions = named_at 2 (function_of 0 int (int_variable ∷ frame_variable uchar 1 ∷ [])
      (begin 0 (number (pos 0)) ∷
      does (loop (record { number = 0; keyword = For; span = span 4 })
      (statements_of_list (begin 1 (value_of uchar (convert (number (pos 0)))) ∷ []))
      (Some (value_of int (binary Lt (value_of int (convert (get 0 uchar 1))) (number (pos 10)))))
      (statements_of_list (does (update Step Add int (name 0 uchar 1) (number (pos 1))) ∷ []))
      (block_of (does (update Compound Add int (name 0 int 0) (number (pos 2))) ∷ []))) ∷
      returns (get 0 int 0) ∷ [])) ∷ [];
}

-- a line of a loop's claim
abbrev pub variable_line : ℕ → Interval → Var
variable_line v r = record { var = v; ends = r }

-- the sum s, which is even
abbrev pub sums_of_twos : Interval
sums_of_twos = from_to (neg_ℤ (pos (2 ^ 31 - 2))) (pos (2 ^ 31 - 1))

-- the first condition that fails of a claim on the loop, where its function and the total claim these steps
abbrev pub counting_with : Standing → ℕ → Loop → Option Failing
counting_with stands steps claim =
    first_failure stands counting_twos (record {
      funcs = record { name = []; rank = 0; steps = steps; calls = 1; bytes = 5; alloc = false; params = []; result = Number ints_range; loops = claim ∷ [] } ∷ [];
      total = record { prefix = steps; turn = 0; calls = 1; bytes = 5 };
    }) []

-- a claim on it, with a rank, turns and the range of i
abbrev pub ranked : Rank → ℕ → Interval → Loop
ranked rank turns i = record { depth = 0; rank = rank; turns = turns; vars = variable_line 0 sums_of_twos ∷ variable_line 1 i ∷ [] }

-- the conditions of loops
pub record LoopsChecked : Type 0 where
  pub accepted : counting_with none_stands 121 (ranked (Up 1 (pos 10)) 10 (upto 0 10)) ≡ None
  -- K1: another depth, a rank of a variable that isn't there, a range that isn't of the type
  pub deep : counting_with none_stands 121 (record (ranked (Up 1 (pos 10)) 10 (upto 0 10)) { depth = 1 }) ≡ at 1 2
  pub unknown : counting_with none_stands 121 (ranked (Up 2 (pos 10)) 10 (upto 0 10)) ≡ at 1 2
  pub wide : counting_with none_stands 121 (ranked (Up 1 (pos 10)) 10 (upto 0 256)) ≡ at 1 2
  pub task : counting_with none_stands 121 (ranked Task 10 (upto 0 10)) ≡ at 1 2
  -- the others
  pub entry : counting_with none_stands 121 (ranked (Up 1 (pos 10)) 10 (upto 1 10)) ≡ at 6 4
  pub back : counting_with none_stands 121 (ranked (Up 1 (pos 10)) 10 (upto 0 9)) ≡ at 7 4
  pub low_rank : counting_with none_stands 121 (ranked (Up 1 (pos 9)) 10 (upto 0 10)) ≡ at 8 4
  pub no_fall : counting_with none_stands 121 (ranked One 10 (upto 0 10)) ≡ at 9 4
  pub few_turns : counting_with none_stands 110 (ranked (Up 1 (pos 10)) 9 (upto 0 10)) ≡ at 10 4
  pub few_steps : counting_with none_stands 120 (ranked (Up 1 (pos 10)) 10 (upto 0 10)) ≡ at 11 2
  -- evidence stands in for K8 to K10, and for no other
  pub evidence : counting_with each_stands 110 (ranked (Up 1 (pos 10)) 9 (upto 0 10)) ≡ None
  pub evidence_rank : counting_with each_stands 121 (ranked One 10 (upto 0 10)) ≡ None
  pub no_evidence_for_entry : counting_with each_stands 121 (ranked (Up 1 (pos 10)) 10 (upto 1 10)) ≡ at 6 4

-- ## `main`

-- `int n = 0; while (1) { n = (n + 1) % 26; }` with more in the task loop, whose keyword is at 4; the name of `main` is at 2
abbrev pub turning_on : List PlainStatement → PlainProgram
turning_on more = record (main_of [] []) {
  functions = named_at 2 (function_of 0 int (int_variable ∷ [])
      (begin 0 (number (pos 0)) ∷
      does (loop (record { number = 0; keyword = While; span = span 4 }) (statements_of_list []) (Some (number (pos 1))) (statements_of_list [])
      (block_of (assign int 0 (value_of int (binary Rem (plus (get 0 int 0) (number (pos 1))) (number (pos 26)))) ∷ more))) ∷ [])) ∷ [];
  task = Some 1;
}

-- the first condition that fails, where this many steps are claimed of a turn, and of a turn in the total
abbrev pub turning_with : List PlainStatement → ℕ → ℕ → Option Failing
turning_with more turn total =
    first_failure none_stands (turning_on more) (record {
      funcs = record {
        name = [];
        rank = 0;
        steps = 4;
        calls = 1;
        bytes = 4;
        alloc = false;
        params = [];
        result = Number ints_range;
        loops = record { depth = 0; rank = Task; turns = turn; vars = variable_line 0 (from_to (neg_ℤ (pos 25)) (pos 25)) ∷ [] } ∷ [];
      } ∷ [];
      total = record { prefix = 4; turn = total; calls = 1; bytes = 4 };
    }) []

-- `static void grab(void) { malloc(4); }`, which `main` calls before and after its mark: the names at 1 and 2, the second call's at 8
abbrev pub grabbing : PlainProgram
grabbing = record (main_of [] []) {
  functions =
      named_at 1 (function_of 0 (void false) [] (does (evaluate (value_of (pointer_to int) (built_in (span 0) Malloc (values_of_list (number (pos 4) ∷ []))))) ∷ []))
      ∷ named_at 2 (function_of 0 int []
      (does (evaluate (value_of (void false) (call (span 7) 0 (values_of_list [])))) ∷ does (mark InitDone) ∷
      does (evaluate (value_of (void false) (call (span 8) 0 (values_of_list [])))) ∷ returns (number (pos 0)) ∷ [])) ∷ [];
  main = 1;
  mark = Some 1;
}

-- the call after the mark
abbrev pub late_grab : AnyCall
late_grab = record { at = tree 0; name = span 8; called = Function 0 }

-- the first condition that fails, by what is claimed of the effects of both, and these calls after the mark
abbrev pub grabbing_with : Bool → Bool → List AnyCall → Option Failing
grabbing_with first second late =
    first_failure none_stands grabbing (record {
      funcs =
          record { name = []; rank = 0; steps = 4; calls = 1; bytes = 0; alloc = first; params = []; result = Nothing; loops = [] }
          ∷ record { name = []; rank = 1; steps = 15; calls = 2; bytes = 0; alloc = second; params = []; result = Number ints_range; loops = [] } ∷ [];
      total = record { prefix = 15; turn = 0; calls = 2; bytes = 0 };
    }) late

-- the conditions of `main`, its task loop and its allocations
pub record MainChecked : Type 0 where
  pub turns : turning_with [] 7 7 ≡ None
  pub few_steps : turning_with [] 6 7 ≡ at 11 4
  pub low_turn : turning_with [] 7 6 ≡ at 14 2
  pub left : turning_with (does break ∷ []) 8 8 ≡ at 4 2
  pub late : grabbing_with true true (late_grab ∷ []) ≡ at 13 8
  pub hidden : grabbing_with false true (late_grab ∷ []) ≡ at 13 1
  pub hidden_in_main : grabbing_with true false (late_grab ∷ []) ≡ at 13 2
  pub early : grabbing_with true true [] ≡ None
