-- What is claimed of a function, where claims of the functions that it calls stand.
use Rattle.std.specs.Prelude.{ℕ, map, Option, Some, None}
use Rattle.p10_base.specs.declared.report.Bounds.{Bounds}
use Rattle.p10_range.specs.Ranges.{Interval}
use Rattle.p10_range.specs.Rows.{values_of}
use Rattle.p10_core.specs.Types.{PlainType, integer, pointer}
use Rattle.p10_core.specs.Typed.{PlainFunction, PlainProgram}
use Rattle.p10_core.specs.WholePrograms.{parameter_types}
use Rattle.p10_cert.specs.declared.claims.Rank.{Rank}
use Rattle.p10_cert.specs.declared.claims.Rank.TheVariants.{Task}
use Rattle.p10_cert.specs.Claims.{Value, Number, Address, Nothing, Loop, Func, Claims}
use Rattle.p10_sums.specs.declared.sum.FuncSum.{FuncSum}
use Rattle.p10_sums.specs.Sums.{sum_at}
use Rattle.p10_absx.specs.Environments.{Environment}
use Rattle.p10_absx.specs.Entering.{entry_of_function}
use Rattle.p10_fit.specs.Sites.{task_loop_number}
use Rattle.p10_pass.specs.Passing.{pass_statements}
use Rattle.p10_candidates.specs.Trials.{counted}
use Rattle.p10_finder.specs.Loops.{Search, LoopsFound, no_loops, manner_after, loops_in_all}
use Rattle.p10_approach.specs.Offers.{Offers}

-- what is claimed of a value of which only the type is known
abbrev pub any_value : PlainType → Value
any_value (integer c kind) = Number (values_of kind)
any_value (pointer c t) = Address
any_value t = Nothing

-- ## Loops and results

-- where the loops of the function with a number are looked for
abbrev pub search_in : Offers → PlainProgram → Claims → ℕ → PlainFunction → Search
search_in o p c n f = record { calls = c; variables = f.variables; task = task_loop_number p n f; offers = o n f }

-- what is known at the entry of a function: each parameter has any value of its type
abbrev pub known_at_start : PlainFunction → Environment
known_at_start f = entry_of_function None f

-- the loops of a function
abbrev pub loops_of : Offers → PlainProgram → Claims → ℕ → PlainFunction → LoopsFound
loops_of o p c n f = loops_in_all (search_in o p c n f) 0 f.body (Some (known_at_start f)) no_loops

-- the hull of the ranges that a function returns under the claims of its loops, if a `return` of a value is reached
abbrev pub range_returned_by : Offers → PlainProgram → Claims → ℕ → PlainFunction → Option Interval
range_returned_by o p c n f = (pass_statements (manner_after (search_in o p c n f) (loops_of o p c n f)) f.body (known_at_start f)).returned

-- what is claimed of a result of a type: the range that is returned, or any value of the type
abbrev pub result_by : PlainType → Option Interval → Value
result_by (integer c kind) (Some r) = Number r
result_by t r = any_value t

-- what is claimed of a function's result
abbrev pub result_of : Offers → PlainProgram → Claims → ℕ → PlainFunction → Value
result_of o p c n f = result_by f.result (range_returned_by o p c n f)

-- ## Whole claims

-- the claim of a loop, with the steps of a turn where it is the task
abbrev pub with_turn_steps : ℕ → Loop → Loop
with_turn_steps steps l = of l.rank
  where
    of : Rank → Loop
    of Task = record l { turns = steps }
    of rank = l

-- sums as they are claimed
abbrev pub counted_sum : FuncSum → FuncSum
counted_sum sum = record {
  steps = counted sum.steps;
  calls = counted sum.calls;
  bytes = counted sum.bytes;
  alloc = sum.alloc;
  turn = counted sum.turn;
}

-- what is claimed of a function by its sums, each the least that its callees and loops allow
abbrev pub func_with : Offers → PlainProgram → Claims → ℕ → ℕ → PlainFunction → FuncSum → Func
func_with o p c n rank f sum = record {
  name = f.name;
  rank = rank;
  steps = sum.steps;
  calls = sum.calls;
  bytes = sum.bytes;
  alloc = sum.alloc;
  params = map any_value (parameter_types f);
  result = result_of o p c n f;
  loops = map (with_turn_steps sum.turn) (loops_of o p c n f).claims;
}

-- what is claimed of the function with a number and a rank
abbrev pub func_found : Offers → PlainProgram → Claims → ℕ → ℕ → PlainFunction → Func
func_found o p c n rank f = func_with o p c n rank f (counted_sum (sum_at p c.funcs n))

-- what is claimed of the whole program: the sums of `main`
abbrev pub total_of : FuncSum → Bounds
total_of sum = record { prefix = sum.steps; turn = sum.turn; calls = sum.calls; bytes = sum.bytes }
