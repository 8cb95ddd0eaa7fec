-- What functions cost under a certificate's claims.
use Rattle.std.specs.Prelude.{◌≡◌, ℕ, zero, suc, leb, Bool, false, ◌&&◌, if◌then◌else◌, List, [], ◌∷◌, Option, Some, None, slice_get, length, Result, Ok, Err, Contains}
use Rattle.p10_base.specs.declared.report.Limit.{Limit}
use Rattle.p10_base.specs.declared.report.TheConstants.Limit.{MOST_SUM, SUM}
use Rattle.p10_core.specs.Typed.{PlainFunction, PlainProgram}
use Rattle.p10_cert.specs.Claims.{Func}
use Rattle.p10_sums.specs.declared.sum.FuncSum.{FuncSum}
use Rattle.p10_sums.specs.declared.sum.SumFault.{SumFault}
use Rattle.p10_sums.specs.declared.sum.SumFault.TheVariants.{Over, Memory}
use Rattle.p10_sums.specs.Counting.{Counting, counting_of, task_of}
use Rattle.p10_sums.specs.Costs.{cost_of, turn_cost}
use Rattle.p10_sums.specs.Depths.{depth_of, effect_of}

-- what a function with a task loop at a place of its body, or without one, costs: its steps up to its end or to that loop, its
-- depths, its effect, and the steps of a turn of that loop
abbrev pub sum_under : Counting → Option ℕ → PlainFunction → FuncSum
sum_under c task f = record {
  steps = cost_of c task f;
  calls = (depth_of c.functions f).calls;
  bytes = (depth_of c.functions f).bytes;
  alloc = effect_of c.functions f;
  turn = turn_cost c task f;
}

-- what the function with a number costs; nothing where there is none
abbrev pub function_sum : PlainProgram → List Func → ℕ → Option PlainFunction → FuncSum
function_sum p functions n None = record { steps = 0; calls = 0; bytes = 0; alloc = false; turn = 0 }
function_sum p functions n (Some f) = sum_under (counting_of p functions n f) (task_of p n) f

-- what the function with a number costs
abbrev pub sum_at : PlainProgram → List Func → ℕ → FuncSum
sum_at p functions n = function_sum p functions n (slice_get p.functions n)

-- whether no sum exceeds the greatest that is allowed
abbrev pub keeps_limit : FuncSum → Bool
keeps_limit s = (leb s.steps MOST_SUM && leb s.calls MOST_SUM) && (leb s.bytes MOST_SUM && leb s.turn MOST_SUM)

-- the sums, or the limit that one of them exceeds
abbrev pub limited : FuncSum → Result FuncSum Limit
limited s = if keeps_limit s then Ok s else Err SUM

-- what n functions cost, from the one with a number on
abbrev pub sums_from : PlainProgram → List Func → ℕ → ℕ → List FuncSum
sums_from p functions k zero = []
sums_from p functions k (suc n) = sum_at p functions k ∷ sums_from p functions (suc k) n

-- one of the sums exceeds the greatest that is allowed
pub record HasPassing (all : List FuncSum) : Type 0 where
  pub sum : FuncSum
  pub among : Contains all sum
  pub passes : keeps_limit sum ≡ false

-- why there are no sums: M9, exactly where one of them exceeds it; or that memory is out
abbrev pub IsFault : List FuncSum → SumFault → Type 0
IsFault all (Over limit) = (limit ≡ SUM) × HasPassing all
IsFault all Memory = Unit {0}

-- what all functions of a program cost, in its order
abbrev pub all_sums : PlainProgram → List Func → List FuncSum
all_sums p functions = sums_from p functions 0 (length p.functions)
